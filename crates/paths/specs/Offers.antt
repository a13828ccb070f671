-- How exact distances are found without rounds: the nearest node that is not settled is settled, and its distance is offered
-- over each of its links; once for each node. That these are the exact distances is a theorem.
-- Distances are in cost units, node 1's first.
use Rattle.std.specs.Prelude.{ℕ, zero, suc, true, false, min, List, [], ◌∷◌, get_or, set, replicate}
use Rattle.measure.specs.Measure.{ceiling, plus}
use Rattle.rule.specs.Round.{Link}
use Rattle.table.specs.Nodes.{node_at}
use Rattle.links.specs.Neighbours.{other_end}
use Rattle.paths.specs.Nearest.{Work, nearest}

-- the distances with node i's lowered to an offer that is less; a number that is no node has none
unfoldable pub lowered : List ℕ → ℕ → ℕ → List ℕ
lowered D zero offer = D
lowered D (suc k) offer = set D k (min (get_or D k 0) offer)

-- node u at distance d makes its offer over one link
unfoldable pub offered : ℕ → ℕ → List ℕ → Link → List ℕ
offered u d D l = lowered D (other_end l.low l.high u) (plus d l.cost)

-- and over all of them
unfoldable pub offered_all : ℕ → ℕ → List ℕ → List Link → List ℕ
offered_all u d D [] = D
offered_all u d D (l ∷ ls) = offered_all u d (offered u d D l) ls

-- node u is settled
unfoldable pub settle_node : List Link → Work → ℕ → Work
settle_node ls w zero = w
settle_node ls w (suc k) =
    record { dists = offered_all (suc k) (node_at ceiling w.dists (suc k)) w.dists ls; done = set w.done k true }

-- one turn: the nearest node that is not settled is settled
unfoldable pub settle_nearest : List Link → Work → Work
settle_nearest ls w = settle_node ls w (nearest w)

-- so many turns
unfoldable pub settle_nodes : List Link → ℕ → Work → Work
settle_nodes ls zero w = w
settle_nodes ls (suc left) w = settle_nodes ls left (settle_nearest ls w)

-- to begin with, only the root has a distance, and no node is settled
unfoldable pub unsettled : ℕ → ℕ → Work
unsettled n root = record { dists = lowered (replicate n ceiling) root 0; done = replicate n false }

-- the distances of n nodes
unfoldable pub dists_from : ℕ → ℕ → List Link → List ℕ
dists_from n root ls = (settle_nodes ls n (unsettled n root)).dists
