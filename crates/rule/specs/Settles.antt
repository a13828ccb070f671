-- Demand 3 of the order, over the round of document 01: how many rounds any stored table takes to become exact.
-- Costs are in cost units, bounds in rounds.
use Rattle.std.specs.Prelude.{ℕ, suc, ◌+◌, ◌/◌, ◌≤◌, ◌<◌, min, max, ◌≡◌, cond, T, ltb}
use mathlib.Core.List.{List, [], ◌∷◌, Memᴰ}
use Rattle.measure.specs.Measure.{ceiling, largest_cost, most_nodes}
use Rattle.rule.specs.Round.{Cell, Link, Park, at, rounds, net_of}
use Rattle.rule.specs.Exact.{Node}

-- "Nodes 1 to n, with n from 1 to 256. One node is the root. Links, each between two different nodes, with one cost from 1 to 65,535.
-- The group: any set of nodes." Neither the number nor the order of the links matters, nor that a pair has one link.
pub record ParkOk (p : Park) : Type 0 where
  pub few : p.nodes ≤ most_nodes
  pub root : Node p p.root
  pub low : (l : Link) → Memᴰ l p.links → Node p l.low
  pub high : (l : Link) → Memᴰ l p.links → Node p l.high
  pub least : (l : Link) → Memᴰ l p.links → 1 ≤ l.cost
  pub largest : (l : Link) → Memᴰ l p.links → l.cost ≤ largest_cost
  pub members : (i : ℕ) → T (p.member i) → Node p i

-- "let m be the least link cost in the park". Without links m has no meaning, and is above the ceiling.
unfoldable pub least_cost : List Link → ℕ
least_cost [] = suc ceiling
least_cost (l ∷ ls) = min l.cost (least_cost ls)

-- "With k nodes reachable from the root, itself included": k, from the exact table
unfoldable pub reachable : List Cell → ℕ
reachable [] = 0
reachable (c ∷ t) = cond (ltb c.dist ceiling) (suc (reachable t)) (reachable t)

-- "the farthest at distance F": F, from the exact table
unfoldable pub farthest : List Cell → ℕ
farthest [] = 0
farthest (c ∷ t) = cond (ltb c.dist ceiling) (max c.dist (farthest t)) (farthest t)

-- the table t of park p after r rounds
unfoldable pub after : Park → ℕ → List Cell → List Cell
after p r t = rounds (net_of p) p.nodes r t

-- Demand 3 for the park p with the exact table e, from the stored table t. Each part holds for every r from its bound on: "and keeps them".
pub record Settles (p : Park) (e t : List Cell) : Type 0 where
  -- "A node at exact distance S has its exact distance and exact parent after S/m rounded down, plus one, rounds, and keeps them."
  pub near : (i r : ℕ) → Node p i → (at e i).dist / least_cost p.links + 1 ≤ r
      → ((at (after p r t) i).dist ≡ (at e i).dist) × ((at (after p r t) i).parent ≡ (at e i).parent)
  -- "all forwarding marks of those nodes are exact after F/m rounded down, plus one, plus k rounds"
  pub marked : (i r : ℕ) → Node p i → (at e i).dist < ceiling → farthest e / least_cost p.links + 1 + reachable e ≤ r
      → (at (after p r t) i).mark ≡ (at e i).mark
  -- "A node without a path is fully exact, mark included, after (16,777,215 / m rounded down) + 2 rounds"
  pub cut_off : (i r : ℕ) → Node p i → (at e i).dist ≡ ceiling → ceiling / least_cost p.links + 2 ≤ r
      → at (after p r t) i ≡ at e i
  -- "With no links one round does it all."
  pub bare : (r : ℕ) → p.links ≡ [] → 1 ≤ r → after p r t ≡ e
