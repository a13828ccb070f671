-- The table that is found without rounds: distances nearest first, then each node's parent, then marks along the ways.
use Rattle.std.specs.Prelude.{ℕ, min, ◌≡◌, List, map, length, replicate}
use Rattle.std.proofs.lemmas.List.Edits.{sets}
use Rattle.measure.specs.Measure.{ceiling, most_nodes}
use Rattle.rule.specs.Round.{Link, Park, numbered}
use Rattle.group.specs.Group.{member_in}
use Rattle.table.specs.Slices.{links_of}
use Rattle.table.specs.Nodes.{node_at}
use Rattle.table.specs.declared.Net.{Net}
use Rattle.round.specs.Parent.{parent_by}
use Rattle.paths.specs.Offers.{dists_from}
use Rattle.paths.specs.Walk.{walked_from, marks_from}

-- the distances of a park's nodes, in cost units
unfoldable pub found_dists : Park → List ℕ
found_dists p = dists_from p.nodes p.root p.links

-- the parents of n nodes by the distances D, as the rule gives them
unfoldable pub parents_by : ℕ → List Link → List ℕ → ℕ → List ℕ
parents_by root ls D n = map (λ (i : ℕ). parent_by root ls (node_at ceiling D) i) (numbered 1 n)

-- their parents
unfoldable pub found_parents : Park → List ℕ
found_parents p = parents_by p.root p.links (found_dists p) p.nodes

-- and their marks
unfoldable pub found_marks : Park → List ℕ
found_marks p = marks_from p.member (found_parents p)

-- What the search leaves in the three slices of a table, of any lengths: distances of at most as many nodes as a park may have, parents by the distances
-- that stand then, marks by the parents.
pub record Found (root : ℕ) (ls hs cs ws ds ps ms ds' ps' ms' : List ℕ) : Type 0 where
  pub dists : ds' ≡ sets ds 0 (dists_from (min most_nodes (length ds)) root (links_of ls hs cs))
  pub parents : ps' ≡ parents_by root (links_of ls hs cs) ds' (length ps)
  pub marks : ms' ≡ walked_from (member_in 64 ws) ps' (length ps') 1 (replicate (length ms) 0)

-- the same for the root, the links and the members of a net
abbrev pub FoundOver : Net → List ℕ → List ℕ → List ℕ → List ℕ → List ℕ → List ℕ → Type 0
FoundOver n = Found n.root n.links.lows.now n.links.highs.now n.links.costs.now n.words.now
