-- How many nodes three slices are of, and when they hold a table. All lengths are in elements.
use Rattle.std.specs.Prelude.{ℕ, min, ◌≡◌, List, length}
use Rattle.std.proofs.lemmas.List.Edits.{sets}
use Rattle.measure.specs.Measure.{most_nodes}
use Rattle.rule.specs.Round.{Cell}
use Rattle.table.specs.Slices.{dists_of, parents_of, marks_of}

-- the nodes that slices of these lengths are of: as many as all three have, and no more than a park may have
abbrev pub nodes_over : ℕ → ℕ → ℕ → ℕ
nodes_over dists parents marks = min most_nodes (min dists (min parents marks))

-- the slices of two tables of equally many nodes
pub record Together (ds ps ms ds' ps' ms' : List ℕ) : Type 0 where
  pub table : (length ps ≡ length ds) × (length ms ≡ length ds)
  pub second : (length ds' ≡ length ds) × (length ps' ≡ length ds) × (length ms' ≡ length ds)

-- three slices that hold the table t
pub record Holds (t : List Cell) (ds ps ms : List ℕ) : Type 0 where
  pub dists : ds ≡ dists_of t
  pub parents : ps ≡ parents_of t
  pub marks : ms ≡ marks_of t

-- three slices whose first nodes are the table t, and that are behind it what they were before (ds, ps, ms)
pub record Fronts (t : List Cell) (ds ps ms ds' ps' ms' : List ℕ) : Type 0 where
  pub dists : ds' ≡ sets ds 0 (dists_of t)
  pub parents : ps' ≡ sets ps 0 (parents_of t)
  pub marks : ms' ≡ sets ms 0 (marks_of t)
