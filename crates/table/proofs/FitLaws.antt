-- What slices of a table's own length come to: they are of all its nodes, and a front that is as long is the whole.
use Prim.Native.Nat.{ℕ, ◌≤◌}
use native.Mathlib.Omega.{arith}
use mathlib.Core.Path.{◌≡◌, ◌∙◌}
use mathlib.Core.List.{List}
use lib.ListN.{length, length-map}
use Rattle.measure.specs.Measure.{most_nodes}
use Rattle.rule.specs.Round.{Cell}
use Rattle.table.specs.Slices.{dists_of, parents_of, marks_of}
use Rattle.table.specs.Fit.{nodes_over, Holds, Fronts}
use Rattle.table.proofs.PartLaws.{sets_all}

-- slices of equally many nodes, no more than a park has, are of all of them
pub nodes_all : (dists parents marks : ℕ) → parents ≡ dists → marks ≡ dists → dists ≤ most_nodes → nodes_over dists parents marks ≡ dists
nodes_all dists parents marks p m h = omega arith

-- slices of as many nodes as the table that is written at their front hold it
pub fronts_hold : (t : List Cell) (ds ps ms ds' ps' ms' : List ℕ) → (length ds ≡ length t) × (length ps ≡ length t) × (length ms ≡ length t)
    → Fronts t ds ps ms ds' ps' ms' → Holds t ds' ps' ms'
fronts_hold t ds ps ms ds' ps' ms' n f =
    record {
      dists = f.dists ∙ sets_all ds (dists_of t) (omega (arith, length-map t (λ (c : Cell). c.dist)));
      parents = f.parents ∙ sets_all ps (parents_of t) (omega (arith, length-map t (λ (c : Cell). c.parent)));
      marks = f.marks ∙ sets_all ms (marks_of t) (omega (arith, length-map t (λ (c : Cell). c.mark)));
    }
