-- Two tables compared value by value.
use Rattle.std.specs.Prelude.{ℕ, Bool, true, false, ◌&&◌, List, [], ◌∷◌, eqb}
use Rattle.rule.specs.Round.{Cell}
use Rattle.table.specs.Slices.{dists_of, parents_of, marks_of}

-- whether two lists of numbers are the same, number for number
unfoldable pub same_numbers : List ℕ → List ℕ → Bool
same_numbers [] [] = true
same_numbers [] (y ∷ ys) = false
same_numbers (x ∷ xs) [] = false
same_numbers (x ∷ xs) (y ∷ ys) = eqb x y && same_numbers xs ys

-- whether two tables' slices are the same: distances, parents and marks
abbrev pub same_slices : List ℕ → List ℕ → List ℕ → List ℕ → List ℕ → List ℕ → Bool
same_slices ds ps ms ds' ps' ms' = same_numbers ds ds' && (same_numbers ps ps' && same_numbers ms ms')

-- whether two tables have "every stored value as it is"
abbrev pub same_table : List Cell → List Cell → Bool
same_table t t' = same_slices (dists_of t) (parents_of t) (marks_of t) (dists_of t') (parents_of t') (marks_of t')
