-- Comparison number by number: it is the library's, and says yes exactly of equals.
use Prim.Native.Nat.{ℕ}
use mathlib.Core.Path.{◌≡◌, refl, sym, ap, ap₂, ◌∙◌}
use mathlib.Core.Logic.{◌↔◌}
use mathlib.Core.Bool.{Bool, true, ◌&&◌, false≢true}
use mathlib.Core.List.{List, [], ◌∷◌}
use lib.Dec.{eqb}
use borrow.Author.Tests.{eqb-true, eq-eqb}
use Rattle.std.specs.Cmp.Lexicographic.{pointwise}
use Rattle.rule.specs.Round.{Cell}
use Rattle.table.specs.Slices.{cells_of, dists_of, parents_of, marks_of}
use Rattle.table.specs.Same.{same_numbers, same_table}
use Rattle.table.proofs.TableLaws.{cells_of_lem}
use Rattle.table.proofs.TestLaws.{both_true}

-- the library's comparison is this one
pub numbers_are : (xs ys : List ℕ) → pointwise eqb xs ys ≡ same_numbers xs ys
unfolding same_numbers
numbers_are [] [] = refl
numbers_are [] (y ∷ ys) = refl
numbers_are (x ∷ xs) [] = refl
numbers_are (x ∷ xs) (y ∷ ys) = ap (λ (b : Bool). eqb x y && b) (numbers_are xs ys)

-- what a comparison says yes to

numbers_eq : (xs ys : List ℕ) → same_numbers xs ys ≡ true → xs ≡ ys
unfolding same_numbers
numbers_eq [] [] e = refl
numbers_eq [] (y ∷ ys) e = absurd (false≢true e)
numbers_eq (x ∷ xs) [] e = absurd (false≢true e)
numbers_eq (x ∷ xs) (y ∷ ys) e =
    let z = both_true (eqb x y) (same_numbers xs ys) e in
    ap₂ (λ (a : ℕ) (l : List ℕ). a ∷ l) (eqb-true x y z.0) (numbers_eq xs ys z.1)

numbers_refl : (xs : List ℕ) → same_numbers xs xs ≡ true
unfolding same_numbers
numbers_refl [] = refl
numbers_refl (x ∷ xs) = rw (eq-eqb x x refl) (numbers_refl xs)

table_eq : (a b : List Cell) → same_table a b ≡ true → a ≡ b
table_eq a b e =
    let y = both_true (same_numbers (dists_of a) (dists_of b)) (same_numbers (parents_of a) (parents_of b) && same_numbers (marks_of a) (marks_of b)) e in
    let z = both_true (same_numbers (parents_of a) (parents_of b)) (same_numbers (marks_of a) (marks_of b)) y.1 in
    let d = numbers_eq (dists_of a) (dists_of b) y.0 in
    let p = numbers_eq (parents_of a) (parents_of b) z.0 in
    let m = numbers_eq (marks_of a) (marks_of b) z.1 in
    sym (cells_of_lem a) ∙ (λ i. cells_of (d i) (p i) (m i)) ∙ cells_of_lem b

-- two tables compare as the same exactly when they are
pub same_table_lem : (a b : List Cell) → (same_table a b ≡ true) ↔ (a ≡ b)
same_table_lem a b = (table_eq a b, λ e. ap (λ (t : List Cell). same_table t b) e ∙ again)
  where
    again : same_table b b ≡ true
    again = simp (numbers_refl)
