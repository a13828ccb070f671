-- A table and its three slices: either gives the other, and both read the same at a node.
use Prim.Native.Nat.{ℕ}
use native.Mathlib.Omega.{arith}
use mathlib.Core.Path.{◌≡◌, refl, sym, ap, fun_ext}
use mathlib.Core.List.{List, [], ◌∷◌, map}
use lib.ListN.{length, get_or-map}
use Rattle.rule.specs.Round.{Cell, blank, at}
use Rattle.table.specs.Slices.{cells_of, dists_of, parents_of, marks_of}
use Rattle.table.specs.Nodes.{node_at}

-- the table of a table's slices is that table
pub cells_of_lem : (t : List Cell) → cells_of (dists_of t) (parents_of t) (marks_of t) ≡ t
unfolding cells_of
cells_of_lem [] = refl
cells_of_lem (c ∷ t) = ap (λ (r : List Cell). c ∷ r) (cells_of_lem t)

-- three slices as long as each other are those of their table
pub record Slices (ds ps ms : List ℕ) : Type 0 where
  pub dists : dists_of (cells_of ds ps ms) ≡ ds
  pub parents : parents_of (cells_of ds ps ms) ≡ ps
  pub marks : marks_of (cells_of ds ps ms) ≡ ms

pub slices : (ds ps ms : List ℕ) → length ps ≡ length ds → length ms ≡ length ds → Slices ds ps ms
unfolding cells_of
slices [] [] [] e f = record { dists = refl; parents = refl; marks = refl }
slices [] [] (m ∷ ms) e f = absurd (omega arith)
slices [] (p ∷ ps) ms e f = absurd (omega arith)
slices (d ∷ ds) [] ms e f = absurd (omega arith)
slices (d ∷ ds) (p ∷ ps) [] e f = absurd (omega arith)
slices (d ∷ ds) (p ∷ ps) (m ∷ ms) e f =
    let s = slices ds ps ms (omega arith) (omega arith) in
    record { dists = ap (λ (l : List ℕ). d ∷ l) s.dists; parents = ap (λ (l : List ℕ). p ∷ l) s.parents; marks = ap (λ (l : List ℕ). m ∷ l) s.marks }

-- a part of a table's cells, read at a node
pub part_at : (f : Cell → ℕ) (t : List Cell) → (λ (i : ℕ). f (at t i)) ≡ node_at (f blank) (map f t)
unfolding at
part_at f t = fun_ext (λ (i : ℕ). sym (get_or-map f (blank ∷ t) i blank))
