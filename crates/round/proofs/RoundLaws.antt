-- The table after a round, node by node, as each of its slices has it.
use Prim.Native.Nat.{ℕ, zero, suc, ◌+◌, ◌≤◌, ◌<◌}
use native.Mathlib.Nat.{not-suc-le-zero, le_of_suc-le-suc, add-zero, add-suc, suc-add, add_comm}
use native.Mathlib.Omega.{arith}
use mathlib.Core.Path.{◌≡◌, refl, sym, ap, ◌∙◌, subst₃}
use mathlib.Core.List.{List, [], ◌∷◌, map}
use lib.ListN.{length, get_or, set, length-map}
use Rattle.rule.specs.Round.{Net, Cell, new_cell, at, numbered, round, net_of}
use Rattle.table.specs.Slices.{dists_of, parents_of, marks_of, cells_of}
use Rattle.table.specs.Lent.{park_over}
use Rattle.table.specs.declared.Net as lent
use Rattle.table.specs.Fit.{Together, Holds}
use Rattle.round.specs.Table.{cell_after, round_of}
use Rattle.round.proofs.PairLaws.{Filled, filled_start, filled_next, filled_all}

numbered_length : (i n : ℕ) → length (numbered i n) ≡ n
unfolding numbered
numbered_length i zero = refl
numbered_length i (suc n) = ap suc (numbered_length (suc i) n)

numbered_at : {A : Type 0} (f : ℕ → A) (i n k : ℕ) (z : A) → k < n → get_or (map f (numbered i n)) k z ≡ f (i + k)
unfolding numbered
numbered_at f i zero k z h = absurd (not-suc-le-zero h)
numbered_at f i (suc n) zero z h = ap f (sym (add-zero i))
numbered_at f i (suc n) (suc k) z h = numbered_at f (suc i) n k z (le_of_suc-le-suc h) ∙ ap f (suc-add i k ∙ sym (add-suc i k))

map_map : {A : Type 0} (f : Cell → ℕ) (g : A → Cell) (xs : List A) → map f (map g xs) ≡ map (λ (x : A). f (g x)) xs
map_map f g [] = refl
map_map f g (x ∷ xs) = ap (λ (l : List ℕ). f (g x) ∷ l) (map_map f g xs)

module _ (N : Net) (n : ℕ) (t : List Cell) where
  pub round_length : length (round N n t) ≡ n
  unfolding round
  round_length = length-map (numbered 1 n) (new_cell N (at t)) ∙ numbered_length 1 n

  -- f is the part of a cell that a slice holds
  part_length : (f : Cell → ℕ) → length (map f (round N n t)) ≡ n
  part_length f = length-map (round N n t) f ∙ round_length

  part_of : (f : Cell → ℕ) (k : ℕ) → k < n → get_or (map f (round N n t)) k 0 ≡ f (new_cell N (at t) (k + 1))
  unfolding round
  part_of f k h =
      ap (λ (l : List ℕ). get_or l k 0) (map_map f (new_cell N (at t)) (numbered 1 n))
      ∙ numbered_at (λ (i : ℕ). f (new_cell N (at t) i)) 1 n k 0 h
      ∙ ap (λ (i : ℕ). f (new_cell N (at t) i)) (add_comm 1 k)

-- The round is written node by node into slices of as many nodes.
module _ (net : lent.Net) (ds ps ms ds₀ ps₀ ms₀ : List ℕ) (fit : Together ds ps ms ds₀ ps₀ ms₀) where
  abbrev N : Net
  N = net_of (park_over (length ds) net)

  abbrev t : List Cell
  t = round_of net ds ps ms

  part_nodes : (f : Cell → ℕ) → length (map f t) ≡ length ds
  part_nodes f = part_length N (length ds) (cells_of ds ps ms) f

  pub round_start : Filled (dists_of t) (parents_of t) (marks_of t) ds₀ ps₀ ms₀ ds₀ ps₀ ms₀ 0
  round_start =
      let d = part_nodes (λ (c : Cell). c.dist) in
      let e = fit.second in
      filled_start (dists_of t) (parents_of t) (marks_of t) ds₀ ps₀ ms₀
      (record {
        table = (part_nodes (λ (c : Cell). c.parent) ∙ sym d, part_nodes (λ (c : Cell). c.mark) ∙ sym d);
        second = (e.0 ∙ sym d, e.1 ∙ sym d, e.2 ∙ sym d);
      })

  module _ (ds' ps' ms' : List ℕ) (k : ℕ) (u : Filled (dists_of t) (parents_of t) (marks_of t) ds₀ ps₀ ms₀ ds' ps' ms' k) where
    pub round_next : k < length ds → (ds'' ps'' ms'' : List ℕ)
        → (ds'' ≡ set ds' k (cell_after net ds ps ms (k + 1)).dist)
        × (ps'' ≡ set ps' k (cell_after net ds ps ms (k + 1)).parent)
        × (ms'' ≡ set ms' k (cell_after net ds ps ms (k + 1)).mark)
        → Filled (dists_of t) (parents_of t) (marks_of t) ds₀ ps₀ ms₀ ds'' ps'' ms'' (k + 1)
    round_next h ds'' ps'' ms'' w =
        let part : (f : Cell → ℕ) → f (cell_after net ds ps ms (k + 1)) ≡ get_or (map f t) k 0 =
        λ f. sym (part_of N (length ds) (cells_of ds ps ms) f k h) in
        let l : k < length (dists_of t) = omega (arith, part_nodes (λ (c : Cell). c.dist)) in
        subst₃ (λ (a b c : List ℕ). Filled (dists_of t) (parents_of t) (marks_of t) ds₀ ps₀ ms₀ a b c (k + 1)) (sym w.0) (sym w.1) (sym w.2)
        (filled_next (dists_of t) (parents_of t) (marks_of t) ds₀ ps₀ ms₀ ds' ps' ms' k u l _ _ _
        (part (λ (c : Cell). c.dist), part (λ (c : Cell). c.parent), part (λ (c : Cell). c.mark)))

    pub round_all : length ds ≤ k → Holds t ds' ps' ms'
    round_all h =
        let l : length (dists_of t) ≤ k = omega (arith, part_nodes (λ (c : Cell). c.dist)) in
        let e = filled_all (dists_of t) (parents_of t) (marks_of t) ds₀ ps₀ ms₀ ds' ps' ms' k u l in
        record { dists = e.0; parents = e.1; marks = e.2 }
