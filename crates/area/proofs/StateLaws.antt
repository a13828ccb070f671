-- Putting the records of a state, one a turn: what is put and what is still to put are the whole state.
use Prim.Native.Nat.{ℕ, ◌+◌, ◌*◌, ◌-◌, ◌^◌, ◌≤◌, ◌<◌, min}
use mathlib.Core.Path.{◌≡◌, refl, sym, ap, ◌∙◌}
use mathlib.Core.List.{List, [], ◌∷◌, ◌++◌}
use native.Mathlib.Numerals.{add-one}
use native.Mathlib.Decide.{dec_lt}
use native.Mathlib.Omega.{arith}
use lib.ListN.{length, get_or, drop, drop_of_length-le, length-append}
use lib.Seq.{sets, drop-cons}
use Rattle.wire.proofs.StoreLaws.{sets_out, sets_append}
use Rattle.wire.proofs.BigLaws.{length_bytes_of}
use Rattle.park.specs.ParkFile.{state_bytes}
use Rattle.table.specs.Slices.{cells_of}
use Rattle.area.specs.Area.{cell_bytes}

pub length_cell : (d p m : ℕ) → length (cell_bytes d p m) ≡ 7
length_cell d p m = simp (length-append, length_bytes_of)

-- a store at a place beyond all lists is one outside the list
far_put : (l vs : List ℕ) (i j : ℕ) → j ≡ min i (2 ^ 64 - 1) → length l < 2 ^ 64 → sets l j vs ≡ sets l i vs
far_put l vs i j e h = go (dec_lt i (2 ^ 64))
  where
    go : Dec (i < 2 ^ 64) → sets l j vs ≡ sets l i vs
    go (yes near) = ap (λ (k : ℕ). sets l k vs) (omega arith)
    go (no far) = sets_out l j vs (omega arith) ∙ sym (sets_out l i vs (omega arith))

module _ (ds ps ms : List ℕ) where
  -- what is still to put from node i + 1 on
  abbrev pub rest : ℕ → List ℕ
  rest i = state_bytes (cells_of (drop i ds) (drop i ps) (drop i ms))

  rest_cons : (i : ℕ) → i < length ds → i < length ps → i < length ms
      → rest i ≡ cell_bytes (get_or ds i 0) (get_or ps i 0) (get_or ms i 0) ++ rest (i + 1)
  unfolding cells_of state_bytes
  rest_cons i a b c = rw (drop-cons ds i 0 a, drop-cons ps i 0 b, drop-cons ms i 0 c, add-one i)

  pub put_turn : (whole l : List ℕ) (at i : ℕ) → i < length ds → i < length ps → i < length ms → sets l at (rest i) ≡ whole
      → sets (sets l at (cell_bytes (get_or ds i 0) (get_or ps i 0) (get_or ms i 0))) (at + 7) (rest (i + 1)) ≡ whole
  put_turn whole l at i a b c e =
      let cell : List ℕ = cell_bytes (get_or ds i 0) (get_or ps i 0) (get_or ms i 0) in
      ap (λ (k : ℕ). sets (sets l at cell) (at + k) (rest (i + 1))) (sym (length_cell (get_or ds i 0) (get_or ps i 0) (get_or ms i 0)))
      ∙ sets_append l at cell (rest (i + 1)) ∙ ap (sets l at) (sym (rest_cons i a b c)) ∙ e

  -- node i + 1 is put behind those before it, in an area that leaves l' for l
  pub put_next : (whole l l' : List ℕ) (from i at : ℕ) → i < min (min (length ds) (length ps)) (length ms) → at ≡ min (from + 7 * i) (2 ^ 64 - 1) → length l < 2 ^ 64
      → l' ≡ sets l at (cell_bytes (get_or ds i 0) (get_or ps i 0) (get_or ms i 0)) → sets l (from + 7 * i) (rest i) ≡ whole
      → sets l' (from + 7 * (i + 1)) (rest (i + 1)) ≡ whole
  put_next whole l l' from i at n e room f g =
      let cell : List ℕ = cell_bytes (get_or ds i 0) (get_or ps i 0) (get_or ms i 0) in
      let here : l' ≡ sets l (from + 7 * i) cell = f ∙ far_put l cell (from + 7 * i) at e room in
      let next : from + 7 * (i + 1) ≡ from + 7 * i + 7 = omega arith in
      rw (here, next) (put_turn whole l (from + 7 * i) i (omega arith) (omega arith) (omega arith) g)

  rest_none : (xs ys zs : List ℕ) → cells_of xs [] zs ≡ []
  unfolding cells_of
  rest_none [] ys zs = refl
  rest_none (x ∷ xs) ys zs = refl

  none_last : (xs ys : List ℕ) → cells_of xs ys [] ≡ []
  unfolding cells_of
  none_last [] ys = refl
  none_last (x ∷ xs) [] = refl
  none_last (x ∷ xs) (y ∷ ys) = refl

  -- where a slice has no more, nothing is still to put
  pub put_all : (whole l : List ℕ) (at i : ℕ) → min (min (length ds) (length ps)) (length ms) ≤ i → sets l at (rest i) ≡ whole → l ≡ whole
  unfolding cells_of state_bytes
  put_all whole l at i h e = ap (sets l at) (sym (go (dec_lt i (length ds)) (dec_lt i (length ps)))) ∙ e
    where
      go : Dec (i < length ds) → Dec (i < length ps) → rest i ≡ []
      go (no a) p = rw (drop_of_length-le ds {i = i} (omega arith))
      go (yes a) (no b) = rw (drop_of_length-le ps {i = i} (omega arith), rest_none (drop i ds) [] (drop i ms))
      go (yes a) (yes b) = rw (drop_of_length-le ms {i = i} (omega arith), none_last (drop i ds) (drop i ps))
