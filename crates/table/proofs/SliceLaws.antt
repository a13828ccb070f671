-- A slice that is written from its front: the first n elements of s, and then its own.
use Prim.Native.Nat.{ℕ, zero, suc, ◌+◌, ◌≤◌, ◌<◌}
use native.Mathlib.Nat.{not-suc-le-zero, le_of_suc-le-suc}
use native.Mathlib.Numerals.{add-one}
use native.Mathlib.Omega.{arith}
use mathlib.Core.Path.{◌≡◌, refl, sym, ap, ap₂, ◌∙◌}
use mathlib.Core.List.{List, [], ◌∷◌, ◌++◌, append-nil}
use lib.ListN.{length, take, drop, get_or, set, drop_of_length-le}
use lib.Seq.{take_all}

abbrev pub over : List ℕ → ℕ → List ℕ → List ℕ
over s n d = take n s ++ drop n d

-- a store of one element more
over_suc : (s d : List ℕ) (n : ℕ) → n < length s → n < length d → set (over s n d) n (get_or s n 0) ≡ over s (suc n) d
over_suc [] d n h k = absurd (not-suc-le-zero h)
over_suc (x ∷ xs) [] n h k = absurd (not-suc-le-zero k)
over_suc (x ∷ xs) (y ∷ ys) zero h k = refl
over_suc (x ∷ xs) (y ∷ ys) (suc n) h k = ap (λ (l : List ℕ). x ∷ l) (over_suc xs ys n (le_of_suc-le-suc h) (le_of_suc-le-suc k))

pub over_next : (s d : List ℕ) (n : ℕ) → n < length d → length s ≡ length d → (r : List ℕ) → r ≡ over s n d → (x : ℕ) → x ≡ get_or s n 0 → set r n x ≡ over s (n + 1) d
over_next s d n h e r p x q = ap₂ (λ (l : List ℕ) (v : ℕ). set l n v) p q ∙ over_suc s d n (omega arith) h ∙ ap (λ (k : ℕ). over s k d) (sym (add-one n))

-- all of it
pub over_all : (s d : List ℕ) (n : ℕ) → length s ≤ n → length s ≡ length d → over s n d ≡ s
over_all s d n h e =
    let z : length d ≤ n = omega arith in
    ap₂ (λ (a b : List ℕ). a ++ b) (take_all n s h) (drop_of_length-le d z) ∙ append-nil s
