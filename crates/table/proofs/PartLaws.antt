-- The first part of a slice: lent and lent again, the second time it holds what was left there the first time; and written over.
use Prim.Native.Nat.{ℕ, ◌+◌, ◌≤◌}
use native.Mathlib.Nat.{le_refl}
use native.Mathlib.Omega.{arith}
use mathlib.Core.Path.{◌≡◌, sym, ap, subst, ◌∙◌}
use mathlib.Core.List.{List, ◌++◌, append-nil}
use lib.ListN.{length, take, drop, drop_of_length-le}
use lib.Seq.{sets, sets-eq, length-take-le, length_front, take_at}

pub part : (n : ℕ) (zs : List ℕ) → n ≤ length zs → n ≡ length (take n zs)
part n zs h = sym (length-take-le n zs h)

-- xs came back in the place of the first n of zs
module _ (n : ℕ) (xs zs : List ℕ) (kept : length xs ≡ length (take n zs)) (room : n ≤ length zs) where
  pub room_again : n ≤ length (xs ++ drop n zs)
  room_again = subst (λ (k : ℕ). n ≤ k) (sym (length_front zs xs n kept)) room

  pub part_again : n ≡ length (take n (xs ++ drop n zs))
  part_again = part n (xs ++ drop n zs) room_again

  pub again : take n (xs ++ drop n zs) ≡ xs
  again = take_at xs (drop n zs) n (kept ∙ length-take-le n zs room)

-- what is written at the front of a slice, and then the rest of it
pub sets_front : (old new : List ℕ) (n : ℕ) → length new ≡ n → n ≤ length old → sets old 0 new ≡ new ++ drop n old
sets_front old new n e h = let z : 0 + length new ≡ n = omega arith in sets-eq new old 0 (omega arith) ∙ ap (λ (k : ℕ). new ++ drop k old) z

-- a slice that is exactly filled holds what was written, and a longer one holds it at its front
pub sets_all : (old new : List ℕ) → length new ≡ length old → sets old 0 new ≡ new
sets_all old new e = sets_front old new (length old) e (omega arith) ∙ ap (λ (l : List ℕ). new ++ l) (drop_of_length-le old (le_refl (length old))) ∙ append-nil new

pub sets_take : (old new : List ℕ) (n : ℕ) → length new ≡ n → n ≤ length old → take n (sets old 0 new) ≡ new
sets_take old new n e h = ap (take n) (sets_front old new n e h) ∙ take_at new (drop n old) n e
