-- One turn of the loop over the bytes of the group: a byte with a bit above n is the answer, and one without leaves the answer to the
-- rest.
use Prim.Native.Nat.{ℕ, zero, suc, ◌+◌, ◌*◌, ◌-◌, ◌^◌, ◌≤◌, ◌<◌, min}
use mathlib.Core.Path.{◌≡◌, refl}
use mathlib.Core.Bool.{true, false}
use mathlib.Core.List.{List}
use native.Mathlib.Omega.{arith}
use borrow.Author.Tests.{lt-ltb, le-ltb}
use lib.ListN.{get_or}
use Rattle.park.specs.Layout.{group_size}
use Rattle.park.specs.Reading.{bits_clear}

pub bits_out : (s : List ℕ) (at n left : ℕ) → 0 < left → 2 ^ min 8 n ≤ get_or s at 0 → false ≡ bits_clear s at n left
unfolding bits_clear
bits_out s at n zero h e = absurd (omega arith)
bits_out s at n (suc k) h e = simp (le-ltb _ _ e)

pub bits_on : (s : List ℕ) (at n left : ℕ) → 0 < left → get_or s at 0 < 2 ^ min 8 n → bits_clear s at n left ≡ bits_clear s (at + 1) (n - 8) (left - 1)
unfolding bits_clear
bits_on s at n zero h e = absurd (omega arith)
bits_on s at n (suc k) h e = let z : suc k - 1 ≡ k = omega arith in rw z (simp (lt-ltb _ _ e))

pub bits_none : (s : List ℕ) (at n left : ℕ) → left ≤ 0 → true ≡ bits_clear s at n left
unfolding bits_clear
bits_none s at n zero h = refl
bits_none s at n (suc k) h = absurd (omega arith)

-- the same at byte i, where 8 nodes are done for each byte before it
module _ (s : List ℕ) (from n i : ℕ) where
  pub byte_out : i < group_size → 2 ^ min 8 (n - 8 * i) ≤ get_or s (from + i) 0 → false ≡ bits_clear s (from + i) (n - 8 * i) (group_size - i)
  byte_out h = bits_out s (from + i) (n - 8 * i) (group_size - i) (omega arith)

  pub byte_on : i < group_size → get_or s (from + i) 0 < 2 ^ min 8 (n - 8 * i)
      → bits_clear s (from + i) (n - 8 * i) (group_size - i) ≡ bits_clear s (from + (i + 1)) (n - 8 * (i + 1)) (group_size - (i + 1))
  byte_on h e =
      let a : from + (i + 1) ≡ from + i + 1 = omega arith in
      let m : n - 8 * (i + 1) ≡ n - 8 * i - 8 = omega arith in
      let z : group_size - (i + 1) ≡ group_size - i - 1 = omega arith in
      rw (a, m, z) (bits_on s (from + i) (n - 8 * i) (group_size - i) (omega arith) e)

  pub byte_none : group_size ≤ i → true ≡ bits_clear s (from + i) (n - 8 * i) (group_size - i)
  byte_none h = bits_none s (from + i) (n - 8 * i) (group_size - i) (omega arith)
