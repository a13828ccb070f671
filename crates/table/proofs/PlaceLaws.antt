-- What the loops that count places up share: the place of a node, the next place, and the turns that are left.
use Prim.Native.Nat.{ℕ, zero, suc, ◌+◌, ◌-◌, ◌^◌, ◌≤◌, ◌<◌}
use native.Mathlib.Omega.{arith}
use mathlib.Core.Path.{◌≡◌, refl}
use mir.Syntax.{w64}
use mir.Val.{Fits}

-- a node's place is one less than its number
pub place : (i : ℕ) → (i ≡ 0 → ⊥) → i ≡ suc (i - 1)
place zero h = absurd (h refl)
place (suc i) h = omega arith

-- the place behind one of n places can be counted
pub place_next : (k n : ℕ) → k < n → n < 2 ^ 64 → Fits w64 (k + 1)
place_next k n h r = record { fits = omega arith }

-- a turn of a loop that counts up: one is left less
pub left_less : (n k : ℕ) → k < n → n - k ≡ suc (n - (k + 1))
left_less n k h = omega arith

-- after the last turn none is left
pub none_left : (n k : ℕ) → n ≤ k → n - k ≡ 0
none_left n k h = omega arith
