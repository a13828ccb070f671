-- Whether a node is a member, by the tests on the way: the number is 0, its word is past the end, or the word's bit decides.
use Prim.Native.Nat.{ℕ, zero, suc, ◌-◌, ◌/◌, ◌%◌, ◌^◌, ◌≤◌}
use native.Mathlib.Nat.{zero-div}
use native.Mathlib.Omega.{arith}
use mathlib.Core.Path.{◌≡◌, ap, ◌∙◌}
use mathlib.Core.Bool.{Bool, false}
use mathlib.Core.List.{List}
use lib.ListN.{get_or-eq_default}
use lib.Dec.{eqb}
use denote.Ref.{Bor}
use Rattle.std.specs.declared.option.Option.{Option}
use Rattle.std.specs.declared.option.Option.TheVariants.{None, Some}
use Rattle.std.specs.Option.{MatchOption}
use Rattle.std.specs.Slice.{IsItemAt}
use Rattle.group.specs.Group.{bit_set, member_in}

module _ (xs : List ℕ) where
  pub member_zero : (i : ℕ) → i ≡ 0 → false ≡ member_in 64 xs i
  unfolding member_in
  member_zero i e = rw e

  -- what the bit of a word says, if there is the word: Q says it of the word that is found
  pub member_bit : {Q : Bor ℕ → Type 0} (bit i : ℕ) (word : Option (Bor ℕ)) (r : Bool) → 1 ≤ i → bit ≡ i - 1 → IsItemAt xs (bit / 64) word
      → ((x : Bor ℕ) → Q x → r ≡ eqb (x.now / 2 ^ (bit % 64) % 2) 1) → MatchOption word (r ≡ false) Q → r ≡ member_in 64 xs i
  unfolding member_in bit_set
  member_bit bit zero word r h e found by said = absurd (omega arith)
  member_bit bit (suc i) None r h e found by said =
      let z : bit ≡ i = omega arith in
      rw (said, ← z, get_or-eq_default xs 0 found.3) (rw zero-div)
  member_bit bit (suc i) (Some x) r h e found by said =
      let z : bit ≡ i = omega arith in
      by x said ∙ rw (← z) (ap (λ (w : ℕ). eqb (w / 2 ^ (bit % 64) % 2) 1) (found.4 (omega arith) 0))
