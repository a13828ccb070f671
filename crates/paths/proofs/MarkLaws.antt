-- One law for each way out of a step of the walk, and for each turn of a loop: the code's numbers are the definition's.
use Prim.Native.Nat.{ℕ, suc, ◌+◌, ◌-◌, ◌≤◌, ◌<◌}
use native.Mathlib.Numerals.{add-one}
use native.Mathlib.Omega.{arith}
use mathlib.Core.Path.{◌≡◌, sym, ap, ap₂, ◌∙◌}
use mathlib.Core.Bool.{Bool, true, false, cond}
use mathlib.Core.List.{List}
use lib.ListN.{length}
use Rattle.table.specs.Nodes.{node_at}
use Rattle.table.specs.Flag.{with_mark}
use Rattle.paths.specs.Walk.{walked, walked_from}
use Rattle.table.proofs.PlaceLaws.{left_less, none_left}
use Rattle.paths.proofs.WalkLaws.{walked_zero}

-- what a test picks
pub pick_true : {A : Type 0} (b : Bool) (x y : A) → b ≡ true → x ≡ cond b x y
pick_true b x y e = rw e

pub pick_false : {A : Type 0} (b : Bool) (x y : A) → b ≡ false → y ≡ cond b x y
pick_false b x y e = rw e

-- a turn of a walk, and its two ends
module _ (Q M all : List ℕ) (n k i : ℕ) (so_far : walked Q (n - k) M i ≡ all) where
  pub walk_stop : i ≡ 0 → M ≡ all
  walk_stop e = sym (ap (walked Q (n - k) M) e ∙ walked_zero Q (n - k) M) ∙ so_far

  pub walk_next : k < n → (E : List ℕ) → E ≡ with_mark M i → (j : ℕ) → j ≡ node_at 0 Q i → walked Q (n - (k + 1)) E j ≡ all
  unfolding walked
  walk_next h E e j f = ap₂ (walked Q (n - (k + 1))) e f ∙ sym (ap (λ (m : ℕ). walked Q m M i) (left_less n k h)) ∙ so_far

  pub walk_end : n ≤ k → M ≡ all
  unfolding walked
  walk_end h = sym (ap (λ (m : ℕ). walked Q m M i) (none_left n k h)) ∙ so_far

-- a turn over the members, the last turn, and what is left where there is none
module _ (member : ℕ → Bool) (Q M all : List ℕ) (n i : ℕ) (so_far : walked_from member Q (n + 1 - i) i M ≡ all) where
  pub members_next : i ≤ n → (E : List ℕ) → E ≡ cond (member i) (walked Q (length M) M i) M → walked_from member Q (n + 1 - (i + 1)) (i + 1) E ≡ all
  unfolding walked_from
  members_next h E e =
      let one : n + 1 - i ≡ suc (n + 1 - (i + 1)) = omega arith in
      ap₂ (walked_from member Q (n + 1 - (i + 1))) (add-one i) e ∙ sym (ap (λ (m : ℕ). walked_from member Q m i M) one) ∙ so_far

  pub members_last : i ≡ n → (E : List ℕ) → E ≡ cond (member i) (walked Q (length M) M i) M → E ≡ all
  unfolding walked_from
  members_last h E e =
      let none : n + 1 - (i + 1) ≡ 0 = omega arith in
      sym (ap (λ (m : ℕ). walked_from member Q m (i + 1) E) none) ∙ members_next (omega arith) E e

  pub members_none : n < i → M ≡ all
  unfolding walked_from
  members_none h = let none : n + 1 - i ≡ 0 = omega arith in sym (ap (λ (m : ℕ). walked_from member Q m i M) none) ∙ so_far
