-- Along exact parents the distance falls, so a way has fewer hops than the park has nodes.
use Prim.Native.Nat.{ℕ, zero, suc, ◌+◌, ◌≤◌, ◌<◌}
use native.Mathlib.Nat.{le_refl}
use native.Mathlib.Omega.{arith}
use mathlib.Core.Path.{refl, subst}
use borrow.Author.Tests.{lt-ltb, le-ltb}
use lib.Dec.{ltb, ltb→lt, lt→ltb}
use Rattle.rule.specs.Round.{Net}
use Rattle.rule.specs.Exact.{ExactParent, onward}
use Rattle.rule.proofs.Sound.{Within, Sound}
use Rattle.rule.proofs.CountLaws.{count, count_less, count_more}
use Rattle.rule.proofs.ContractionLaws.{Solves}
use Rattle.rule.proofs.ParentLaws.{parent_arc}
use Rattle.rule.proofs.MarkLaws.{child_farther}

module _ {N : Net} {n m : ℕ} (ok : Sound N n m) {S : ℕ → ℕ} (solved : Solves N S) {Q : ℕ → ℕ} (exact : (i : ℕ) → ExactParent N S i (Q i)) where
  -- how many nodes are nearer than x
  pub nearer : ℕ → ℕ
  nearer x = count (λ j. ltb (S j) x) 1 n

  -- a hop to the parent leaves fewer nodes that are nearer
  pub nearer_falls : (i : ℕ) → 1 ≤ Q i → nearer (S (Q i)) < nearer (S i)
  unfolding nearer
  nearer_falls i low =
      let a = parent_arc ok solved (exact i) low in
      let w = ok.sender i a.0 a.1 in
      let far : S (Q i) < S i = child_farther ok solved exact (Q i) i low refl in
      count_more (λ j. ltb (S j) (S (Q i))) (λ j. ltb (S j) (S i)) (λ j t. lt→ltb (S j) (S i) (omega (arith, ltb→lt (S j) (S (Q i)) t)))
      1 n (Q i) low (omega (arith, subst (λ (x : ℕ). x ≤ n) a.2 w.1))
      (le-ltb (S (Q i)) (S (Q i)) (le_refl (S (Q i)))) (lt-ltb (S (Q i)) (S i) far)

  -- a node is not nearer than itself
  pub nearer_few : (i : ℕ) → Within n i → nearer (S i) < n
  unfolding nearer
  nearer_few i w = count_less (λ j. ltb (S j) (S i)) n i w.0 w.1 (le-ltb (S i) (S i) (le_refl (S i)))

  hops_and_nearer : (h k : ℕ) → 1 ≤ onward Q h k → h + nearer (S (onward Q h k)) ≤ nearer (S k)
  unfolding onward
  hops_and_nearer zero k low = omega arith
  hops_and_nearer (suc h) k low =
      let j : ℕ = onward Q h k in
      let a = parent_arc ok solved (exact j) low in
      omega (arith, nearer_falls j low, hops_and_nearer h k (ok.hearer j a.0 a.1).0)

  pub hops_few : (h k : ℕ) → Within n k → 1 ≤ onward Q h k → h < n
  hops_few h k w low = omega (arith, hops_and_nearer h k low, nearer_few k w)
