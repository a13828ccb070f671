-- What one byte that is set leaves: that node's is 1, every other as it was.
use Prim.Native.Nat.{ℕ, zero, suc, ◌-◌, ◌≤◌}
use native.Mathlib.Nat.{le_trans, le_of_eq}
use native.Mathlib.Omega.{arith}
use mathlib.Core.Path.{◌≡◌, refl, sym, ap, ◌∙◌}
use mathlib.Core.Logic.{⊎_elim}
use mathlib.Core.List.{List}
use lib.ListN.{length, set, replicate, length-set, length-replicate, get_or-replicate, get_or-eq_default}
use lib.Seq.{get_or-set_same, get_or-set_other, set_out}
use Rattle.rule.proofs.OfferLaws.{below?}
use Rattle.rule.proofs.Sound.{Within}
use Rattle.table.specs.Nodes.{node_at}
use Rattle.table.proofs.PlaceLaws.{place}
use Rattle.table.specs.Flag.{with_mark}

-- every number of a slice of one value is that value, and so is the one that stands for a number that is no node
pub node_same : (v n i : ℕ) → node_at v (replicate n v) i ≡ v
node_same v n zero = refl
node_same v n (suc i) =
    ⊎_elim (λ h. get_or-replicate n i v v h) (λ h. get_or-eq_default (replicate n v) v (le_trans (le_of_eq (length-replicate n v)) h)) (below? i n)

-- by the tests on the way: the number is 0, a node, or past the end
module _ (M : List ℕ) (i : ℕ) where
  pub mark_zero : i ≡ 0 → M ≡ with_mark M i
  unfolding with_mark
  mark_zero e = rw e

  mark_at_lem : (i ≡ 0 → ⊥) → with_mark M i ≡ set M (i - 1) 1
  unfolding with_mark
  mark_at_lem h = ap (with_mark M) (place i h)

  pub mark_in : (i ≡ 0 → ⊥) → set M (i - 1) 1 ≡ with_mark M i
  mark_in h = sym (mark_at_lem h)

  pub mark_out : (i ≡ 0 → ⊥) → length M ≤ i - 1 → M ≡ with_mark M i
  mark_out h l = sym (mark_at_lem h ∙ set_out M (i - 1) 1 l)

pub length_mark : (M : List ℕ) (i : ℕ) → length (with_mark M i) ≡ length M
unfolding with_mark
length_mark M zero = refl
length_mark M (suc k) = length-set M k 1

pub mark_new : (M : List ℕ) (i : ℕ) → Within (length M) i → node_at 0 (with_mark M i) i ≡ 1
unfolding with_mark
mark_new M zero w = absurd (omega arith)
mark_new M (suc k) w = get_or-set_same M k 1 0 (omega arith)

pub mark_old : (M : List ℕ) (i j : ℕ) → (j ≡ i → ⊥) → node_at 0 (with_mark M i) j ≡ node_at 0 M j
unfolding with_mark
mark_old M zero j n = refl
mark_old M (suc k) zero n = refl
mark_old M (suc k) (suc j) n = get_or-set_other M k j 1 0 (λ e. n (ap suc e))
