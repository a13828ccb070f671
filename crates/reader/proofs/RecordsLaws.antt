-- One turn of the loop: a link that is refused is the answer, and one that is not leaves the answer to the rest.
use Prim.Native.Nat.{ℕ, zero, suc, ◌+◌, ◌-◌, ◌≤◌, ◌<◌}
use Rattle.answers.specs.Verdicts.{◌then◌}
use Rattle.park.specs.Reading.{link_at, links_from, key_at}
use Rattle.std.specs.Prelude.{Err}
use Rattle.answers.specs.Verdicts.{fine}
use Rattle.answers.specs.declared.refusal.Refusal.{Refusal}
use mathlib.Core.List.{List}
use mathlib.Core.Path.{◌≡◌, refl}
use native.Mathlib.Omega.{arith}

pub links_out : (s : List ℕ) (n at before left : ℕ) (r : Refusal) → 0 < left → link_at s n at before ≡ Err r
    → Err r ≡ links_from s n at before left
unfolding links_from ◌then◌
links_out s n at before zero r h e = absurd (omega arith)
links_out s n at before (suc k) r h e = simp e

pub links_on : (s : List ℕ) (n at before left : ℕ) → 0 < left → link_at s n at before ≡ fine
    → links_from s n at before left ≡ links_from s n (at + 6) (key_at s at) (left - 1)
unfolding links_from ◌then◌
links_on s n at before zero h e = absurd (omega arith)
links_on s n at before (suc k) h e = let z : suc k - 1 ≡ k = omega arith in rw z (simp e)

pub links_none : (s : List ℕ) (n at before left : ℕ) → left ≤ 0 → fine ≡ links_from s n at before left
unfolding links_from
links_none s n at before zero h = refl
links_none s n at before (suc k) h = absurd (omega arith)
