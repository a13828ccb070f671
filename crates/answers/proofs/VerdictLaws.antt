-- The laws of steps: where nothing is refused, every test held.
use Prim.Native.Nat.{ℕ}
use Rattle.std.specs.Prelude.{Result, Ok, Err, IsErrAnd}
use Rattle.std.proofs.lemmas.Result.{err_from_is_err_and}
use Rattle.answers.specs.Verdicts.{Verdict, fine, unless, ◌then◌}
use Rattle.answers.specs.declared.refusal.Refusal.{Refusal}
use mathlib.Core.Bool.{Bool, true, false}
use mathlib.Core.Path.{◌≡◌, refl, ap, ◌∙◌}
use native.Mathlib.Omega.{arith}

-- nothing refused: no step refused
pub then_fine : (v w : Verdict) → ◌then◌ v w ≡ fine → (v ≡ fine) × (w ≡ fine)
unfolding ◌then◌
then_fine (Ok x) w e = (refl, e)
then_fine (Err r) w e = let z : ◌≡◌ {A = ℕ} 0 1 = cc in absurd (omega arith)

pub unless_fine : (b : Bool) (r : Refusal) → unless b r ≡ fine → b ≡ true
unfolding unless
unless_fine true r e = refl
unless_fine false r e = let z : ◌≡◌ {A = ℕ} 0 1 = cc in absurd (omega arith)

-- the first of two steps refuses, and so does the whole
pub refused_first : {v : Verdict} {r : Refusal} (w : Verdict) → Err r ≡ v → Err r ≡ ◌then◌ v w
unfolding ◌then◌
refused_first {v} {r} w e = rw (← e) refl

-- the first refuses nothing, and the second decides
pub fine_first : {v : Verdict} {x : Unit {0}} (w : Verdict) → Ok x ≡ v → w ≡ ◌then◌ v w
unfolding ◌then◌
fine_first {v} {x} w e = rw (← e) refl

-- an answer whose refusal the exit of a `?` hands on
pub exit : {A : Type 0} {r a : Result A Refusal} {x : Refusal} → IsErrAnd r (λ y. y ≡ x) → Err x ≡ a → r ≡ a
exit {A} {r} {a} {x} h e = let p = err_from_is_err_and r h in p.1 ∙ ap Err p.2 ∙ e
