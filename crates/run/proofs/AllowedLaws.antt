-- What the two steps of module allowed tell, test by test.
use Rattle.std.proofs.Common.{ℕ, ◌≡◌, ◌≤◌, ◌<◌, Bool, true, false}
use Rattle.std.proofs.lemmas.Bool.{le-leb, lt-leb, lt-ltb, le-ltb}
use Rattle.measure.specs.Measure.{most_rounds}
use Rattle.std.specs.Prelude.{Err}
use Rattle.answers.specs.Verdicts.{Verdict, fine, unless, ◌then◌}
use Rattle.answers.specs.declared.refusal.Refusal.TheVariants.{Count, Unsettled}
use Rattle.area.specs.Area.{room_for}
use Rattle.run.specs.Run.{ready_for, rest_for}

-- a count above the largest is refused, and any other leaves it to the room
pub count_refused : (N size area place : ℕ) → most_rounds < N → Err Count ≡ ready_for N size area place
unfolding ready_for unless ◌then◌
count_refused N size area place h = simp (lt-leb _ _ h)

pub count_fine : (N size area place : ℕ) (v : Verdict) → N ≤ most_rounds → v ≡ room_for size area place → v ≡ ready_for N size area place
unfolding ready_for unless ◌then◌
count_fine N size area place v h e = simp (le-leb _ _ h) e

-- a count below the largest is fine, and so is a table that is quiet; the largest count and a table that is not are refused
pub below_fine : (N : ℕ) (quiet : Bool) → N < most_rounds → fine ≡ rest_for N quiet
unfolding unless
below_fine N quiet h = simp (lt-ltb _ _ h)

pub quiet_fine : (N : ℕ) (quiet : Bool) → most_rounds ≤ N → quiet ≡ true → fine ≡ rest_for N quiet
unfolding unless
quiet_fine N quiet h q = simp (le-ltb _ _ h, q)

pub largest_refused : (N : ℕ) (quiet : Bool) → most_rounds ≤ N → quiet ≡ false → Err Unsettled ≡ rest_for N quiet
unfolding unless
largest_refused N quiet h q = simp (le-ltb _ _ h, q)
