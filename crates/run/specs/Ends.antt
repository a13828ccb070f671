-- What the functions inside the room say of a run that was not refused before its rounds.
use Rattle.std.specs.Prelude.{ℕ, ◌≡◌, List, Result, Ok, Err}
use Rattle.answers.specs.Verdicts.{by_verdict}
use Rattle.park.specs.Reading.{file_in}
use Rattle.area.specs.Area.{area_with}
use Rattle.run.specs.Run.{rest_for, end_of, run_file}
use Rattle.answers.specs.declared.Ran.{Ran}
use Rattle.answers.specs.declared.refusal.Refusal.{Refusal}
use Rattle.round.specs.Run.{ran_of}

-- what it answers, and the area that it leaves
pub record Ends (r : Result Ran Refusal) (s : List ℕ) (N : ℕ) (old : List ℕ) (place : ℕ) (new : List ℕ) : Type 0 where
  pub answer : r ≡ by_verdict (rest_for N (end_of (file_in s) N).quiet) (Ok (ran_of (end_of (file_in s) N))) Err
  pub area : new ≡ area_with (rest_for N (end_of (file_in s) N).quiet) (run_file s N) place old
