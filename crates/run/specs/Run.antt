-- Run of document 01: "Run with a count N from 0 to 16,777,217: do rounds until N are done or the next would change nothing."
-- Counts are in rounds, sizes and places in bytes.
use Rattle.std.specs.Prelude.{ℕ, List, Bool, ◌||◌, leb, ltb, length, Result, Ok, Err}
use Rattle.measure.specs.Measure.{most_rounds}
use Rattle.rule.specs.Round.{net_of}
use Rattle.park.specs.ParkFile.{ParkFile, park_in, encode, with_state}
use Rattle.answers.specs.Verdicts.{Verdict, unless, ◌then◌, by_verdict}
use Rattle.park.specs.Reading.{verdict_of, file_in}
use Rattle.answers.specs.declared.refusal.Refusal.TheVariants.{Count, Unsettled}
use Rattle.area.specs.Area.{room_for}
use Rattle.round.specs.Run.{RunEnd, run_of, ran_of}
use Rattle.answers.specs.declared.Ran.{Ran}
use Rattle.answers.specs.declared.refusal.Refusal.{Refusal}

-- "do rounds until N are done or the next would change nothing": the rounds done, whether it is quiet, and the table
unfoldable pub end_of : ParkFile → ℕ → RunEnd
end_of f N = run_of (net_of (park_in f)) f.nodes N 0 f.state

-- what is told of a file of so many bytes before a round is done: "N above 16,777,217" is 10, and no room for the file is 9
unfoldable pub ready_for : ℕ → ℕ → ℕ → ℕ → Verdict
ready_for N size area place = unless (leb N most_rounds) Count then room_for size area place

-- "N is 16,777,217 and the table is not quiet after those rounds" is 11
abbrev pub rest_for : ℕ → Bool → Verdict
rest_for N quiet = unless (ltb N most_rounds || quiet) Unsettled

-- the refusals in their order: the file's own, then 10, 9, 11
unfoldable pub run_verdict : List ℕ → ℕ → ℕ → ℕ → Verdict
run_verdict s N area place = verdict_of s then ready_for N (length s) area place then rest_for N (end_of (file_in s) N).quiet

-- "The new file, of the same length": the same park with the table that the run came to
unfoldable pub run_file : List ℕ → ℕ → List ℕ
run_file s N = encode (with_state (file_in s) (end_of (file_in s) N).table)

-- what Run answers for a file, a count and an area of so many bytes: "the rounds done and whether it is quiet", or the refusal
unfoldable pub run_answer : List ℕ → ℕ → ℕ → ℕ → Result Ran Refusal
run_answer s N area place = by_verdict (run_verdict s N area place) (Ok (ran_of (end_of (file_in s) N))) Err
