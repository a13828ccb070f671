-- What Write answers for the file that the numbers make. Sizes and places are in bytes.
use Rattle.std.specs.Prelude.{ℕ, List, length, Result, Ok, Err}
use Rattle.answers.specs.declared.Written.{Written}
use Rattle.answers.specs.declared.refusal.Refusal.{Refusal}
use Rattle.answers.specs.Verdicts.{Verdict, ◌then◌, by_verdict}
use Rattle.park.specs.Reading.{verdict_of}
use Rattle.area.specs.Area.{room_for}

-- "the refusal that Check gives the file they would make .. 9 comes after"
unfoldable pub write_verdict : List ℕ → ℕ → ℕ → Verdict
write_verdict file area place = verdict_of file then room_for (length file) area place

-- what Write answers for a file and an area of so many bytes
unfoldable pub write_of : List ℕ → ℕ → ℕ → Result Written Refusal
write_of file area place = by_verdict (write_verdict file area place) (Ok (record { 0 = length file })) Err
