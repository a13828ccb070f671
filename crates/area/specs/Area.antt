-- A file in a lent area: "written into the lent area from a place the caller gives; bytes before and after it stay", and
-- "Every refusal leaves the lent area untouched". Sizes and places are in bytes.
use Rattle.std.specs.Prelude.{ℕ, ◌+◌, ◌-◌, leb, length, take, drop, List, [], ◌∷◌, ◌++◌, Ok, Err}
use Rattle.answers.specs.Verdicts.{Verdict, unless, ◌then◌}
use Rattle.answers.specs.declared.refusal.Refusal.TheVariants.{Room}
use Rattle.wire.specs.Big.{bytes_of}

-- "place beyond the lent area, or file too long for the rest of it" is 9
unfoldable pub room_for : ℕ → ℕ → ℕ → Verdict
room_for size area place = unless (leb place area) Room then unless (leb size (area - place)) Room

-- the area after a call with that verdict, from what it held before
unfoldable pub area_with : Verdict → List ℕ → ℕ → List ℕ → List ℕ
area_with (Ok x) file place old = take place old ++ (file ++ drop (place + length file) old)
area_with (Err r) file place old = old

-- "each node: distance (4), parent (2), mark (1)"
abbrev pub cell_bytes : ℕ → ℕ → ℕ → List ℕ
cell_bytes dist parent mark = bytes_of 4 dist ++ (bytes_of 2 parent ++ (mark ∷ []))
