-- Exact of document 01: "the file with the exact table as its state, written the same way. Not obtained by rounds." It is stated by the
-- exact table itself. Sizes and places are in bytes.
use Rattle.std.specs.Prelude.{ℕ, ◌+◌, min, length, List, ◌≡◌, Result, Err}
use Rattle.measure.specs.Measure.{most_links}
use Rattle.answers.specs.declared.Head.{Head}
use Rattle.table.specs.Slices.{lows_of, highs_of, costs_of}
use Rattle.park.specs.Layout.{head_size, first_link, group_at}
use Rattle.reader.specs.Words.{column, little}
use Rattle.paths.specs.Found.{Found}
use Rattle.area.specs.Area.{room_for, area_with}
use Rattle.park.specs.ParkFile.{park_in, encode, with_state}
use Rattle.answers.specs.Verdicts.{Verdict, fine, ◌then◌}
use Rattle.park.specs.Reading.{verdict_of, file_in, links_read}
use Rattle.answers.specs.declared.refusal.Refusal.{Refusal}
use Rattle.rule.specs.Exact.{Exact}
use Rattle.rule.specs.Round.{Link, Cell}

-- "the file from its start, field by field ..; then 8, .. 9": the first refusal, for an area of so many bytes
unfoldable pub exact_verdict : List ℕ → ℕ → ℕ → Verdict
exact_verdict s area place = verdict_of s then room_for (length s) area place

-- what is found without rounds for the park that stands in the bytes s behind the head h, and left in three slices of any lengths
abbrev pub FoundIn : List ℕ → Head → List ℕ → List ℕ → List ℕ → List ℕ → List ℕ → List ℕ → Type 0
FoundIn s h ds ps ms ds' ps' ms' =
    let count : ℕ = min most_links h.links in
    let ls : List Link = links_read s first_link count in
    Found h.root (lows_of ls) (highs_of ls) (costs_of ls) (column (little 8 s) (group_at count + head_size) 8 4) ds ps ms ds' ps' ms'

-- what Exact answers for the file s, and what it leaves in an area that held `old`
pub record Exacted (s old : List ℕ) (place : ℕ) (r : Result (Unit {0}) Refusal) (new : List ℕ) : Type 0 where
  pub answer : r ≡ exact_verdict s (length old) place
  -- "Every refusal leaves the lent area untouched"
  pub untouched : (v : Refusal) → exact_verdict s (length old) place ≡ Err v → new ≡ old
  -- "the file with the exact table as its state", from the place on; "bytes before and after it stay"
  pub written : exact_verdict s (length old) place ≡ fine
      → (e : List Cell) → Exact (park_in (file_in s)) e → new ≡ area_with fine (encode (with_state (file_in s) e)) place old
