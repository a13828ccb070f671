-- What Write answers, by the verdict on the file that was made and by the room in the area.
use Prim.Native.Nat.{ℕ, ◌+◌, ◌-◌, ◌≤◌}
use Rattle.area.specs.Area.{room_for, area_with}
use Rattle.table.proofs.PartLaws.{sets_take}
use Rattle.writer.proofs.FileLaws.{numbers_file, file_encode}
use Rattle.park.proofs.RoundTrip.{encode_fine}
use Rattle.park.specs.ParkFile.{ParkFile, ParkFileOk, encode}
use Rattle.answers.specs.Verdicts.{Verdict, fine, unless, ◌then◌}
use Rattle.std.specs.Prelude.{Ok, Err}
use Rattle.park.specs.Reading.{verdict_of}
use Rattle.answers.specs.declared.refusal.Refusal.{Refusal}
use Rattle.writer.specs.Write.{write_verdict, write_of}
use borrow.Author.Tests.{le-leb}
use lib.ListN.{length, take, drop}
use lib.Seq.{sets, length-sets}
use mathlib.Core.List.{List, ◌++◌}
use mathlib.Core.Path.{◌≡◌, refl, sym, ap, ◌∙◌}
use native.Mathlib.Omega.{arith}

-- what is known of the array that a file was made in: its first bytes are the file
pub record Held (file : List ℕ) (size : ℕ) (array : List ℕ) : Type 0 where
  pub said : size ≡ length file
  pub room : size ≤ length array
  pub count : size ≡ length (take size array)
  pub front : take size array ≡ file

pub held : (l file : List ℕ) (size : ℕ) (array : List ℕ) → array ≡ sets l 0 file → length array ≡ 7984 → length file ≤ 7984 → size ≡ length file
    → Held file size array
held l file size array e n h f =
    let k : length l ≡ length array = sym (ap length e ∙ length-sets l 0 file) in
    let front : take size array ≡ file = rw (e, f) (sets_take l file (length file) refl (omega arith)) in
    record { said = f; room = omega arith; count = f ∙ sym (ap length front); front = front }

-- a file that is refused leaves the area as it was
pub write_refused : (file old : List ℕ) (place : ℕ) (r : Refusal) → verdict_of file ≡ Err r
    → (Err r ≡ write_of file (length old) place) × (old ≡ area_with (write_verdict file (length old) place) file place old)
unfolding write_of write_verdict area_with ◌then◌
write_refused file old place r e = (simp e, simp e)

-- for any other the room decides, as putting the file found it
pub write_room : (file part old new : List ℕ) (place : ℕ) (v : Verdict) → part ≡ file → verdict_of file ≡ fine
    → v ≡ room_for (length part) (length old) place → new ≡ area_with v part place old
    → (v ≡ write_verdict file (length old) place) × (new ≡ area_with (write_verdict file (length old) place) file place old)
unfolding write_verdict ◌then◌
write_room file part old new place v p e f g =
    let x : room_for (length file) (length old) place ≡ v = ap (λ (l : List ℕ). room_for (length l) (length old) place) (sym p) ∙ sym f in
    let y : new ≡ area_with v file place old = g ∙ ap (λ (l : List ℕ). area_with v l place old) p in
    (simp (e, x), simp (e, x) y)

-- every park that has a file is written, if there is room for it, and its file stands at the place
pub write_park : (f : ParkFile) (old : List ℕ) (place : ℕ) → ParkFileOk f → place + length (encode f) ≤ length old
    → (write_of (numbers_file f) (length old) place ≡ Ok (record { 0 = length (encode f) }))
    × (area_with (write_verdict (numbers_file f) (length old) place) (numbers_file f) place old ≡ take place old ++ (encode f ++ drop (place + length (encode f)) old))
unfolding write_of write_verdict room_for area_with unless ◌then◌
write_park f old place ok h =
    let a : place ≤ length old = omega arith in
    let b : length (encode f) ≤ length old - place = omega arith in
    rw (file_encode f ok) (simp (encode_fine f ok, le-leb _ _ a, le-leb _ _ b) ((refl, refl)))
