-- What a lent area holds once a file was put into it, and once a file that stands in it was changed there; and a file that was read,
-- with a new state, is the file of the park with that state.
use Prim.Native.Nat.{ℕ, ◌+◌, ◌-◌, ◌≤◌, ◌<◌}
use Rattle.area.specs.Area.{room_for, area_with}
use Rattle.park.proofs.RecordLaws.{length_links}
use Rattle.park.proofs.StateLaws.{state_put}
use Rattle.answers.proofs.VerdictLaws.{then_fine, unless_fine}
use Rattle.park.specs.Layout.{first_link, first_cell}
use Rattle.park.specs.ParkFile.{state_bytes, encode, with_state}
use Rattle.park.specs.Reading.{verdict_of, file_in, nodes_in, link_count, read_park, park}
use Rattle.std.specs.Prelude.{Err}
use Rattle.answers.specs.declared.refusal.Refusal.TheVariants.{Room}
use Rattle.answers.specs.declared.refusal.Refusal.{Refusal}
use Rattle.answers.specs.Verdicts.{Verdict, fine, unless, ◌then◌}
use Rattle.rule.specs.Round.{Cell}
use Rattle.wire.specs.Big.{Bytes}
use borrow.Author.Tests.{leb-true, le-leb, lt-leb}
use lib.ListN.{length, take, drop, drop_of_length-le, length-drop}
use lib.Seq.{sets, sets-eq, drop-drop, take_all, length-sets, length-take-le, take_at, drop_at}
use mathlib.Core.List.{List, [], ◌++◌, append-nil}
use mathlib.Core.Path.{◌≡◌, refl, sym, ap, ◌∙◌}
use native.Mathlib.Omega.{arith}

-- the verdict on the room, as its two tests give it
pub room_beyond : (size area place : ℕ) → area < place → Err Room ≡ room_for size area place
unfolding room_for unless ◌then◌
room_beyond size area place h = simp (lt-leb _ _ h)

pub room_short : (size area place : ℕ) → place ≤ area → area - place < size → Err Room ≡ room_for size area place
unfolding room_for unless ◌then◌
room_short size area place h l = simp (le-leb _ _ h, lt-leb _ _ l)

pub room_enough : (size area place : ℕ) → place ≤ area → size ≤ area - place → fine ≡ room_for size area place
unfolding room_for unless ◌then◌
room_enough size area place h l = simp (le-leb _ _ h, le-leb _ _ l)

-- where there is room, the place and the file lie within the area
pub room_fine : (size area place : ℕ) → room_for size area place ≡ fine → (place ≤ area) × (size ≤ area - place)
unfolding room_for
room_fine size area place e =
    let p = then_fine _ _ e in
    (leb-true _ _ (unless_fine _ _ p.0), leb-true _ _ (unless_fine _ _ p.1))

-- a file put at the start of the part of an area that starts at a place
pub area_put : (old file : List ℕ) (place : ℕ) → place ≤ length old → length file ≤ length old - place
    → take place old ++ (sets (take (length old - place) (drop place old)) 0 file ++ drop (length old - place) (drop place old)) ≡ area_with fine file place old
unfolding area_with
area_put old file place h l =
    let d : List ℕ = drop place old in
    let n : length d ≡ length old - place = length-drop place old in
    let all : take (length old - place) d ≡ d = take_all (length old - place) d (omega arith) in
    let none : drop (length old - place) d ≡ [] = drop_of_length-le d {i = length old - place} (omega arith) in
    let zero-length : 0 + length file ≡ length file = omega arith in
    let put : sets d 0 file ≡ file ++ drop (place + length file) old =
    sets-eq file d 0 (omega arith) ∙ ap (λ (k : ℕ). file ++ drop k d) zero-length ∙ ap (λ (x : List ℕ). file ++ x) (drop-drop (length file) place old) in
    rw (all, none, append-nil, put)

-- without room the area stays, whatever file was to stand in it
pub refused_stays : {v : Verdict} {r : Refusal} (file file' old new : List ℕ) (place : ℕ) → v ≡ Err r → new ≡ area_with (Err r) file place old
    → new ≡ area_with v file' place old
unfolding area_with
refused_stays file file' old new place e f = rw e f

-- a file in an area, of which the part that holds the file is changed
module _ (old mid file : List ℕ) (place i : ℕ) (vs : List ℕ) (before : place ≤ length old) (holds : mid ≡ area_with fine file place old) where
  size : place + length file - place ≡ length file
  size = omega arith

  front : take place mid ≡ take place old
  unfolding area_with
  front = ap (take place) holds ∙ take_at (take place old) (file ++ drop (place + length file) old) place (length-take-le place old before)

  rest : drop place mid ≡ file ++ drop (place + length file) old
  unfolding area_with
  rest = ap (drop place) holds ∙ drop_at (take place old) (file ++ drop (place + length file) old) place (length-take-le place old before)

  lent : take (place + length file - place) (drop place mid) ≡ file
  lent = rw (size, rest) (take_at file (drop (place + length file) old) (length file) refl)

  behind : drop (place + length file - place) (drop place mid) ≡ drop (place + length file) old
  behind = rw (size, rest) (drop_at file (drop (place + length file) old) (length file) refl)

  pub sets_in_area : (part : List ℕ) → part ≡ sets (take (place + length file - place) (drop place mid)) i vs
      → take place mid ++ (part ++ drop (place + length file - place) (drop place mid)) ≡ area_with fine (sets file i vs) place old
  unfolding area_with
  sets_in_area part e =
      let p : part ≡ sets file i vs = e ∙ ap (λ (l : List ℕ). sets l i vs) lent in
      rw (front, behind, p, length-sets file i vs)

-- a file that was not refused, with the bytes of another table for its state, is the file of the park with that table
pub state_file : (s : List ℕ) (t : List Cell) → Bytes s → verdict_of s ≡ fine → length t ≡ nodes_in s
    → sets s (first_cell (link_count s)) (state_bytes t) ≡ encode (with_state (file_in s) t)
unfolding read_park file_in
state_file s t b e n =
    let read : read_park s ≡ park (file_in s) = simp e in
    ap (λ (k : ℕ). sets s (first_cell k) (state_bytes t)) (sym (length_links s first_link (link_count s))) ∙ state_put s (file_in s) t b read n
