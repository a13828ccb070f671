-- A field that stands at a place is read there, and a field that is read is the bytes that stand there.
use Rattle.std.specs.Prelude.{Err}
use Prim.Native.Nat.{ℕ, suc, ◌+◌, ◌%◌, ◌≤◌, ◌<◌}
use Rattle.answers.proofs.VerdictLaws.{then_fine, unless_fine}
use Rattle.park.specs.ParkFile.{field}
use Rattle.answers.specs.Verdicts.{fine, unless, ◌then◌}
use Rattle.park.specs.Reading.{field_at, length_at}
use Rattle.answers.specs.declared.refusal.Refusal.TheVariants.{Short, Length}
use Rattle.wire.proofs.BigLaws.{Has, has_left, has_right, has_at, has_length, written_read, read_written, length_bytes_of}
use Rattle.wire.specs.Big.{Bytes, big, bytes_of}
use borrow.Author.Tests.{le-leb, lt-leb, eq-eqb, leb-true, eqb-true}
use lib.Dec.{leb, eqb, lit<}
use lib.ListN.{length, get_or, take, drop, length-append, length-take, length-drop}
use lib.Seq.{take-add, drop-drop, drop-cons}
use mathlib.Core.Bool.{Bool, true, false}
use mathlib.Core.List.{List, [], ◌∷◌, ◌++◌}
use mathlib.Core.Path.{◌≡◌, refl, sym, ap, ap₂, ◌∙◌}
use native.Mathlib.Nat.{add-zero}
use native.Mathlib.Omega.{arith}

-- the k bytes from place i
abbrev pub part : List ℕ → ℕ → ℕ → List ℕ
part s i k = take k (drop i s)

pub length_part : (s : List ℕ) (i k : ℕ) → i + k ≤ length s → length (part s i k) ≡ k
length_part s i k h = simp (length-take, length-drop) (omega arith)

-- two parts, one behind the other
pub part_join : (s : List ℕ) (i j k m : ℕ) → i + k ≡ j → part s i k ++ part s j m ≡ part s i (k + m)
part_join s i j k m e = rw (← e) (sym (take-add k m (drop i s) ∙ ap (λ (l : List ℕ). take k (drop i s) ++ take m l) (drop-drop k i s)))

pub length_field : (tag : ℕ) (body : List ℕ) → length (field tag body) ≡ 3 + length body
unfolding field
length_field tag body = simp (length-append, length_bytes_of) (omega arith)

-- what stands behind a field
pub has_behind : {s : List ℕ} {i : ℕ} (tag : ℕ) (body rest : List ℕ) (j : ℕ) → Has s i (field tag body ++ rest) → i + (3 + length body) ≡ j → Has s j rest
has_behind {s} {i} tag body rest j h e =
    let t = has_right (field tag body) rest h in
    let g : i + length (field tag body) ≡ j = ap (λ (x : ℕ). i + x) (length_field tag body) ∙ e in
    rw g at t

-- what is known of a field that was written at a place
pub record Written (s : List ℕ) (at tag : ℕ) (body : List ℕ) : Type 0 where
  pub tagged : get_or s at 0 ≡ tag
  pub said : length_at s at ≡ length body
  pub inside : Has s (at + 3) body
  pub room : at + 3 + length body ≤ length s

pub field_written : {s : List ℕ} {at : ℕ} (tag : ℕ) (body : List ℕ) → Has s at (field tag body) → length body < 65536 → Written s at tag body
unfolding field
field_written {s} {at} tag body h small =
    let n : ℕ = length body in
    let t : get_or s (at + 0) 0 ≡ tag = has_at h 0 (omega arith) in
    let r : Has s (at + 1) (bytes_of 2 n ++ body) = has_right (tag ∷ []) (bytes_of 2 n ++ body) h in
    let b : Has s (at + 1 + length (bytes_of 2 n)) body = has_right (bytes_of 2 n) body r in
    let e : at + 1 + length (bytes_of 2 n) ≡ at + 3 = simp length_bytes_of (omega arith) in
    let b' : Has s (at + 3) body = rw e at b in
    record {
      tagged = rw add-zero at t;
      said = written_read 2 n (has_left (bytes_of 2 n) body r) small;
      inside = b';
      room = has_length b';
    }

-- a field that was written, of a length that the rule allows, is not refused
pub field_fine : {s : List ℕ} {at tag : ℕ} {body : List ℕ} (step low high : ℕ) → Written s at tag body
    → length body % step ≡ 0 → low ≤ length body → length body ≤ high → field_at s at tag step low high ≡ fine
unfolding field_at unless ◌then◌
field_fine {s} {at} {tag} {body} step low high w m l h =
    let head : at + 3 ≤ length s = omega (arith, w.room) in
    simp (le-leb _ _ head, eq-eqb _ _ w.tagged, w.said)
    (simp (eq-eqb _ _ m, le-leb _ _ l, le-leb _ _ h, le-leb _ _ w.room))

-- what is known of a field that was not refused
pub record FieldRead (s : List ℕ) (at tag step low high : ℕ) : Type 0 where
  pub head : at + 3 ≤ length s
  pub tagged : get_or s at 0 ≡ tag
  pub multiple : length_at s at % step ≡ 0
  pub least : low ≤ length_at s at
  pub most : length_at s at ≤ high
  pub room : at + 3 + length_at s at ≤ length s

pub field_read : (s : List ℕ) (at tag step low high : ℕ) → field_at s at tag step low high ≡ fine → FieldRead s at tag step low high
unfolding field_at
field_read s at tag step low high e =
    let a = then_fine _ _ e in
    let b = then_fine _ _ a.1 in
    let c = then_fine _ _ b.1 in
    let d = then_fine _ _ c.1 in
    let f = then_fine _ _ d.1 in
    record {
      head = leb-true _ _ (unless_fine _ _ a.0);
      tagged = eqb-true _ _ (unless_fine _ _ b.0);
      multiple = eqb-true _ _ (unless_fine _ _ c.0);
      least = leb-true _ _ (unless_fine _ _ d.0);
      most = leb-true _ _ (unless_fine _ _ f.0);
      room = leb-true _ _ (unless_fine _ _ f.1);
    }

-- the field of the body that was read is the bytes that stand there
pub field_part : {s : List ℕ} {at tag step low high : ℕ} (body : List ℕ) (k : ℕ) → Bytes s → FieldRead s at tag step low high
    → length_at s at ≡ k → body ≡ part s (at + 3) k → field tag body ≡ part s at (3 + k)
unfolding field
field_part {s} {at} {tag} body k b r e f =
    let n : length body ≡ k = ap length f ∙ length_part s (at + 3) k (omega (arith, r.room)) in
    let two : bytes_of 2 k ≡ part s (at + 1) 2 = ap (bytes_of 2) (sym e) ∙ read_written 2 s (at + 1) b (omega (arith, r.head)) in
    let one : tag ∷ [] ≡ part s at 1 =
    ap (λ (x : ℕ). x ∷ []) (sym r.tagged) ∙ sym (ap (take 1) (drop-cons s at 0 (omega (arith, r.head)))) in
    let all : 1 + (2 + k) ≡ 3 + k = omega arith in
    ap₂ (λ (x y : List ℕ). tag ∷ (x ++ y)) (ap (bytes_of 2) n ∙ two) f
    ∙ ap (λ (x : List ℕ). tag ∷ x) (part_join s (at + 1) (at + 3) 2 k (omega arith))
    ∙ ap (λ (x : List ℕ). x ++ part s (at + 1) (2 + k)) one
    ∙ part_join s at (at + 1) 1 (2 + k) refl
    ∙ ap (part s at) all

-- a head that says 65,535 bytes is refused as 3, whatever the field: the length is no multiple of 6, and above all that others may have
pub length_refused : {s : List ℕ} {at : ℕ} (tag step low high : ℕ) → Has s at (tag ∷ bytes_of 2 65535) → (65535 % step ≡ 0 → high < 65535)
    → field_at s at tag step low high ≡ Err (Length at)
unfolding field_at unless ◌then◌
length_refused {s} {at} tag step low high h wrong =
    let n : length (tag ∷ bytes_of 2 65535) ≡ 3 = ap suc (length_bytes_of 2 65535) in
    let room : at + 3 ≤ length s = omega (arith, has_length h, n) in
    let t : get_or s (at + 0) 0 ≡ tag = has_at h 0 (omega arith) in
    let t' : get_or s at 0 ≡ tag = rw add-zero at t in
    let said : big 2 s (at + 1) ≡ 65535 = written_read 2 65535 (has_right (tag ∷ []) (bytes_of 2 65535) h) (lit< tt) in
    simp (le-leb _ _ room, eq-eqb _ _ t', said) (go (eqb (65535 % step) 0) refl)
  where
    go : (x : Bool) → eqb (65535 % step) 0 ≡ x
        → ◌then◌ (unless x (Length at)) (◌then◌ (unless (leb low 65535) (Length at)) (◌then◌ (unless (leb 65535 high) (Length at)) (unless (leb (at + 3 + 65535) (length s)) (Short at))))
        ≡ Err (Length at)
    go false e = refl
    go true e = low_too (leb low 65535) (lt-leb 65535 high (wrong (eqb-true _ _ e)))
      where
        low_too : (y : Bool) → leb 65535 high ≡ false
            → ◌then◌ (unless y (Length at)) (◌then◌ (unless (leb 65535 high) (Length at)) (unless (leb (at + 3 + 65535) (length s)) (Short at))) ≡ Err (Length at)
        low_too false f = refl
        low_too true f = simp f
