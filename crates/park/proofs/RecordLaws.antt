-- The records of the links, the bytes of the group and the cells of the state: what was written is read, and what was read is the bytes.
use Prim.Native.Nat.{ℕ, zero, suc, ◌+◌, ◌*◌, ◌-◌, ◌^◌, ◌≤◌, ◌<◌, min}
use mathlib.Core.Path.{◌≡◌, refl, sym, ap, ap₂, ◌∙◌}
use mathlib.Core.Bool.{true}
use mathlib.Core.List.{List, [], ◌∷◌, ◌++◌}
use native.Mathlib.Nat.{add-zero, add_assoc, mul-zero, sub-zero}
use native.Mathlib.Numerals.{one-add}
use native.Mathlib.Omega.{arith}
use lib.ListN.{length, get_or, take, length-append}
use lib.Seq.{drop-cons}
use lib.Dec.{ltb}
use borrow.Author.Tests.{le-leb, lt-ltb, leb-true, ltb-true}
use Rattle.rule.specs.Round.{Link, Cell}
use Rattle.wire.specs.Big.{Bytes, big, bytes_of}
use Rattle.wire.proofs.BigLaws.{Has, has_left, has_right, has_at, written_read, read_written, length_bytes_of, big_four, big_lt}
use Rattle.park.specs.ParkFile.{key_of, link_bytes, state_bytes, LinkOk, LinksOk, CellsOk}
use Rattle.answers.specs.Verdicts.{fine, unless, ◌then◌}
use Rattle.park.specs.Reading.{link_at, links_from, key_at, bits_clear, links_read, cells_read}
use Rattle.table.proofs.TestLaws.{both_true}
use Rattle.answers.proofs.VerdictLaws.{then_fine, unless_fine}
use Rattle.park.proofs.FieldLaws.{part, part_join}

pub length_link_bytes : (ls : List Link) → length (link_bytes ls) ≡ 6 * length ls
unfolding link_bytes
length_link_bytes [] = refl
length_link_bytes (l ∷ ls) =
    let ih = length_link_bytes ls in
    simp (length-append, length_bytes_of) (omega (arith, ih))

pub length_state_bytes : (cs : List Cell) → length (state_bytes cs) ≡ 7 * length cs
unfolding state_bytes
length_state_bytes [] = refl
length_state_bytes (c ∷ cs) =
    let ih = length_state_bytes cs in
    simp (length-append, length_bytes_of) (omega (arith, ih))

-- three numbers one behind the other, of the widths given
module _ {s : List ℕ} {at : ℕ} (j k : ℕ) (x y : ℕ) (zs rest : List ℕ) (h : Has s at ((bytes_of j x ++ (bytes_of k y ++ zs)) ++ rest)) where
  first : x < 256 ^ j → big j s at ≡ x
  first l = written_read j x (has_left (bytes_of j x) (bytes_of k y ++ zs) (has_left (bytes_of j x ++ (bytes_of k y ++ zs)) rest h)) l

  tail : Has s (at + j) (bytes_of k y ++ zs)
  tail =
      let t = has_right (bytes_of j x) (bytes_of k y ++ zs) (has_left (bytes_of j x ++ (bytes_of k y ++ zs)) rest h) in
      rw length_bytes_of at t

  second : y < 256 ^ k → big k s (at + j) ≡ y
  second l = written_read k y (has_left (bytes_of k y) zs tail) l

  third : Has s (at + j + k) zs
  third = let t = has_right (bytes_of k y) zs tail in rw length_bytes_of at t

  others : (n : ℕ) → j + (k + length zs) ≡ n → Has s (at + n) rest
  others n e =
      let t = has_right (bytes_of j x ++ (bytes_of k y ++ zs)) rest h in
      let f : at + length (bytes_of j x ++ (bytes_of k y ++ zs)) ≡ at + n = simp (length-append, length_bytes_of) (omega (arith, e)) in
      rw f at t

-- the record of a link that was written
pub record LinkHere (s : List ℕ) (at : ℕ) (l : Link) : Type 0 where
  pub low : big 2 s at ≡ l.low
  pub high : big 2 s (at + 2) ≡ l.high
  pub cost : big 2 s (at + 4) ≡ l.cost
  pub key : big 4 s at ≡ key_of l

link_here : {s : List ℕ} {at : ℕ} (n before : ℕ) (l : Link) (rest : List ℕ) → n ≤ 256 → LinkOk n before l
    → Has s at ((bytes_of 2 l.low ++ (bytes_of 2 l.high ++ bytes_of 2 l.cost)) ++ rest) → LinkHere s at l
link_here {s} {at} n before l rest few ok h =
    let a : big 2 s at ≡ l.low = first 2 2 l.low l.high (bytes_of 2 l.cost) rest h (omega (arith, ok.ascending, ok.most)) in
    let b : big 2 s (at + 2) ≡ l.high = second 2 2 l.low l.high (bytes_of 2 l.cost) rest h (omega (arith, ok.most)) in
    let t : Has s (at + 2 + 2) (bytes_of 2 l.cost) = third 2 2 l.low l.high (bytes_of 2 l.cost) rest h in
    let e : at + 2 + 2 ≡ at + 4 = omega arith in
    record {
      low = a;
      high = b;
      cost = written_read 2 l.cost (rw e at t) ok.largest;
      key = big_four s at ∙ ap₂ (λ (x y : ℕ). x * 65536 + y) a b;
    }

pub links_written : {s : List ℕ} {at : ℕ} (n before : ℕ) (ls : List Link) → n ≤ 256 → LinksOk n before ls → Has s at (link_bytes ls)
    → (links_from s n at before (length ls) ≡ fine) × (links_read s at (length ls) ≡ ls)
unfolding links_from links_read link_at unless ◌then◌ link_bytes
links_written {at = at} n before [] few ok h = (refl, refl)
links_written {s} {at = at} n before (l ∷ ls) few ok h =
    let w = link_here n before l (link_bytes ls) few ok.0 h in
    let o = ok.0 in
    let rest : Has s (at + 6) (link_bytes ls) = others 2 2 l.low l.high (bytes_of 2 l.cost) (link_bytes ls) h 6 (simp length_bytes_of) in
    let ih = links_written {at = at + 6} n (key_of l) ls few ok.1 rest in (
      simp (w.low, w.high, w.cost, w.key)
          (simp (le-leb _ _ o.least, lt-ltb _ _ o.ascending, le-leb _ _ o.most, le-leb _ _ o.cost, lt-ltb _ _ o.after) ih.0),
      simp (w.low, w.high, w.cost, ih.1),
    )

pub cells_written : {s : List ℕ} {at : ℕ} (cs : List Cell) → CellsOk cs → Has s at (state_bytes cs) → cells_read s at (length cs) ≡ cs
unfolding cells_read state_bytes
cells_written {at = at} [] ok h = refl
cells_written {s} {at = at} (c ∷ cs) ok h =
    let o = ok.0 in
    let a : big 4 s at ≡ c.dist = first 4 2 c.dist c.parent (c.mark ∷ []) (state_bytes cs) h o.dist in
    let b : big 2 s (at + 4) ≡ c.parent = second 4 2 c.dist c.parent (c.mark ∷ []) (state_bytes cs) h o.parent in
    let t : Has s (at + 4 + 2) (c.mark ∷ []) = third 4 2 c.dist c.parent (c.mark ∷ []) (state_bytes cs) h in
    let m : get_or s (at + 4 + 2 + 0) 0 ≡ c.mark = has_at t 0 (omega arith) in
    let e : at + 4 + 2 + 0 ≡ at + 6 = omega arith in
    let m' : get_or s (at + 6) 0 ≡ c.mark = rw e at m in
    let ih = cells_written {at = at + 7} cs ok.1 (others 4 2 c.dist c.parent (c.mark ∷ []) (state_bytes cs) h 7 refl) in
    simp (a, b, m', ih)

-- n nodes less the nodes of suc i bytes
less_bytes : (n i : ℕ) → n - 8 * suc i ≡ n - 8 - 8 * i
less_bytes n i = omega arith

pub bits_written : (s : List ℕ) (at n left : ℕ) → ((i : ℕ) → i < left → get_or s (at + i) 0 < 2 ^ min 8 (n - 8 * i)) → bits_clear s at n left ≡ true
unfolding bits_clear
bits_written s at n zero h = refl
bits_written s at n (suc k) h =
    let here : get_or s at 0 < 2 ^ min 8 n = simp (add-zero, mul-zero, sub-zero) at (h 0 (omega arith)) in
    let ih : bits_clear s (at + 1) (n - 8) k ≡ true =
    bits_written s (at + 1) (n - 8) k
    (λ i l. rw (← less_bytes n i, add_assoc at 1 i, one-add i) (h (suc i) (omega arith))) in
    simp (lt-ltb _ _ here, ih)

pub bits_read : (s : List ℕ) (at n left : ℕ) → bits_clear s at n left ≡ true → (i : ℕ) → i < left → get_or s (at + i) 0 < 2 ^ min 8 (n - 8 * i)
unfolding bits_clear
bits_read s at n zero e i l = absurd (omega arith)
bits_read s at n (suc k) e zero l = simp (add-zero, mul-zero, sub-zero) (ltb-true _ _ (both_true (ltb (get_or s at 0) (2 ^ min 8 n)) (bits_clear s (at + 1) (n - 8) k) e).0)
bits_read s at n (suc k) e (suc i) l =
    let ih = bits_read s (at + 1) (n - 8) k (both_true (ltb (get_or s at 0) (2 ^ min 8 n)) (bits_clear s (at + 1) (n - 8) k) e).1 i (omega arith) in
    rw (less_bytes n i, ← one-add i, ← add_assoc at 1 i) ih

-- the numbers of a record that was read, and those behind it
module _ (s : List ℕ) (b : Bytes s) where
  -- the bytes of two numbers, one behind the other
  two : (j k at : ℕ) → at + (j + k) ≤ length s → bytes_of j (big j s at) ++ bytes_of k (big k s (at + j)) ≡ part s at (j + k)
  two j k at h =
      ap₂ (λ (x y : List ℕ). x ++ y) (read_written j s at b (omega arith)) (read_written k s (at + j) b (omega arith))
      ∙ part_join s at (at + j) j k refl

  pub links_part : (at left : ℕ) → at + 6 * left ≤ length s → link_bytes (links_read s at left) ≡ part s at (6 * left)
  unfolding link_bytes links_read
  links_part at zero h = refl
  links_part at (suc k) h =
      let e : at + 2 + 2 ≡ at + 4 = omega arith in
      let low : bytes_of 2 (big 2 s at) ≡ part s at 2 = read_written 2 s at b (omega arith) in
      let t = two 2 2 (at + 2) (omega arith) in
      let ends : bytes_of 2 (big 2 s (at + 2)) ++ bytes_of 2 (big 2 s (at + 4)) ≡ part s (at + 2) 4 = rw e at t in
      let ih = links_part (at + 6) k (omega arith) in
      let n : 6 + 6 * k ≡ 6 * suc k = omega arith in
      rw (low, ends, ih, part_join s at (at + 2) 2 4 refl, part_join s at (at + 6) 6 (6 * k) refl, n)

  pub cells_part : (at left : ℕ) → at + 7 * left ≤ length s → state_bytes (cells_read s at left) ≡ part s at (7 * left)
  unfolding state_bytes cells_read
  cells_part at zero h = refl
  cells_part at (suc k) h =
      let e : at + 4 + 2 ≡ at + 6 = omega arith in
      let dist : bytes_of 4 (big 4 s at) ≡ part s at 4 = read_written 4 s at b (omega arith) in
      let parent : bytes_of 2 (big 2 s (at + 4)) ≡ part s (at + 4) 2 = read_written 2 s (at + 4) b (omega arith) in
      let mark : get_or s (at + 6) 0 ∷ [] ≡ part s (at + 6) 1 = sym (ap (take 1) (drop-cons s (at + 6) 0 (omega arith))) in
      let ih = cells_part (at + 7) k (omega arith) in
      let n : 7 + 7 * k ≡ 7 * suc k = omega arith in
      rw (dist, parent, mark, ih, part_join s (at + 4) (at + 6) 2 1 e, part_join s at (at + 4) 4 3 refl, part_join s at (at + 7) 7 (7 * k) refl, n)

  pub cells_ok : (at left : ℕ) → CellsOk (cells_read s at left)
  unfolding cells_read
  cells_ok at zero = tt
  cells_ok at (suc k) =
      (record { dist = big_lt 4 s at b; parent = big_lt 2 s (at + 4) b; mark = b (at + 6) }, cells_ok (at + 7) k)

  pub links_ok : (n at before left : ℕ) → links_from s n at before left ≡ fine → LinksOk n before (links_read s at left)
  unfolding links_from link_at links_read
  links_ok n at before zero e = tt
  links_ok n at before (suc k) e =
      let both = then_fine _ _ e in
      let a = then_fine _ _ both.0 in
      let c = then_fine _ _ a.1 in
      let d = then_fine _ _ c.1 in
      let f = then_fine _ _ d.1 in
      let ih = links_ok n (at + 6) (key_at s at) k both.1 in
      let after : before < key_at s at = ltb-true _ _ (unless_fine _ _ f.1) in (
        record {
          least = leb-true _ _ (unless_fine _ _ a.0);
          ascending = ltb-true _ _ (unless_fine _ _ c.0);
          most = leb-true _ _ (unless_fine _ _ d.0);
          cost = leb-true _ _ (unless_fine _ _ f.0);
          largest = big_lt 2 s (at + 4) b;
          after = rw (big_four s at) at after;
        },
        rw (big_four s at) at ih,
      )

pub length_links : (s : List ℕ) (at left : ℕ) → length (links_read s at left) ≡ left
unfolding links_read
length_links s at zero = refl
length_links s at (suc k) = ap suc (length_links s (at + 6) k)

pub length_cells : (s : List ℕ) (at left : ℕ) → length (cells_read s at left) ≡ left
unfolding cells_read
length_cells s at zero = refl
length_cells s at (suc k) = ap suc (length_cells s (at + 7) k)
