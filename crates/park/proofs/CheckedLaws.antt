-- What Check answers and what reading gives: a file that is accepted is read as a park of the nodes and links that are answered.
use Prim.Native.Nat.{ℕ, ◌≤◌}
use Rattle.park.proofs.RecordLaws.{length_links}
use Rattle.park.proofs.RoundTrip.{length_encode, read_then_encode}
use Rattle.measure.specs.Measure.{most_nodes, most_links}
use Rattle.park.specs.Layout.{first_link, end_at}
use Rattle.park.specs.ParkFile.{ParkFile}
use Rattle.park.specs.Reading.{refused, nodes_in, link_count, verdict_of, file_in, park, read_park, head_of, ReadAs, read_answer, check_of}
use Rattle.answers.specs.declared.Head.{Head}
use Rattle.answers.specs.declared.Sizes.{Sizes}
use Rattle.answers.specs.Verdicts.{Verdict}
use Rattle.std.specs.Prelude.{Result, Ok, Err}
use Rattle.answers.specs.declared.refusal.Refusal.{Refusal}
use Rattle.wire.specs.Big.{Bytes}
use lib.ListN.{length}
use mathlib.Core.List.{List}
use mathlib.Core.Path.{◌≡◌, refl, sym, ap, ◌∙◌}
use native.Mathlib.Omega.{arith}

-- a file that Check accepts is read as a park, of the nodes and the links that Check answers
pub checked_park : (s : List ℕ) (n l : ℕ) → Bytes s → check_of s ≡ Ok (record { nodes = n; links = l })
    → (f : ParkFile) × (read_park s ≡ park f) × (f.nodes ≡ n) × (length f.links ≡ l)
unfolding check_of read_park file_in
checked_park s n l b e = go (verdict_of s) refl
  where
    go : (v : Verdict) → verdict_of s ≡ v → (f : ParkFile) × (read_park s ≡ park f) × (f.nodes ≡ n) × (length f.links ≡ l)
    go (Ok _) p =
        let q : ◌≡◌ {A = Result Sizes Refusal} (Ok (record { nodes = nodes_in s; links = link_count s })) (Ok (record { nodes = n; links = l })) = rw p at e in
        let h : ◌≡◌ {A = Sizes} (record { nodes = nodes_in s; links = link_count s }) (record { nodes = n; links = l }) = cc in
        let m : nodes_in s ≡ n = ap (λ (x : Sizes). x.nodes) h in
        let k : link_count s ≡ l = ap (λ (x : Sizes). x.links) h in
        (file_in s, simp p, m, length_links s first_link (link_count s) ∙ k)
    go (Err r) p =
        let q : ◌≡◌ {A = Result Sizes Refusal} (Err r) (Ok (record { nodes = n; links = l })) = rw p at e in
        let z : ◌≡◌ {A = ℕ} 0 1 = cc in
        absurd (omega arith)

-- the sizes of a file that Check accepts: at most 256 nodes and 1,024 links, and a length that follows from both
pub checked_sizes : (s : List ℕ) (n l : ℕ) → Bytes s → check_of s ≡ Ok (record { nodes = n; links = l })
    → (1 ≤ n) × (n ≤ most_nodes) × (l ≤ most_links) × (length s ≡ end_at n l)
checked_sizes s n l b e =
    let c = checked_park s n l b e in
    let r = read_then_encode s c.0 b c.1 in
    let len : length s ≡ end_at c.0.nodes (length c.0.links) = ap length (sym r.0) ∙ length_encode c.0 r.1 in (
      omega (arith, r.1.some, c.2),
      omega (arith, r.1.few, c.2),
      omega (arith, r.1.link_count, c.3),
      omega (arith, len, c.2, c.3),
    )

-- a file that Check refuses is refused by reading, with the same refusal
pub checked_refused : (s : List ℕ) (r : Refusal) → check_of s ≡ Err r → read_park s ≡ refused r
unfolding check_of read_park
checked_refused s r e = go (verdict_of s) refl
  where
    go : (v : Verdict) → verdict_of s ≡ v → read_park s ≡ refused r
    go (Ok _) p =
        let q : ◌≡◌ {A = Result Sizes Refusal} (Ok (record { nodes = nodes_in s; links = link_count s })) (Err r) = rw p at e in
        let z : ◌≡◌ {A = ℕ} 0 1 = cc in
        absurd (omega arith)
    go (Err x) p =
        let q : ◌≡◌ {A = Result Sizes Refusal} (Err x) (Err r) = rw p at e in
        let y : x ≡ r = cc in
        simp (p, y)

-- what is known of a file in which reading finds the head h
pub head_found : (s : List ℕ) (h : Head) → read_answer s ≡ Ok h → ReadAs s h
unfolding read_answer head_of
head_found s h e = go (verdict_of s) refl
  where
    go : (v : Verdict) → verdict_of s ≡ v → ReadAs s h
    go (Ok _) p =
        let q : ◌≡◌ {A = Result Head Refusal} (Ok (head_of s)) (Ok h) = rw p at e in
        let f : head_of s ≡ h = cc in
        rw (← f) (record { fine = p; nodes = refl; root = refl; links = refl })
    go (Err r) p =
        let q : ◌≡◌ {A = Result Head Refusal} (Err r) (Ok h) = rw p at e in
        let z : ◌≡◌ {A = ℕ} 0 1 = cc in
        absurd (omega arith)

-- and of one that it refuses
pub refusal_found : (s : List ℕ) (r : Refusal) → read_answer s ≡ Err r → verdict_of s ≡ Err r
unfolding read_answer
refusal_found s r e = go (verdict_of s) refl
  where
    go : (v : Verdict) → verdict_of s ≡ v → verdict_of s ≡ Err r
    go (Ok _) p =
        let q : ◌≡◌ {A = Result Head Refusal} (Ok (head_of s)) (Err r) = rw p at e in
        let z : ◌≡◌ {A = ℕ} 0 1 = cc in
        absurd (omega arith)
    go (Err x) p =
        let q : ◌≡◌ {A = Result Head Refusal} (Err x) (Err r) = rw p at e in
        let y : x ≡ r = cc in
        p ∙ ap Err y
