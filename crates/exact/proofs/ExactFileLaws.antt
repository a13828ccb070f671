-- The table that is found is the exact one, and a park has no other, so that the area holds the file that Exact promises.
use Prim.Native.Nat.{ℕ, ◌+◌, ◌≤◌, min}
use Rattle.measure.specs.Measure.{most_links}
use Rattle.std.specs.Prelude.{Result, Ok, Err, IsErrAnd}
use Rattle.answers.specs.declared.Head.{Head}
use Rattle.answers.specs.Verdicts.{Verdict, fine, ◌then◌}
use Rattle.answers.proofs.VerdictLaws.{exit, then_fine}
use Rattle.answers.specs.declared.refusal.Refusal.{Refusal}
use Rattle.rule.proofs.Demand3.{exists, unique}
use Rattle.rule.specs.Exact.{Exact}
use Rattle.rule.specs.Round.{Link, Cell, Park}
use Rattle.rule.specs.Settles.{ParkOk}
use Rattle.table.proofs.PartLaws.{again, sets_take}
use Rattle.table.specs.Slices.{lows_of, highs_of, costs_of, cells_of, park_of}
use Rattle.paths.proofs.TableFoundLaws.{table_exact}
use Rattle.paths.specs.Found.{Found}
use Rattle.reader.proofs.ApartLaws.{park_here}
use Rattle.reader.specs.Words.{column, little}
use Rattle.park.proofs.RecordLaws.{length_links}
use Rattle.park.proofs.ParkLaws.{fine_ok, fine_sizes}
use Rattle.park.specs.Layout.{head_size, first_link, group_at, first_cell}
use Rattle.park.specs.ParkFile.{park_in, state_bytes, encode, with_state}
use Rattle.park.specs.Reading.{verdict_of, file_in, links_read, nodes_in, root_in, link_count, ReadAs, read_answer}
use Rattle.park.proofs.CheckedLaws.{refusal_found}
use Rattle.area.proofs.AreaLaws.{state_file}
use Rattle.area.specs.Area.{room_for, area_with}
use Rattle.exact.specs.Exact.{exact_verdict, FoundIn, Exacted}
use Rattle.wire.specs.Big.{Bytes}
use lib.ListN.{length, take, drop, length-map}
use lib.Seq.{sets}
use mathlib.Core.List.{List, ◌++◌, map}
use mathlib.Core.Path.{◌≡◌, refl, sym, ap, ap₂, subst, ◌∙◌}
use native.Mathlib.Omega.{arith}

-- a file that is refused leaves the area as it was
pub exact_refused : (s old : List ℕ) (place : ℕ) {x : Result (Unit {0}) Refusal} (v : Refusal) → read_answer s ≡ Err v → IsErrAnd x (λ y. y ≡ v)
    → Exacted s old place x old
unfolding exact_verdict ◌then◌
exact_refused s old place v e x =
    let r = refusal_found s v e in
    record { answer = exit x (simp r); untouched = λ u f. refl; written = λ f t y. never r f }
  where
    never : {A : Type 0} → verdict_of s ≡ Err v → (verdict_of s then room_for (length s) (length old) place) ≡ fine → A
    never r f = let g : verdict_of s ≡ fine = (then_fine (verdict_of s) (room_for (length s) (length old) place) f).0 in let z : ◌≡◌ {A = ℕ} 0 1 = cc in absurd (omega arith)

-- for any other the room decides
module _ (s : List ℕ) (b : Bytes s) (h : Head) (read : ReadAs s h) (old new : List ℕ) (place : ℕ) (v : Verdict)
    (room : v ≡ room_for (length s) (length old) place)
    (put : (e : List Cell) → Exact (park_in (file_in s)) e → new ≡ area_with v (encode (with_state (file_in s) e)) place old) where
  verdict_is : exact_verdict s (length old) place ≡ v
  unfolding exact_verdict ◌then◌
  verdict_is = simp read.fine (sym room)

  area_is : (u : Verdict) → exact_verdict s (length old) place ≡ u → (e : List Cell) → Exact (park_in (file_in s)) e → new ≡ area_with u (encode (with_state (file_in s) e)) place old
  area_is u h e x = put e x ∙ ap (λ (y : Verdict). area_with y (encode (with_state (file_in s) e)) place old) (sym verdict_is ∙ h)

  pub exact_put : Exacted s old place v new
  unfolding area_with
  exact_put =
      let t = exists (fine_ok s b read.fine) in
      record { answer = sym verdict_is; untouched = λ u h. area_is (Err u) h t.0 t.1; written = λ h. area_is fine h }

-- any two outcomes that are allowed for a file and an area coincide
pub exact_one : (s old : List ℕ) (place : ℕ) → Bytes s → (r r' : Result (Unit {0}) Refusal) (new new' : List ℕ)
    → Exacted s old place r new → Exacted s old place r' new' → (r ≡ r') × (new ≡ new')
unfolding exact_verdict
exact_one s old place b r r' new new' x y = (x.answer ∙ sym y.answer, go (exact_verdict s (length old) place) refl)
  where
    taken : exact_verdict s (length old) place ≡ fine → verdict_of s ≡ fine
    taken e = (then_fine _ _ e).0

    go : (v : Verdict) → exact_verdict s (length old) place ≡ v → new ≡ new'
    go (Ok _) e =
        let t = exists (fine_ok s b (taken e)) in
        x.written e t.0 t.1 ∙ sym (y.written e t.0 t.1)
    go (Err v) e = x.untouched v e ∙ sym (y.untouched v e)

-- what is found in the first parts of arrays into which a park was taken is what is found for it
module _ (s : List ℕ) (h : Head) (c l : ℕ) (few : c ≡ min most_links h.links) (all : l ≡ c) where
  link_front : (f : Link → ℕ) (old new : List ℕ) → l ≤ length old → new ≡ sets old 0 (map f (links_read s first_link c)) → take l new ≡ map f (links_read s first_link (min most_links h.links))
  link_front f old new room put =
      ap₂ take all put
      ∙ sets_take old _ c (length-map (links_read s first_link c) f ∙ length_links s first_link c) (omega arith)
      ∙ ap (λ (k : ℕ). map f (links_read s first_link k)) few

  pub found_here : (zl zh zc lows highs costs ws ds ps ms ds' ps' ms' : List ℕ) → (l ≤ length zl) × (l ≤ length zh) × (l ≤ length zc)
      → (lows ≡ sets zl 0 (lows_of (links_read s first_link c))) × (highs ≡ sets zh 0 (highs_of (links_read s first_link c))) × (costs ≡ sets zc 0 (costs_of (links_read s first_link c)))
      × (ws ≡ column (little 8 s) (group_at c + head_size) 8 4)
      → Found h.root (take l lows) (take l highs) (take l costs) ws ds ps ms ds' ps' ms' → FoundIn s h ds ps ms ds' ps' ms'
  found_here zl zh zc lows highs costs ws ds ps ms ds' ps' ms' room put found =
      let low = link_front (λ (x : Link). x.low) zl lows room.0 put.0 in
      let high = link_front (λ (x : Link). x.high) zh highs room.1 put.1 in
      let cost = link_front (λ (x : Link). x.cost) zc costs room.2 put.2 in
      let words = put.3 ∙ ap (λ (k : ℕ). column (little 8 s) (group_at k + head_size) 8 4) few in
      rw (low, high, cost, words) at found

-- what is found in slices of a file's nodes is its exact table
pub found_table : (s : List ℕ) → Bytes s → (h : Head) → ReadAs s h → (d p m ds ps ms : List ℕ)
    → (length d ≡ nodes_in s) × (length p ≡ nodes_in s) × (length m ≡ nodes_in s) → FoundIn s h d p m ds ps ms → Exact (park_in (file_in s)) (cells_of ds ps ms)
unfolding file_in
found_table s b h read d p m ds ps ms size found =
    let sizes = fine_sizes s read.fine in
    let count : min most_links h.links ≡ link_count s = omega (arith, sizes.links, read.links) in
    let here : (k : ℕ) → Park = λ k. park_of (nodes_in s) (root_in s) (lows_of (links_read s first_link k)) (highs_of (links_read s first_link k)) (costs_of (links_read s first_link k)) (column (little 8 s) (group_at k + head_size) 8 4) in
    let park : here (link_count s) ≡ park_in (file_in s) = park_here s b read.fine in
    let own : Found (root_in s) (lows_of (links_read s first_link (link_count s))) (highs_of (links_read s first_link (link_count s))) (costs_of (links_read s first_link (link_count s))) (column (little 8 s) (group_at (link_count s) + head_size) 8 4) d p m ds ps ms =
    rw (count, read.root) at found in
    subst (λ (q : Park). Exact q (cells_of ds ps ms)) park
    (table_exact (root_in s) (nodes_in s) _ _ _ _ d p m ds ps ms sizes.nodes size.0 size.1 size.2 (subst ParkOk (sym park) (fine_ok s b read.fine)) own)

-- the exact table that was left in the first n of three arrays goes into the file, and a park has no other
pub exact_placed : (s old new zd ds zp ps zm ms : List ℕ) (place n : ℕ) (h : Head) (v : Verdict) → Bytes s → ReadAs s h
    → Exact (park_in (file_in s)) (cells_of ds ps ms)
    → (length ds ≡ length (take n zd)) × (length ps ≡ length (take n zp)) × (length ms ≡ length (take n zm))
    → (n ≤ length zd) × (n ≤ length zp) × (n ≤ length zm)
    → new ≡ area_with v (sets s (first_cell h.links) (state_bytes (cells_of (take n (ds ++ drop n zd)) (take n (ps ++ drop n zp)) (take n (ms ++ drop n zm))))) place old
    → (e : List Cell) → Exact (park_in (file_in s)) e → new ≡ area_with v (encode (with_state (file_in s) e)) place old
unfolding park_in file_in
exact_placed s old new zd ds zp ps zm ms place n h v b read x kept few put e y =
    let d = again n ds zd kept.0 few.0 in
    let p = again n ps zp kept.1 few.1 in
    let m = again n ms zm kept.2 few.2 in
    let table = (λ i. cells_of (d i) (p i) (m i)) ∙ unique (fine_ok s b read.fine) x y in
    put ∙ (λ i. area_with v (sets s (first_cell (read.links i)) (state_bytes (table i))) place old)
    ∙ ap (λ (f : List ℕ). area_with v f place old) (state_file s e b read.fine y.size)
