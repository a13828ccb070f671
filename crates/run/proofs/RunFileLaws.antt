-- A run over the slices that a file is taken apart into is the run of the park that the file holds.
use Prim.Native.Nat.{ℕ, ◌+◌, ◌≤◌}
use Rattle.answers.specs.declared.Head.{Head}
use Rattle.std.specs.Prelude.{Result, Ok, Err, IsErrAnd}
use Rattle.reader.proofs.ApartLaws.{park_here}
use Rattle.reader.specs.Words.{column, little}
use Rattle.area.specs.Area.{room_for, area_with}
use Rattle.answers.proofs.VerdictLaws.{exit, then_fine}
use Rattle.park.specs.Layout.{head_size, group_at, first_cell}
use Rattle.park.specs.ParkFile.{park_in, state_bytes}
use Rattle.answers.specs.Verdicts.{Verdict, fine, ◌then◌, by_verdict}
use Rattle.park.specs.Reading.{file_in, nodes_in, link_count, ReadAs, read_answer}
use Rattle.park.proofs.CheckedLaws.{refusal_found}
use Rattle.park.proofs.ParkLaws.{fine_sizes}
use Rattle.park.proofs.RecordLaws.{length_cells}
use Rattle.area.proofs.AreaLaws.{state_file}
use Rattle.answers.specs.declared.refusal.Refusal.{Refusal}
use Rattle.rule.specs.Round.{Cell, net_of}
use Rattle.round.proofs.OverLaws.{run_whole, run_holds}
use Rattle.round.specs.Run.{RunEnd, run_of, run_from, run_over, ran_of}
use Rattle.answers.specs.declared.Ran.{Ran}
use Rattle.run.specs.Ends.{Ends}
use Rattle.run.specs.Run.{end_of, ready_for, rest_for, run_verdict, run_file, run_answer}
use Rattle.table.proofs.PartLaws.{part, again}
use Rattle.table.proofs.TableLaws.{cells_of_lem}
use Rattle.table.specs.Slices.{lows_of, highs_of, costs_of, dists_of, parents_of, marks_of, cells_of, park_of}
use Rattle.table.specs.Lent.{park_over}
use Rattle.table.specs.declared.Net as lent
use Rattle.table.specs.Fit.{Holds, Fronts}
use Rattle.wire.specs.Big.{Bytes}
use lib.ListN.{length, take, drop, length-map}
use lib.Seq.{sets}
use mathlib.Core.List.{List, ◌++◌}
use mathlib.Core.Path.{◌≡◌, sym, ap, ap₂, subst, ◌∙◌}
use native.Mathlib.Omega.{arith}

-- what the run over slices that hold the links, the group and the state of a file answers and leaves
module _ (s : List ℕ) (bytes : Bytes s) (h : Head) (read : ReadAs s h) (N : ℕ) (net : lent.Net) (ds ps ms : List ℕ) (root : net.root ≡ h.root)
    (low : net.links.lows.now ≡ lows_of (file_in s).links) (high : net.links.highs.now ≡ highs_of (file_in s).links) (cost : net.links.costs.now ≡ costs_of (file_in s).links)
    (words : net.words.now ≡ column (little 8 s) (group_at h.links + head_size) 8 4)
    (dist : ds ≡ dists_of (file_in s).state) (parent : ps ≡ parents_of (file_in s).state) (mark : ms ≡ marks_of (file_in s).state) where
  size : length (file_in s).state ≡ nodes_in s
  unfolding file_in
  size = length_cells s (first_cell (link_count s)) (nodes_in s)

  long : length ds ≡ nodes_in s
  long = ap length dist ∙ length-map (file_in s).state (λ (c : Cell). c.dist) ∙ size

  park_is : park_over (length ds) net ≡ park_in (file_in s)
  park_is =
      (λ i. park_of (long i) ((root ∙ read.root) i) (low i) (high i) (cost i) ((words ∙ ap (λ (l : ℕ). column (little 8 s) (group_at l + head_size) 8 4) read.links) i))
      ∙ park_here s bytes read.fine

  table_is : cells_of ds ps ms ≡ (file_in s).state
  table_is = (λ i. cells_of (dist i) (parent i) (mark i)) ∙ cells_of_lem (file_in s).state

  run_is : run_from N 0 net ds ps ms ≡ end_of (file_in s) N
  unfolding end_of file_in
  run_is = λ i. run_of (net_of (park_is i)) (long i) N 0 (table_is i)

  pub ran_apart : (r : Ran) (ds' ps' ms' : List ℕ) → (r ≡ ran_of (run_over N net ds ps ms))
      × Fronts (run_over N net ds ps ms).table ds ps ms ds' ps' ms'
      → (r ≡ ran_of (end_of (file_in s) N)) × Holds (end_of (file_in s) N).table ds' ps' ms'
  ran_apart r ds' ps' ms' a =
      let p : length ps ≡ length ds = ap length parent ∙ length-map (file_in s).state (λ (c : Cell). c.parent) ∙ size ∙ sym long in
      let m : length ms ≡ length ds = ap length mark ∙ length-map (file_in s).state (λ (c : Cell). c.mark) ∙ size ∙ sym long in
      let few : length ds ≤ 256 = omega (arith, long, (fine_sizes s read.fine).nodes) in (
        a.0 ∙ ap ran_of (run_whole N net ds ps ms p m few ∙ run_is),
        subst (λ (o : RunEnd). Holds o.table ds' ps' ms') run_is (run_holds N net ds ps ms p m few ds' ps' ms' a.1),
      )

-- the refusal after the rounds, from what the run over slices answers
rest_by : (s : List ℕ) (N : ℕ) (ran : Ran) (v : Verdict) → ran ≡ ran_of (end_of (file_in s) N) → v ≡ rest_for N ran.quiet
    → rest_for N (end_of (file_in s) N).quiet ≡ v
rest_by s N ran v e f = ap (λ (x : Ran). rest_for N x.quiet) (sym e) ∙ sym f

pub ends_refused : (s old : List ℕ) (N place : ℕ) {e : Result Ran Refusal} (r : Refusal) (ran : Ran) (v : Verdict) → ran ≡ ran_of (end_of (file_in s) N)
    → v ≡ rest_for N ran.quiet → v ≡ Err r → IsErrAnd e (λ y. y ≡ r) → Ends e s N old place old
unfolding area_with
ends_refused s old N place r ran v e f g x =
    let h : rest_for N (end_of (file_in s) N).quiet ≡ Err r = rest_by s N ran v e f ∙ g in
    record {
      answer = exit x (ap (λ (u : Verdict). by_verdict u (Ok (ran_of (end_of (file_in s) N))) Err) (sym h));
      area = ap (λ (u : Verdict). area_with u (run_file s N) place old) (sym h);
    }

-- the bytes of the table that the run came to, in the file
new_file : (s ds ps ms : List ℕ) (N : ℕ) (h : Head) → Bytes s → ReadAs s h
    → Holds (end_of (file_in s) N).table ds ps ms → length ds ≡ nodes_in s → sets s (first_cell h.links) (state_bytes (cells_of ds ps ms)) ≡ run_file s N
unfolding run_file
new_file s ds ps ms N h b read held n =
    let t : List Cell = (end_of (file_in s) N).table in
    let c : cells_of ds ps ms ≡ t = (λ i. cells_of (held.dists i) (held.parents i) (held.marks i)) ∙ cells_of_lem t in
    let m : length t ≡ nodes_in s = sym (length-map t (λ (x : Cell). x.dist)) ∙ ap length (sym held.dists) ∙ n in
    ap₂ (λ (j : ℕ) (x : List Cell). sets s (first_cell j) (state_bytes x)) read.links c ∙ state_file s t b read.fine m

-- the table that the run left in the first n of three arrays goes into the file
pub ends_done : (s old new zd ds zp ps zm ms : List ℕ) (N place n : ℕ) (h : Head) (ran : Ran) (v w : Verdict) → Bytes s → ReadAs s h → n ≡ h.nodes
    → ran ≡ ran_of (end_of (file_in s) N) → v ≡ rest_for N ran.quiet → v ≡ fine → Holds (end_of (file_in s) N).table ds ps ms
    → (length ds ≡ length (take n zd)) × (length ps ≡ length (take n zp)) × (length ms ≡ length (take n zm))
    → (n ≤ length zd) × (n ≤ length zp) × (n ≤ length zm) → room_for (length s) (length old) place ≡ fine → w ≡ room_for (length s) (length old) place
    → new ≡ area_with w (sets s (first_cell h.links) (state_bytes (cells_of (take n (ds ++ drop n zd)) (take n (ps ++ drop n zp)) (take n (ms ++ drop n zm))))) place old
    → Ends (Ok ran) s N old place new
ends_done s old new zd ds zp ps zm ms N place n h ran v w b read en e f g held kept few room put area =
    let o : RunEnd = end_of (file_in s) N in
    let z : fine ≡ rest_for N o.quiet = sym (rest_by s N ran v e f ∙ g) in
    let d = again n ds zd kept.0 few.0 in
    let p = again n ps zp kept.1 few.1 in
    let m = again n ms zm kept.2 few.2 in
    let file = new_file s ds ps ms N h b read held (kept.0 ∙ sym (part n zd few.0) ∙ en ∙ read.nodes) in
    record {
      answer = ap Ok e ∙ ap (λ (u : Verdict). by_verdict u (Ok (ran_of o)) Err) z;
      area = area ∙ (λ i. area_with w (sets s (first_cell h.links) (state_bytes (cells_of (d i) (p i) (m i)))) place old)
          ∙ ap₂ (λ (u : Verdict) (x : List ℕ). area_with u x place old) (put ∙ room ∙ z) file;
    }

-- a call that is refused for its file, one that is refused before its rounds, and one that is not
module _ (s old : List ℕ) (N place : ℕ) where
  abbrev Answered : Result Ran Refusal → Type 0
  Answered x = x ≡ run_answer s N (length old) place

  abbrev Leaves : List ℕ → Type 0
  Leaves new = new ≡ area_with (run_verdict s N (length old) place) (run_file s N) place old

  pub file_refused : {x : Result Ran Refusal} (r : Refusal) → read_answer s ≡ Err r → IsErrAnd x (λ y. y ≡ r) → Answered x × Leaves old
  unfolding run_answer run_verdict area_with ◌then◌
  file_refused r e h = let f = refusal_found s r e in (exit h (simp f), simp f)

  module _ (h : Head) (read : ReadAs s h) where
    pub run_refused : {x : Result Ran Refusal} (r : Refusal) → Err r ≡ ready_for N (length s) (length old) place → IsErrAnd x (λ y. y ≡ r) → Answered x × Leaves old
    unfolding run_answer run_verdict area_with ◌then◌
    run_refused r e h = (exit h (simp (read.fine, sym e)), simp (read.fine, sym e))

    pub run_ready : (new : List ℕ) (r : Result Ran Refusal) → fine ≡ ready_for N (length s) (length old) place → Ends r s N old place new → Answered r × Leaves new
    unfolding run_answer run_verdict ◌then◌
    run_ready new r e h = (rw (read.fine, ← e) h.answer, rw (read.fine, ← e) h.area)

pub ready_room : (N size area place : ℕ) → fine ≡ ready_for N size area place → room_for size area place ≡ fine
unfolding ready_for
ready_room N _ area place e = (then_fine _ _ (sym e)).1
