-- A round leaves the stored table alone exactly when it is exact, so that a run of no rounds decides what Right answers.
use Prim.Native.Nat.{ℕ, ◌≤◌}
use Rattle.run.specs.Run.{ready_for, end_of, run_verdict, run_answer}
use Rattle.std.specs.Prelude.{Result, Ok, Err, IsErrAnd}
use Rattle.answers.specs.declared.Ran.{Ran}
use Rattle.answers.proofs.VerdictLaws.{exit}
use Rattle.area.specs.Area.{room_for}
use Rattle.right.specs.Right.{Judged}
use Rattle.park.proofs.ParkLaws.{fine_ok}
use Rattle.park.proofs.RoundTrip.{file_read}
use Rattle.park.specs.ParkFile.{park_in}
use Rattle.answers.specs.Verdicts.{Verdict, fine, unless, ◌then◌}
use Rattle.park.specs.Reading.{verdict_of, file_in}
use Rattle.answers.specs.declared.refusal.Refusal.{Refusal}
use Rattle.rule.proofs.Demand3 as demand3
use Rattle.rule.specs.Exact.{Exact}
use Rattle.rule.specs.Round.{net_of}
use Rattle.rule.specs.Settles.{ParkOk}
use Rattle.round.proofs.RunLaws.{quiet_is}
use Rattle.round.specs.Run.{quiet, run_of}
use Rattle.wire.specs.Big.{Bytes}
use borrow.Author.Tests.{le-leb}
use lib.ListN.{length}
use mathlib.Core.Bool.{Bool, true, false, true≢false}
use mathlib.Core.List.{List}
use mathlib.Core.Path.{◌≡◌, refl, sym, ap, ◌∙◌}
use native.Mathlib.Omega.{arith}

-- whether a round leaves the stored table alone
abbrev quiet_in : List ℕ → Bool
quiet_in s = quiet (net_of (park_in (file_in s))) (file_in s).nodes (file_in s).state

-- whether the stored table is exact
abbrev ExactIn : List ℕ → Type 0
ExactIn s = Exact (park_in (file_in s)) (file_in s).state

module _ (s : List ℕ) (b : Bytes s) (taken : verdict_of s ≡ fine) where
  ok : ParkOk (park_in (file_in s))
  ok = fine_ok s b taken

  quiet_exact : quiet_in s ≡ true → ExactIn s
  unfolding park_in
  quiet_exact q = (demand3.quiet ok (file_in s).state).0 ((quiet_is _ _ _).0 q)

  exact_quiet : ExactIn s → quiet_in s ≡ true
  unfolding park_in
  exact_quiet x = (quiet_is _ _ _).1 ((demand3.quiet ok (file_in s).state).1 x)

  exact? : Dec (ExactIn s)
  exact? = go (quiet_in s) refl
    where
      go : (q : Bool) → quiet_in s ≡ q → Dec (ExactIn s)
      go true e = yes (quiet_exact e)
      go false e = no (λ x. true≢false (sym (exact_quiet x) ∙ e))

-- a file is not both refused and not
never : {A : Type 0} (s : List ℕ) (v : Refusal) → verdict_of s ≡ fine → verdict_of s ≡ Err v → A
never s v e f = let z : ◌≡◌ {A = ℕ} 0 1 = cc in absurd (omega arith)

judged_refused : (s : List ℕ) (v : Refusal) → verdict_of s ≡ Err v → Judged s (Err v)
judged_refused s v e =
    record { refused = λ w f. same w f; yes = λ f x. never s v f e; no = λ f x. never s v f e }
  where
    same : (w : Refusal) → verdict_of s ≡ Err w → ◌≡◌ {A = Result Bool Refusal} (Err v) (Err w)
    same w f = let z : v ≡ w = cc in ap (λ (u : Refusal). Err u) z

judged_yes : (s : List ℕ) → Bytes s → verdict_of s ≡ fine → quiet_in s ≡ true → Judged s (Ok true)
judged_yes s b e q =
    record { refused = λ v f. never s v e f; yes = λ f x. refl; no = λ f x. absurd (x (quiet_exact s b e q)) }

judged_no : (s : List ℕ) → Bytes s → verdict_of s ≡ fine → quiet_in s ≡ false → Judged s (Ok false)
judged_no s b e q =
    record { refused = λ v f. never s v e f; yes = λ f x. absurd (true≢false (sym (exact_quiet s b e x) ∙ q)); no = λ f x. refl }

-- any two answers that are allowed for a file coincide
pub right_one : (s : List ℕ) → Bytes s → (r r' : Result Bool Refusal) → Judged s r → Judged s r' → r ≡ r'
right_one s b r r' j j' = go (verdict_of s) refl
  where
    by : verdict_of s ≡ fine → Dec (ExactIn s) → r ≡ r'
    by e (yes x) = j.yes e x ∙ sym (j'.yes e x)
    by e (no x) = j.no e x ∙ sym (j'.no e x)

    go : (v : Verdict) → verdict_of s ≡ v → r ≡ r'
    go (Ok _) e = by e (exact? s b e)
    go (Err v) e = j.refused v e ∙ sym (j'.refused v e)

-- no file is longer than the area
small : (s : List ℕ) → verdict_of s ≡ fine → length s ≤ 7984
small s taken = let r = file_read s taken in omega (arith, r.end, r.few, r.links.most)

-- a run of no rounds is refused where the file is
run_refused : (s : List ℕ) (v : Refusal) → verdict_of s ≡ Err v → run_answer s 0 7984 0 ≡ Err v
unfolding run_answer run_verdict ready_for ◌then◌
run_refused s v e = simp e

-- and else answers whether a round leaves the stored table alone
run_none : (s : List ℕ) → verdict_of s ≡ fine → run_answer s 0 7984 0 ≡ Ok (record { rounds = record { 0 = 0 }; quiet = quiet_in s })
unfolding run_answer run_verdict ready_for ◌then◌ room_for unless end_of run_of
run_none s e = simp (e, le-leb _ _ (small s e))

-- what the run answered tells what Right has to answer
pub by_refusal : (s : List ℕ) {x : Result Bool Refusal} (v : Refusal) → Err v ≡ run_answer s 0 7984 0 → IsErrAnd x (λ y. y ≡ v) → Judged s x
by_refusal s v e x = rw (exit x refl) (go (verdict_of s) refl)
  where
    go : (w : Verdict) → verdict_of s ≡ w → Judged s (Err v)
    go (Ok _) f =
        let d = e ∙ run_none s f in
        let z : ◌≡◌ {A = ℕ} 0 1 = cc in
        absurd (omega arith)
    go (Err w) f =
        let d = e ∙ run_refused s w f in
        let z : v ≡ w = cc in
        judged_refused s v (f ∙ ap (λ (u : Refusal). Err u) (sym z))

by_quiet : (s : List ℕ) (r : Ran) → Ok r ≡ run_answer s 0 7984 0 → (verdict_of s ≡ fine) × (quiet_in s ≡ r.quiet)
by_quiet s r e = go (verdict_of s) refl
  where
    go : (w : Verdict) → verdict_of s ≡ w → (verdict_of s ≡ fine) × (quiet_in s ≡ r.quiet)
    go (Ok _) f =
        let d = e ∙ run_none s f in
        let z : r ≡ record { rounds = record { 0 = 0 }; quiet = quiet_in s } = cc in
        (f, ap (λ (x : Ran). x.quiet) (sym z))
    go (Err w) f =
        let d = e ∙ run_refused s w f in
        let z : ◌≡◌ {A = ℕ} 0 1 = cc in
        absurd (omega arith)

pub by_run : (s : List ℕ) → Bytes s → (r : Ran) → Ok r ≡ run_answer s 0 7984 0 → Judged s (Ok r.quiet)
by_run s b r e = let d = by_quiet s r e in go r.quiet d.1
  where
    go : (q : Bool) → quiet_in s ≡ q → Judged s (Ok q)
    go true f = judged_yes s b (by_quiet s r e).0 f
    go false f = judged_no s b (by_quiet s r e).0 f
