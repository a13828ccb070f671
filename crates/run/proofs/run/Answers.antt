-- The file's own refusal comes first, then those before the rounds; behind them is what the run of the file that was read answers.
use Rattle.std.proofs.Common.{ℕ, List, length, sym, ap, subst, ◌∙◌}
use Rattle.park.specs.Reading.{ReadAs}
use Rattle.run.specs.Run.{ready_for}
use Rattle.run.specs.Ends.{Ends}
use Rattle.run.proofs.RunFileLaws.{file_refused, run_refused, run_ready, ready_room}
use Rattle.run.proofs.run.Goals as goal

pub returns-in_err-read : goal.returns-in_err-read
returns-in_err-read c =
    let a = c.args in
    let both = file_refused a.file.now a.area.now a.count.0 a.place _ c.in_err-read.ensures c.from_residual.ensures.1 in
    record { answered = both.0; written = both.1 }

pub returns-in_err-ready : goal.returns-in_err-ready
returns-in_err-ready c =
    let a = c.args in
    let h = c.in_ok-read.read in
    let read = subst (λ (s : List ℕ). ReadAs s h.head) c.in_ok-read.ensures h.read_as in
    let both = run_refused a.file.now a.area.now a.count.0 a.place h.head read _ c.in_err-ready.ensures c.from_residual-in_err-ready.ensures.1 in
    record { answered = both.0; written = both.1 }

pub returns : goal.returns
returns c =
    let a = c.args in
    let h = c.in_ok-read.read in
    let e = c.in_ok-read.ensures in
    let read = subst (λ (s : List ℕ). ReadAs s h.head) e h.read_as in
    let ends = subst (λ (s : List ℕ). Ends c.run_read.result s a.count.0 a.area.now a.place c.run_read.new.area) e c.run_read.ensures in
    let both = run_ready a.file.now a.area.now a.count.0 a.place h.head read _ _ c.in_ok-ready.ensures ends in
    record { answered = both.0; written = both.1 }

pub run_read-requires : goal.run_read-requires
run_read-requires c =
    let a = c.args in
    let e = c.in_ok-ready.ensures ∙ ap (λ (s : List ℕ). ready_for a.count.0 (length s) (length a.area.now) a.place) (sym c.in_ok-read.ensures) in
    ready_room _ _ _ _ e
