-- The answer is the reading's, with the counts of a file that is not refused.
use Rattle.std.proofs.Common.{sym}
use Rattle.answers.proofs.VerdictLaws.{exit}
use Rattle.park.proofs.CheckedLaws.{refusal_found}
use Rattle.summary.specs.Summary.{summary_answer}
use Rattle.summary.proofs.summary.Goals as goal

pub returns-in_err-read : goal.returns-in_err-read
unfolding summary_answer
returns-in_err-read c = exit c.from_residual.ensures.1 (simp (refusal_found _ _ c.in_err-read.ensures))

pub returns : goal.returns
unfolding summary_answer
returns c = rw (← c.in_ok-read.ensures) (simp (c.in_ok-read.read.read_as.fine, sym c.counts_in.ensures))
