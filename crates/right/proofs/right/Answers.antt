-- The run tells whether the file is refused, and if not whether its table is exact.
use Rattle.right.proofs.RightLaws.{by_refusal, by_run}
use Rattle.right.proofs.right.Goals as goal

pub returns-in_err-ran : goal.returns-in_err-ran
returns-in_err-ran c = by_refusal c.args.file.now _ c.in_err-ran.ensures.answered c.from_residual.ensures.1

pub returns : goal.returns
returns c = by_run c.args.file.now (λ i. (c.type_inv.file i).fits) _ c.in_ok-ran.ensures.answered
