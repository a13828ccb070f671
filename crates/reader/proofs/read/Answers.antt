-- The answer is the verdict's, with the three numbers of a file that is not refused.
use Rattle.std.proofs.Common.{sym, ap, ◌∙◌}
use Rattle.park.specs.Reading.{verdict_of, nodes_in, root_in, link_count, read_answer, head_of}
use Rattle.answers.proofs.VerdictLaws.{exit}
use Rattle.reader.proofs.read.Goals as goal

pub returns-in_err-verdict : goal.returns-in_err-verdict
unfolding read_answer
returns-in_err-verdict c =
    exit c.from_residual.ensures.1 (simp (sym (c.in_err-verdict.ensures ∙ ap verdict_of c.new-fields.ensures)))

pub returns : goal.returns
unfolding read_answer head_of
returns c =
    let h = c.new-fields.result in
    let s = c.new-fields.ensures in
    simp (sym (c.in_ok-verdict.ensures ∙ ap verdict_of s), sym (h.nodes ∙ ap nodes_in s), sym (h.root ∙ ap root_in s), sym (h.links ∙ ap link_count s))
