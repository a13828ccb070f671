-- Each step of the code is the next step of the definition.
use Rattle.park.specs.Reading.{head_in}
use Rattle.answers.proofs.VerdictLaws.{exit, refused_first, fine_first}
use Rattle.std.proofs.Common.{◌∙◌}
use Rattle.reader.proofs.fields.Fields.first.Goals as goal

pub returns-in_err-field : goal.returns-in_err-field
unfolding head_in
returns-in_err-field c = exit c.from_residual.ensures.1 (refused_first _ c.in_err-field.ensures)

pub returns : goal.returns
unfolding head_in
returns c =
    let h = c.args.self.now in
    rw (← h.nodes, ← h.root) (c.bounds.ensures ∙ fine_first _ c.in_ok-field.ensures)
