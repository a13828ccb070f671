-- The fields one after the other are the definition's steps.
use Rattle.std.proofs.Common.{◌∙◌}
use Rattle.park.specs.Reading.{verdict_of}
use Rattle.answers.proofs.VerdictLaws.{exit, refused_first, fine_first}
use Rattle.reader.proofs.fields.Fields.verdict.Goals as goal

pub returns-in_err-first : goal.returns-in_err-first
unfolding verdict_of
returns-in_err-first c = exit c.from_residual.ensures.1 (refused_first _ c.in_err-first.ensures)

pub returns-in_err-links : goal.returns-in_err-links
unfolding verdict_of
returns-in_err-links c =
    exit c.from_residual-in_err-links.ensures.1 (refused_first _ c.in_err-links.ensures ∙ fine_first _ c.in_ok-first.ensures)

pub returns-in_err-group : goal.returns-in_err-group
unfolding verdict_of
returns-in_err-group c =
    exit c.from_residual-in_err-group.ensures.1
    (refused_first _ c.in_err-group.ensures ∙ fine_first _ c.in_ok-links.ensures ∙ fine_first _ c.in_ok-first.ensures)

pub returns-in_err-state : goal.returns-in_err-state
unfolding verdict_of
returns-in_err-state c =
    exit c.from_residual-in_err-state.ensures.1
    (refused_first _ c.in_err-state.ensures ∙ fine_first _ c.in_ok-group.ensures ∙ fine_first _ c.in_ok-links.ensures ∙ fine_first _ c.in_ok-first.ensures)

pub returns : goal.returns
unfolding verdict_of
returns c =
    c.end.ensures ∙ fine_first _ c.in_ok-state.ensures ∙ fine_first _ c.in_ok-group.ensures ∙ fine_first _ c.in_ok-links.ensures ∙ fine_first _ c.in_ok-first.ensures
