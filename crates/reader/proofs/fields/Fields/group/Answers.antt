-- Each step of the code is the next step of the definition.
use Rattle.park.specs.Reading.{group_in}
use Rattle.answers.specs.Verdicts.{unless, ◌then◌}
use Rattle.answers.proofs.VerdictLaws.{exit, refused_first}
use Rattle.std.proofs.Common.{sym, ◌∙◌}
use Rattle.reader.proofs.fields.Fields.group.Goals as goal

pub returns-in_err-field : goal.returns-in_err-field
unfolding group_in
returns-in_err-field c =
    rw (← c.args.self.now.links, ← c.group_at-at.ensures) (exit c.from_residual.ensures.1 (refused_first _ c.in_err-field.ensures))

pub returns-then-bits : goal.returns-then-bits
unfolding group_in unless ◌then◌
returns-then-bits c =
    let h = c.args.self.now in
    simp (sym h.nodes, sym h.links)
    (simp (sym c.group_at-at.ensures) (simp (sym c.in_ok-field.ensures, sym c.bits.ensures ∙ c.if-bits.true)))

pub returns : goal.returns
unfolding group_in unless ◌then◌
returns c =
    let h = c.args.self.now in
    simp (sym h.nodes, sym h.links)
    (simp (sym c.group_at-at.ensures) (simp (sym c.in_ok-field.ensures, sym c.bits.ensures ∙ c.if-bits.false)))
