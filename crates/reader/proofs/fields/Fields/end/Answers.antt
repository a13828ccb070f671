-- The one test of the code is the definition's.
use Rattle.std.proofs.Common.{sym}
use Rattle.park.specs.Reading.{end_in}
use Rattle.answers.specs.Verdicts.{unless}
use Rattle.std.proofs.lemmas.Bool.{lt-leb, le-leb}
use Rattle.reader.proofs.fields.Fields.end.Goals as goal

pub returns-then-at-self : goal.returns-then-at-self
unfolding end_in unless
returns-then-at-self c =
    let h = c.args.self.now in
    simp (sym h.nodes, sym h.links) (simp (sym c.end_at-at.ensures) (simp (lt-leb _ _ c.if-at-self.true)))

pub returns : goal.returns
unfolding end_in unless
returns c =
    let h = c.args.self.now in
    simp (sym h.nodes, sym h.links) (simp (sym c.end_at-at.ensures) (simp (le-leb _ _ c.if-at-self.false)))
