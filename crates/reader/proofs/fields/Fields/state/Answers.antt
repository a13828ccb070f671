-- The field's place and length are the definition's.
use Rattle.std.proofs.Common.{sym}
use Rattle.park.specs.Reading.{state_in}
use Rattle.reader.proofs.fields.Fields.state.Goals as goal

pub returns : goal.returns
unfolding state_in
returns c =
    let h = c.args.self.now in
    simp (sym h.nodes, sym h.links) (simp (sym c.from-length.ensures, sym c.state_at.ensures) c.field.ensures)
