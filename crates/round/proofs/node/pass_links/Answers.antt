-- Each turn takes one link off: its arc is heard, or the node is no end of it.
use Rattle.std.proofs.Common.{refl, sym, ◌∙◌}
use Rattle.round.proofs.ScanLaws.{passing_some, passing_none, passing_end}
use Rattle.round.proofs.node.pass_links.Goals.{in-Some, in_default}
use Rattle.round.proofs.node.pass_links.Goals as goal

pub loop-at-preserved : goal.loop-at-preserved
loop-at-preserved c =
    elim c.match-other_end.branch [
      | in-Some w ↦ passing_some _ _ _ _ c.args.links.now c.loop-at.invariant _ c.shortest-at-end.ensures refl refl c.loop-at-test.true
          (sym c.other_end.ensures ∙ w.in-Some.is) w.from.ensures (w.best-is ∙ w.hear_arc-best.ensures)
      | in_default w ↦ passing_none _ _ _ _ c.args.links.now c.loop-at.invariant _ c.shortest-at-end.ensures c.loop-at-test.true
          (sym c.other_end.ensures ∙ w.in_default.is) w.best-is
    ]

pub returns : goal.returns
returns c = passing_end _ _ _ _ c.args.links.now c.loop-at.invariant _ c.shortest-at-end.ensures c.loop-at-test.false
