-- Each turn takes one link off; there are as many as the shortest slice has. A link that does not have the node for an end changes nothing.
use Rattle.std.proofs.Common.{sym, ◌∙◌}
use Rattle.paths.specs.Offers.{lowered}
use Rattle.paths.proofs.TurnLaws.{offer_next, offer_end}
use Rattle.paths.proofs.offers.offer_all.Goals.{in-Some, in_default}
use Rattle.paths.proofs.offers.offer_all.Goals as goal

pub loop-at-preserved : goal.loop-at-preserved
unfolding lowered
loop-at-preserved c =
    elim c.match-other_end.branch [
      | in-Some w ↦ offer_next _ _ _ _ _ _ _ _ c.loop-at.invariant _ c.shortest-at-end.ensures c.loop-at-test.true
          (sym w.in-Some.is ∙ c.other_end.ensures) (w.dists-is ∙ w.offer_to.ensures)
      | in_default w ↦ offer_next _ _ _ _ _ _ _ _ c.loop-at.invariant _ c.shortest-at-end.ensures c.loop-at-test.true
          (sym w.in_default.is ∙ c.other_end.ensures) w.dists-is
    ]

pub returns : goal.returns
returns c = record { offered = offer_end _ _ _ _ _ _ _ _ c.loop-at.invariant _ c.shortest-at-end.ensures c.loop-at-test.false }
