-- Each turn is one less to come.
use Rattle.paths.proofs.TurnLaws.{settle_next, settle_end}
use Rattle.paths.proofs.offers.settle_nodes.Goals as goal

pub loop-turn-preserved : goal.loop-turn-preserved
loop-turn-preserved c = settle_next _ _ _ _ _ c.loop-turn.invariant c.loop-turn-test.true _ c.settle_nearest.ensures.nearer

pub returns : goal.returns
returns c = record { nearer = settle_end _ _ _ _ _ c.loop-turn.invariant c.loop-turn-test.false }
