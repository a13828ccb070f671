-- A turn writes one node's cell more.
use Rattle.round.proofs.RoundLaws.{round_start, round_next}
use Rattle.round.proofs.one_round.Goals as goal

pub loop-at-init : goal.loop-at-init
loop-at-init c = round_start c.args.net.now _ _ _ _ _ _ c.requires

pub loop-at-preserved : goal.loop-at-preserved
loop-at-preserved c =
    round_next c.args.net.now _ _ _ _ _ _ c.requires _ _ _ _ c.loop-at.invariant c.loop-at-test.true _ _ _ c.write_cell.ensures.written
