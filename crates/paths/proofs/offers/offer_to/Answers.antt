-- A law for each way out.
use Rattle.std.proofs.Common.{arith}
use Rattle.measure.specs.Measure.{plus}
use Rattle.paths.proofs.TurnLaws.{lower_zero, lower_at, lower_out}
use Rattle.paths.proofs.offers.offer_to.Goals as goal

pub returns-then-node-eq0 : goal.returns-then-node-eq0
returns-then-node-eq0 c = lower_zero _ _ _ c.if-node-eq0.true

pub returns-then-at-dists : goal.returns-then-at-dists
returns-then-at-dists c =
    rw (← lower_at c.args.dists.now (plus c.args.dist.0 c.args.cost) c.args.node c.if-node-eq0.false) cc

pub returns-else-at-dists : goal.returns-else-at-dists
returns-else-at-dists c = lower_out _ _ _ c.if-node-eq0.false (omega arith)
