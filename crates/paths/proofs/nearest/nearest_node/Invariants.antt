-- The node that stands is the one that the definition has there, and its distance is kept.
use Rattle.paths.proofs.StandingLaws.{Standing}
use Rattle.paths.proofs.nearest.nearest_node.Given as goal

abbrev pub invariant-loop-at : goal.invariant-loop-at
invariant-loop-at l = Standing (record { dists = l.dists; done = l.done }) l.at l.best l.least
