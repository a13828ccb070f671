-- From the node, with no hop done and as many allowed as there are nodes.
use Rattle.way.specs.Way.{way_of}
use Rattle.way.proofs.steps.Tree.way_of.Goals as goal

pub returns : goal.returns
unfolding way_of
returns c = record { led = rw (c.follow-outcome.ensures, c.most.ensures) }
