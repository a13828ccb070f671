-- The measure is the hops still allowed.
use Rattle.way.proofs.steps.Tree.+follow.Given as goal

abbrev pub decreases-follow : goal.decreases-follow
decreases-follow l = l.left.0
