-- What the run comes to is what it comes to from the table that the slices hold, with the rounds that are left.
use Rattle.round.proofs.StepLaws.{Going}
use Rattle.round.proofs.rounds.run_nodes.Given as goal

abbrev pub invariant-loop-done : goal.invariant-loop-done
invariant-loop-done l =
    Going l.net l.fn.dists l.fn.parents l.fn.marks l.dists l.parents l.marks l.next_dists l.next_parents l.next_marks l.count.0 l.done
