-- The round is written up to the place `at`.
use Rattle.table.specs.Slices.{dists_of, parents_of, marks_of}
use Rattle.round.specs.Table.{round_of}
use Rattle.round.proofs.PairLaws.{Filled}
use Rattle.round.proofs.one_round.Given as goal

abbrev pub invariant-loop-at : goal.invariant-loop-at
invariant-loop-at l =
    let t = round_of l.net l.table.dists.now l.table.parents.now l.table.marks.now in
    Filled (dists_of t) (parents_of t) (marks_of t) l.fn.new_dists l.fn.new_parents l.fn.new_marks l.new_dists l.new_parents l.new_marks l.at
