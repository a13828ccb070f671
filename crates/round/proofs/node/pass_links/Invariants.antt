-- What the whole search comes to is what the search from the place `at` comes to.
use Rattle.measure.specs.Measure.{ceiling}
use Rattle.table.specs.Nodes.{node_at}
use Rattle.round.proofs.ScanLaws.{Passing}
use Rattle.round.proofs.node.pass_links.Given as goal

abbrev pub invariant-loop-at : goal.invariant-loop-at
invariant-loop-at l = Passing (node_at ceiling l.table.dists.now) (node_at 0 l.table.parents.now) (node_at 0 l.table.marks.now) l.node l.best l.links l.at
