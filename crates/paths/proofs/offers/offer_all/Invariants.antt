-- What the links from here on leave is what all of them leave.
use Rattle.std.proofs.Common.{◌≡◌, drop}
use Rattle.measure.specs.Measure.{ceiling}
use Rattle.table.specs.Lent.{links_in}
use Rattle.table.specs.Nodes.{node_at}
use Rattle.paths.specs.Offers.{offered_all}
use Rattle.paths.proofs.offers.offer_all.Given as goal

abbrev pub invariant-loop-at : goal.invariant-loop-at
invariant-loop-at l =
    offered_all l.node l.dist.0 l.dists (drop l.at (links_in l.links))
    ≡ offered_all l.node (node_at ceiling l.fn.dists l.node) l.fn.dists (links_in l.links)
