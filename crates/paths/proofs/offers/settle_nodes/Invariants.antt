-- What the turns from here on leave is what all of them leave.
use Rattle.std.proofs.Common.{◌≡◌, length, ◌-◌}
use Rattle.table.specs.Lent.{links_in}
use Rattle.paths.specs.Offers.{settle_nodes}
use Rattle.paths.proofs.offers.settle_nodes.Given as goal

abbrev pub invariant-loop-turn : goal.invariant-loop-turn
invariant-loop-turn l =
    settle_nodes (links_in l.links) (length l.fn.dists - l._turn) (record { dists = l.dists; done = l.done })
    ≡ settle_nodes (links_in l.links) (length l.fn.dists) (record { dists = l.fn.dists; done = l.fn.done })
