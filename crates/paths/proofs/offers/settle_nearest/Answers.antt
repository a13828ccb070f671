-- All nodes are settled, or the nearest one now is.
use Rattle.std.proofs.Common.{arith}
use Rattle.table.specs.Lent.{links_in}
use Rattle.paths.proofs.NearestLaws.{nearest_within}
use Rattle.paths.proofs.TurnLaws.{settle_none, settle_one}
use Rattle.paths.proofs.offers.settle_nearest.Goals as goal

pub bounds-done-node : goal.bounds-done-node
bounds-done-node c = omega (arith, nearest_within _ _ c.in-Some.ensures, c.requires)

pub returns-in-Some : goal.returns-in-Some
returns-in-Some c = record { nearer = settle_one (links_in c.args.links.now) _ _ c.in-Some.ensures _ c.offer_all.ensures.offered }

pub returns-in_default : goal.returns-in_default
returns-in_default c = record { nearer = settle_none _ _ c.in_default.ensures }
