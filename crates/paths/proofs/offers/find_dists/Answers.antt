-- The distances are made ready and every node is settled.
use Rattle.table.specs.Lent.{links_in}
use Rattle.paths.proofs.TurnLaws.{dists_found}
use Rattle.paths.proofs.offers.find_dists.Goals as goal

pub returns : goal.returns
returns c = dists_found (links_in c.args.links.now) _ _ c.requires _ c.start.ensures _ c.settle_nodes.ensures.nearer
