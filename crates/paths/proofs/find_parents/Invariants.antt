-- The parents are written up to the place that the loop has come to.
use Rattle.std.proofs.Common.{◌≡◌, length}
use Rattle.table.specs.Lent.{links_in}
use Rattle.table.proofs.SliceLaws.{over}
use Rattle.paths.specs.Found.{parents_by}
use Rattle.paths.proofs.find_parents.Given as goal

abbrev pub invariant-loop-at : goal.invariant-loop-at
invariant-loop-at l = l.parents ≡ over (parents_by l.root (links_in l.links) l.dists (length l.fn.parents)) l.at l.fn.parents
