-- Each turn writes one parent more.
use Rattle.paths.proofs.TableFoundLaws.{parents_next, parents_end}
use Rattle.paths.proofs.find_parents.Goals as goal

pub loop-at-preserved : goal.loop-at-preserved
loop-at-preserved c = parents_next _ _ _ c.args.parents.now _ _ c.loop-at.invariant c.loop-at-test.true _ c.parent_by.ensures

pub returns : goal.returns
returns c = parents_end _ _ _ c.args.parents.now _ _ c.loop-at.invariant c.loop-at-test.false
