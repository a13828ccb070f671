-- Each turn takes one hop off the walk; where no node is left, the rest of it changes nothing.
use Rattle.std.proofs.Common.{◌∙◌}
use Rattle.paths.proofs.MarkLaws.{walk_stop, walk_next, walk_end}
use Rattle.paths.proofs.marks.walk.Goals as goal

pub returns-then-here-eq0 : goal.returns-then-here-eq0
returns-then-here-eq0 c = walk_stop _ _ _ _ _ _ c.loop-hop.invariant c.if-here-eq0.true

pub loop-hop-preserved : goal.loop-hop-preserved
loop-hop-preserved c =
    walk_next _ _ _ _ _ _ c.loop-hop.invariant c.loop-hop-test.true _ c.set_mark.ensures _ (c.from-here.ensures ∙ c.parent_at.ensures)

pub returns : goal.returns
returns c = walk_end _ _ _ _ _ _ c.loop-hop.invariant c.loop-hop-test.false
