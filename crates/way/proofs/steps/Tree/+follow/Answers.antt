-- Each way out of it is one of the four ways on from a node.
use Rattle.std.proofs.Common.{sym, ◌∙◌}
use Rattle.way.proofs.FollowLaws.{at_root_lem, no_hop_left, over_hop, broken_here}
use Rattle.way.proofs.steps.Tree.+follow.Goals as goal

pub returns-then-node-self : goal.returns-then-node-self
returns-then-node-self t c = sym (at_root_lem _ _ _ _ _ _ c.if-node-self.true)

pub returns-then-left-eq0 : goal.returns-then-left-eq0
returns-then-left-eq0 t c = sym (no_hop_left _ _ _ _ _ _ c.if-node-self.false c.if-left-eq0.true)

pub returns-then-is_neighbour : goal.returns-then-is_neighbour
returns-then-is_neighbour t c =
    c.follow.ensures ∙ sym (over_hop _ _ _ _ _ _ c.if-node-self.false c.if-left-eq0.false _ c.parent-next.ensures (sym c.if-is_neighbour.true ∙ c.is_neighbour.ensures))

pub returns : goal.returns
returns t c =
    sym (broken_here _ _ _ _ _ _ c.if-node-self.false c.if-left-eq0.false _ c.parent-next.ensures (sym c.if-is_neighbour.false ∙ c.is_neighbour.ensures))
