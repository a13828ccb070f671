-- The root has no parent, and any other node the sender of the arc that its search keeps.
use Rattle.std.proofs.Common.{refl, sym, ◌∙◌}
use Rattle.round.proofs.ParentByLaws.{by_root, by_search}
use Rattle.round.proofs.parent.parent_by.Goals as goal

pub returns-then-from-node : goal.returns-then-from-node
returns-then-from-node c = by_root _ _ _ _ (sym c.from.ensures ∙ c.if-from-node.true)

pub returns : goal.returns
returns c = by_search _ _ _ _ _ _ _ (λ e. c.if-from-node.false (c.from.ensures ∙ e)) c.pass_links.ensures refl refl
