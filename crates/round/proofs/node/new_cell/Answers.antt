-- The search has heard all arcs, so its answer and the mark are those of the rule's new cell.
use Rattle.std.proofs.Common.{sym, ◌∙◌}
use Rattle.round.proofs.CellLaws.{slices_root, slices_other}
use Rattle.round.proofs.node.new_cell.Goals as goal

pub returns-then-from-node : goal.returns-then-from-node
returns-then-from-node c =
    slices_root c.args.net.now _ _ _ c.requires c.args.node
    _ c.pass_links-best.ensures _ c.new_mark-mark.ensures (sym c.from.ensures ∙ c.if-from-node.true)

pub returns : goal.returns
returns c =
    slices_other c.args.net.now _ _ _ c.requires c.args.node
    _ c.pass_links-best.ensures _ c.new_mark-mark.ensures (λ e. c.if-from-node.false (c.from.ensures ∙ e))
