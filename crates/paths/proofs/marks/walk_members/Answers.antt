-- Each turn takes one node off.
use Rattle.std.proofs.Common.{sym, ◌∙◌, arith}
use Rattle.paths.proofs.MarkLaws.{pick_true, pick_false, members_next, members_last, members_none}
use Rattle.paths.proofs.marks.walk_members.Goals.{then-is_member, else-is_member}
use Rattle.paths.proofs.marks.walk_members.Goals as goal

pub loop-node-preserved : goal.loop-node-preserved
loop-node-preserved c =
    members_next _ _ _ _ _ _ c.loop-node.invariant c.loop-node-test.true _
    (elim c.if-is_member.branch [
      | then-is_member w ↦ w.marks-is ∙ w.walk.ensures ∙ pick_true _ _ _ (sym c.is_member.ensures ∙ w.if-is_member.true)
      | else-is_member w ↦ w.marks-is ∙ pick_false _ _ _ (sym c.is_member.ensures ∙ w.if-is_member.false)
    ])

pub returns-after-is_member : goal.returns-after-is_member
returns-after-is_member c =
    members_last _ _ _ _ _ _ c.loop-node.invariant (omega arith) _
    (elim c.if-is_member.branch [
      | then-is_member w ↦ w.marks-is ∙ w.walk.ensures ∙ pick_true _ _ _ (sym c.is_member.ensures ∙ w.if-is_member.true)
      | else-is_member w ↦ w.marks-is ∙ pick_false _ _ _ (sym c.is_member.ensures ∙ w.if-is_member.false)
    ])

pub returns : goal.returns
returns c = members_none _ _ _ _ _ _ c.loop-node.invariant c.loop-node-test.false
