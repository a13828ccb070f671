-- What the members from here on leave is what all of them leave.
use Rattle.std.proofs.Common.{◌≡◌, length, ◌+◌, ◌-◌}
use Rattle.group.specs.Group.{member_in}
use Rattle.paths.specs.Walk.{walked_from}
use Rattle.paths.proofs.marks.walk_members.Given as goal

abbrev pub invariant-loop-node : goal.invariant-loop-node
invariant-loop-node l =
    walked_from (member_in 64 l.words) l.parents (length l.parents + 1 - l.node) l.node l.marks
    ≡ walked_from (member_in 64 l.words) l.parents (length l.parents) 1 l.fn.marks
