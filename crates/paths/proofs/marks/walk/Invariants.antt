-- What the walk from here leaves is what the whole of it leaves.
use Rattle.std.proofs.Common.{◌≡◌, length, ◌-◌}
use Rattle.paths.specs.Walk.{walked}
use Rattle.paths.proofs.marks.walk.Given as goal

abbrev pub invariant-loop-hop : goal.invariant-loop-hop
invariant-loop-hop l = walked l.parents (length l.fn.marks - l._hop) l.marks l.here ≡ walked l.parents (length l.fn.marks) l.fn.marks l.node
