-- The answer is by the first test that refuses, and by the way in the file's park where none does.
use Rattle.std.proofs.Common.{arith}
use Rattle.answers.proofs.VerdictLaws.{exit}
use Rattle.park.proofs.CheckedLaws.{refusal_found}
use Rattle.way.proofs.WayFileLaws.{way_refused, way_no_node, way_above, way_told}
use Rattle.way.proofs.way.Goals as goal
use Rattle.way.proofs.way.Goals.{then-node-lt1-via-then-node-lt1, then-node-lt1-via-else-node-lt1+then-read-node}

pub returns-in_err-read : goal.returns-in_err-read
returns-in_err-read c = exit c.from_residual.ensures.1 (way_refused _ _ _ (refusal_found _ _ c.in_err-read.ensures))

pub returns-then-node-lt1 : goal.returns-then-node-lt1
returns-then-node-lt1 c =
    let read = c.in_ok-read.read.read_as in
    rw (← c.in_ok-read.ensures)
    (elim c.then-node-lt1.branch [
      | then-node-lt1-via-then-node-lt1 w ↦ way_no_node _ _ read.fine w.if-node-lt1.true
      | then-node-lt1-via-else-node-lt1+then-read-node w ↦
          way_above _ _ read.fine w.if-node-lt1.false (omega (arith, read.nodes, w.if-read-node.true))
    ])

pub returns : goal.returns
returns c =
    let read = c.in_ok-read.read.read_as in
    rw (← c.in_ok-read.ensures)
    (way_told _ _ read.fine _ c.if-node-lt1.false (omega (arith, read.nodes, c.if-read-node.false)) c.way_in.ensures)
