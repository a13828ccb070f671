-- The tests of the code are the definition's, in its order.
use Rattle.std.proofs.Common.{◌<◌, ◌≤◌, arith}
use Rattle.measure.specs.Measure.{most_nodes}
use Rattle.park.specs.Reading.{bounds_of}
use Rattle.answers.specs.Verdicts.{unless, ◌then◌}
use Rattle.std.proofs.lemmas.Bool.{lt-leb, le-leb}
use Rattle.reader.proofs.fields.bounds.Goals.{then-nodes-lt1-via-then-nodes-lt1, then-nodes-lt1-via-else-nodes-lt1+then-from-gt-NODES, then-nodes-lt1-via-else-nodes-lt1+else-from-gt-NODES+then-root-lt1, then-nodes-lt1-via-else-nodes-lt1+else-from-gt-NODES+else-root-lt1+then-nodes-root}
use Rattle.reader.proofs.fields.bounds.Goals as goal

pub returns-then-nodes-lt1 : goal.returns-then-nodes-lt1
unfolding bounds_of unless ◌then◌
returns-then-nodes-lt1 c =
    elim c.then-nodes-lt1.branch [
      | then-nodes-lt1-via-then-nodes-lt1 w ↦ simp (lt-leb _ _ w.if-nodes-lt1.true)
      | then-nodes-lt1-via-else-nodes-lt1+then-from-gt-NODES w ↦
          let many : most_nodes < c.args.nodes = omega (arith, w.if-from-gt-NODES.true, w.from.ensures) in
          simp (le-leb _ _ w.if-nodes-lt1.false, lt-leb _ _ many)
      | then-nodes-lt1-via-else-nodes-lt1+else-from-gt-NODES+then-root-lt1 w ↦
          let few : c.args.nodes ≤ most_nodes = omega (arith, w.if-from-gt-NODES.false, w.from.ensures) in
          simp (le-leb _ _ w.if-nodes-lt1.false, le-leb _ _ few, lt-leb _ _ w.if-root-lt1.true)
      | then-nodes-lt1-via-else-nodes-lt1+else-from-gt-NODES+else-root-lt1+then-nodes-root w ↦
          let few : c.args.nodes ≤ most_nodes = omega (arith, w.if-from-gt-NODES.false, w.from.ensures) in
          simp (le-leb _ _ w.if-nodes-lt1.false, le-leb _ _ few, le-leb _ _ w.if-root-lt1.false, lt-leb _ _ w.if-nodes-root.true)
    ]

pub returns : goal.returns
unfolding bounds_of unless ◌then◌
returns c =
    let few : c.args.nodes ≤ most_nodes = omega arith in
    simp (le-leb _ _ c.if-nodes-lt1.false, le-leb _ _ few, le-leb _ _ c.if-root-lt1.false, le-leb _ _ c.if-nodes-root.false)
