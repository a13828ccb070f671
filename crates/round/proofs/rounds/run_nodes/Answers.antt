-- A turn ends the run, or takes one round off; after the last one round more tells whether the table rests.
use Rattle.round.proofs.StepLaws.{rests, is_over, goes}
use Rattle.round.proofs.rounds.run_nodes.Goals as goal

pub returns-then-is_quiet : goal.returns-then-is_quiet
returns-then-is_quiet c = record { ran = rests c.loop-done.invariant c.is_quiet.ensures.round c.is_quiet.ensures.same c.if-is_quiet.true }

pub loop-done-preserved : goal.loop-done-preserved
loop-done-preserved c = goes c.loop-done.invariant c.is_quiet.ensures.round c.is_quiet.ensures.same c.if-is_quiet.false c.loop-done-test.true c.copy_table.ensures

pub returns : goal.returns
returns c = record { ran = is_over c.loop-done.invariant c.is_quiet-2.ensures.round c.is_quiet-2.ensures.same c.loop-done-test.false c.loop-done.auto.done-end }
