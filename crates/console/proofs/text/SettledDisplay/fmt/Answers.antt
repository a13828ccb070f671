use Rattle.std.proofs.Common.{◌≡◌, arith, length, rules}
use Rattle.std.proofs.Output.{has_written_append, has_written_of_eq}
use Rattle.console.proofs.TextLaws.{lines_more, lines_end}
use Rattle.console.proofs.text.SettledDisplay.fmt.Goals as goal

pub loop-before-preserved : goal.loop-before-preserved
loop-before-preserved g c = λ plain.
    has_written_of_eq _ _ _ _ _ (lines_more c.args.self.now c.loop-before.before)
    (has_written_append _ _ _ _ _ _ (c.loop-before.invariant plain) (search rules))

pub returns-clause-writes : goal.returns-clause-writes
returns-clause-writes g c = λ plain ok.
    let all : c.loop-before.before ≡ length c.args.self.now.table.dists.now = omega (arith, c.loop-before-test.false, c.loop-before.auto.before-end) in
    has_written_of_eq _ _ _ _ _ (lines_end c.args.self.now _ all)
    (has_written_append _ _ _ _ _ _ (c.loop-before.invariant plain) (search rules))
