-- The header and the lines of the nodes so far are written.
use Rattle.std.proofs.Common.{◌++◌}
use Rattle.console.proofs.text.SettledDisplay.fmt.Given as goal
use Rattle.console.specs.Text.{header, lines}
use Rattle.std.specs.Fmt.{HasWritten, IsPlainFormatter}

abbrev pub invariant-loop-before : goal.invariant-loop-before
invariant-loop-before g l = IsPlainFormatter l.fn.f → HasWritten g.W.Write.write_str_gives l.fn.f (header ++ lines l.self l.before) l.f
