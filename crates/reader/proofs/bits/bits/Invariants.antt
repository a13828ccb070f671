-- What the bytes that are left answer is what the whole answers.
use Rattle.std.proofs.Common.{◌≡◌, ◌+◌, ◌-◌, ◌*◌}
use Rattle.park.specs.Layout.{group_size}
use Rattle.park.specs.Reading.{bits_clear}
use Rattle.reader.proofs.bits.bits.Given as goal

abbrev pub invariant-loop-i : goal.invariant-loop-i
invariant-loop-i l =
    bits_clear l.file l.from l.nodes group_size ≡ bits_clear l.file (l.from + l.i) (l.nodes - 8 * l.i) (group_size - l.i)
