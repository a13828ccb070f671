-- The words so far stand in the file, eight bytes apart.
use Rattle.std.proofs.Common.{◌≡◌, ℕ, ◌+◌, ◌*◌, ◌<◌, get_or}
use Rattle.park.specs.Layout.{head_size, group_at}
use Rattle.reader.specs.Words.{little}
use Rattle.reader.proofs.apart.take_group.Given as goal

abbrev pub invariant-loop-i : goal.invariant-loop-i
invariant-loop-i l = (k : ℕ) → k < l.i → get_or l.words k 0 ≡ little 8 l.file (group_at l.links + head_size + 8 * k)
