-- What is put and what is still to put are all the numbers.
use Rattle.std.proofs.Common.{◌≡◌, ◌+◌, ◌*◌, drop}
use Rattle.std.proofs.lemmas.List.Edits.{sets}
use Rattle.writer.specs.Made.{numbers}
use Rattle.writer.proofs.made.put_numbers.Given as goal

abbrev pub invariant-loop-i : goal.invariant-loop-i
invariant-loop-i l = sets l.out (10 + 2 * l.i) (numbers (drop l.i l.list)) ≡ sets l.fn.out 10 (numbers l.list)
