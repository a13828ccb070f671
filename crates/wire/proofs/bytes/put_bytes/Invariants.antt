-- What is put and what is still to put are all the bytes.
use Rattle.std.proofs.Common.{◌≡◌, ◌+◌, drop}
use Rattle.std.proofs.lemmas.List.Edits.{sets}
use Rattle.wire.proofs.bytes.put_bytes.Given as goal

abbrev pub invariant-loop-i : goal.invariant-loop-i
invariant-loop-i l = sets l.s (l.place + l.i) (drop l.i l.bytes) ≡ sets l.fn.s l.place l.bytes
