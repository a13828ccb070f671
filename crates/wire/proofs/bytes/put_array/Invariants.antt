-- What is put and what is still to put are all the bytes.
use Rattle.std.proofs.Common.{◌≡◌, ◌+◌, drop}
use Rattle.std.proofs.lemmas.List.Edits.{sets}
use Rattle.wire.proofs.bytes.put_array.Given as goal

abbrev pub invariant-loop-k : goal.invariant-loop-k
invariant-loop-k g l = sets l.s (l.place + l.k) (drop l.k l.bytes) ≡ sets l.fn.s l.place l.bytes
