use Rattle.std.proofs.Common.{sym}
use Rattle.park.proofs.CheckedLaws.{head_found}
use Rattle.reader.proofs.ReadFile.new.Goals as goal

pub invariant_of-result : goal.invariant_of-result
invariant_of-result c = record { bytes = λ i. (c.type_inv.file i).fits; read_as = head_found _ _ (sym c.in_ok-head.ensures) }
