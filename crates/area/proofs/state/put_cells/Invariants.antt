-- What is put and what is still to put are the whole state, and the next record stands behind those that are put.
use Rattle.std.proofs.Common.{◌≡◌, ◌+◌, ◌*◌}
use Rattle.std.proofs.lemmas.List.Edits.{sets}
use Rattle.park.specs.ParkFile.{state_bytes}
use Rattle.table.specs.Lent.{cells_in}
use Rattle.area.proofs.StateLaws.{rest}
use Rattle.area.proofs.state.put_cells.Given as goal

abbrev pub invariant-loop-i : goal.invariant-loop-i
invariant-loop-i l =
    (l.at ≡ l.from + 7 * l.i)
    × (sets l.area (l.from + 7 * l.i) (rest l.table.dists.now l.table.parents.now l.table.marks.now l.i)
    ≡ sets l.initial.area l.from (state_bytes (cells_in l.table)))
