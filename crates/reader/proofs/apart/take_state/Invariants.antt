-- The numbers of the nodes so far are put.
use Rattle.std.proofs.Common.{◌≡◌}
use Rattle.std.proofs.lemmas.List.Edits.{sets}
use Rattle.table.specs.Slices.{dists_of, parents_of, marks_of}
use Rattle.park.specs.Layout.{first_cell}
use Rattle.park.specs.Reading.{cells_read}
use Rattle.reader.proofs.apart.take_state.Given as goal

abbrev pub invariant-loop-i : goal.invariant-loop-i
invariant-loop-i l =
    let t = cells_read l.file (first_cell l.links) l.i in
    (l.dists ≡ sets l.initial.dists 0 (dists_of t))
    × (l.parents ≡ sets l.initial.parents 0 (parents_of t))
    × (l.marks ≡ sets l.initial.marks 0 (marks_of t))
