-- The numbers of the links so far are put.
use Rattle.std.proofs.Common.{◌≡◌}
use Rattle.std.proofs.lemmas.List.Edits.{sets}
use Rattle.table.specs.Slices.{lows_of, highs_of, costs_of}
use Rattle.park.specs.Layout.{first_link}
use Rattle.park.specs.Reading.{links_read}
use Rattle.reader.proofs.apart.take_links.Given as goal

abbrev pub invariant-loop-i : goal.invariant-loop-i
invariant-loop-i l =
    let ls = links_read l.file first_link l.i in
    (l.lows ≡ sets l.initial.lows 0 (lows_of ls))
    × (l.highs ≡ sets l.initial.highs 0 (highs_of ls))
    × (l.costs ≡ sets l.initial.costs 0 (costs_of ls))
