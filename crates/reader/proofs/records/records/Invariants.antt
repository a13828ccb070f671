-- What the links that are left answer is what the whole answers.
use Rattle.std.proofs.Common.{◌≡◌, ◌+◌, ◌-◌, ◌*◌}
use Rattle.park.specs.Layout.{first_link, link_size}
use Rattle.park.specs.Reading.{links_from}
use Rattle.reader.proofs.records.records.Given as goal

abbrev pub invariant-loop-i : goal.invariant-loop-i
invariant-loop-i l =
    links_from l.file l.nodes first_link 0 l.links ≡ links_from l.file l.nodes (first_link + link_size * l.i) l.before (l.links - l.i)
