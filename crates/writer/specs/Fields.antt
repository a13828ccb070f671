-- The fields that the numbers of a park make, each with those behind it.
use Rattle.std.specs.Prelude.{ℕ, List}
use Rattle.writer.specs.declared.made.Numbers.{Numbers}
use Rattle.writer.specs.Made.{state_made, group_made, links_made, file_of}

abbrev pub from_state : Numbers → List ℕ
from_state p = state_made p.nodes p.table.dists.now p.table.parents.now p.table.marks.now

abbrev pub from_group : Numbers → List ℕ
from_group p = group_made p.group.now (from_state p)

abbrev pub from_links : Numbers → List ℕ
from_links p = links_made p.links.now (from_group p)

-- the whole file
abbrev pub file_from : Numbers → List ℕ
file_from p = file_of p.nodes p.root p.links.now p.group.now p.table.dists.now p.table.parents.now p.table.marks.now
