-- What lent slices that belong together hold.
use Rattle.std.specs.Prelude.{ℕ, List}
use Rattle.rule.specs.Round.{Link, Cell, Park}
use Rattle.table.specs.Slices.{links_of, cells_of, park_of}
use Rattle.table.specs.declared.Links.{Links}
use Rattle.table.specs.declared.Net.{Net}
use Rattle.table.specs.declared.Table.{Table}

-- the links of three slices
abbrev pub links_in : Links → List Link
links_in l = links_of l.lows.now l.highs.now l.costs.now

-- the park of n nodes that hear this
abbrev pub park_over : ℕ → Net → Park
park_over n net = park_of n net.root net.links.lows.now net.links.highs.now net.links.costs.now net.words.now

-- the cells of three slices
abbrev pub cells_in : Table → List Cell
cells_in t = cells_of t.dists.now t.parents.now t.marks.now
