-- What settle prints of a table.
use Rattle.console.specs.declared.text.Line.{Line}
use Rattle.console.specs.declared.text.Settled.{Settled}
use Rattle.measure.specs.Measure.{ceiling}
use Rattle.std.specs.Fmt.{decimal}
use Rattle.std.specs.List.{flat_map, range_with_len}
use Rattle.std.specs.Prelude.{ℕ, List, ◌++◌, length, codes}
use Rattle.table.specs.Nodes.{node_at}

-- the line of a node: its number, distance in cost units, parent and mark
abbrev pub line_text : Line → List ℕ
line_text l = decimal l.node ++ codes " " ++ decimal l.dist.0 ++ codes " " ++ decimal l.parent ++ codes " " ++ decimal l.mark

-- the line that a table has for a node
abbrev pub line_of : Settled → ℕ → Line
line_of t node = record {
  node = node;
  dist = record { 0 = node_at ceiling t.table.dists.now node };
  parent = node_at 0 t.table.parents.now node;
  mark = node_at 0 t.table.marks.now node;
}

-- the names of the columns
abbrev pub header : List ℕ
header = codes "node distance parent mark\n"

-- the lines of the first nodes, so many
abbrev pub lines : Settled → ℕ → List ℕ
lines t n = flat_map (λ node. line_text (line_of t node) ++ codes "\n") (range_with_len 1 n)

-- the header, the lines of all nodes, as many as there are distances, and the rounds done
abbrev pub settled_text : Settled → List ℕ
settled_text t = header ++ lines t (length t.table.dists.now) ++ codes "rounds " ++ decimal t.rounds.0
