-- What a round makes of the table that slices hold, in a park whose parts are lent.
use Rattle.std.specs.Prelude.{ℕ, List, length}
use Rattle.rule.specs.Round.{Cell, new_cell, at, round, net_of}
use Rattle.table.specs.Slices.{cells_of}
use Rattle.table.specs.Lent.{park_over}
use Rattle.table.specs.declared.Net.{Net}

-- what node i holds after one round of the table that slices hold
abbrev pub cell_after : Net → List ℕ → List ℕ → List ℕ → ℕ → Cell
cell_after net ds ps ms i = new_cell (net_of (park_over (length ds) net)) (at (cells_of ds ps ms)) i

-- the table after one round of the table that slices hold
abbrev pub round_of : Net → List ℕ → List ℕ → List ℕ → List Cell
round_of net ds ps ms = round (net_of (park_over (length ds) net)) (length ds) (cells_of ds ps ms)
