-- What lent slices of plain numbers say of a node: its own number of a slice that has the nodes in order from 1.
use Rattle.std.specs.Prelude.{ℕ, List, ◌∷◌, get_or}
use Rattle.rule.specs.Round.{Link}

-- what stands for node i; `none` for a number that is no node
abbrev pub node_at : {A : Type 0} → A → List A → ℕ → A
node_at none xs i = get_or (none ∷ xs) i none

-- the link at place j
abbrev pub link_at : List ℕ → List ℕ → List ℕ → ℕ → Link
link_at lows highs costs j = record { low = get_or lows j 0; high = get_or highs j 0; cost = get_or costs j 0 }
