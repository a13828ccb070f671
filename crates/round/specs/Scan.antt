-- One node's search through the links in their order.
-- D, P and M are the stored distances (in cost units), parents and marks of before the round, each by node number.
use Rattle.std.specs.Prelude.{ℕ, List, [], ◌∷◌}
use Rattle.rule.specs.Round.{Link, Cell}
use Rattle.round.specs.declared.keep.Best.{Best}
use Rattle.round.specs.Hear.{passed}
use Rattle.round.specs.declared.node.Stored.{Stored}

-- what node i knows after the links ls
unfoldable pub passed_all : (ℕ → ℕ) → (ℕ → ℕ) → (ℕ → ℕ) → ℕ → Best → List Link → Best
passed_all D P M i b [] = b
passed_all D P M i b (l ∷ ls) = passed_all D P M i (passed D P M i b l) ls

-- the cell that is stored for a node
abbrev pub cell_of : Stored → Cell
cell_of s = record { dist = s.dist.0; parent = s.parent; mark = s.mark }
