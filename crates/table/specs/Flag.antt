-- A byte for each node, node 1's first.
use Rattle.std.specs.Prelude.{ℕ, zero, suc, List, set}

-- the bytes with node i's at 1; a number that is no node has none
unfoldable pub with_mark : List ℕ → ℕ → List ℕ
with_mark M zero = M
with_mark M (suc k) = set M k 1
