-- Which node is settled next, while exact distances are found.
-- Distances are in cost units, node 1's first, and so are the flags that say which nodes are settled.
use Rattle.std.specs.Prelude.{ℕ, zero, suc, Bool, false, cond, not, ◌&&◌, ◌||◌, List, length, ltb, eqb, Option, Some, None}
use Rattle.measure.specs.Measure.{ceiling}
use Rattle.table.specs.Nodes.{node_at}

-- what has been found so far
pub record Work : Type 0 where
  pub dists : List ℕ
  pub done : List Bool

-- whether node i is to be settled rather than node b: it is not settled, and b is none or farther
unfoldable pub closer : Work → ℕ → ℕ → Bool
closer w b i =
    not (node_at false w.done i) && (eqb b 0 || ltb (node_at ceiling w.dists i) (node_at ceiling w.dists b))

-- the nearest of b and of the `left` nodes from i on that are not settled
unfoldable pub nearest_from : Work → ℕ → ℕ → ℕ → ℕ
nearest_from w zero i b = b
nearest_from w (suc left) i b = nearest_from w left (suc i) (cond (closer w b i) i b)

-- the nearest node that is not settled; 0 where all are
unfoldable pub nearest : Work → ℕ
nearest w = nearest_from w (length w.dists) 1 0

-- a node by its number, where 0 is none
abbrev pub some_node : ℕ → Option ℕ
some_node zero = None
some_node (suc k) = Some (suc k)
