-- How exact marks are found without rounds: from each member the way by the parents is walked, and every node on it is marked.
-- Ways are in hops; marks are bytes, node 1's first.
use Rattle.std.specs.Prelude.{ℕ, zero, suc, Bool, cond, List, length, replicate}
use Rattle.table.specs.Nodes.{node_at}
use Rattle.table.specs.Flag.{with_mark}

-- the marks with those of node i and of the nodes that fewer than `left` hops by the parents Q lead to
unfoldable pub walked : List ℕ → ℕ → List ℕ → ℕ → List ℕ
walked Q zero M i = M
walked Q (suc left) M i = walked Q left (with_mark M i) (node_at 0 Q i)

-- the ways of those of the `left` nodes from i on that are members
unfoldable pub walked_from : (ℕ → Bool) → List ℕ → ℕ → ℕ → List ℕ → List ℕ
walked_from member Q zero i M = M
walked_from member Q (suc left) i M = walked_from member Q left (suc i) (cond (member i) (walked Q (length M) M i) M)

-- the marks of all nodes, by the parents Q
unfoldable pub marks_from : (ℕ → Bool) → List ℕ → List ℕ
marks_from member Q = walked_from member Q (length Q) 1 (replicate (length Q) 0)
