-- The exact table of document 01, by paths and not by rounds: what a table of a park is compared with.
-- Distances and costs are in cost units, steps in hops.
use Rattle.std.specs.Prelude.{ℕ, zero, suc, ◌+◌, ◌≤◌, ◌<◌, ◌≡◌, ◌⊎◌, length, T}
use mathlib.Core.List.{List, Memᴰ}
use Rattle.measure.specs.Measure.{ceiling}
use Rattle.rule.specs.Round.{Arc, Net, Cell, Park, before, at, net_of}

-- A path from a node to the root, and its cost: the sum of the costs of its links.
pub data Route (N : Net) : ℕ → ℕ → Type 0 where
  here : {i x : ℕ} → i ≡ N.root → x ≡ 0 → Route N i x
  hop : {i x y : ℕ} (a : Arc) → Memᴰ a (N.arcs i) → Route N a.from y → x ≡ y + a.cost → Route N i x

-- "Exact distance: the least cost of any path to the root, 0 at the root, the ceiling if there is none."
pub data ExactDist (N : Net) (i d : ℕ) : Type 0 where
  reached : Route N i d → ((x : ℕ) → Route N i x → d ≤ x) → ExactDist N i d
  cut : ((x : ℕ) → Route N i x → ⊥) → d ≡ ceiling → ExactDist N i d

-- "Exact parent: the lowest-numbered neighbour whose exact distance plus the link cost equals the node's own; 0 at the root and where there is no path."
-- S has the exact distances.
pub data ExactParent (N : Net) (S : ℕ → ℕ) (i q : ℕ) : Type 0 where
  no_parent : (i ≡ N.root) ⊎ (S i ≡ ceiling) → q ≡ 0 → ExactParent N S i q
  by_arc : (a : Arc) → Memᴰ a (N.arcs i) → S a.from + a.cost ≡ S i
      → ((b : Arc) → Memᴰ b (N.arcs i) → S b.from + b.cost ≡ S i → T (before a b))
      → q ≡ a.from → ExactParent N S i q

-- the node that h hops by the parents Q lead to
unfoldable pub onward : (ℕ → ℕ) → ℕ → ℕ → ℕ
onward Q zero k = k
onward Q (suc h) k = Q (onward Q h k)

-- "for a node with a path, 1 if it is a member or lies on the way, by exact parents, from a member to the root; for a node without a path, 1 if it is a member."
-- S has the exact distances and Q the exact parents.
pub data Needed (N : Net) (S Q : ℕ → ℕ) (i : ℕ) : Type 0 where
  own : T (N.member i) → Needed N S Q i
  on_way : S i < ceiling → (k h : ℕ) → T (N.member k) → onward Q h k ≡ i → Needed N S Q i

-- "Exact mark: 1 .." where it is needed, else 0
pub data ExactMark (N : Net) (S Q : ℕ → ℕ) (i x : ℕ) : Type 0 where
  set : Needed N S Q i → x ≡ 1 → ExactMark N S Q i x
  clear : (Needed N S Q i → ⊥) → x ≡ 0 → ExactMark N S Q i x

-- all three for one node of a table, whose distances and parents are the exact ones that the rest is measured by
pub record ExactCell (N : Net) (s : ℕ → Cell) (i : ℕ) : Type 0 where
  pub dist : ExactDist N i (s i).dist
  pub parent : ExactParent N (λ j. (s j).dist) i (s i).parent
  pub mark : ExactMark N (λ j. (s j).dist) (λ j. (s j).parent) i (s i).mark

-- "Nodes 1 to n"
pub record Node (p : Park) (i : ℕ) : Type 0 where
  pub least : 1 ≤ i
  pub most : i ≤ p.nodes

-- The exact table of a park: a cell for each node, each of them exact.
pub record Exact (p : Park) (t : List Cell) : Type 0 where
  pub size : length t ≡ p.nodes
  pub cells : (i : ℕ) → Node p i → ExactCell (net_of p) (at t) i
