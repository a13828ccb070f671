-- One round of document 01: "All nodes act together, on the values from before the round."
-- The rule is stated over what a node hears, so it holds for links of any order and number and for any node count.
-- Distances and costs are in cost units; nodes are numbered from 1, and 0 is no node.
use Rattle.std.specs.Prelude.{ℕ, zero, suc, min, Bool, false, cond, not, ◌&&◌, ◌||◌, List, [], ◌∷◌, map, get_or, leb, eqb}
use Rattle.measure.specs.Measure.{ceiling, plus}

-- One direction of a link, owned by the node that hears: who sends, and the cost of sending from there to the owner.
pub record Arc : Type 0 where
  pub from : ℕ
  pub cost : ℕ

-- What the nodes hear: the root, each node's arcs, and which nodes are members.
pub record Net : Type 0 where
  pub root : ℕ
  pub arcs : ℕ → List Arc
  pub member : ℕ → Bool

-- "For each node a stored distance, a stored parent and a stored mark."
pub record Cell : Type 0 where
  pub dist : ℕ
  pub parent : ℕ
  pub mark : ℕ

-- The distance that an arc offers, by "A stored distance above the ceiling is read as the ceiling. A sum above the ceiling is the ceiling."
unfoldable pub through : (ℕ → ℕ) → Arc → ℕ
through D a = plus (D a.from) a.cost

-- "the least of (neighbour's distance plus link cost)"; the ceiling without neighbours
unfoldable pub least : (ℕ → ℕ) → List Arc → ℕ
least D [] = ceiling
least D (a ∷ xs) = min (through D a) (least D xs)

-- the arcs that offer exactly v
unfoldable pub giving : (ℕ → ℕ) → ℕ → List Arc → List Arc
giving D v [] = []
giving D v (a ∷ xs) = cond (eqb (through D a) v) (a ∷ giving D v xs) (giving D v xs)

-- The tie rule, "the lowest-numbered neighbour that gives the least": whether arc a goes before arc b.
unfoldable pub before : Arc → Arc → Bool
before a b = leb a.from b.from

-- the arc that goes before all others, of a and those that follow it
unfoldable pub first : Arc → List Arc → Arc
first a [] = a
first a (b ∷ xs) = cond (before a b) (first a xs) (first b xs)

-- its sender; 0 where there is no arc
unfoldable pub chosen : List Arc → ℕ
chosen [] = 0
chosen (a ∷ xs) = (first a xs).from

-- "Root: distance 0. Other node: the least."
unfoldable pub new_dist : Net → (ℕ → ℕ) → ℕ → ℕ
new_dist N D i = cond (eqb i N.root) 0 (least D (N.arcs i))

-- "Root: parent 0. Parent: the lowest-numbered neighbour that gives the least. Without neighbours, or if the least is the ceiling: parent 0."
unfoldable pub parent_at : Net → (ℕ → ℕ) → ℕ → ℕ → ℕ
parent_at N D v i = cond (eqb i N.root || eqb v ceiling) 0 (chosen (giving D v (N.arcs i)))

-- whether "some neighbour's old parent is this node and that neighbour's old mark is set"
unfoldable pub asked : (ℕ → ℕ) → (ℕ → ℕ) → ℕ → List Arc → Bool
asked P M i [] = false
asked P M i (a ∷ xs) = (eqb (P a.from) i && not (eqb (M a.from) 0)) || asked P M i xs

-- "Mark: 1 if the node is a member, or if some neighbour's old parent is this node and that neighbour's old mark is set. Otherwise 0."
unfoldable pub new_mark : Net → (ℕ → ℕ) → (ℕ → ℕ) → ℕ → ℕ
new_mark N P M i = cond (N.member i || asked P M i (N.arcs i)) 1 0

-- what a node holds after the round, from the cells s of before the round
unfoldable pub new_cell : Net → (ℕ → Cell) → ℕ → Cell
new_cell N s i =
    let D : ℕ → ℕ = λ j. (s j).dist in
    let d : ℕ = new_dist N D i in
    record { dist = d; parent = parent_at N D d i; mark = new_mark N (λ j. (s j).parent) (λ j. (s j).mark) i }

-- what a number that is no node holds: "distance 16,777,215, parent 0", no mark
abbrev pub blank : Cell
blank = record { dist = ceiling; parent = 0; mark = 0 }

-- the cell of node i in a table, which has the nodes in order from 1
unfoldable pub at : List Cell → ℕ → Cell
at t i = get_or (blank ∷ t) i blank

-- the n numbers from i on
unfoldable pub numbered : ℕ → ℕ → List ℕ
numbered i zero = []
numbered i (suc n) = i ∷ numbered (suc i) n

-- "All nodes act together, on the values from before the round."
unfoldable pub round : Net → ℕ → List Cell → List Cell
round N n t = map (new_cell N (at t)) (numbered 1 n)

-- r rounds, one after the other
unfoldable pub rounds : Net → ℕ → ℕ → List Cell → List Cell
rounds N n zero t = t
rounds N n (suc r) t = round N n (rounds N n r t)

-- "Links, each between two different nodes, with one cost that holds both ways."
pub record Link : Type 0 where
  pub low : ℕ
  pub high : ℕ
  pub cost : ℕ

-- what node i hears: an arc from the other end of each link that has i for an end
unfoldable pub arcs_of : List Link → ℕ → List Arc
arcs_of [] i = []
arcs_of (l ∷ ls) i =
    let low : Arc = record { from = l.low; cost = l.cost } in
    let high : Arc = record { from = l.high; cost = l.cost } in
    cond (eqb l.low i) (high ∷ arcs_of ls i) (cond (eqb l.high i) (low ∷ arcs_of ls i) (arcs_of ls i))

-- "Nodes 1 to n. One node is the root. Links. The group: any set of nodes."
pub record Park : Type 0 where
  pub nodes : ℕ
  pub root : ℕ
  pub links : List Link
  pub member : ℕ → Bool

-- what the nodes of a park hear
unfoldable pub net_of : Park → Net
net_of p = record { root = p.root; arcs = arcs_of p.links; member = p.member }
