-- What lent slices of plain numbers hold: a slice for each part of a link, and one for each part of a node's state.
use Rattle.std.specs.Prelude.{ℕ, List, [], ◌∷◌, map}
use Rattle.rule.specs.Round.{Link, Cell, Park}
use Rattle.group.specs.Group.{member_in}

-- the links whose lower ends, higher ends and costs (in cost units) stand at the same places
unfoldable pub links_of : List ℕ → List ℕ → List ℕ → List Link
links_of [] hs cs = []
links_of (l ∷ ls) [] cs = []
links_of (l ∷ ls) (h ∷ hs) [] = []
links_of (l ∷ ls) (h ∷ hs) (c ∷ cs) = record { low = l; high = h; cost = c } ∷ links_of ls hs cs

-- the lower ends, the higher ends and the costs (in cost units) of links, each for all links
abbrev pub lows_of : List Link → List ℕ
lows_of ls = map (λ (l : Link). l.low) ls

abbrev pub highs_of : List Link → List ℕ
highs_of ls = map (λ (l : Link). l.high) ls

abbrev pub costs_of : List Link → List ℕ
costs_of ls = map (λ (l : Link). l.cost) ls

-- the table whose distances (in cost units), parents and marks stand at the same places, node 1 first
unfoldable pub cells_of : List ℕ → List ℕ → List ℕ → List Cell
cells_of [] ps ms = []
cells_of (d ∷ ds) [] ms = []
cells_of (d ∷ ds) (p ∷ ps) [] = []
cells_of (d ∷ ds) (p ∷ ps) (m ∷ ms) = record { dist = d; parent = p; mark = m } ∷ cells_of ds ps ms

-- the distances (in cost units), the parents and the marks of a table, each for all nodes, node 1 first
abbrev pub dists_of : List Cell → List ℕ
dists_of t = map (λ (c : Cell). c.dist) t

abbrev pub parents_of : List Cell → List ℕ
parents_of t = map (λ (c : Cell). c.parent) t

abbrev pub marks_of : List Cell → List ℕ
marks_of t = map (λ (c : Cell). c.mark) t

-- the park of n nodes that the slices hold, the group in 64-bit words
unfoldable pub park_of : ℕ → ℕ → List ℕ → List ℕ → List ℕ → List ℕ → Park
park_of n root lows highs costs words =
    record { nodes = n; root = root; links = links_of lows highs costs; member = member_in 64 words }
