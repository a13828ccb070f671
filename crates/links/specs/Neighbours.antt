-- Who is a node's neighbour, over the links that two slices hold. Nodes are numbered from 1, and 0 is no node.
use Rattle.std.specs.Prelude.{ℕ, Bool, false, cond, ◌||◌, List, [], ◌∷◌, eqb, Option, Some, None}
use Rattle.rule.specs.Round.{Arc, Link, arcs_of}

-- the links between the ends that stand at the same places of two slices; their costs, which no way depends on, are left at 0
unfoldable pub ends_of : List ℕ → List ℕ → List Link
ends_of [] hs = []
ends_of (l ∷ ls) [] = []
ends_of (l ∷ ls) (h ∷ hs) = record { low = l; high = h; cost = 0 } ∷ ends_of ls hs

-- the end of a link between these two that is not node u; 0 where u is none of them
abbrev pub other_end : ℕ → ℕ → ℕ → ℕ
other_end low high u = cond (eqb low u) high (cond (eqb high u) low 0)

-- the same, and none where u is none of them
abbrev pub far_end : ℕ → ℕ → ℕ → Option ℕ
far_end low high u = cond (eqb low u) (Some high) (cond (eqb high u) (Some low) None)

-- whether some of the arcs comes from q
unfoldable pub hears : List Arc → ℕ → Bool
hears [] q = false
hears (a ∷ xs) q = eqb a.from q || hears xs q

-- whether q is one of node i's neighbours: the sender of an arc that i hears. "0 never is"
unfoldable pub neighbour : List Link → ℕ → ℕ → Bool
neighbour ls i q = cond (eqb q 0) false (hears (arcs_of ls i) q)
