-- What one arc more, or one link more, changes in what a node knows of the arcs that it has heard.
-- D, P and M are the stored distances (in cost units), parents and marks of before the round, each by node number.
use Rattle.std.specs.Prelude.{ℕ, Bool, cond, not, ◌&&◌, ◌||◌, eqb}
use Rattle.rule.specs.Round.{Arc, Link, through}
use Rattle.links.specs.Neighbours.{other_end}
use Rattle.round.specs.declared.keep.Best.{Best}
use Rattle.round.specs.Keep.{kept}

-- whether "that neighbour's old parent is this node and its old mark is set"
abbrev pub asks : (ℕ → ℕ) → (ℕ → ℕ) → ℕ → ℕ → Bool
asks P M from i = eqb (P from) i && not (eqb (M from) 0)

-- once one neighbour more has asked, or has not
abbrev pub with_asked : Best → Bool → Best
with_asked b q = record { dist = b.dist; arc = b.arc; asked = b.asked || q }

-- what node i knows after one arc more
unfoldable pub hear : (ℕ → ℕ) → (ℕ → ℕ) → (ℕ → ℕ) → ℕ → Best → Arc → Best
hear D P M i b a = kept (with_asked b (asks P M a.from i)) (through D a) a

-- what node i knows after one link more: a link that does not have it for an end says nothing, and nothing is heard of node 0
unfoldable pub passed : (ℕ → ℕ) → (ℕ → ℕ) → (ℕ → ℕ) → ℕ → Best → Link → Best
passed D P M i b l =
    let from : ℕ = other_end l.low l.high i in
    cond (eqb from 0) b (hear D P M i b (record { from = from; cost = l.cost }))
