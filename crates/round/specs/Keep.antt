-- What a node knows of the arcs that it has heard, and which arc it keeps. Offers are in cost units.
use Rattle.std.specs.Prelude.{ℕ, Bool, false, cond, not, ◌&&◌, ◌||◌, ltb, eqb}
use Rattle.measure.specs.Measure.{ceiling}
use Rattle.rule.specs.Round.{Arc, before}
use Rattle.round.specs.declared.keep.Arc as heard
use Rattle.round.specs.declared.keep.Best.{Best}

-- what a node knows before its first arc: "Without neighbours: distance 16,777,215, parent 0", and nobody asks
abbrev pub unheard : Best
unheard = record { dist = record { 0 = ceiling }; arc = record { from = 0; cost = record { 0 = 0 } }; asked = false }

-- an arc as the rule has it
abbrev pub arc_of : heard.Arc → Arc
arc_of a = record { from = a.from; cost = a.cost.0 }

-- the arc that is kept for the least offer so far
abbrev pub kept_arc : Best → Arc
kept_arc b = arc_of b.arc

-- whether an arc a that offers x takes the place of the arc k that is kept for the offer `best`: it offers less, or the same, below the
-- ceiling, where k does not go before it
abbrev pub takes : ℕ → Arc → ℕ → Arc → Bool
takes best k x a = ltb x best || (eqb x best && (ltb best ceiling && not (before k a)))

-- what is kept once an arc has offered x
abbrev pub kept : Best → ℕ → Arc → Best
kept b x a =
    cond (takes b.dist.0 (kept_arc b) x a) (record { dist = record { 0 = x }; arc = record { from = a.from; cost = record { 0 = a.cost } }; asked = b.asked }) b
