-- The way of a node, of document 01: where following stored parents leads.
-- Nodes are numbered from 1, and 0 is no node; hop counts are in hops.
use Rattle.std.specs.Prelude.{ℕ, zero, suc, min, cond, List, length, eqb, leb, Result, Ok, Err}
use Rattle.rule.specs.Round.{Cell, Link, Park, at}
use Rattle.answers.specs.Verdicts.{Verdict, unless, ◌then◌, by_verdict}
use Rattle.answers.specs.declared.refusal.Refusal.TheVariants.{Node}
use Rattle.answers.specs.declared.refusal.Refusal.{Refusal}
use Rattle.park.specs.ParkFile.{park_in}
use Rattle.park.specs.Reading.{nodes_in, verdict_of, file_in}
use Rattle.links.specs.Neighbours.{neighbour}
use Rattle.answers.specs.declared.WayOfNode.{WayOfNode}
use Rattle.answers.specs.declared.Outcome.{Outcome}
use Rattle.answers.specs.declared.Outcome.TheVariants.{Reached, Broken, Looping}

-- "Following stored parents takes one hop at a time, from the node. Reached, with the hops, on meeting the root, whose own parent is not read.
-- Broken, with the node whose parent is not one of its neighbours. Looping, when n hops have met neither."
-- Q has the parents; then the hops still allowed, the hops done and the node met.
unfoldable pub followed : ℕ → List Link → (ℕ → ℕ) → ℕ → ℕ → ℕ → Outcome
followed root ls Q zero hops i = cond (eqb i root) (Reached (record { 0 = hops })) Looping
followed root ls Q (suc left) hops i =
    cond (eqb i root) (Reached (record { 0 = hops })) (cond (neighbour ls i (Q i)) (followed root ls Q left (suc hops) (Q i)) (Broken i))

-- "Way of a node: it gives the node asked about together with one of three outcomes": from the root, the links, the parents, n and the node
unfoldable pub way_of : ℕ → List Link → (ℕ → ℕ) → ℕ → ℕ → WayOfNode
way_of root ls Q n i = record { node = i; outcome = followed root ls Q n 0 i }

-- the way of node i in a park whose stored table is t
unfoldable pub park_way : Park → List Cell → ℕ → WayOfNode
park_way p t i = way_of p.root p.links (λ j. (at t j).parent) p.nodes i

-- the nodes that a slice has parents of, counted in nodes; their numbers have 16 bits, so no more than 65,535
abbrev pub nodes_over : List ℕ → ℕ
nodes_over ps = min 65_535 (length ps)

-- the refusals of the file, then 12: "node not in 1 to n"
unfoldable pub way_verdict : List ℕ → ℕ → Verdict
way_verdict s i = verdict_of s then unless (leb 1 i) Node then unless (leb i (nodes_in s)) Node

-- "Way of a node: it gives the node asked about together with one of three outcomes", by the links and the stored parents of the file
unfoldable pub way_answer : List ℕ → ℕ → Result WayOfNode Refusal
way_answer s i = by_verdict (way_verdict s i) (Ok (park_way (park_in (file_in s)) (file_in s).state i)) Err
