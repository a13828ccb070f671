-- Document 01's number and values for each case of each answer, as eight numbers: the refusal's number (0 for none), its place in
-- bytes, then the call's own values; a value that is not used is 0. "Every refusal gives number and place, rounds 0."
use Rattle.std.specs.Prelude.{ℕ, cond, Bool, List, [], ◌∷◌, Result, Ok, Err}
use Rattle.answers.specs.declared.Sizes.{Sizes}
use Rattle.answers.specs.declared.Ran.{Ran}
use Rattle.answers.specs.declared.Written.{Written}
use Rattle.answers.specs.declared.WayOfNode.{WayOfNode}
use Rattle.answers.specs.declared.Counts.{Counts}
use Rattle.answers.specs.Refusals.{number_of, place_of}
use Rattle.answers.specs.declared.refusal.Refusal.{Refusal}
use Rattle.answers.specs.declared.Outcome as outcome

-- three values of a call that did not refuse
abbrev pub values : ℕ → ℕ → ℕ → List ℕ
values a b c = 0 ∷ 0 ∷ a ∷ b ∷ c ∷ 0 ∷ 0 ∷ 0 ∷ []

-- a refusal
abbrev pub refusal_values : Refusal → List ℕ
refusal_values r = number_of r ∷ place_of r ∷ 0 ∷ 0 ∷ 0 ∷ 0 ∷ 0 ∷ 0 ∷ []

-- an answer: the call's own values, or the refusal
abbrev pub answer_values : {A : Type 0} → (A → List ℕ) → Result A Refusal → List ℕ
answer_values own (Ok x) = own x
answer_values own (Err r) = refusal_values r

-- Check: nodes, links
abbrev pub sizes_values : Sizes → List ℕ
sizes_values s = values s.nodes s.links 0

abbrev pub check_values : Result Sizes Refusal → List ℕ
check_values = answer_values sizes_values

-- Run: rounds done, and 1 if it is quiet
abbrev pub ran_values : Ran → List ℕ
ran_values r = values r.rounds.0 (cond r.quiet 1 0) 0

abbrev pub run_values : Result Ran Refusal → List ℕ
run_values = answer_values ran_values

-- Exact: nothing but that it is done
abbrev pub done_values : Unit {0} → List ℕ
done_values x = values 0 0 0

abbrev pub exact_values : Result (Unit {0}) Refusal → List ℕ
exact_values = answer_values done_values

-- Write: nothing but that it is done
abbrev pub written_values : Written → List ℕ
written_values length = values 0 0 0

abbrev pub write_values : Result Written Refusal → List ℕ
write_values = answer_values written_values

-- Right: 1 for yes
abbrev pub yes_values : Bool → List ℕ
yes_values y = values (cond y 1 0) 0 0

abbrev pub right_values : Result Bool Refusal → List ℕ
right_values = answer_values yes_values

-- one of three outcomes of a way: 0 reached with the hops, 1 broken with the node, 2 looping
abbrev pub outcome_values : ℕ → outcome.Outcome → List ℕ
outcome_values node (outcome.TheVariants.Reached hops) = values node 0 hops.0
outcome_values node (outcome.TheVariants.Broken at) = values node 1 at
outcome_values node outcome.TheVariants.Looping = values node 2 0

-- Way: the node asked about, and its outcome
abbrev pub way_of_values : WayOfNode → List ℕ
way_of_values w = outcome_values w.node w.outcome

abbrev pub way_values : Result WayOfNode Refusal → List ℕ
way_values = answer_values way_of_values

-- Summary: members, marked nodes, served members
abbrev pub counts_values : Counts → List ℕ
counts_values c = values c.members c.marked c.served

abbrev pub summary_values : Result Counts Refusal → List ℕ
summary_values = answer_values counts_values
