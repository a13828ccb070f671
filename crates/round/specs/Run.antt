-- A run of document 01: "do rounds until N are done or the next would change nothing. Answers the rounds done and whether it is quiet, that is
-- whether one more round would leave every stored value as it is."
use Rattle.std.specs.Prelude.{ℕ, zero, suc, Bool, true, false, List, length, take}
use Rattle.rule.specs.Round.{Net, Cell, round, net_of}
use Rattle.table.specs.Slices.{cells_of}
use Rattle.table.specs.Lent.{park_over}
use Rattle.table.specs.declared.Net as lent
use Rattle.table.specs.Fit.{nodes_over}
use Rattle.table.specs.Same.{same_table}
use Rattle.answers.specs.declared.Ran.{Ran}

-- "quiet, that is whether one more round would leave every stored value as it is"
unfoldable pub quiet : Net → ℕ → List Cell → Bool
quiet N n t = same_table (round N n t) t

-- what a run comes to: the count of rounds done, whether it is quiet, and the table
pub record RunEnd : Type 0 where
  pub rounds : ℕ
  pub quiet : Bool
  pub table : List Cell

-- "do rounds until N are done or the next would change nothing": from the table t, with `done` rounds done and `left` of them still allowed
unfoldable pub run_of : Net → ℕ → ℕ → ℕ → List Cell → RunEnd
run_of N n zero done t = record { rounds = done; quiet = quiet N n t; table = t }
run_of N n (suc left) done t =
    elim (quiet N n t) [ true ↦ record { rounds = done; quiet = true; table = t } | false ↦ run_of N n left (suc done) (round N n t) ]

-- the run from the table that slices of equally many nodes hold, in the park whose parts are lent
abbrev pub run_from : ℕ → ℕ → lent.Net → List ℕ → List ℕ → List ℕ → RunEnd
run_from left done net ds ps ms = run_of (net_of (park_over (length ds) net)) (length ds) left done (cells_of ds ps ms)

-- the run over the nodes that the table's slices are of, from the table at their front
unfoldable pub run_over : ℕ → lent.Net → List ℕ → List ℕ → List ℕ → RunEnd
run_over count net ds ps ms =
    let n : ℕ = nodes_over (length ds) (length ps) (length ms) in
    run_of (net_of (park_over n net)) n count 0 (cells_of (take n ds) (take n ps) (take n ms))

-- the answer of a run
abbrev pub ran_of : RunEnd → Ran
ran_of o = record { rounds = record { 0 = o.rounds }; quiet = o.quiet }
