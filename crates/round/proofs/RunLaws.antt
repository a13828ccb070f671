-- What a run comes to: its table is that many rounds of the first one, it stops at the first table that a round leaves alone, and it does fewer
-- rounds than it was asked for only there. By induction on the rounds left; `Goes` is what holds from any place of the run on.
use Prim.Native.Nat.{ℕ, zero, suc, ◌+◌, ◌≤◌, ◌<◌}
use native.Mathlib.Nat.{not-suc-le-zero, le_of_suc-le-suc}
use native.Mathlib.Decide.{dec_lt}
use native.Mathlib.Omega.{arith}
use mathlib.Core.Path.{◌≡◌, refl, sym, ap, ◌∙◌}
use mathlib.Core.Logic.{◌↔◌}
use mathlib.Core.Bool.{Bool, true, false, true≢false}
use mathlib.Core.List.{List}
use lib.ListN.{length}
use Rattle.rule.specs.Round.{Net, Cell, round, rounds}
use Rattle.round.specs.Run.{quiet, RunEnd, run_of}
use Rattle.table.proofs.SameLaws.{same_table_lem}
use Rattle.round.proofs.RoundLaws.{round_length}

-- quiet is "one more round would leave every stored value as it is"
pub quiet_is : (N : Net) (n : ℕ) (t : List Cell) → (quiet N n t ≡ true) ↔ (round N n t ≡ t)
unfolding quiet
quiet_is N n t = same_table_lem (round N n t) t

-- a round first, and then r more
pub rounds_from : (N : Net) (n r : ℕ) (t : List Cell) → rounds N n r (round N n t) ≡ rounds N n (suc r) t
unfolding rounds
rounds_from N n zero t = refl
rounds_from N n (suc r) t = ap (round N n) (rounds_from N n r t)

-- rounds keep the nodes
rounds_length : (N : Net) (n r : ℕ) (t : List Cell) → length t ≡ n → length (rounds N n r t) ≡ n
unfolding rounds
rounds_length N n zero t e = e
rounds_length N n (suc r) t e = round_length N n (rounds N n r t)

-- a run from the table t with `left` rounds left and `done` done comes to o after k rounds more
record Goes (N : Net) (n left done : ℕ) (t : List Cell) (o : RunEnd) : Type 0 where
  k : ℕ
  count : o.rounds ≡ done + k
  within : k ≤ left
  table : o.table ≡ rounds N n k t
  still : o.quiet ≡ quiet N n o.table
  busy : (r : ℕ) → r < k → quiet N n (rounds N n r t) ≡ false
  all : o.quiet ≡ false → k ≡ left

goes : (N : Net) (n left done : ℕ) (t : List Cell) → Goes N n left done t (run_of N n left done t)
unfolding run_of rounds
goes N n zero done t =
    record { k = 0; count = omega arith; within = omega arith; table = refl; still = refl; busy = λ r h. absurd (not-suc-le-zero h); all = λ _. refl }
goes N n (suc left) done t = go (quiet N n t) refl (goes N n left (suc done) (round N n t))
  where
    first : quiet N n t ≡ false → (k : ℕ) → ((r : ℕ) → r < k → quiet N n (rounds N n r (round N n t)) ≡ false)
        → (r : ℕ) → r < suc k → quiet N n (rounds N n r t) ≡ false
    first e k h zero l = e
    first e k h (suc r) l = ap (quiet N n) (sym (rounds_from N n r t)) ∙ h r (le_of_suc-le-suc l)

    go : (q : Bool) → quiet N n t ≡ q → Goes N n left (suc done) (round N n t) (run_of N n left (suc done) (round N n t))
        → Goes N n (suc left) done t (elim q [ true ↦ record { rounds = done; quiet = true; table = t } | false ↦ run_of N n left (suc done) (round N n t) ])
    go true e g =
        record { k = 0; count = omega arith; within = omega arith; table = refl; still = sym e; busy = λ r h. absurd (not-suc-le-zero h); all = λ f. absurd (true≢false f) }
    go false e g =
        record {
          k = suc g.k;
          count = omega (arith, g.count);
          within = omega (arith, g.within);
          table = g.table ∙ rounds_from N n g.k t;
          still = g.still;
          busy = first e g.k g.busy;
          all = λ f. ap suc (g.all f);
        }

module _ (N : Net) (n count : ℕ) (t : List Cell) where
  abbrev o : RunEnd
  o = run_of N n count 0 t

  run_k : (goes N n count 0 t).k ≡ o.rounds
  run_k = omega (arith, (goes N n count 0 t).count)

  -- the run's table is the first table after as many rounds as it says
  pub run_table : o.table ≡ rounds N n o.rounds t
  run_table = (goes N n count 0 t).table ∙ ap (λ (r : ℕ). rounds N n r t) run_k

  -- it is of as many nodes
  pub run_nodes : length t ≡ n → length o.table ≡ n
  run_nodes e = ap length run_table ∙ rounds_length N n o.rounds t e

  pub run_within : o.rounds ≤ count
  run_within = omega (arith, (goes N n count 0 t).count, (goes N n count 0 t).within)

  -- it is quiet exactly when a round leaves its table alone
  pub run_quiet : (o.quiet ≡ true) ↔ (round N n o.table ≡ o.table)
  run_quiet =
      let e = (goes N n count 0 t).still in
      (λ q. (quiet_is N n o.table).0 (sym e ∙ q), λ r. e ∙ (quiet_is N n o.table).1 r)

  -- every table before it is changed by the next round: the count is the first after which a round changes nothing
  pub run_first : (r : ℕ) → r < o.rounds → round N n (rounds N n r t) ≡ rounds N n r t → ⊥
  run_first r h e =
      true≢false (sym ((quiet_is N n (rounds N n r t)).1 e) ∙ (goes N n count 0 t).busy r (omega (arith, run_k)))

  -- a run that is not quiet did all the rounds that it was asked for
  pub run_all : o.quiet ≡ false → o.rounds ≡ count
  run_all q = omega (arith, run_k, (goes N n count 0 t).all q)

  -- a table that rests within the count is found, and no later than it rests
  pub run_rests : (b : ℕ) → b ≤ count → round N n (rounds N n b t) ≡ rounds N n b t → (o.quiet ≡ true) × (o.rounds ≤ b)
  run_rests b h e = (go o.quiet refl, no_later)
    where
      no_later : o.rounds ≤ b
      no_later = late (dec_lt b o.rounds)
        where
          late : Dec (b < o.rounds) → o.rounds ≤ b
          late (yes l) = absurd (run_first b l e)
          late (no l) = omega arith

      go : (q : Bool) → o.quiet ≡ q → o.quiet ≡ true
      go true f = f
      go false f =
          let k : o.rounds ≡ b = omega (arith, run_all f, no_later) in
          let s : o.table ≡ rounds N n b t = run_table ∙ ap (λ (r : ℕ). rounds N n r t) k in
          run_quiet.1 (ap (round N n) s ∙ e ∙ sym s)
