-- One turn of a run over slices: what the round and the comparison of it say of the table that the slices hold, and how the run goes on.
use Prim.Native.Nat.{ℕ, zero, suc, ◌+◌, ◌-◌, ◌≤◌, ◌<◌}
use native.Mathlib.Numerals.{add-one}
use native.Mathlib.Omega.{arith}
use mathlib.Core.Path.{◌≡◌, sym, ap, ◌∙◌}
use mathlib.Core.Bool.{Bool, true, false}
use mathlib.Core.List.{List}
use lib.ListN.{length, length-map}
use Rattle.rule.specs.Round.{Net, Cell, round, net_of}
use Rattle.table.specs.Slices.{cells_of}
use Rattle.table.specs.Lent.{park_over}
use Rattle.table.specs.declared.Net as lent
use Rattle.table.specs.Fit.{Together, Holds}
use Rattle.round.specs.Table.{round_of}
use Rattle.table.specs.Same.{same_slices, same_table}
use Rattle.round.specs.Run.{quiet, RunEnd, run_of, run_from, ran_of}
use Rattle.table.proofs.TableLaws.{cells_of_lem, Slices, slices}
use Rattle.round.proofs.RoundLaws.{round_length}

-- the table that slices hold
table_of : (t : List Cell) (ds ps ms : List ℕ) → Holds t ds ps ms → cells_of ds ps ms ≡ t
table_of t ds ps ms h = (λ i. cells_of (h.dists i) (h.parents i) (h.marks i)) ∙ cells_of_lem t

-- a comparison of slices is one of the tables that they hold
same_held : (t : List Cell) (ds' ps' ms' ds ps ms : List ℕ) → Holds t ds' ps' ms' → (length ps ≡ length ds) × (length ms ≡ length ds)
    → same_slices ds' ps' ms' ds ps ms ≡ same_table t (cells_of ds ps ms)
same_held t ds' ps' ms' ds ps ms h n =
    let s : Slices ds ps ms = slices ds ps ms n.0 n.1 in
    λ i. same_slices (h.dists i) (h.parents i) (h.marks i) (sym s.dists i) (sym s.parents i) (sym s.marks i)

-- the run itself: it ends where a round would change nothing, and else a round first takes one off those left

pub run_stops : (N : Net) (n left done : ℕ) (t : List Cell) → quiet N n t ≡ true → run_of N n left done t ≡ record { rounds = done; quiet = true; table = t }
unfolding run_of
run_stops N n zero done t e = ap (λ (q : Bool). record { rounds = done; quiet = q; table = t }) e
run_stops N n (suc left) done t e = rw (e, run_of)

pub run_goes_on : (N : Net) (n left done : ℕ) (t : List Cell) → quiet N n t ≡ false → run_of N n left (suc done) (round N n t) ≡ run_of N n (suc left) done t
unfolding run_of
run_goes_on N n left done t e = rw (e, run_of)

-- what slices hold is as long as the table
held_lengths : (t : List Cell) (n : ℕ) → length t ≡ n → (ds ps ms : List ℕ) → Holds t ds ps ms → (length ds ≡ n) × (length ps ≡ n) × (length ms ≡ n)
held_lengths t n e ds ps ms h = (
  ap length h.dists ∙ length-map t (λ (c : Cell). c.dist) ∙ e,
  ap length h.parents ∙ length-map t (λ (c : Cell). c.parent) ∙ e,
  ap length h.marks ∙ length-map t (λ (c : Cell). c.mark) ∙ e,
)

-- where a run stands that has done `done` of its rounds: its slices were ds₀ ps₀ ms₀ and now hold another table of as many nodes, with as
-- much room nd np nm for the next, and what it comes to is what the run from here comes to
pub record Going (net : lent.Net) (ds₀ ps₀ ms₀ ds ps ms nd np nm : List ℕ) (count done : ℕ) : Type 0 where
  pub together : Together ds ps ms nd np nm
  pub nodes : length ds ≡ length ds₀
  pub run : run_from (count - done) done net ds ps ms ≡ run_from count 0 net ds₀ ps₀ ms₀

-- a turn: the room has come to hold the round of the table, and q tells whether that is the table
module _ {net : lent.Net} {ds₀ ps₀ ms₀ ds ps ms nd np nm : List ℕ} {count done : ℕ} (s : Going net ds₀ ps₀ ms₀ ds ps ms nd np nm count done)
    {xd xp xm : List ℕ} (h : Holds (round_of net ds ps ms) xd xp xm) {q : Bool} (told : q ≡ same_slices xd xp xm ds ps ms) where
  abbrev N : Net
  N = net_of (park_over (length ds) net)

  abbrev t : List Cell
  t = cells_of ds ps ms

  abbrev end : RunEnd
  end = run_from count 0 net ds₀ ps₀ ms₀

  is_quiet : quiet N (length ds) t ≡ q
  unfolding quiet
  is_quiet = sym (told ∙ same_held (round_of net ds ps ms) xd xp xm ds ps ms h s.together.table)

  -- it ends the run, with no round more
  ends : (k : ℕ) (b : Bool) → run_from (count - done) done net ds ps ms ≡ record { rounds = k; quiet = b; table = t }
      → (record { rounds = record { 0 = k }; quiet = b } ≡ ran_of end) × Holds end.table ds ps ms
  ends k b e =
      let o : end ≡ record { rounds = k; quiet = b; table = t } = sym s.run ∙ e in
      let held : Slices ds ps ms = slices ds ps ms s.together.table.0 s.together.table.1 in
      (ap ran_of (sym o), rw o (record { dists = sym held.dists; parents = sym held.parents; marks = sym held.marks }))

  pub rests : q ≡ true → (record { rounds = record { 0 = done }; quiet = true } ≡ ran_of end) × Holds end.table ds ps ms
  rests e = ends done true (run_stops N (length ds) (count - done) done t (is_quiet ∙ e))

  pub is_over : count ≤ done → done ≤ count → (record { rounds = record { 0 = count }; quiet = q } ≡ ran_of end) × Holds end.table ds ps ms
  unfolding run_of
  is_over a b =
      let z : count - done ≡ 0 = omega arith in
      let k : done ≡ count = omega arith in
      ends count q ((λ i. run_from (z i) (k i) net ds ps ms) ∙ ap (λ (b : Bool). record { rounds = count; quiet = b; table = t }) is_quiet)

  -- or its round was copied over the table
  pub goes : q ≡ false → done < count → {ds' ps' ms' : List ℕ} → (ds' ≡ xd) × (ps' ≡ xp) × (ms' ≡ xm)
      → Going net ds₀ ps₀ ms₀ ds' ps' ms' xd xp xm count (done + 1)
  goes e l {ds'} {ps'} {ms'} copied =
      let n = held_lengths (round_of net ds ps ms) (length ds) (round_length N (length ds) t) xd xp xm h in
      let d : length ds' ≡ length ds = ap length copied.0 ∙ n.0 in
      let z : cells_of ds' ps' ms' ≡ round_of net ds ps ms =
      table_of (round_of net ds ps ms) ds' ps' ms'
      (record { dists = copied.0 ∙ h.dists; parents = copied.1 ∙ h.parents; marks = copied.2 ∙ h.marks }) in
      let left : suc (count - (done + 1)) ≡ count - done = omega arith in
      record {
        together =
            record {
              table = (ap length copied.1 ∙ n.1 ∙ sym d, ap length copied.2 ∙ n.2 ∙ sym d);
              second = (n.0 ∙ sym d, n.1 ∙ sym d, n.2 ∙ sym d);
            };
        nodes = d ∙ s.nodes;
        run = (λ i. run_of (net_of (park_over (d i) net)) (d i) (count - (done + 1)) (add-one done i) (z i))
            ∙ run_goes_on N (length ds) (count - (done + 1)) done t (is_quiet ∙ e)
            ∙ ap (λ (r : ℕ). run_of N (length ds) r done t) left
            ∙ s.run;
      }
