-- What a run of a file comes to: the exact table once its count is at or past the bounds of demand 3, and a count of rounds that is the
-- first after which a round changes nothing.
use Prim.Native.Nat.{ℕ, zero, suc, ◌+◌, ◌/◌, ◌≤◌, ◌<◌}
use native.Mathlib.Nat.{le_trans, div-mul-le_self, le-div_iff_mul-le}
use native.Mathlib.Decide.{dec_lt}
use native.Mathlib.Omega.{arith}
use mathlib.Core.Path.{◌≡◌, sym, ap, subst}
use mathlib.Core.Bool.{true, false}
use mathlib.Core.List.{List}
use lib.ListN.{length}
use Rattle.measure.specs.Measure.{ceiling}
use Rattle.rule.specs.Round.{Cell, Park, at, round, rounds, net_of}
use Rattle.rule.specs.Exact.{Node, Exact}
use Rattle.rule.specs.Settles.{ParkOk, least_cost, reachable, farthest, after}
use Rattle.rule.proofs.NetLaws.{sound}
use Rattle.rule.proofs.DistanceLaws.{solved_le}
use Rattle.rule.proofs.TableLaws.{length_round, table_same}
use Rattle.rule.proofs.Demand3.{quiet, unique, exact_quiet, exact_still, demand3}
use Rattle.wire.specs.Big.{Bytes}
use Rattle.answers.specs.Verdicts.{fine}
use Rattle.park.specs.ParkFile.{park_in, encode, with_state}
use Rattle.park.specs.Reading.{verdict_of, file_in}
use Rattle.park.proofs.ParkLaws.{fine_ok}
use Rattle.round.specs.Run.{RunEnd}
use Rattle.round.proofs.RunLaws as laws
use Rattle.run.specs.Run.{end_of, run_file}

div_mono : (x y m : ℕ) → 1 ≤ m → x ≤ y → x / m ≤ y / m
div_mono x y m h l = (le-div_iff_mul-le h).1 (le_trans (div-mul-le_self x m) l)

-- at or past every bound of demand 3 the whole table is exact
module _ {p : Park} (ok : ParkOk p) {e : List Cell} (x : Exact p e) (t : List Cell) (r : ℕ)
    (marked : farthest e / least_cost p.links + 1 + reachable e ≤ r) (cut : ceiling / least_cost p.links + 2 ≤ r) where
  length_then : (k : ℕ) → 2 ≤ k → length (after p k t) ≡ p.nodes
  unfolding after rounds
  length_then zero h = absurd (omega arith)
  length_then (suc k) h = length_round (net_of p) p.nodes (after p k t)

  cell_then : (i : ℕ) → Node p i → at (after p r t) i ≡ at e i
  cell_then i w = go (dec_lt (at e i).dist ceiling)
    where
      most : (at e i).dist ≤ ceiling
      most = solved_le (sound ok) (exact_still ok x).dist i

      close : (at e i).dist / least_cost p.links + 1 ≤ r
      close = omega (arith, div_mono (at e i).dist ceiling (least_cost p.links) (sound ok).positive most)

      go : Dec ((at e i).dist < ceiling) → at (after p r t) i ≡ at e i
      go (yes h) =
          let near = (demand3 ok x t).near i r w close in
          let mark = (demand3 ok x t).marked i r w h marked in
          λ k. record { dist = near.0 k; parent = near.1 k; mark = mark k }
      go (no h) = (demand3 ok x t).cut_off i r w (omega (arith, most)) cut

  pub exact_then : after p r t ≡ e
  exact_then =
      table_same (after p r t) e p.nodes (length_then r (omega arith)) x.size (λ i w. cell_then i (record { least = w.0; most = w.1 }))

-- a file that is not refused, and a count of rounds
module _ (s : List ℕ) (b : Bytes s) (taken : verdict_of s ≡ fine) (N : ℕ) where
  abbrev p : Park
  p = park_in (file_in s)

  abbrev t : List Cell
  t = (file_in s).state

  abbrev o : RunEnd
  o = end_of (file_in s) N

  ok : ParkOk p
  ok = fine_ok s b taken

  -- a run whose table rests within the count comes to the exact table
  pub run_rests : {e : List Cell} → Exact p e → (k : ℕ) → k ≤ N → round (net_of p) p.nodes (rounds (net_of p) p.nodes k t) ≡ rounds (net_of p) p.nodes k t
      → (o.quiet ≡ true) × (o.table ≡ e) × (run_file s N ≡ encode (with_state (file_in s) e))
  unfolding end_of park_in run_file
  run_rests {e} x k h r =
      let q = (laws.run_rests (net_of p) p.nodes N t k h r).0 in
      let z = (laws.run_quiet (net_of p) p.nodes N t).0 q in
      let same : o.table ≡ e = unique ok ((quiet ok o.table).0 z) x in
      (q, same, ap (λ (u : List Cell). encode (with_state (file_in s) u)) same)

  -- a count at or past the bounds: "(F/m rounded down) + 1 + k" for the nodes with a path, "(16,777,215 / m rounded down) + 2" for the others
  pub run_exact : {e : List Cell} → Exact p e → farthest e / least_cost p.links + 1 + reachable e ≤ N → ceiling / least_cost p.links + 2 ≤ N
      → (o.quiet ≡ true) × (o.table ≡ e) × (run_file s N ≡ encode (with_state (file_in s) e))
  unfolding after
  run_exact {e} x h k =
      run_rests x N (omega arith) (subst (λ (u : List Cell). round (net_of p) p.nodes u ≡ u) (sym (exact_then ok x t N h k)) (exact_quiet ok x))

  -- the count of a run that is quiet is the first after which a round changes nothing
  pub run_first : o.quiet ≡ true
      → (round (net_of p) p.nodes (rounds (net_of p) p.nodes o.rounds t) ≡ rounds (net_of p) p.nodes o.rounds t)
      × ((r : ℕ) → r < o.rounds → round (net_of p) p.nodes (rounds (net_of p) p.nodes r t) ≡ rounds (net_of p) p.nodes r t → ⊥)
  unfolding end_of park_in
  run_first q =
      (subst (λ (u : List Cell). round (net_of p) p.nodes u ≡ u) (laws.run_table (net_of p) p.nodes N t) ((laws.run_quiet (net_of p) p.nodes N t).0 q), laws.run_first (net_of p) p.nodes N t)

  -- and a run that is not quiet did all its rounds
  pub run_all : o.quiet ≡ false → o.rounds ≡ N
  unfolding end_of park_in
  run_all q = laws.run_all (net_of p) p.nodes N t q

  -- whichever: its table is that of as many rounds as it says
  pub run_table : o.table ≡ rounds (net_of p) p.nodes o.rounds t
  unfolding end_of park_in
  run_table = laws.run_table (net_of p) p.nodes N t
