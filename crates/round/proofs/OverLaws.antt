-- A run over slices of any lengths is the run over their fronts; over slices of equally many nodes, no more than a park has, it is the run
-- over all of them.
use Prim.Native.Nat.{ℕ, ◌≤◌}
use native.Mathlib.Nat.{le_refl, le_of_eq}
use native.Mathlib.Omega.{arith}
use mathlib.Core.Path.{◌≡◌, sym, ap, ◌∙◌}
use mathlib.Core.List.{List, ◌++◌}
use lib.ListN.{length, take, drop, length-map}
use lib.Seq.{sets, length-take-le, take_all}
use Rattle.rule.specs.Round.{Cell, net_of}
use Rattle.table.specs.Slices.{cells_of, dists_of, parents_of, marks_of}
use Rattle.table.specs.Lent.{park_over}
use Rattle.table.specs.declared.Net as lent
use Rattle.table.specs.Fit.{nodes_over, Holds, Fronts}
use Rattle.table.proofs.FitLaws.{nodes_all, fronts_hold}
use Rattle.table.proofs.PartLaws.{sets_front}
use Rattle.table.proofs.TableLaws.{Slices, slices}
use Rattle.answers.specs.declared.Ran.{Ran}
use Rattle.round.specs.Run.{RunEnd, run_of, run_from, run_over, ran_of}
use Rattle.round.proofs.RunLaws.{run_nodes}

-- the table of slices of equally many nodes has as many
cells_length : (ds ps ms : List ℕ) → length ps ≡ length ds → length ms ≡ length ds → length (cells_of ds ps ms) ≡ length ds
cells_length ds ps ms e f =
    let s : Slices ds ps ms = slices ds ps ms e f in
    sym (length-map (cells_of ds ps ms) (λ (c : Cell). c.dist)) ∙ ap length s.dists

module _ (count : ℕ) (net : lent.Net) (ds ps ms : List ℕ) where
  -- the run over equally many nodes ends with as many
  end_nodes : length ps ≡ length ds → length ms ≡ length ds → length (run_from count 0 net ds ps ms).table ≡ length ds
  end_nodes e f = run_nodes (net_of (park_over (length ds) net)) (length ds) count (cells_of ds ps ms) (cells_length ds ps ms e f)

module _ (count : ℕ) (net : lent.Net) (ds ps ms : List ℕ) where
  module _ (n : ℕ) (e : n ≡ nodes_over (length ds) (length ps) (length ms)) where
    over_fronts : run_from count 0 net (take n ds) (take n ps) (take n ms) ≡ run_over count net ds ps ms
    unfolding run_over
    over_fronts =
        let k : length (take n ds) ≡ n = length-take-le n ds (omega arith) in
        (λ i. run_of (net_of (park_over (k i) net)) (k i) count 0 (cells_of (take n ds) (take n ps) (take n ms)))
        ∙ (λ i. run_of (net_of (park_over (e i) net)) (e i) count 0 (cells_of (take (e i) ds) (take (e i) ps) (take (e i) ms)))

    -- what the run over the fronts answers and leaves there
    pub run_fronts : (r : Ran) (xd xp xm : List ℕ)
        → (r ≡ ran_of (run_from count 0 net (take n ds) (take n ps) (take n ms)))
        × Holds (run_from count 0 net (take n ds) (take n ps) (take n ms)).table xd xp xm
        → (r ≡ ran_of (run_over count net ds ps ms))
        × Fronts (run_over count net ds ps ms).table ds ps ms (xd ++ drop n ds) (xp ++ drop n ps) (xm ++ drop n ms)
    run_fronts r xd xp xm a =
        let d : n ≤ length ds = omega arith in
        let p : n ≤ length ps = omega arith in
        let m : n ≤ length ms = omega arith in
        let t : List Cell = (run_from count 0 net (take n ds) (take n ps) (take n ms)).table in
        let k = length-take-le n ds d in
        let z : length t ≡ n =
        end_nodes count net (take n ds) (take n ps) (take n ms) (length-take-le n ps p ∙ sym k) (length-take-le n ms m ∙ sym k) ∙ k in
        let h = a.1 in (
          a.0 ∙ ap ran_of over_fronts,
          record {
            dists = sym (sets_front ds xd n (ap length h.dists ∙ length-map t (λ (c : Cell). c.dist) ∙ z) d)
                ∙ ap (sets ds 0) (h.dists ∙ ap (λ (o : RunEnd). dists_of o.table) over_fronts);
            parents = sym (sets_front ps xp n (ap length h.parents ∙ length-map t (λ (c : Cell). c.parent) ∙ z) p)
                ∙ ap (sets ps 0) (h.parents ∙ ap (λ (o : RunEnd). parents_of o.table) over_fronts);
            marks = sym (sets_front ms xm n (ap length h.marks ∙ length-map t (λ (c : Cell). c.mark) ∙ z) m)
                ∙ ap (sets ms 0) (h.marks ∙ ap (λ (o : RunEnd). marks_of o.table) over_fronts);
          },
        )

  -- for callers whose slices are of equally many nodes, no more than a park has
  module _ (p : length ps ≡ length ds) (m : length ms ≡ length ds) (few : length ds ≤ 256) where
    pub run_whole : run_over count net ds ps ms ≡ run_from count 0 net ds ps ms
    run_whole =
        let n : ℕ = length ds in
        let d : take n ds ≡ ds = take_all n ds (le_refl n) in
        let q : take n ps ≡ ps = take_all n ps (le_of_eq p) in
        let k : take n ms ≡ ms = take_all n ms (le_of_eq m) in
        sym (over_fronts n (sym (nodes_all (length ds) (length ps) (length ms) p m few)))
        ∙ (λ i. run_from count 0 net (d i) (q i) (k i))

    pub run_holds : (ds' ps' ms' : List ℕ) → Fronts (run_over count net ds ps ms).table ds ps ms ds' ps' ms'
        → Holds (run_from count 0 net ds ps ms).table ds' ps' ms'
    run_holds ds' ps' ms' f =
        let z = sym (end_nodes count net ds ps ms p m) in
        fronts_hold (run_from count 0 net ds ps ms).table ds ps ms ds' ps' ms' (z, p ∙ z, m ∙ z) (rw run_whole at f)
