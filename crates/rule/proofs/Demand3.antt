-- The theorems that the promises cite: a park has exactly one exact table, a round changes nothing exactly when the whole table is exact,
-- and demand 3 of the order holds from any stored table.
use Prim.Native.Nat.{ℕ, zero, suc, ◌+◌, ◌*◌, ◌/◌, ◌≤◌, ◌<◌, max}
use native.Mathlib.Nat.{le_refl, le_trans, le_of_eq, le-suc, lt_of_lt_of_le, lt_of_le_of_lt, mul-le-mul_left, mul-le-mul_right, mul_comm, lt-mul-div-succ, le-max_left, le-max_right, one-mul}
use native.Mathlib.Omega.{arith}
use mathlib.Core.Path.{◌≡◌, refl, sym, ap, ◌∙◌, subst, fun_ext}
use mathlib.Core.Logic.{⊎_elim, ◌↔◌}
use mathlib.Core.Bool.{Bool, true, false, cond, ◌&&◌}
use mathlib.Core.List.Memᴰ
use mathlib.Core.List.{List, [], ◌∷◌, Memᴰ}
use borrow.Author.Tests.{ltb-false}
use lib.Dec.{T, ltb, leb}
use lib.ListN.{length, get_or}
use Rattle.measure.specs.Measure.{ceiling}
use Rattle.rule.specs.Round.{Arc, Cell, Link, Park, new_cell, blank, at, round, rounds, arcs_of, net_of}
use Rattle.rule.specs.Exact.{Node, ExactParent, ExactMark, Exact}
use Rattle.rule.specs.Settles.{ParkOk, least_cost, reachable, farthest, after, Settles}
use Rattle.rule.proofs.Sound.{Within}
use Rattle.rule.proofs.CountLaws.{count, count_same, count_shift, count_mono}
use Rattle.rule.proofs.ContractionLaws.{Solves}
use Rattle.rule.proofs.DistanceLaws.{dist_unique, solved_le, real_most}
use Rattle.rule.proofs.ParentLaws.{parent_unique}
use Rattle.rule.proofs.MarkLaws.{mark_same, mark_unique, rank}
use Rattle.rule.proofs.NetLaws.{sound}
use Rattle.rule.proofs.TableLaws.{within?, at_blank, at_round_all, length_round, table_same}
use Rattle.rule.proofs.RoundsLaws.{dists, parents, marks, Still, still, still_exact, held, dist_met, parent_met, mark_met, mark_cut, rests_table}

-- the number of nodes with a path, counted by number
at_next : (c : Cell) (t : List Cell) (j : ℕ) → 1 ≤ j → at (c ∷ t) (suc j) ≡ at t j
unfolding at
at_next c t zero h = absurd (omega arith)
at_next c t (suc j) h = refl

reachable_count : (t : List Cell) → reachable t ≡ count (λ i. ltb (at t i).dist ceiling) 1 (length t)
unfolding reachable count at
reachable_count [] = refl
reachable_count (c ∷ t) =
    ap (λ (k : ℕ). cond (ltb c.dist ceiling) (suc k) k)
    (reachable_count t
    ∙ count_same (λ i. ltb (at t i).dist ceiling) (λ i. ltb (at (c ∷ t) (suc i)).dist ceiling) 1 (length t) (λ j h. ap (λ (x : Cell). ltb x.dist ceiling) (sym (at_next c t j h)))
    ∙ count_shift (λ i. ltb (at (c ∷ t) i).dist ceiling) 1 (length t))

-- no node with a path is beyond the farthest
farthest_most : (t : List Cell) (i : ℕ) → (at t i).dist < ceiling → (at t i).dist ≤ farthest t
unfolding farthest at
farthest_most t zero h = absurd (omega arith)
farthest_most [] (suc i) h = absurd (omega arith)
farthest_most (c ∷ t) (suc i) h = go i h (λ k. farthest_most t i k) (ltb c.dist ceiling) refl
  where
    go : (i : ℕ) → (get_or (c ∷ t) i blank).dist < ceiling → ((at t i).dist < ceiling → (at t i).dist ≤ farthest t) → (b : Bool) → ltb c.dist ceiling ≡ b
        → (get_or (c ∷ t) i blank).dist ≤ cond b (max c.dist (farthest t)) (farthest t)
    go zero h rest true e = le-max_left c.dist (farthest t)
    go zero h rest false e = absurd (omega (arith, ltb-false c.dist ceiling e))
    go (suc i) h rest true e = le_trans (rest h) (le-max_right c.dist (farthest t))
    go (suc i) h rest false e = rest h

-- S/m rounded down, plus one, rounds are more than S cost units
enough : (s m r : ℕ) → 1 ≤ m → s / m + 1 ≤ r → s < r * m
enough s m r h l = omega (arith, lt-mul-div-succ s h, mul-le-mul_left m l, mul_comm m r)

-- how long a table is let run to show that an exact one exists, in rounds
long : ℕ
long = ceiling

long_enough : (m : ℕ) → 1 ≤ m → ceiling < suc long * m
unfolding long
long_enough m h = omega arith

module _ {p : Park} (ok : ParkOk p) where
  -- a table that a round leaves alone is exact
  quiet_exact : (t : List Cell) → round (net_of p) p.nodes t ≡ t → Exact p t
  quiet_exact t e =
      record {
        size = ap length (sym e) ∙ length_round (net_of p) p.nodes t;
        cells = λ i w. still_exact (sound ok) (at t) (still (net_of p) (at t) (λ j. ap (λ (u : List Cell). at u j) (sym e) ∙ at_round_all (sound ok) t j)) i;
      }

  -- every table comes to rest
  settled : List Cell → List Cell
  settled t = rounds (net_of p) p.nodes (suc (suc long + p.nodes)) t

  settled_quiet : (t : List Cell) → round (net_of p) p.nodes (settled t) ≡ settled t
  unfolding settled
  settled_quiet t = rests_table (sound ok) t long (long_enough (least_cost p.links) (sound ok).positive)

  settled_exact : Exact p (settled [])
  settled_exact = quiet_exact (settled []) (settled_quiet [])

  -- a park has an exact table
  pub exists : (e : List Cell) × Exact p e
  exists = (settled [], settled_exact)

  node : {i : ℕ} → Within p.nodes i → Node p i
  node w = record { least = w.0; most = w.1 }

  -- two exact tables have the same distances at every number
  same_dists : {t u : List Cell} → Exact p t → Exact p u → (i : ℕ) → (at t i).dist ≡ (at u i).dist
  same_dists {t} {u} x y i =
      ⊎_elim (λ (w : Within p.nodes i). dist_unique (x.cells i (node w)).dist (y.cells i (node w)).dist)
      (λ w. ap (λ (c : Cell). c.dist) (at_blank t p.nodes i x.size w ∙ sym (at_blank u p.nodes i y.size w)))
      (within? p.nodes i)

  -- the distances of an exact table are left alone by a round
  exact_solves : {t : List Cell} → Exact p t → Solves (net_of p) (dists (at t))
  exact_solves {t} x =
      let e : dists (at (settled [])) ≡ dists (at t) = fun_ext (same_dists settled_exact x) in
      subst (Solves (net_of p)) e
      (still (net_of p) (at (settled [])) (λ j. ap (λ (u : List Cell). at u j) (sym (settled_quiet [])) ∙ at_round_all (sound ok) (settled []) j)).dist

  -- and so on for parents and marks
  same_parents : {t u : List Cell} → Exact p t → Exact p u → (i : ℕ) → (at t i).parent ≡ (at u i).parent
  same_parents {t} {u} x y i =
      ⊎_elim
      (λ (w : Within p.nodes i). parent_unique (sound ok) (exact_solves x) (x.cells i (node w)).parent
      (subst (λ (S : ℕ → ℕ). ExactParent (net_of p) S i (at u i).parent) (fun_ext (same_dists y x)) (y.cells i (node w)).parent))
      (λ w. ap (λ (c : Cell). c.parent) (at_blank t p.nodes i x.size w ∙ sym (at_blank u p.nodes i y.size w)))
      (within? p.nodes i)

  same_marks : {t u : List Cell} → Exact p t → Exact p u → (i : ℕ) → Within p.nodes i → (at t i).mark ≡ (at u i).mark
  same_marks {t} {u} x y i w =
      mark_unique (x.cells i (node w)).mark
      (subst (λ (S : ℕ → ℕ). ExactMark (net_of p) S (parents (at t)) i (at u i).mark) (fun_ext (same_dists y x))
      (subst (λ (Q : ℕ → ℕ). ExactMark (net_of p) (dists (at u)) Q i (at u i).mark) (fun_ext (same_parents y x)) (y.cells i (node w)).mark))

  -- a park has one exact table
  pub unique : {t u : List Cell} → Exact p t → Exact p u → t ≡ u
  unique {t} {u} x y =
      table_same t u p.nodes x.size y.size
      (λ i w k. record { dist = same_dists x y i k; parent = same_parents x y i k; mark = same_marks x y i w k })

  pub exact_quiet : {t : List Cell} → Exact p t → round (net_of p) p.nodes t ≡ t
  exact_quiet x = subst (λ (u : List Cell). round (net_of p) p.nodes u ≡ u) (unique settled_exact x) (settled_quiet [])

  -- an exact table, as functions of every number
  pub exact_still : {t : List Cell} → Exact p t → Still (net_of p) (at t)
  exact_still {t} x = still (net_of p) (at t) (λ j. ap (λ (u : List Cell). at u j) (sym (exact_quiet x)) ∙ at_round_all (sound ok) t j)

  -- "A round changes nothing exactly when the whole table is exact."
  pub quiet : (t : List Cell) → (round (net_of p) p.nodes t ≡ t) ↔ Exact p t
  quiet t = (quiet_exact t, λ x. exact_quiet x)

  -- "The longest possible path costs 255 times 65,535 = 16,711,425."
  pub real_distance : {e : List Cell} → Exact p e → (i : ℕ) → (at e i).dist < ceiling → (at e i).dist ≤ 16_711_425
  real_distance x i h = real_most (sound ok) (exact_solves x) i h

  -- Demand 3, from any stored table t.
  module _ {e : List Cell} (x : Exact p e) (t : List Cell) where
    at_rest : Still (net_of p) (at e)
    at_rest = exact_still x

    exact_parents : (i : ℕ) → ExactParent (net_of p) (dists (at e)) i (at e i).parent
    exact_parents i = (still_exact (sound ok) (at e) at_rest i).parent

    near : (i r : ℕ) → (at e i).dist < r * least_cost p.links
        → ((at (after p r t) i).dist ≡ (at e i).dist) × ((at (after p r t) i).parent ≡ (at e i).parent)
    unfolding after held
    near i r h = (dist_met (sound ok) t at_rest.dist exact_parents r i h, parent_met (sound ok) t at_rest.dist exact_parents r i h)

    -- as many nodes have a path as are as far as i or farther, at least
    rank_most : (i : ℕ) → rank (sound ok) at_rest.dist exact_parents i ≤ reachable e
    unfolding rank
    rank_most i =
        le_trans
        (count_mono (λ j. leb (at e i).dist (at e j).dist && ltb (at e j).dist ceiling) (λ j. ltb (at e j).dist ceiling) (λ j b. second (leb (at e i).dist (at e j).dist) (ltb (at e j).dist ceiling) b) 1 p.nodes)
        (omega (arith, reachable_count e ∙ ap (count (λ j. ltb (at e j).dist ceiling) 1) x.size))
      where
        second : (a b : Bool) → T (a && b) → T b
        second true b h = h
        second false b h = absurd h

    marked : (i r : ℕ) → (at e i).dist < ceiling → farthest e / least_cost p.links + 1 + reachable e ≤ r → (at (after p r t) i).mark ≡ (at e i).mark
    unfolding after held
    marked i r h l =
        mark_met (sound ok) t at_rest.dist exact_parents at_rest.mark (farthest e / least_cost p.links + 1)
        (λ j c. lt_of_le_of_lt (farthest_most e j c) (enough (farthest e) (least_cost p.links) (farthest e / least_cost p.links + 1) (sound ok).positive (le_refl (farthest e / least_cost p.links + 1))))
        r i h (omega (arith, rank_most i))

    cut_mark : (i r : ℕ) → (at e i).dist ≡ ceiling → ceiling < r * least_cost p.links → (at (after p (suc r) t) i).mark ≡ (at e i).mark
    unfolding after held
    cut_mark i r h l = mark_cut (sound ok) t at_rest.dist exact_parents at_rest.mark r i l h

    cut_off : (i r : ℕ) → (at e i).dist ≡ ceiling → ceiling / least_cost p.links + 2 ≤ r → at (after p r t) i ≡ at e i
    cut_off i zero h l = absurd (omega arith)
    cut_off i (suc r) h l =
        let b : ceiling < r * least_cost p.links = enough ceiling (least_cost p.links) r (sound ok).positive (omega arith) in
        let c : (at e i).dist < suc r * least_cost p.links = lt_of_le_of_lt (le_of_eq h) (lt_of_lt_of_le b (mul-le-mul_right (least_cost p.links) (le-suc r))) in
        λ k. record { dist = (near i (suc r) c).0 k; parent = (near i (suc r) c).1 k; mark = cut_mark i r h b k }

    -- without links nobody asks
    bare_mark : (i r : ℕ) → p.links ≡ [] → (at (after p (suc r) t) i).mark ≡ (at e i).mark
    unfolding after rounds new_cell net_of arcs_of
    bare_mark i r b =
        ap (λ (c : Cell). c.mark) (at_round_all (sound ok) (after p r t) i)
        ∙ mark_same (net_of p) (parents (at (after p r t))) (marks (at (after p r t))) (parents (at e)) (marks (at e)) i (λ a k w. none a k) (λ a k w. none a k)
        ∙ sym (at_rest.mark i)
      where
        none : {A : Type 0} (a : Arc) → Memᴰ a (arcs_of p.links i) → A
        none a k = absurd (Memᴰ.not-nil (subst (λ (ls : List Link). Memᴰ a (arcs_of ls i)) b k))

    bare_dist : (r : ℕ) → p.links ≡ [] → (i : ℕ) → (at e i).dist < suc r * least_cost p.links
    unfolding least_cost
    bare_dist r b i =
        let c : least_cost p.links ≡ suc ceiling = ap least_cost b in
        omega (arith, solved_le (sound ok) at_rest.dist i, mul-le-mul_right {m = 1} {n = suc r} (least_cost p.links) (omega arith), one-mul (least_cost p.links))

    length_after : (r : ℕ) → length (after p (suc r) t) ≡ p.nodes
    unfolding after rounds
    length_after r = length_round (net_of p) p.nodes (after p r t)

    bare : (r : ℕ) → p.links ≡ [] → 1 ≤ r → after p r t ≡ e
    bare zero b h = absurd (omega arith)
    bare (suc r) b h =
        table_same (after p (suc r) t) e p.nodes (length_after r) x.size
        (λ i w k. record { dist = (near i (suc r) (bare_dist r b i)).0 k; parent = (near i (suc r) (bare_dist r b i)).1 k; mark = bare_mark i r b k })

    pub demand3 : Settles p e t
    demand3 =
        record {
          near = λ i r w l. near i r (enough (at e i).dist (least_cost p.links) r (sound ok).positive (omega arith));
          marked = λ i r w h l. marked i r h (omega arith);
          cut_off = λ i r w h l. cut_off i r h (omega arith);
          bare = bare;
        }
