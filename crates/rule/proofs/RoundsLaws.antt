-- The rounds of a stored table, read as runs of distances, parents and marks, meet whatever a round leaves alone; and they come to rest.
use Prim.Native.Nat.{ℕ, zero, suc, ◌+◌, ◌*◌, ◌≤◌, ◌<◌}
use native.Mathlib.Nat.{lt_of_lt_of_le, mul-le-mul_right, zero-mul}
use native.Mathlib.Omega.{arith}
use mathlib.Core.Path.{◌≡◌, refl, sym, ap, ◌∙◌, subst}
use mathlib.Core.Logic.{⊎_elim}
use mathlib.Core.List.{List}
use Rattle.measure.specs.Measure.{ceiling}
use Rattle.rule.specs.Round.{Net, Cell, parent_at, new_mark, new_cell, at, round, rounds}
use Rattle.rule.specs.Exact.{ExactParent, ExactCell}
use Rattle.rule.proofs.Sound.{Sound}
use Rattle.rule.proofs.OfferLaws.{below?}
use Rattle.rule.proofs.CountLaws.{count_le}
use Rattle.rule.proofs.ContractionLaws.{Solves, Run, meets, rests}
use Rattle.rule.proofs.DistanceLaws.{solved_le, solved_exact}
use Rattle.rule.proofs.ParentLaws.{parent_exact, parent_unique, parent_meets}
use Rattle.rule.proofs.MarkLaws.{MarkRun, rank, marks_agree, marks_cut, marks_exact}
use Rattle.rule.proofs.TableLaws.{length_round, at_round_all, table_same}

-- the three parts of every number's cell
abbrev pub dists : (ℕ → Cell) → ℕ → ℕ
dists s i = (s i).dist

abbrev pub parents : (ℕ → Cell) → ℕ → ℕ
parents s i = (s i).parent

abbrev pub marks : (ℕ → Cell) → ℕ → ℕ
marks s i = (s i).mark

-- cells that a round leaves alone, part by part
pub record Still (N : Net) (s : ℕ → Cell) : Type 0 where
  pub dist : Solves N (dists s)
  pub parent : (i : ℕ) → (s i).parent ≡ parent_at N (dists s) (s i).dist i
  pub mark : (i : ℕ) → (s i).mark ≡ new_mark N (parents s) (marks s) i

pub still : (N : Net) (s : ℕ → Cell) → ((i : ℕ) → s i ≡ new_cell N s i) → Still N s
unfolding new_cell
still N s h =
    record {
      dist = λ i. ap (λ (c : Cell). c.dist) (h i);
      parent = λ i. ap (λ (c : Cell). c.parent) (h i) ∙ ap (λ (v : ℕ). parent_at N (dists s) v i) (sym (ap (λ (c : Cell). c.dist) (h i)));
      mark = λ i. ap (λ (c : Cell). c.mark) (h i);
    }

module _ {N : Net} {n m : ℕ} (ok : Sound N n m) where
  still_parents : {s : ℕ → Cell} → Still N s → (i : ℕ) → ExactParent N (dists s) i (s i).parent
  still_parents {s} h i = subst (λ (q : ℕ). ExactParent N (dists s) i q) (sym (h.parent i)) (parent_exact ok h.dist i)

  -- what a round leaves alone is exact
  pub still_exact : (s : ℕ → Cell) → Still N s → (i : ℕ) → ExactCell N s i
  still_exact s h i =
      record { dist = solved_exact ok h.dist i; parent = still_parents h i; mark = marks_exact ok h.dist (still_parents h) h.mark i }

  module _ (t : List Cell) where
    -- what node i holds after r rounds
    unfoldable pub held : ℕ → ℕ → Cell
    held r i = at (rounds N n r t) i

    held_next : (r i : ℕ) → held (suc r) i ≡ new_cell N (held r) i
    unfolding held rounds
    held_next r i = at_round_all ok (rounds N n r t) i

    run_dist : Run N (λ r. dists (held r))
    unfolding new_cell
    run_dist r i = ap (λ (c : Cell). c.dist) (held_next r i)

    run_parent : (r i : ℕ) → (held (suc r) i).parent ≡ parent_at N (dists (held r)) (held (suc r) i).dist i
    unfolding new_cell
    run_parent r i =
        ap (λ (c : Cell). c.parent) (held_next r i) ∙ ap (λ (v : ℕ). parent_at N (dists (held r)) v i) (sym (run_dist r i))

    run_mark : MarkRun N (λ r. parents (held r)) (λ r. marks (held r))
    unfolding new_cell
    run_mark r i = ap (λ (c : Cell). c.mark) (held_next r i)

    -- distances and parents, against any distances S that a round leaves alone and their exact parents Q
    module _ {S : ℕ → ℕ} (solved : Solves N S) {Q : ℕ → ℕ} (exact : (i : ℕ) → ExactParent N S i (Q i)) where
      pub dist_met : (r i : ℕ) → S i < r * m → (held r i).dist ≡ S i
      dist_met r i h = meets N m ok.cheapest (λ k. dists (held k)) S run_dist solved r i h

      pub parent_met : (r i : ℕ) → S i < r * m → (held r i).parent ≡ Q i
      parent_met zero i h = absurd (omega (arith, zero-mul m))
      parent_met (suc r) i h =
          run_parent r i
          ∙ ap (λ (v : ℕ). parent_at N (dists (held r)) v i) (dist_met (suc r) i h)
          ∙ parent_meets ok solved (λ k. dists (held k)) run_dist r i h
          ∙ parent_unique ok solved (parent_exact ok solved i) (exact i)

      later : (x r k : ℕ) → x < r * m → r ≤ k → x < k * m
      later x r k h l = lt_of_lt_of_le h (mul-le-mul_right m l)

      -- marks, against any marks X that a round leaves alone by the parents Q; t₀ rounds bring every real distance
      module _ {X : ℕ → ℕ} (rest : (i : ℕ) → X i ≡ new_mark N Q X i) where
        pub mark_met : (t₀ : ℕ) → ((j : ℕ) → S j < ceiling → S j < t₀ * m) → (r i : ℕ) → S i < ceiling → t₀ + rank ok solved exact i ≤ r → (held r i).mark ≡ X i
        mark_met t₀ near r i h l =
            marks_agree ok solved exact (λ k. parents (held k)) (λ k. marks (held k)) (λ _. Q) (λ _. X) t₀ run_mark (λ _ j. rest j)
            (λ k j b c. parent_met k j (later (S j) t₀ k (near j c) b)) (λ _ _ _ _. refl) r i h l

        pub mark_cut : (r i : ℕ) → ceiling < r * m → S i ≡ ceiling → (held (suc r) i).mark ≡ X i
        mark_cut r i h e =
            run_mark r i
            ∙ marks_cut ok solved exact (parents (held r)) (marks (held r)) Q X (λ j c. parent_met r j (omega arith)) (λ _ _. refl) i e
            ∙ sym (rest i)

    -- Past the ceiling, and a round for each node more, the table is at rest.
    module _ (r : ℕ) (long : ceiling < suc r * m) where
      S : ℕ → ℕ
      S = dists (held (suc r))

      solved : Solves N S
      unfolding S
      solved = rests N m ok.cheapest (λ k. dists (held k)) run_dist r long

      Q : ℕ → ℕ
      Q i = parent_at N S (S i) i

      exact : (i : ℕ) → ExactParent N S i (Q i)
      unfolding Q
      exact i = parent_exact ok solved i

      all_near : (k i : ℕ) → suc r ≤ k → S i < k * m
      all_near k i l = lt_of_lt_of_le (omega (arith, solved_le ok solved i)) (mul-le-mul_right m l)

      end : ℕ
      end = suc (suc r + n)

      rank_le : (i : ℕ) → rank ok solved exact i ≤ n
      unfolding rank
      rank_le i = count_le _ 1 n

      mark_rest : (i : ℕ) → (held (suc end) i).mark ≡ (held end i).mark
      unfolding end
      mark_rest i = ⊎_elim near far (below? (S i) ceiling)
        where
          near : S i < ceiling → (held (suc (suc (suc r + n))) i).mark ≡ (held (suc (suc r + n)) i).mark
          near h =
              sym (marks_agree ok solved exact (λ k. parents (held k)) (λ k. marks (held k)) (λ k. parents (held (suc k))) (λ k. marks (held (suc k))) (suc r)
              run_mark (λ k j. run_mark (suc k) j)
              (λ k j b c. parent_met solved exact k j (all_near k j b)) (λ k j b c. parent_met solved exact (suc k) j (all_near (suc k) j (omega arith)))
              (suc (suc r + n)) i h (omega (arith, rank_le i)))

          far : ceiling ≤ S i → (held (suc (suc (suc r + n))) i).mark ≡ (held (suc (suc r + n)) i).mark
          far c =
              run_mark (suc (suc r + n)) i
              ∙ marks_cut ok solved exact (parents (held (suc (suc r + n)))) (marks (held (suc (suc r + n)))) (parents (held (suc r + n))) (marks (held (suc r + n)))
              (λ j e. parent_met solved exact (suc (suc r + n)) j (all_near (suc (suc r + n)) j (omega arith)))
              (λ j e. parent_met solved exact (suc r + n) j (all_near (suc r + n) j (omega arith)))
              i (omega (arith, solved_le ok solved i))
              ∙ sym (run_mark (suc r + n) i)

      cell_rest : (i : ℕ) → held (suc end) i ≡ held end i
      unfolding end
      cell_rest i =
          let d : (held (suc (suc (suc r + n))) i).dist ≡ (held (suc (suc r + n)) i).dist =
          dist_met solved exact (suc (suc (suc r + n))) i (all_near (suc (suc (suc r + n))) i (omega arith)) ∙ sym (dist_met solved exact (suc (suc r + n)) i (all_near (suc (suc r + n)) i (omega arith))) in
          let q : (held (suc (suc (suc r + n))) i).parent ≡ (held (suc (suc r + n)) i).parent =
          parent_met solved exact (suc (suc (suc r + n))) i (all_near (suc (suc (suc r + n))) i (omega arith)) ∙ sym (parent_met solved exact (suc (suc r + n)) i (all_near (suc (suc r + n)) i (omega arith))) in
          λ k. record { dist = d k; parent = q k; mark = mark_rest i k }

      pub rests_table : round N n (rounds N n (suc (suc r + n)) t) ≡ rounds N n (suc (suc r + n)) t
      unfolding end held rounds
      rests_table =
          table_same (round N n (rounds N n (suc (suc r + n)) t)) (rounds N n (suc (suc r + n)) t) n
          (length_round N n (rounds N n (suc (suc r + n)) t)) (length_round N n (rounds N n (suc r + n) t)) (λ i w. cell_rest i)
