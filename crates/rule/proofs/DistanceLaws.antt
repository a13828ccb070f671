-- Distances that a round leaves alone are the exact ones, and every real distance is far below the ceiling.
-- Paths are needed only here: to tie the round's own equations to "the least cost of any path".
use Prim.Native.Nat.{ℕ, zero, suc, ◌+◌, ◌*◌, ◌≤◌, ◌<◌}
use native.Mathlib.Nat.{le_refl, le_trans, le_of_eq, le_antisymm}
use native.Mathlib.Omega.{arith}
use mathlib.Core.Path.{◌≡◌, sym, ap, ◌∙◌, subst}
use mathlib.Core.Logic.{⊎_elim}
use mathlib.Core.List.{Memᴰ}
use borrow.Author.Tests.{lt-ltb, le-ltb}
use lib.Dec.{ltb, ltb→lt, lt→ltb}
use Rattle.measure.specs.Measure.{ceiling, largest_cost}
use Rattle.rule.specs.Round.{Arc, Net, through, least, new_dist}
use Rattle.rule.specs.Exact.{Route, here, hop, ExactDist, reached, cut}
use Rattle.rule.proofs.Sound.{Within, Sound}
use Rattle.rule.proofs.ContractionLaws.{Solves}
use Rattle.rule.proofs.CountLaws.{count, count_less, count_more}
use Rattle.rule.proofs.OfferLaws.{same?, below?, through_sum, through_small, least_lower, least_offered, least_great, new_dist_root, new_dist_other, new_dist_le}

-- one distance at most is exact
pub dist_unique : {N : Net} {i d e : ℕ} → ExactDist N i d → ExactDist N i e → d ≡ e
dist_unique (reached r l) (reached s k) = le_antisymm (l _ s) (k _ r)
dist_unique (reached r l) (cut k e) = absurd (k _ r)
dist_unique (cut k e) (reached r l) = absurd (k _ r)
dist_unique (cut k e) (cut l f) = e ∙ sym f

-- The certificate: the root at 0, no arc offers less than what stands, and what is below the ceiling is offered by some arc.
pub record Certified (N : Net) (D : ℕ → ℕ) : Type 0 where
  pub root : D N.root ≡ 0
  pub capped : (i : ℕ) → D i ≤ ceiling
  pub lower : (i : ℕ) → (i ≡ N.root → ⊥) → (a : Arc) → Memᴰ a (N.arcs i) → D i ≤ through D a
  pub offered : (i : ℕ) → (i ≡ N.root → ⊥) → D i < ceiling → (a : Arc) × Memᴰ a (N.arcs i) × (through D a ≡ D i)

-- such distances are left alone by a round
pub certificate : (N : Net) (D : ℕ → ℕ) → Certified N D → Solves N D
certificate N D c i = ⊎_elim at_root other (same? i N.root)
  where
    at_root : i ≡ N.root → D i ≡ new_dist N D i
    at_root e = ap D e ∙ c.root ∙ sym (new_dist_root N D i e)

    other : (i ≡ N.root → ⊥) → D i ≡ new_dist N D i
    other n =
        let low : D i ≤ least D (N.arcs i) = least_great D (D i) (N.arcs i) (c.capped i) (c.lower i n) in
        ⊎_elim
        (λ (h : D i < ceiling). let o = c.offered i n h in
        omega (arith, new_dist_other N D i n, least_lower D o.0 (N.arcs i) o.1, o.2))
        (λ (h : ceiling ≤ D i). omega (arith, new_dist_other N D i n, new_dist_le N D i))
        (below? (D i) ceiling)

module _ {N : Net} {n m : ℕ} (ok : Sound N n m) {S : ℕ → ℕ} (solved : Solves N S) where
  pub solved_le : (i : ℕ) → S i ≤ ceiling
  solved_le i = le_trans (le_of_eq (solved i)) (new_dist_le N S i)

  pub solved_root : (i : ℕ) → i ≡ N.root → S i ≡ 0
  solved_root i e = solved i ∙ new_dist_root N S i e

  -- no arc offers less than what stands
  pub solved_lower : (i : ℕ) (a : Arc) → Memᴰ a (N.arcs i) → S i ≤ S a.from + a.cost
  solved_lower i a k =
      ⊎_elim (λ e. omega (arith, solved_root i e))
      (λ n. omega (arith, solved i, new_dist_other N S i n, least_lower S a (N.arcs i) k, through_sum S a))
      (same? i N.root)

  -- a distance below the ceiling, away from the root, is over some arc from a nearer node
  pub record Over (i : ℕ) : Type 0 where
    pub arc : Arc
    pub among : Memᴰ arc (N.arcs i)
    pub sum : S arc.from + arc.cost ≡ S i
    pub nearer : S arc.from < S i

  pub over : (i : ℕ) → (i ≡ N.root → ⊥) → S i < ceiling → Over i
  over i n h =
      let e : S i ≡ least S (N.arcs i) = solved i ∙ new_dist_other N S i n in
      let o = least_offered S (N.arcs i) (omega arith) in
      let small : through S o.0 ≡ S o.0.from + o.0.cost = through_small S o.0 (omega (arith, o.2)) in
      record {
        arc = o.0;
        among = o.1;
        sum = sym small ∙ o.2 ∙ sym e;
        nearer = omega (arith, o.2, ok.cheapest i o.0 o.1, ok.positive);
      }

  -- the paths
  pub path_lower : {i x : ℕ} → Route N i x → S i ≤ x
  path_lower {i} (here e z) = omega (arith, solved_root i e)
  path_lower {i} (hop a k r e) = omega (arith, path_lower r, solved_lower i a k)

  path_of : (b i : ℕ) → S i < b → S i < ceiling → Route N i (S i)
  path_of zero i l h = absurd (omega arith)
  path_of (suc b) i l h =
      ⊎_elim (λ (e : i ≡ N.root). here e (solved_root i e))
      (λ (n : i ≡ N.root → ⊥). let o = over i n h in
      hop o.arc o.among (path_of b o.arc.from (omega (arith, o.nearer)) (omega (arith, o.nearer))) (sym o.sum))
      (same? i N.root)

  -- a node with a path or with a distance below the ceiling is a node of the park
  pub solved_node : (i : ℕ) → S i < ceiling → Within n i
  solved_node i h =
      ⊎_elim (λ (e : i ≡ N.root). subst (Within n) (sym e) ok.root) (λ k. let o = over i k h in ok.hearer i o.arc o.among) (same? i N.root)

  -- how many nodes are nearer than x
  nearer : ℕ → ℕ
  nearer x = count (λ j. ltb (S j) x) 1 n

  -- a real distance is at most the largest cost for each node that is nearer
  real_by_count : (b i : ℕ) → S i < b → S i < ceiling → S i ≤ largest_cost * nearer (S i)
  unfolding nearer
  real_by_count zero i l h = absurd (omega arith)
  real_by_count (suc b) i l h =
      ⊎_elim (λ (e : i ≡ N.root). omega (arith, solved_root i e))
      (λ (k : i ≡ N.root → ⊥). let o = over i k h in
      further o.arc o.among o.sum o.nearer (real_by_count b o.arc.from (omega (arith, o.nearer)) (omega (arith, o.nearer))))
      (same? i N.root)
    where
      further : (a : Arc) → Memᴰ a (N.arcs i) → S a.from + a.cost ≡ S i → S a.from < S i
          → S a.from ≤ largest_cost * nearer (S a.from) → S i ≤ largest_cost * nearer (S i)
      further a k e l r =
          let w = ok.sender i a k in
          let more : nearer (S a.from) < nearer (S i) =
          count_more (λ j. ltb (S j) (S a.from)) (λ j. ltb (S j) (S i)) (λ j t. lt→ltb (S j) (S i) (omega (arith, ltb→lt (S j) (S a.from) t)))
          1 n a.from w.0 (omega (arith, w.1)) (le-ltb (S a.from) (S a.from) (le_refl (S a.from))) (lt-ltb (S a.from) (S i) l) in
          omega (arith, ok.dearest i a k)

  -- "The longest possible path costs 255 times 65,535 = 16,711,425, so no real distance meets" the ceiling.
  pub real_most : (i : ℕ) → S i < ceiling → S i ≤ 16_711_425
  unfolding nearer
  real_most i h =
      let w = solved_node i h in
      omega (
        arith,
        real_by_count (suc (S i)) i (le_refl (suc (S i))) h,
        ok.few,
        count_less (λ j. ltb (S j) (S i)) n i w.0 w.1 (le-ltb (S i) (S i) (le_refl (S i))),
      )

  -- a path means a distance below the ceiling
  pub path_reaches : {i x : ℕ} → Route N i x → S i < ceiling
  path_reaches {i} (here e z) = omega (arith, solved_root i e)
  path_reaches {i} (hop a k r e) =
      omega (arith, real_most a.from (path_reaches r), ok.dearest i a k, solved_lower i a k)

  -- distances that a round leaves alone are exact
  pub solved_exact : (i : ℕ) → ExactDist N i (S i)
  solved_exact i =
      ⊎_elim (λ (h : S i < ceiling). reached (path_of (suc (S i)) i (le_refl (suc (S i))) h) (λ x r. path_lower r))
      (λ (h : ceiling ≤ S i). cut (λ x r. absurd (omega (arith, path_reaches r))) (le_antisymm (solved_le i) h))
      (below? (S i) ceiling)
