-- The parent that a round gives by exact distances is the exact parent, and a run's parents are exact as soon as its distances are.
-- A parent is a function of the arcs that give exactly the least, so it is enough that those lists agree, whatever the tie rule.
use Prim.Native.Nat.{ℕ, suc, ◌+◌, ◌*◌, ◌≤◌, ◌<◌}
use native.Mathlib.Nat.{suc-mul}
use native.Mathlib.Omega.{arith}
use mathlib.Core.Path.{◌≡◌, refl, sym, ap, ◌∙◌}
use mathlib.Core.Logic.{◌⊎◌, inl, inr, ⊎_elim}
use mathlib.Core.Bool.{Bool, true, false, cond, ◌||◌}
use mathlib.Core.List.{Memᴰ}
use borrow.Author.Tests.{eq-eqb, ne_eqb}
use lib.Dec.{eqb}
use Rattle.measure.specs.Measure.{ceiling, plus}
use Rattle.rule.specs.Round.{Arc, Net, through, giving, chosen, parent_at}
use Rattle.rule.specs.Exact.{ExactParent, no_parent, by_arc}
use Rattle.rule.proofs.Sound.{Sound}
use Rattle.rule.proofs.TieLaws.{First, chosen_first, before_both}
use Rattle.rule.proofs.OfferLaws.{same?, through_small, through_exact, giving_in, giving_has, giving_same}
use Rattle.rule.proofs.ContractionLaws.{Solves, Run, agree, meets}
use Rattle.rule.proofs.DistanceLaws.{solved_le, solved_root, over, real_most}

-- where a parent is given, and where not
pub parent_none : (N : Net) (D : ℕ → ℕ) (v i : ℕ) → (i ≡ N.root) ⊎ (v ≡ ceiling) → parent_at N D v i ≡ 0
unfolding parent_at
parent_none N D v i (inl e) = rw (eq-eqb i N.root e)
parent_none N D v i (inr e) = rw e (go (eqb i N.root))
  where
    go : (t : Bool) → cond (t || true) 0 (chosen (giving D ceiling (N.arcs i))) ≡ 0
    go true = refl
    go false = refl

pub parent_some : (N : Net) (D : ℕ → ℕ) (v i : ℕ) → (i ≡ N.root → ⊥) → (v ≡ ceiling → ⊥) → parent_at N D v i ≡ chosen (giving D v (N.arcs i))
unfolding parent_at
parent_some N D v i n c = rw (ne_eqb i N.root n, ne_eqb v ceiling c)

-- an arc offers the same by distances that agree at its sender
same_offer : (D E : ℕ → ℕ) (a : Arc) → D a.from ≡ E a.from → through D a ≡ through E a
unfolding through
same_offer D E a e = ap (λ (x : ℕ). plus x a.cost) e

module _ {N : Net} {n m : ℕ} (ok : Sound N n m) {S : ℕ → ℕ} (solved : Solves N S) where
  pub parent_exact : (i : ℕ) → ExactParent N S i (parent_at N S (S i) i)
  parent_exact i = ⊎_elim (λ e. none (inl e)) (λ k. ⊎_elim (λ e. none (inr e)) (λ c. some k c) (same? (S i) ceiling)) (same? i N.root)
    where
      none : (i ≡ N.root) ⊎ (S i ≡ ceiling) → ExactParent N S i (parent_at N S (S i) i)
      none w = no_parent w (parent_none N S (S i) i w)

      found : (i ≡ N.root → ⊥) → (S i ≡ ceiling → ⊥) → S i < ceiling → ((b : Arc) → S b.from + b.cost ≡ S i → through S b ≡ S i)
          → (a : Arc) → First (giving S (S i) (N.arcs i)) a → chosen (giving S (S i) (N.arcs i)) ≡ a.from → ExactParent N S i (parent_at N S (S i) i)
      found k c low gives a f e =
          let g = giving_in S (S i) a (N.arcs i) f.among in
          by_arc a g.0 (omega (arith, g.1, through_small S a (omega (arith, g.1))))
          (λ b w s. f.foremost b (giving_has S (S i) b (N.arcs i) w (gives b s)))
          (parent_some N S (S i) i k c ∙ e)

      some : (i ≡ N.root → ⊥) → (S i ≡ ceiling → ⊥) → ExactParent N S i (parent_at N S (S i) i)
      some k c =
          let low : S i < ceiling = omega (arith, solved_le ok solved i, c) in
          let o = over ok solved i k low in
          let gives : (b : Arc) → S b.from + b.cost ≡ S i → through S b ≡ S i = λ b e. through_exact S b (omega arith) ∙ e in
          let f = chosen_first (giving S (S i) (N.arcs i)) o.arc (giving_has S (S i) o.arc (N.arcs i) o.among (gives o.arc o.sum)) in
          found k c low gives f.0 f.1 f.2

  -- an exact parent that is a node is the sender of an arc over which the distance comes
  pub parent_arc : {i q : ℕ} → ExactParent N S i q → 1 ≤ q → (a : Arc) × Memᴰ a (N.arcs i) × (a.from ≡ q) × (S q + a.cost ≡ S i)
  parent_arc (no_parent w e) h = absurd (omega arith)
  parent_arc {i} (by_arc a k e f q) h = (a, k, sym q, ap (λ (x : ℕ). S x + a.cost) q ∙ e)

  -- no arc gives a parent at the root or where there is no path
  apart : {i : ℕ} (a : Arc) → Memᴰ a (N.arcs i) → S a.from + a.cost ≡ S i → (i ≡ N.root) ⊎ (S i ≡ ceiling) → ⊥
  apart {i} a k e (inl r) = omega (arith, solved_root ok solved i r, ok.cheapest i a k, ok.positive)
  apart {i} a k e (inr c) =
      omega (arith, real_most ok solved a.from (omega (arith, ok.cheapest i a k, ok.positive)), ok.dearest i a k)

  pub parent_unique : {i q r : ℕ} → ExactParent N S i q → ExactParent N S i r → q ≡ r
  parent_unique (no_parent w e) (no_parent v f) = e ∙ sym f
  parent_unique (no_parent w e) (by_arc a k s f q) = absurd (apart a k s w)
  parent_unique (by_arc a k s f q) (no_parent w e) = absurd (apart a k s w)
  parent_unique (by_arc a k s f q) (by_arc b l u g r) = q ∙ before_both a b (f b l u) (g a k s) ∙ sym r

  -- a run's parents are exact one round after the distances below t times m are
  pub parent_meets : (D : ℕ → ℕ → ℕ) → Run N D → (t i : ℕ) → S i < suc t * m → parent_at N (D t) (S i) i ≡ parent_at N S (S i) i
  parent_meets D rd t i h = ⊎_elim (λ e. none (inl e)) (λ k. ⊎_elim (λ e. none (inr e)) (λ c. some k c) (same? (S i) ceiling)) (same? i N.root)
    where
      none : (i ≡ N.root) ⊎ (S i ≡ ceiling) → parent_at N (D t) (S i) i ≡ parent_at N S (S i) i
      none w = parent_none N (D t) (S i) i w ∙ sym (parent_none N S (S i) i w)

      -- where either offers S i, the distances at the sender agree
      there : (S i ≡ ceiling → ⊥) → (a : Arc) → Memᴰ a (N.arcs i) → through (D t) a ≡ S i → through S a ≡ S i
      there c a k e =
          let low : D t a.from < t * m = omega (arith, through_small (D t) a (omega (arith, solved_le ok solved i, c)), suc-mul t m, ok.cheapest i a k) in
          same_offer S (D t) a (agree N m ok.cheapest D (λ _ j. S j) rd (λ _ j. solved j) t a.from low) ∙ e

      back : (S i ≡ ceiling → ⊥) → (a : Arc) → Memᴰ a (N.arcs i) → through S a ≡ S i → through (D t) a ≡ S i
      back c a k e =
          let low : S a.from < t * m = omega (arith, through_small S a (omega (arith, solved_le ok solved i, c)), suc-mul t m, ok.cheapest i a k) in
          same_offer (D t) S a (meets N m ok.cheapest D S rd solved t a.from low) ∙ e

      some : (i ≡ N.root → ⊥) → (S i ≡ ceiling → ⊥) → parent_at N (D t) (S i) i ≡ parent_at N S (S i) i
      some k c =
          parent_some N (D t) (S i) i k c
          ∙ ap chosen (giving_same (D t) S (S i) (N.arcs i) (λ a w. (there c a w, back c a w)))
          ∙ sym (parent_some N S (S i) i k c)
