-- One pass: a node that goes through its arcs in their order, and keeps the least offer so far with the arc that gave it, ends with
-- the least of all and, below the ceiling, with the arc that goes before all others that give it.
-- `Kept` is what holds of such a pass after the arcs xs; a lemma for each outcome of one arc more carries it on, and `kept_from` ends it.
-- Nothing is asked of the tie rule: `first` goes through the arcs in the same order.
use Prim.Native.Nat.{ℕ, ◌≤◌, ◌<◌, min}
use native.Mathlib.Omega.{arith}
use mathlib.Core.Path.{◌≡◌, refl, sym, ap, ◌∙◌, subst}
use mathlib.Core.Bool.{Bool, true, false, cond}
use mathlib.Core.List.{List, [], ◌∷◌, ◌++◌}
use lib.Dec.{eqb}
use borrow.Author.Tests.{eqb-true, eqb-false, eq-eqb, ne_eqb}
use Rattle.measure.specs.Measure.{ceiling}
use Rattle.rule.specs.Round.{Arc, through, least, giving, before, first, chosen}
use Rattle.rule.proofs.OfferLaws.{through_le, least_le}

-- the arc k is the one of xs that goes before all others
abbrev pub FirstOf : List Arc → Arc → Type 0
FirstOf [] k = ⊥
FirstOf (a ∷ xs) k = k ≡ first a xs

-- what is known of the pass after the arcs xs: the least offer, and below the ceiling the arc that is kept for it
pub record Kept (D : ℕ → ℕ) (xs : List Arc) (best : ℕ) (kept : Arc) : Type 0 where
  pub dist : best ≡ least D xs
  pub none : best ≡ ceiling → kept.from ≡ 0
  pub held : best < ceiling → FirstOf (giving D best xs) kept

-- the least, the givers and the first of a list with one arc more
least_snoc : (D : ℕ → ℕ) (xs : List Arc) (a : Arc) → least D (xs ++ a ∷ []) ≡ min (least D xs) (through D a)
unfolding least
least_snoc D [] a = omega (arith, through_le D a)
least_snoc D (b ∷ xs) a = let z : least D (xs ++ a ∷ []) ≡ min (least D xs) (through D a) = least_snoc D xs a in omega arith

giving_more : (D : ℕ → ℕ) (v : ℕ) (xs : List Arc) (a : Arc) → through D a ≡ v → giving D v (xs ++ a ∷ []) ≡ giving D v xs ++ a ∷ []
unfolding giving
giving_more D v [] a e = simp (eq-eqb (through D a) v e)
giving_more D v (b ∷ xs) a e = go (eqb (through D b) v) (giving D v xs) (giving_more D v xs a e)
  where
    go : (t : Bool) {l : List Arc} (m : List Arc) → l ≡ m ++ a ∷ [] → cond t (b ∷ l) l ≡ cond t (b ∷ m) m ++ a ∷ []
    go true m h = ap (λ (r : List Arc). b ∷ r) h
    go false m h = h

giving_same : (D : ℕ → ℕ) (v : ℕ) (xs : List Arc) (a : Arc) → (through D a ≡ v → ⊥) → giving D v (xs ++ a ∷ []) ≡ giving D v xs
unfolding giving
giving_same D v [] a e = simp (ne_eqb (through D a) v e)
giving_same D v (b ∷ xs) a e = ap (λ (l : List Arc). cond (eqb (through D b) v) (b ∷ l) l) (giving_same D v xs a e)

-- nothing offers less than the least
giving_below : (D : ℕ → ℕ) (v : ℕ) (xs : List Arc) → v < least D xs → giving D v xs ≡ []
unfolding giving least
giving_below D v [] h = refl
giving_below D v (b ∷ xs) h = simp (ne_eqb (through D b) v (λ e. omega arith)) (giving_below D v xs (omega arith))

first_snoc : (a : Arc) (xs : List Arc) (b : Arc) → first a (xs ++ b ∷ []) ≡ cond (before (first a xs) b) (first a xs) b
unfolding first
first_snoc a [] b = refl
first_snoc a (c ∷ xs) b = go (before a c) (first a xs) (first c xs) (first_snoc a xs b) (first_snoc c xs b)
  where
    go : (t : Bool) (x y : Arc) {p q : Arc} → p ≡ cond (before x b) x b → q ≡ cond (before y b) y b → cond t p q ≡ cond (before (cond t x y) b) (cond t x y) b
    go true x y h k = h
    go false x y h k = k

first_of_snoc : (xs : List Arc) (k a : Arc) → FirstOf xs k → FirstOf (xs ++ a ∷ []) (cond (before k a) k a)
first_of_snoc [] k a h = absurd h
first_of_snoc (b ∷ xs) k a h = ap (λ (x : Arc). cond (before x a) x a) h ∙ sym (first_snoc b xs a)

-- the pass: where it begins, and one arc more

module _ (D : ℕ → ℕ) where
  -- "from (ceiling, no arc)"
  pub kept_none : (k : Arc) → k.from ≡ 0 → Kept D [] ceiling k
  unfolding least
  kept_none k e = record { dist = refl; none = λ _. e; held = λ h. absurd (omega arith) }

  module _ (xs : List Arc) (best : ℕ) (k : Arc) (s : Kept D xs best k) (a : Arc) where
    -- a smaller offer is taken
    pub kept_less : through D a < best → Kept D (xs ++ a ∷ []) (through D a) a
    unfolding first
    kept_less h = record {
      dist = omega (arith, least_snoc D xs a, s.dist);
      none = λ e. absurd (omega (arith, least_le D xs, s.dist));
      held = λ _. subst (λ (l : List Arc). FirstOf l a) (sym (giving_more D (through D a) xs a refl ∙ ap (λ (l : List Arc). l ++ a ∷ []) (giving_below D (through D a) xs (omega (arith, s.dist))))) refl;
    }

    -- an equal offer below the ceiling is settled by the tie rule
    pub kept_equal : through D a ≡ best → best < ceiling → Kept D (xs ++ a ∷ []) best (cond (before k a) k a)
    kept_equal e h = record {
      dist = omega (arith, least_snoc D xs a, s.dist);
      none = λ c. absurd (omega arith);
      held = λ _. subst (λ (l : List Arc). FirstOf l (cond (before k a) k a)) (sym (giving_more D best xs a e)) (first_of_snoc (giving D best xs) k a (s.held h));
    }

    -- a larger offer is passed over
    pub kept_more : best < through D a → Kept D (xs ++ a ∷ []) best k
    kept_more h = record {
      dist = omega (arith, least_snoc D xs a, s.dist);
      none = s.none;
      held = λ c. subst (λ (l : List Arc). FirstOf l k) (sym (giving_same D best xs a (λ e. omega arith))) (s.held c);
    }

    -- and so is every offer of the ceiling
    pub kept_ceiling : ceiling ≤ best → through D a ≡ best → Kept D (xs ++ a ∷ []) best k
    kept_ceiling c e = record { dist = omega (arith, least_snoc D xs a, s.dist); none = s.none; held = λ h. absurd (omega arith) }

  -- at the end the sender of the arc kept is the one that the rule names
  pub kept_from : (xs : List Arc) (best : ℕ) (k : Arc) → Kept D xs best k → k.from ≡ cond (eqb best ceiling) 0 (chosen (giving D best xs))
  unfolding chosen
  kept_from xs best k s = go (eqb best ceiling) refl
    where
      chosen_first : (l : List Arc) → FirstOf l k → k.from ≡ chosen l
      chosen_first [] h = absurd h
      chosen_first (a ∷ l) h = ap (λ (x : Arc). x.from) h

      go : (t : Bool) → eqb best ceiling ≡ t → k.from ≡ cond t 0 (chosen (giving D best xs))
      go true e = s.none (eqb-true best ceiling e)
      go false e = chosen_first (giving D best xs) (s.held (omega (arith, eqb-false best ceiling e, least_le D xs, s.dist)))
