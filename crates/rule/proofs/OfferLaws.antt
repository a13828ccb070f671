-- What an arc offers, and the least that a node's arcs offer: the laws by which the rest of the theory speaks of them.
use Prim.Native.Nat.{ℕ, ◌+◌, ◌≤◌, ◌<◌, min}
use native.Mathlib.Nat.{le_refl, le_of_eq, le_trans, min-le_left, min-le_right, le-min}
use native.Mathlib.Omega.{arith}
use mathlib.Core.Path.{◌≡◌, refl, sym, ap, ◌∙◌}
use mathlib.Core.Logic.{◌⊎◌, inl, inr, ⊎_elim}
use mathlib.Core.Bool.{Bool, true, false, cond}
use mathlib.Core.List.Memᴰ
use mathlib.Core.List.{List, [], ◌∷◌, Memᴰ}
use borrow.Author.Tests.{eqb-true, eqb-false, eq-eqb, ne_eqb, ltb-true, ltb-false}
use lib.Dec.{eqb, ltb}
use Rattle.measure.specs.Measure.{ceiling, plus}
use Rattle.rule.specs.Round.{Arc, Net, through, least, giving, new_dist}

-- two numbers are equal or they are not
pub same? : (a b : ℕ) → (a ≡ b) ⊎ (a ≡ b → ⊥)
same? a b = go (eqb a b) refl
  where
    go : (t : Bool) → eqb a b ≡ t → (a ≡ b) ⊎ (a ≡ b → ⊥)
    go true e = inl (eqb-true a b e)
    go false e = inr (eqb-false a b e)

-- a number is below another or not
pub below? : (a b : ℕ) → (a < b) ⊎ (b ≤ a)
below? a b = go (ltb a b) refl
  where
    go : (t : Bool) → ltb a b ≡ t → (a < b) ⊎ (b ≤ a)
    go true e = inl (ltb-true a b e)
    go false e = inr (ltb-false a b e)

-- the capped sum, on plain numbers
pub plus_le : (d c : ℕ) → plus d c ≤ ceiling
plus_le d c = omega arith

pub plus_sum : (d c : ℕ) → plus d c ≤ d + c
plus_sum d c = omega arith

pub plus_small : (d c : ℕ) → plus d c < ceiling → plus d c ≡ d + c
plus_small d c h = omega arith

pub plus_exact : (d c : ℕ) → d + c ≤ ceiling → plus d c ≡ d + c
plus_exact d c h = omega arith

module _ (D : ℕ → ℕ) where
  pub through_le : (a : Arc) → through D a ≤ ceiling
  unfolding through
  through_le a = plus_le (D a.from) a.cost

  pub through_sum : (a : Arc) → through D a ≤ D a.from + a.cost
  unfolding through
  through_sum a = plus_sum (D a.from) a.cost

  pub through_small : (a : Arc) → through D a < ceiling → through D a ≡ D a.from + a.cost
  unfolding through
  through_small a h = plus_small (D a.from) a.cost h

  pub through_exact : (a : Arc) → D a.from + a.cost ≤ ceiling → through D a ≡ D a.from + a.cost
  unfolding through
  through_exact a h = plus_exact (D a.from) a.cost h

  pub least_le : (xs : List Arc) → least D xs ≤ ceiling
  unfolding least
  least_le [] = le_refl ceiling
  least_le (a ∷ xs) = le_trans (min-le_left (through D a) (least D xs)) (through_le a)

  -- no arc offers less than the least
  pub least_lower : (a : Arc) (xs : List Arc) → Memᴰ a xs → least D xs ≤ through D a
  unfolding least
  least_lower a [] m = absurd (Memᴰ.not-nil m)
  least_lower a (x ∷ xs) m =
      ⊎_elim (λ (e : a ≡ x). le_trans (min-le_left (through D x) (least D xs)) (le_of_eq (ap (through D) (sym e))))
      (λ (k : Memᴰ a xs). le_trans (min-le_right (through D x) (least D xs)) (least_lower a xs k))
      (Memᴰ.cases_cons m)

  -- a least below the ceiling is offered by some arc
  pub least_offered : (xs : List Arc) → least D xs < ceiling → (a : Arc) × Memᴰ a xs × (through D a ≡ least D xs)
  unfolding least
  least_offered [] h = absurd (omega arith)
  least_offered (x ∷ xs) h =
      go (λ k. least_offered xs k) (below? (least D xs) (through D x))
    where
      go : (least D xs < ceiling → (a : Arc) × Memᴰ a xs × (through D a ≡ least D xs))
          → (least D xs < through D x) ⊎ (through D x ≤ least D xs)
          → (a : Arc) × Memᴰ a (x ∷ xs) × (through D a ≡ min (through D x) (least D xs))
      go rest (inl l) =
          let k : least D xs < ceiling = omega (arith, through_le x) in
          let r = rest k in
          (r.0, Memᴰ.tail r.1, omega (arith, r.2))
      go rest (inr l) = (x, Memᴰ.head refl, omega arith)

  -- what no arc goes below, and the ceiling does not, the least does not either
  pub least_great : (v : ℕ) (xs : List Arc) → v ≤ ceiling → ((a : Arc) → Memᴰ a xs → v ≤ through D a) → v ≤ least D xs
  unfolding least
  least_great v [] h k = h
  least_great v (x ∷ xs) h k = le-min (k x (Memᴰ.head refl)) (least_great v xs h (λ a m. k a (Memᴰ.tail m)))

  -- an arc is among those that give v exactly when it is among all and offers v
  pub giving_in : (v : ℕ) (a : Arc) (xs : List Arc) → Memᴰ a (giving D v xs) → Memᴰ a xs × (through D a ≡ v)
  unfolding giving
  giving_in v a [] m = absurd (Memᴰ.not-nil m)
  giving_in v a (x ∷ xs) m = go (eqb (through D x) v) refl m (λ k. giving_in v a xs k)
    where
      kept : (through D x ≡ v) → (a ≡ x) ⊎ Memᴰ a (giving D v xs) → (Memᴰ a (giving D v xs) → Memᴰ a xs × (through D a ≡ v))
          → Memᴰ a (x ∷ xs) × (through D a ≡ v)
      kept e (inl p) rest = (Memᴰ.head p, ap (through D) p ∙ e)
      kept e (inr k) rest = let r = rest k in (Memᴰ.tail r.0, r.1)

      go : (t : Bool) → eqb (through D x) v ≡ t → Memᴰ a (cond t (x ∷ giving D v xs) (giving D v xs))
          → (Memᴰ a (giving D v xs) → Memᴰ a xs × (through D a ≡ v)) → Memᴰ a (x ∷ xs) × (through D a ≡ v)
      go true e m rest = kept (eqb-true (through D x) v e) (Memᴰ.cases_cons m) rest
      go false e m rest = let r = rest m in (Memᴰ.tail r.0, r.1)

  pub giving_has : (v : ℕ) (a : Arc) (xs : List Arc) → Memᴰ a xs → through D a ≡ v → Memᴰ a (giving D v xs)
  unfolding giving
  giving_has v a [] m e = absurd (Memᴰ.not-nil m)
  giving_has v a (x ∷ xs) m e = go (eqb (through D x) v) refl (Memᴰ.cases_cons m) (λ k. giving_has v a xs k e)
    where
      go : (t : Bool) → eqb (through D x) v ≡ t → (a ≡ x) ⊎ Memᴰ a xs → (Memᴰ a xs → Memᴰ a (giving D v xs))
          → Memᴰ a (cond t (x ∷ giving D v xs) (giving D v xs))
      go true q (inl p) rest = Memᴰ.head p
      go true q (inr k) rest = Memᴰ.tail (rest k)
      go false q (inl p) rest = absurd (eqb-false (through D x) v q (ap (through D) (sym p) ∙ e))
      go false q (inr k) rest = rest k

-- the arcs that give v are the same where each arc gives v under both
pub giving_same : (D E : ℕ → ℕ) (v : ℕ) (xs : List Arc)
    → ((a : Arc) → Memᴰ a xs → (through D a ≡ v → through E a ≡ v) × (through E a ≡ v → through D a ≡ v))
    → giving D v xs ≡ giving E v xs
unfolding giving
giving_same D E v [] h = refl
giving_same D E v (x ∷ xs) h =
    go (same? (through D x) v) (giving_same D E v xs (λ a m. h a (Memᴰ.tail m)))
  where
    both : (through D x ≡ v → through E x ≡ v) × (through E x ≡ v → through D x ≡ v)
    both = h x (Memᴰ.head refl)

    go : (through D x ≡ v) ⊎ (through D x ≡ v → ⊥) → giving D v xs ≡ giving E v xs
        → cond (eqb (through D x) v) (x ∷ giving D v xs) (giving D v xs) ≡ cond (eqb (through E x) v) (x ∷ giving E v xs) (giving E v xs)
    go (inl e) rest = rw (eq-eqb (through D x) v e, eq-eqb (through E x) v (both.0 e)) (ap (λ (l : List Arc). x ∷ l) rest)
    go (inr n) rest = rw (ne_eqb (through D x) v n, ne_eqb (through E x) v (λ e. n (both.1 e))) rest

-- the new distance at the root and elsewhere
pub new_dist_root : (N : Net) (D : ℕ → ℕ) (i : ℕ) → i ≡ N.root → new_dist N D i ≡ 0
unfolding new_dist
new_dist_root N D i e = rw (eq-eqb i N.root e)

pub new_dist_other : (N : Net) (D : ℕ → ℕ) (i : ℕ) → (i ≡ N.root → ⊥) → new_dist N D i ≡ least D (N.arcs i)
unfolding new_dist
new_dist_other N D i h = rw (ne_eqb i N.root h)

pub new_dist_le : (N : Net) (D : ℕ → ℕ) (i : ℕ) → new_dist N D i ≤ ceiling
new_dist_le N D i =
    ⊎_elim (λ e. omega (arith, new_dist_root N D i e)) (λ n. omega (arith, new_dist_other N D i n, least_le D (N.arcs i)))
    (same? i N.root)
