-- One round brings any two runs of distances together by the least cost m: after t rounds they agree below t times m.
-- Against a constant run this is the bound on distances; against the same run one round later it is that runs come to rest.
use Prim.Native.Nat.{ℕ, zero, suc, ◌+◌, ◌*◌, ◌≤◌, ◌<◌}
use native.Mathlib.Nat.{le_trans, le_of_eq, le_antisymm, lt_of_le_of_lt, zero-mul, suc-mul}
use native.Mathlib.Omega.{arith}
use mathlib.Core.Path.{◌≡◌, sym, ◌∙◌}
use mathlib.Core.Logic.{⊎_elim}
use mathlib.Core.List.{Memᴰ}
use Rattle.measure.specs.Measure.{ceiling}
use Rattle.rule.specs.Round.{Arc, Net, through, least, new_dist}
use Rattle.rule.proofs.OfferLaws.{same?, below?, through_small, through_sum, least_lower, least_offered, new_dist_root, new_dist_other, new_dist_le}

-- distances that a round leaves alone
abbrev pub Solves : Net → (ℕ → ℕ) → Type 0
Solves N S = (i : ℕ) → S i ≡ new_dist N S i

-- the distances of round after round
abbrev pub Run : Net → (ℕ → ℕ → ℕ) → Type 0
Run N D = (t i : ℕ) → D (suc t) i ≡ new_dist N (D t) i

module _ (N : Net) (m : ℕ) (cheapest : (i : ℕ) (a : Arc) → Memᴰ a (N.arcs i) → m ≤ a.cost) where
  -- the contraction
  step : (D E : ℕ → ℕ) (x : ℕ) → ((j : ℕ) → D j < x → E j ≤ D j)
      → (i : ℕ) → new_dist N D i < x + m → new_dist N E i ≤ new_dist N D i
  step D E x h i k = ⊎_elim (λ e. omega (arith, new_dist_root N E i e)) other (same? i N.root)
    where
      far : ceiling ≤ new_dist N D i → new_dist N E i ≤ new_dist N D i
      far c = le_trans (new_dist_le N E i) c

      near : (i ≡ N.root → ⊥) → least D (N.arcs i) < ceiling → new_dist N E i ≤ new_dist N D i
      near n c =
          let o = least_offered D (N.arcs i) c in
          let sum : through D o.0 ≡ D o.0.from + o.0.cost = through_small D o.0 (omega (arith, o.2)) in
          let low : D o.0.from < x = omega (arith, o.2, cheapest i o.0 o.1, new_dist_other N D i n) in
          omega (arith, new_dist_other N D i n, new_dist_other N E i n, o.2, h o.0.from low, least_lower E o.0 (N.arcs i) o.1, through_sum E o.0)

      other : (i ≡ N.root → ⊥) → new_dist N E i ≤ new_dist N D i
      other n = ⊎_elim (near n) (λ c. far (le_trans c (le_of_eq (sym (new_dist_other N D i n))))) (below? (least D (N.arcs i)) ceiling)

  agree_le : (D E : ℕ → ℕ → ℕ) → Run N D → Run N E → (t i : ℕ) → D t i < t * m → E t i ≤ D t i
  agree_le D E rd re zero i h = absurd (omega (arith, zero-mul m))
  agree_le D E rd re (suc t) i h =
      let k : new_dist N (D t) i < t * m + m = omega (arith, suc-mul t m, rd t i) in
      omega (arith, rd t i, re t i, step (D t) (E t) (t * m) (λ j l. agree_le D E rd re t j l) i k)

  -- two runs agree below t times m after t rounds
  pub agree : (D E : ℕ → ℕ → ℕ) → Run N D → Run N E → (t i : ℕ) → D t i < t * m → E t i ≡ D t i
  agree D E rd re t i h =
      let k : E t i ≤ D t i = agree_le D E rd re t i h in
      le_antisymm k (agree_le E D re rd t i (lt_of_le_of_lt k h))

  -- a distance S that rounds leave alone is met once S is below t times m
  pub meets : (D : ℕ → ℕ → ℕ) (S : ℕ → ℕ) → Run N D → Solves N S → (t i : ℕ) → S i < t * m → D t i ≡ S i
  meets D S rd solved t i h = agree (λ _ j. S j) D (λ _ j. solved j) rd t i h

  -- past the ceiling a run is at rest
  pub rests : (D : ℕ → ℕ → ℕ) → Run N D → (t : ℕ) → ceiling < suc t * m → Solves N (D (suc t))
  rests D rd t h i =
      let low : D (suc t) i < suc t * m = omega (arith, rd t i, new_dist_le N (D t) i) in
      sym (agree D (λ s j. D (suc s) j) rd (λ s j. rd (suc s) j) (suc t) i low) ∙ rd (suc t) i
