-- What node i hears over the links of two slices, link by link: each link is heard from one sender at most.
use Prim.Native.Nat.{ℕ, zero, suc, ◌≤◌}
use mathlib.Core.Path.{◌≡◌, refl, ap, ◌∙◌}
use mathlib.Core.Bool.{Bool, true, false, cond, not, ◌||◌}
use mathlib.Core.List.{List, [], ◌∷◌}
use lib.ListN.{length, take}
use lib.Dec.{eqb}
use borrow.Author.Tests.{eq-eqb, ne_eqb}
use Rattle.std.proofs.Common.{arith}
use Rattle.std.specs.Prelude.{Some, None, min, unwrap_or}
use Rattle.std.specs.List.{list_any, zip}
use Rattle.rule.specs.Round.{Arc, Link, arcs_of}
use Rattle.links.specs.Neighbours.{ends_of, other_end, far_end, hears, neighbour}

-- 0 stands for the end that is not there
pub end_is : (low high i : ℕ) → unwrap_or (far_end low high i) 0 ≡ other_end low high i
end_is low high i = go (eqb low i) (eqb high i)
  where
    go : (a b : Bool) → unwrap_or (cond a (Some high) (cond b (Some low) None)) 0 ≡ cond a high (cond b low 0)
    go true b = refl
    go false true = refl
    go false false = refl

-- whether it is q that node i hears over the link between these two
abbrev pub hears_over : ℕ → ℕ → ℕ → ℕ → Bool
hears_over low high i q = elim (far_end low high i) [ Some j ↦ eqb j q | None ↦ false ]

-- a search through the pairs of ends is one through what node i hears
pub heard_pairs : (i q : ℕ) (lows highs : List ℕ) → list_any (λ (p : ℕ × ℕ). hears_over p.0 p.1 i q) (zip lows highs) ≡ hears (arcs_of (ends_of lows highs) i) q
unfolding hears arcs_of ends_of
heard_pairs i q [] highs = refl
heard_pairs i q (l ∷ lows) [] = refl
heard_pairs i q (l ∷ lows) (h ∷ highs) = ap (λ (b : Bool). hears_over l h i q || b) (heard_pairs i q lows highs) ∙ go (eqb l i) (eqb h i)
  where
    rest : List Arc
    rest = arcs_of (ends_of lows highs) i

    go : (a b : Bool)
        → (elim (cond a (Some h) (cond b (Some l) None)) [ Some j ↦ eqb j q | None ↦ false ] || hears rest q)
        ≡ hears (cond a (record { from = h; cost = 0 } ∷ rest) (cond b (record { from = l; cost = 0 } ∷ rest) rest)) q
    go true b = refl
    go false true = refl
    go false false = refl

-- behind the last pair of ends there is no link
pub ends_cut : (n : ℕ) (lows highs : List ℕ) → min (length lows) (length highs) ≤ n → ends_of (take n lows) (take n highs) ≡ ends_of lows highs
unfolding ends_of
ends_cut zero [] highs e = refl
ends_cut (suc n) [] highs e = refl
ends_cut zero (l ∷ lows) [] e = refl
ends_cut (suc n) (l ∷ lows) [] e = refl
ends_cut zero (l ∷ lows) (h ∷ highs) e = absurd (omega (arith, e))
ends_cut (suc n) (l ∷ lows) (h ∷ highs) e = ap (λ (ls : List Link). record { low = l; high = h; cost = 0 } ∷ ls) (ends_cut n lows highs (omega (arith, e)))

-- so a search as far as the shorter slice goes is one through all that node i hears
pub heard_cut : (i q n : ℕ) (lows highs : List ℕ) → min (length lows) (length highs) ≤ n
    → list_any (λ (p : ℕ × ℕ). hears_over p.0 p.1 i q) (zip (take n lows) (take n highs)) ≡ hears (arcs_of (ends_of lows highs) i) q
heard_cut i q n lows highs e = heard_pairs i q (take n lows) (take n highs) ∙ ap (λ (ls : List Link). hears (arcs_of ls i) q) (ends_cut n lows highs e)

-- 0 is nobody's neighbour, and any other number is one that is heard
pub zero_neighbour : (ls : List Link) (i q : ℕ) → q ≡ 0 → not (eqb q 0) ≡ neighbour ls i q
unfolding neighbour
zero_neighbour ls i q h = rw (eq-eqb _ _ h)

pub some_neighbour : (ls : List Link) (i q : ℕ) → (q ≡ 0 → ⊥) → neighbour ls i q ≡ hears (arcs_of ls i) q
unfolding neighbour
some_neighbour ls i q h = rw (ne_eqb _ _ h)
