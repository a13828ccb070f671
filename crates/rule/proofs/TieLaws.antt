-- The tie rule `before` is total, transitive and tells senders apart, and so the chosen arc is the one before all others.
-- Nothing else in the theory looks into `before`.
use Prim.Native.Nat.{◌<◌}
use native.Mathlib.Omega.{arith}
use mathlib.Core.Path.{◌≡◌, refl, sym, subst}
use mathlib.Core.Logic.{◌⊎◌, inl, inr, ⊎_elim}
use mathlib.Core.Bool.{Bool, true, false, cond}
use mathlib.Core.List.Memᴰ
use mathlib.Core.List.{List, [], ◌∷◌, Memᴰ}
use borrow.Author.Tests.{leb-false, lt-leb}
use lib.Dec.{T, leb→le, le→leb}
use Rattle.rule.specs.Round.{Arc, before, first, chosen}

pub before_refl : (a : Arc) → T (before a a)
unfolding before
before_refl a = omega (arith, le→leb)

pub before_total : (a b : Arc) → before a b ≡ false → T (before b a)
unfolding before
before_total a b e = omega (arith, leb-false, le→leb)

pub before_trans : (a b c : Arc) → T (before a b) → T (before b c) → T (before a c)
unfolding before
before_trans a b c p q = omega (arith, leb→le, le→leb)

pub before_both : (a b : Arc) → T (before a b) → T (before b a) → a.from ≡ b.from
unfolding before
before_both a b p q = omega (arith, leb→le)

-- "the lowest-numbered neighbour": of two senders the lower number goes before, and the higher does not
pub before_lower : (a b : Arc) → a.from < b.from → T (before a b) × (before b a ≡ false)
unfolding before
before_lower a b h = (omega (arith, le→leb, h), lt-leb b.from a.from h)

-- what `first` finds is one of the arcs, and before each of them
pub record First (xs : List Arc) (c : Arc) : Type 0 where
  pub among : Memᴰ c xs
  pub foremost : (b : Arc) → Memᴰ b xs → T (before c b)

pub first_is : (a : Arc) (xs : List Arc) → First (a ∷ xs) (first a xs)
unfolding first
first_is a [] =
    record {
      among = Memᴰ.head refl;
      foremost = λ b m. ⊎_elim (λ (e : b ≡ a). subst (λ (x : Arc). T (before a x)) (sym e) (before_refl a)) (λ (k : Memᴰ b []). absurd (Memᴰ.not-nil k)) (Memᴰ.cases_cons m);
    }
first_is a (b ∷ xs) = go (before a b) refl (first_is a xs) (first_is b xs)
  where
    -- the better of the two stands for both: w is beaten by k, and c is the first of k and the rest
    wins : (k w : Arc) (c : Arc) → T (before k w) → First (k ∷ xs) c
        → (d : Arc) → (d ≡ w) ⊎ Memᴰ d (k ∷ xs) → T (before c d)
    wins k w c h f d (inl e) =
        subst (λ (x : Arc). T (before c x)) (sym e) (before_trans c k w (f.foremost k (Memᴰ.head refl)) h)
    wins k w c h f d (inr m) = f.foremost d m

    left : (d : Arc) → Memᴰ d (a ∷ b ∷ xs) → (d ≡ b) ⊎ Memᴰ d (a ∷ xs)
    left d m =
        ⊎_elim (λ (e : d ≡ a). inr (Memᴰ.head e))
        (λ (k : Memᴰ d (b ∷ xs)). ⊎_elim (λ (e : d ≡ b). inl e) (λ (q : Memᴰ d xs). inr (Memᴰ.tail q)) (Memᴰ.cases_cons k))
        (Memᴰ.cases_cons m)

    skip : (d : Arc) → Memᴰ d (a ∷ xs) → Memᴰ d (a ∷ b ∷ xs)
    skip d m =
        ⊎_elim (λ (e : d ≡ a). Memᴰ.head e) (λ (k : Memᴰ d xs). Memᴰ.tail (Memᴰ.tail k)) (Memᴰ.cases_cons m)

    go : (t : Bool) → before a b ≡ t → First (a ∷ xs) (first a xs) → First (b ∷ xs) (first b xs)
        → First (a ∷ b ∷ xs) (cond t (first a xs) (first b xs))
    go true e f g =
        record {
          among = skip (first a xs) f.among;
          foremost = λ d m. wins a b (first a xs) (subst T (sym e) tt) f d (left d m);
        }
    go false e f g =
        record {
          among = Memᴰ.tail g.among;
          foremost = λ d m. wins b a (first b xs) (before_total a b e) g d (Memᴰ.cases_cons m);
        }

-- the chosen sender is that of any arc which is before all
pub chosen_is : (xs : List Arc) (c : Arc) → First xs c → chosen xs ≡ c.from
unfolding chosen
chosen_is [] c f = absurd (Memᴰ.not-nil f.among)
chosen_is (a ∷ xs) c f =
    let g = first_is a xs in
    before_both (first a xs) c (g.foremost c f.among) (f.foremost (first a xs) g.among)

-- where there is an arc at all, the chosen sender is that of an arc which is before all
pub chosen_first : (xs : List Arc) (a : Arc) → Memᴰ a xs → (c : Arc) × First xs c × (chosen xs ≡ c.from)
unfolding chosen
chosen_first [] a m = absurd (Memᴰ.not-nil m)
chosen_first (x ∷ xs) a m = (first x xs, first_is x xs, refl)
