-- Counting the numbers that pass a test: what takes the place of a pigeonhole in the bounds on distances, hops and marks.
use Prim.Native.Nat.{ℕ, zero, suc, ◌+◌, ◌≤◌, ◌<◌}
use native.Mathlib.Nat.{le_refl, add-zero, add-suc, suc-add}
use native.Mathlib.Omega.{arith}
use mathlib.Core.Path.{◌≡◌, refl, ap, ◌∙◌}
use mathlib.Core.Logic.{⊎_elim}
use mathlib.Core.Bool.{Bool, true, false, cond}
use lib.Dec.{T}
use Rattle.rule.proofs.OfferLaws.{same?}

-- how many of the n numbers from i on pass the test f
unfoldable pub count : (ℕ → Bool) → ℕ → ℕ → ℕ
count f i zero = 0
count f i (suc n) = cond (f i) (suc (count f (suc i) n)) (count f (suc i) n)

pub count_le : (f : ℕ → Bool) (i n : ℕ) → count f i n ≤ n
unfolding count
count_le f i zero = le_refl 0
count_le f i (suc n) = go (f i) (count_le f (suc i) n)
  where
    go : (t : Bool) → count f (suc i) n ≤ n → cond t (suc (count f (suc i) n)) (count f (suc i) n) ≤ suc n
    go true h = omega arith
    go false h = omega arith

-- where every number passes, all are counted
pub count_all : (i n : ℕ) → count (λ _. true) i n ≡ n
unfolding count
count_all i zero = refl
count_all i (suc n) = ap suc (count_all (suc i) n)

pub count_same : (f g : ℕ → Bool) (i n : ℕ) → ((j : ℕ) → i ≤ j → f j ≡ g j) → count f i n ≡ count g i n
unfolding count
count_same f g i zero h = refl
count_same f g i (suc n) h =
    rw (h i (le_refl i), count_same f g (suc i) n (λ j k. h j (omega arith)))

-- the test at the next number instead
pub count_shift : (f : ℕ → Bool) (i n : ℕ) → count (λ j. f (suc j)) i n ≡ count f (suc i) n
unfolding count
count_shift f i zero = refl
count_shift f i (suc n) = rw (count_shift f (suc i) n)

module _ (f g : ℕ → Bool) (sub : (j : ℕ) → T (f j) → T (g j)) where
  pub count_mono : (i n : ℕ) → count f i n ≤ count g i n
  unfolding count
  count_mono i zero = le_refl 0
  count_mono i (suc n) = go (f i) (g i) (sub i) (count_mono (suc i) n)
    where
      go : (s t : Bool) → (T s → T t) → count f (suc i) n ≤ count g (suc i) n
          → cond s (suc (count f (suc i) n)) (count f (suc i) n) ≤ cond t (suc (count g (suc i) n)) (count g (suc i) n)
      go true true k h = omega arith
      go true false k h = absurd (k tt)
      go false true k h = omega arith
      go false false k h = h

  -- a number that passes the second test alone makes the second count larger
  pub count_more : (i n x : ℕ) → i ≤ x → x < i + n → f x ≡ false → g x ≡ true → count f i n < count g i n
  unfolding count
  count_more i zero x low high p q = absurd (omega (arith, add-zero i))
  count_more i (suc n) x low high p q =
      ⊎_elim here (later (λ l. count_more (suc i) n x l (omega (arith, add-suc i n, suc-add i n)) p q)) (same? i x)
    where
      here : i ≡ x → cond (f i) (suc (count f (suc i) n)) (count f (suc i) n) < cond (g i) (suc (count g (suc i) n)) (count g (suc i) n)
      here e =
          rw (ap f e ∙ p, ap g e ∙ q) (omega (arith, count_mono (suc i) n))

      go : (s t : Bool) → (T s → T t) → count f (suc i) n < count g (suc i) n
          → cond s (suc (count f (suc i) n)) (count f (suc i) n) < cond t (suc (count g (suc i) n)) (count g (suc i) n)
      go true true k h = omega arith
      go true false k h = absurd (k tt)
      go false true k h = omega arith
      go false false k h = h

      later : (suc i ≤ x → count f (suc i) n < count g (suc i) n) → (i ≡ x → ⊥)
          → cond (f i) (suc (count f (suc i) n)) (count f (suc i) n) < cond (g i) (suc (count g (suc i) n)) (count g (suc i) n)
      later rest n' = go (f i) (g i) (sub i) (rest (omega (arith, n')))

-- a number that fails is not counted
pub count_less : (f : ℕ → Bool) (n x : ℕ) → 1 ≤ x → x ≤ n → f x ≡ false → count f 1 n < n
count_less f n x low high p =
    omega (arith, count_all 1 n, count_more f (λ _. true) (λ _ _. tt) 1 n x low (omega arith) p refl)
