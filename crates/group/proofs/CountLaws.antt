-- Counting over consecutive numbers: in two parts, and by another test that agrees.
use Prim.Native.Nat.{ℕ, zero, suc, ◌+◌, ◌<◌, suc-le-suc}
use mathlib.Core.Path.{◌≡◌, refl, sym, ap, ◌∙◌}
use mathlib.Core.Bool.{Bool, true, false, cond}
use native.Mathlib.Nat.{add-zero, zero-add, suc-add, zero-lt-suc}
use native.Mathlib.Omega.{arith}
use Rattle.rule.specs.Round.{numbered}
use Rattle.group.specs.Count.{count}

-- one number in front
abbrev here : Bool → ℕ → ℕ
here b n = cond b (suc n) n

here_add : (b : Bool) (m n : ℕ) → here b (m + n) ≡ here b m + n
here_add true m n = sym (suc-add m n)
here_add false m n = refl

-- the first m numbers, and the k behind them
pub count_split : (f : ℕ → Bool) (m k i : ℕ) → count f (numbered i (m + k)) ≡ count f (numbered i m) + count f (numbered (i + m) k)
unfolding count numbered
count_split f zero k i = rw (zero-add k, add-zero i, zero-add (count f (numbered i k)))
count_split f (suc m) k i =
    let e : suc i + m ≡ i + suc m = omega arith in
    rw (suc-add m k, count_split f m k (suc i), e) (here_add (f i) (count f (numbered (suc i) m)) (count f (numbered (i + suc m) k)))

-- two tests that agree, each on its own numbers
pub count_same : (f g : ℕ → Bool) (n i j : ℕ) → ((d : ℕ) → d < n → f (i + d) ≡ g (j + d)) → count f (numbered i n) ≡ count g (numbered j n)
unfolding count numbered
count_same f g zero i j h = refl
count_same f g (suc n) i j h =
    let first : f i ≡ g j = simp add-zero at (h 0 (zero-lt-suc n)) in
    let rest : count f (numbered (suc i) n) ≡ count g (numbered (suc j) n) = count_same f g n (suc i) (suc j) λ d l.
    ap f (omega arith) ∙ h (suc d) (suc-le-suc l) ∙ ap g (omega arith) in
    rw (first, rest)

-- a test that no number passes
pub count_none : (f : ℕ → Bool) (n i : ℕ) → ((d : ℕ) → d < n → f (i + d) ≡ false) → count f (numbered i n) ≡ 0
unfolding count numbered
count_none f zero i h = refl
count_none f (suc n) i h =
    let first : f i ≡ false = simp add-zero at (h 0 (zero-lt-suc n)) in
    rw first (count_none f n (suc i) λ d l. ap f (omega arith) ∙ h (suc d) (suc-le-suc l))
