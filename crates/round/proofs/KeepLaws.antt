-- When an arc takes the place of the one kept.
use Prim.Native.Nat.{ℕ, ◌≤◌, ◌<◌}
use native.Mathlib.Decide.{dec_lt}
use native.Mathlib.Omega.{arith}
use mathlib.Core.Path.{◌≡◌}
use mathlib.Core.Bool.{true, false, not, and-false}
use borrow.Author.Tests.{lt-ltb, le-ltb, eq-eqb, ne_eqb}
use Rattle.measure.specs.Measure.{ceiling}
use Rattle.rule.specs.Round.{Arc, before}
use Rattle.round.specs.Keep.{takes}

module _ (best : ℕ) (k : Arc) (x : ℕ) (a : Arc) where
  pub takes_less : x < best → takes best k x a ≡ true
  takes_less h = simp (lt-ltb x best h)

  pub takes_more : best < x → takes best k x a ≡ false
  takes_more h =
      let y : best ≤ x = omega arith in
      let z : x ≡ best → ⊥ = λ e. omega arith in
      simp (le-ltb x best y, ne_eqb x best z)

  pub takes_ceiling : best ≤ x → ceiling ≤ best → takes best k x a ≡ false
  takes_ceiling h c = simp (le-ltb x best h, le-ltb best ceiling c, and-false)

  pub takes_tie : x ≡ best → best < ceiling → takes best k x a ≡ not (before k a)
  takes_tie e c = let y : best ≤ x = omega arith in simp (le-ltb x best y, eq-eqb x best e, lt-ltb best ceiling c)

  -- an offer of the ceiling is never taken
  pub takes_far : best ≤ ceiling → x ≡ ceiling → takes best k x a ≡ false
  takes_far h e = go (dec_lt best ceiling)
    where
      go : Dec (best < ceiling) → takes best k x a ≡ false
      go (yes c) = takes_more (omega arith)
      go (no c) = takes_ceiling (omega arith) (omega arith)
