-- The four ways on from a node, as the code tells them apart: at the root, with no hop left, over a hop, and broken.
use Prim.Native.Nat.{ℕ, zero, suc, ◌+◌, ◌-◌}
use mathlib.Core.Path.{◌≡◌, refl}
use mathlib.Core.Bool.{true, false}
use mathlib.Core.List.{List}
use native.Mathlib.Numerals.{add-one}
use native.Mathlib.Omega.{arith}
use borrow.Author.Tests.{eq-eqb, ne_eqb}
use Rattle.rule.specs.Round.{Link}
use Rattle.links.specs.Neighbours.{neighbour}
use Rattle.answers.specs.declared.Outcome.TheVariants.{Reached, Broken, Looping}
use Rattle.way.specs.Way.{followed}

module _ (root : ℕ) (ls : List Link) (Q : ℕ → ℕ) (left hops i : ℕ) where
  pub at_root_lem : i ≡ root → followed root ls Q left hops i ≡ Reached (record { 0 = hops })
  unfolding followed
  at_root_lem e = go left
    where
      go : (n : ℕ) → followed root ls Q n hops i ≡ Reached (record { 0 = hops })
      go zero = rw (eq-eqb i root e)
      go (suc n) = rw (eq-eqb i root e)

  pub no_hop_left : (i ≡ root → ⊥) → left ≡ 0 → followed root ls Q left hops i ≡ Looping
  unfolding followed
  no_hop_left other none = rw (none, ne_eqb i root other)

  module _ (other : i ≡ root → ⊥) (some : left ≡ 0 → ⊥) (q : ℕ) (next : q ≡ Q i) where
    pub over_hop : true ≡ neighbour ls i q → followed root ls Q left hops i ≡ followed root ls Q (left - 1) (hops + 1) q
    unfolding followed
    over_hop = go left some
      where
        go : (n : ℕ) → (n ≡ 0 → ⊥) → true ≡ neighbour ls i q → followed root ls Q n hops i ≡ followed root ls Q (n - 1) (hops + 1) q
        go zero h e = absurd (h refl)
        go (suc n) h e =
            let less : suc n - 1 ≡ n = omega arith in
            rw (ne_eqb i root other, ← next, ← e, less, add-one)

    pub broken_here : false ≡ neighbour ls i q → followed root ls Q left hops i ≡ Broken i
    unfolding followed
    broken_here = go left some
      where
        go : (n : ℕ) → (n ≡ 0 → ⊥) → false ≡ neighbour ls i q → followed root ls Q n hops i ≡ Broken i
        go zero h e = absurd (h refl)
        go (suc n) h e = rw (ne_eqb i root other, ← next, ← e)
