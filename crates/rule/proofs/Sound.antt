-- What the theory asks of a network of n nodes whose arcs cost at least m: the hypotheses of every law below, in one record.
use Prim.Native.Nat.{ℕ, ◌≤◌}
use mathlib.Core.Path.{◌≡◌}
use mathlib.Core.List.{Memᴰ}
use lib.Dec.{T}
use Rattle.measure.specs.Measure.{largest_cost}
use Rattle.rule.specs.Round.{Arc, Net}

-- a number from 1 to n
abbrev pub Within : ℕ → ℕ → Type 0
Within n i = (1 ≤ i) × (i ≤ n)

pub record Sound (N : Net) (n m : ℕ) : Type 0 where
  pub positive : 1 ≤ m
  pub few : n ≤ 256
  pub root : Within n N.root
  pub cheapest : (i : ℕ) (a : Arc) → Memᴰ a (N.arcs i) → m ≤ a.cost
  pub dearest : (i : ℕ) (a : Arc) → Memᴰ a (N.arcs i) → a.cost ≤ largest_cost
  pub hearer : (i : ℕ) (a : Arc) → Memᴰ a (N.arcs i) → Within n i
  pub sender : (i : ℕ) (a : Arc) → Memᴰ a (N.arcs i) → Within n a.from
  -- who hears is heard
  pub heard : (i : ℕ) (a : Arc) → Memᴰ a (N.arcs i) → (b : Arc) × Memᴰ b (N.arcs a.from) × (b.from ≡ i)
  pub members : (i : ℕ) → T (N.member i) → Within n i
