-- What one link more says.
use Prim.Native.Nat.{ℕ, zero, suc, ◌≤◌, ◌<◌}
use native.Mathlib.Nat.{le_refl}
use native.Mathlib.Decide.{dec_lt}
use native.Mathlib.Omega.{arith}
use mathlib.Core.Path.{◌≡◌, refl, sym, ap, ◌∙◌}
use mathlib.Core.Bool.{Bool, true, false, cond, ◌||◌, or-false, and-false, true≢false}
use lib.Dec.{eqb}
use borrow.Author.Tests.{eq-eqb, ne_eqb}
use Rattle.std.specs.Prelude.{Option, Some, None, unwrap_or}
use Rattle.measure.specs.Measure.{ceiling}
use Rattle.rule.specs.Round.{Arc, Link, through}
use Rattle.links.specs.Neighbours.{other_end, far_end}
use Rattle.links.proofs.NeighbourLaws.{end_is}
use Rattle.round.specs.declared.keep.Best.{Best}
use Rattle.round.specs.Keep.{kept_arc, takes}
use Rattle.round.specs.Hear.{asks, with_asked, hear, passed}
use Rattle.round.proofs.KeepLaws.{takes_more, takes_far}

pub asked_same : (b : Best) (q : Bool) → q ≡ false → b ≡ with_asked b q
asked_same b q e = ap (λ (t : Bool). record { dist = b.dist; arc = b.arc; asked = t }) (sym (ap (λ (t : Bool). b.asked || t) e ∙ or-false b.asked))

-- an arc from node 0 says nothing: it offers the ceiling, which is no less than what is known, and asks nothing
pub hear_none : (D P M : ℕ → ℕ) (i : ℕ) → D 0 ≡ ceiling → M 0 ≡ 0 → (b : Best) → b.dist.0 ≤ ceiling → (a : Arc) → a.from ≡ 0 → hear D P M i b a ≡ b
unfolding hear through
hear_none D P M i far clear b h a e =
    let d : D a.from ≡ ceiling = ap D e ∙ far in
    let x : through D a ≡ ceiling = omega arith in
    let q : asks P M a.from i ≡ false = rw (ap M e ∙ clear) (and-false (eqb (P a.from) i)) in
    ap (λ (t : Bool). cond t (record { dist = record { 0 = through D a }; arc = record { from = a.from; cost = record { 0 = a.cost } }; asked = b.asked || asks P M a.from i }) (with_asked b (asks P M a.from i)))
    (takes_far b.dist.0 (kept_arc b) (through D a) a h x)
    ∙ sym (asked_same b (asks P M a.from i) q)

-- one link more, by the sender that it has for the node
module _ (D P M : ℕ → ℕ) (i : ℕ) (b : Best) (l : Link) (from : ℕ) (e : from ≡ other_end l.low l.high i) where
  abbrev said : ℕ → Best
  said j = cond (eqb j 0) b (hear D P M i b (record { from = j; cost = l.cost }))

  told : said from ≡ passed D P M i b l
  unfolding passed
  told = ap said e

  pub passed_none : from ≡ 0 → b ≡ passed D P M i b l
  passed_none h = let z : b ≡ said from = rw (eq-eqb from 0 h) in z ∙ told

  pub passed_some : (from ≡ 0 → ⊥) → hear D P M i b (record { from = from; cost = l.cost }) ≡ passed D P M i b l
  passed_some h = let z : hear D P M i b (record { from = from; cost = l.cost }) ≡ said from = rw (ne_eqb from 0 h) in z ∙ told

-- the same by the end that it has beside the node: a link without one says nothing, and any other its arc
module _ (D P M : ℕ → ℕ) (i : ℕ) (b : Best) (l : Link) where
  pub no_end_passed : far_end l.low l.high i ≡ None → b ≡ passed D P M i b l
  no_end_passed e =
      let z : 0 ≡ other_end l.low l.high i = ap (λ (o : Option ℕ). unwrap_or o 0) (sym e) ∙ end_is l.low l.high i in
      passed_none D P M i b l 0 z refl

  pub end_passed : D 0 ≡ ceiling → M 0 ≡ 0 → b.dist.0 ≤ ceiling → (j : ℕ) → far_end l.low l.high i ≡ Some j
      → hear D P M i b (record { from = j; cost = l.cost }) ≡ passed D P M i b l
  end_passed far clear near zero e =
      let z : 0 ≡ other_end l.low l.high i = ap (λ (o : Option ℕ). unwrap_or o 0) (sym e) ∙ end_is l.low l.high i in
      hear_none D P M i far clear b near (record { from = 0; cost = l.cost }) refl ∙ passed_none D P M i b l 0 z refl
  end_passed far clear near (suc j) e =
      let z : suc j ≡ other_end l.low l.high i = ap (λ (o : Option ℕ). unwrap_or o 0) (sym e) ∙ end_is l.low l.high i in
      passed_some D P M i b l (suc j) z (λ n. omega arith)

-- the least offer never rises
pub hear_near : (D P M : ℕ → ℕ) (i : ℕ) (b : Best) (a : Arc) → (hear D P M i b a).dist.0 ≤ b.dist.0
unfolding hear
hear_near D P M i b a = go (dec_lt b.dist.0 (through D a)) (takes b.dist.0 (kept_arc b) (through D a) a) refl
  where
    go : Dec (b.dist.0 < through D a) → (t : Bool) → takes b.dist.0 (kept_arc b) (through D a) a ≡ t
        → (cond t (record { dist = record { 0 = through D a }; arc = record { from = a.from; cost = record { 0 = a.cost } }; asked = b.asked || asks P M a.from i }) (with_asked b (asks P M a.from i))).dist.0 ≤ b.dist.0
    go c false e = le_refl b.dist.0
    go (yes c) true e = absurd (true≢false (sym e ∙ takes_more b.dist.0 (kept_arc b) (through D a) a c))
    go (no c) true e = omega arith
