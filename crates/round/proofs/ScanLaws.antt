-- One node's search, link by link: each turn takes one link off, and the search ends where the shortest slice does.
use Prim.Native.Nat.{ℕ, ◌+◌, ◌≤◌, ◌<◌, min}
use native.Mathlib.Nat.{le_refl, le_trans}
use native.Mathlib.Numerals.{add-one}
use native.Mathlib.Omega.{arith}
use mathlib.Core.Path.{◌≡◌, refl, sym, ap, ◌∙◌}
use lib.ListN.{length, drop}
use Rattle.std.specs.Prelude.{Some, None}
use Rattle.links.specs.Neighbours.{far_end}
use Rattle.measure.specs.Measure.{ceiling}
use Rattle.rule.specs.Round.{Arc, Link}
use Rattle.table.specs.Lent.{links_in}
use Rattle.table.specs.declared.Links.{Links}
use Rattle.table.specs.Nodes.{link_at}
use Rattle.table.proofs.LinkLaws.{links_past, links_next}
use Rattle.round.specs.declared.keep.Best.{Best}
use Rattle.round.specs.Hear.{hear, passed}
use Rattle.round.specs.Keep.{unheard}
use Rattle.round.specs.Scan.{passed_all}
use Rattle.round.proofs.HearLaws.{no_end_passed, end_passed, hear_near}

-- a search that knows b, and has the links from place j on left: it comes to what the whole search comes to
pub record Passing (D P M : ℕ → ℕ) (i : ℕ) (b : Best) (ls : Links) (j : ℕ) : Type 0 where
  pub near : b.dist.0 ≤ ceiling
  pub rest : passed_all D P M i b (drop j (links_in ls)) ≡ passed_all D P M i unheard (links_in ls)

module _ (D P M : ℕ → ℕ) (i : ℕ) (ls : Links) where
  pub passing_start : Passing D P M i unheard ls 0
  passing_start = record { near = le_refl ceiling; rest = refl }

  module _ {b : Best} {j : ℕ} (s : Passing D P M i b ls j) (end : ℕ)
      (e : end ≡ min (length ls.lows.now) (min (length ls.highs.now) (length ls.costs.now))) where
    abbrev link : Link
    link = link_at ls.lows.now ls.highs.now ls.costs.now j

    next : j < end → (r : Best) → r ≡ passed D P M i b link → r.dist.0 ≤ ceiling → Passing D P M i r ls (j + 1)
    unfolding passed_all
    next h r p near =
        record {
          near = near;
          rest = rw (add-one j, p) (sym (ap (passed_all D P M i b) (links_next ls.lows.now ls.highs.now ls.costs.now j (omega arith) (omega arith) (omega arith))) ∙ s.rest);
        }

    pub passing_none : j < end → far_end link.low link.high i ≡ None → {r : Best} → r ≡ b → Passing D P M i r ls (j + 1)
    passing_none h f {r} p = next h r (p ∙ no_end_passed D P M i b link f) (rw p s.near)

    pub passing_some : D 0 ≡ ceiling → M 0 ≡ 0 → j < end → {k x : ℕ} → far_end link.low link.high i ≡ Some k → x ≡ link.cost
        → {r : Best} → r ≡ hear D P M i b (record { from = k; cost = x }) → Passing D P M i r ls (j + 1)
    passing_some far clear h {k} f q {r} p =
        let arc : Arc = record { from = k; cost = link.cost } in
        let heard : r ≡ hear D P M i b arc = rw q at p in
        next h r (heard ∙ end_passed D P M i b link far clear s.near k f) (rw heard (le_trans (hear_near D P M i b arc) s.near))

    pub passing_end : end ≤ j → b ≡ passed_all D P M i unheard (links_in ls)
    unfolding passed_all
    passing_end h = sym (ap (passed_all D P M i b) (links_past ls.lows.now ls.highs.now ls.costs.now j (omega arith))) ∙ s.rest
