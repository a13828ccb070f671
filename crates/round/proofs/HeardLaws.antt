-- What a node knows after its search is what the rule says of its arcs: the least offer, the arc kept for it, and whether it is asked.
-- `Heard` holds before the first arc, and one arc more carries it on.
use Prim.Native.Nat.{ℕ, ◌≤◌, ◌<◌}
use native.Mathlib.Omega.{arith}
use native.Mathlib.Decide.{dec_lt}
use mathlib.Core.Path.{◌≡◌, refl, sym, ap, ◌∙◌, subst}
use mathlib.Core.Bool.{Bool, true, false, cond, not, ◌||◌, or-false, or_assoc}
use mathlib.Core.List.{List, [], ◌∷◌, ◌++◌, append-nil}
use lib.Seq.{append_snoc}
use lib.Dec.{eqb}
use borrow.Author.Tests.{eqb-true}
use Rattle.measure.specs.Measure.{ceiling}
use Rattle.rule.specs.Round.{Arc, Link, through, before, asked, arcs_of}
use Rattle.rule.proofs.OfferLaws.{least_le}
use Rattle.rule.proofs.OnePassLaws.{Kept, kept_none, kept_less, kept_equal, kept_more, kept_ceiling}
use Rattle.round.specs.declared.keep.Best.{Best}
use Rattle.round.specs.Keep.{unheard, kept_arc, takes}
use Rattle.round.specs.Hear.{asks, with_asked, hear, passed}
use Rattle.round.specs.Scan.{passed_all}
use Rattle.round.proofs.KeepLaws.{takes_less, takes_more, takes_ceiling, takes_tie}
use Rattle.round.proofs.HearLaws.{hear_none}

-- what node i knows after the arcs xs
pub record Heard (D P M : ℕ → ℕ) (i : ℕ) (xs : List Arc) (b : Best) : Type 0 where
  pub kept : Kept D xs b.dist.0 (kept_arc b)
  pub asked : b.asked ≡ asked P M i xs

-- what is kept once the arc a has taken the place of k, or has not
abbrev Then : (ℕ → ℕ) → List Arc → ℕ → Arc → Arc → Bool → Type 0
Then D xs best k a t = Kept D (xs ++ a ∷ []) (cond t (through D a) best) (cond t a k)

-- one arc more, by the cases of its offer
kept_step : (D : ℕ → ℕ) (xs : List Arc) (best : ℕ) (k : Arc) → Kept D xs best k → (a : Arc) → Then D xs best k a (takes best k (through D a) a)
kept_step D xs best k s a = less (dec_lt (through D a) best)
  where
    tied : (t : Bool) → through D a ≡ best → Kept D (xs ++ a ∷ []) best (cond t k a) → Then D xs best k a (not t)
    tied true e h = h
    tied false e h = subst (λ (v : ℕ). Kept D (xs ++ a ∷ []) v a) (sym e) h

    equal : through D a ≡ best → Dec (best < ceiling) → Then D xs best k a (takes best k (through D a) a)
    equal e (yes c) = rw (takes_tie best k (through D a) a e c) (tied (before k a) e (kept_equal D xs best k s a e c))
    equal e (no c) = rw (takes_ceiling best k (through D a) a (omega arith) (omega arith)) (kept_ceiling D xs best k s a (omega arith) e)

    more : (through D a < best → ⊥) → Dec (best < through D a) → Then D xs best k a (takes best k (through D a) a)
    more n (yes c) = rw (takes_more best k (through D a) a c) (kept_more D xs best k s a c)
    more n (no c) = equal (omega arith) (dec_lt best ceiling)

    less : Dec (through D a < best) → Then D xs best k a (takes best k (through D a) a)
    less (yes c) = rw (takes_less best k (through D a) a c) (kept_less D xs best k s a c)
    less (no c) = more c (dec_lt best (through D a))

asked_snoc : (P M : ℕ → ℕ) (i : ℕ) (xs : List Arc) (a : Arc) → asked P M i (xs ++ a ∷ []) ≡ (asked P M i xs || asks P M a.from i)
unfolding asked
asked_snoc P M i [] a = or-false (asks P M a.from i)
asked_snoc P M i (b ∷ xs) a = ap (λ (t : Bool). asks P M b.from i || t) (asked_snoc P M i xs a) ∙ sym (or_assoc (asks P M b.from i) (asked P M i xs) (asks P M a.from i))

module _ (D P M : ℕ → ℕ) (i : ℕ) where
  heard_arc : (xs : List Arc) (b : Best) → Heard D P M i xs b → (a : Arc) → Heard D P M i (xs ++ a ∷ []) (hear D P M i b a)
  unfolding hear
  heard_arc xs b h a = go (takes b.dist.0 (kept_arc b) (through D a) a) (kept_step D xs b.dist.0 (kept_arc b) h.kept a)
    where
      q : Bool
      q = asks P M a.from i

      told : (b.asked || asks P M a.from i) ≡ asked P M i (xs ++ a ∷ [])
      told = ap (λ (t : Bool). t || asks P M a.from i) h.asked ∙ sym (asked_snoc P M i xs a)

      go : (t : Bool) → Then D xs b.dist.0 (kept_arc b) a t
          → Heard D P M i (xs ++ a ∷ []) (cond t (record { dist = record { 0 = through D a }; arc = record { from = a.from; cost = record { 0 = a.cost } }; asked = b.asked || asks P M a.from i }) (with_asked b (asks P M a.from i)))
      go true k = record { kept = k; asked = told }
      go false k = record { kept = k; asked = told }

  -- nothing is heard of node 0, which has no distance and no mark
  module _ (far : D 0 ≡ ceiling) (clear : M 0 ≡ 0) where
    heard_from_lem : (xs : List Arc) (b : Best) → Heard D P M i xs b → (a : Arc) → Heard D P M i (xs ++ a ∷ []) (cond (eqb a.from 0) b (hear D P M i b a))
    heard_from_lem xs b h a = go (eqb a.from 0) refl
      where
        near : b.dist.0 ≤ ceiling
        near = rw h.kept.dist (least_le D xs)

        go : (t : Bool) → eqb a.from 0 ≡ t → Heard D P M i (xs ++ a ∷ []) (cond t b (hear D P M i b a))
        go true e = rw (hear_none D P M i far clear b near a (eqb-true a.from 0 e)) at (heard_arc xs b h a)
        go false e = heard_arc xs b h a

    heard_links : (ls : List Link) (xs : List Arc) (b : Best) → Heard D P M i xs b → Heard D P M i (xs ++ arcs_of ls i) (passed_all D P M i b ls)
    unfolding arcs_of passed_all passed
    heard_links [] xs b h = rw append-nil h
    heard_links (l ∷ ls) xs b h =
        go (eqb l.low i) (eqb l.high i) (λ (a : Arc). heard_links ls (xs ++ a ∷ []) (cond (eqb a.from 0) b (hear D P M i b a)) (heard_from_lem xs b h a)) (heard_links ls xs b h)
      where
        arc : ℕ → Arc
        arc j = record { from = j; cost = l.cost }

        go : (s t : Bool) → ((a : Arc) → Heard D P M i ((xs ++ a ∷ []) ++ arcs_of ls i) (passed_all D P M i (cond (eqb a.from 0) b (hear D P M i b a)) ls))
            → Heard D P M i (xs ++ arcs_of ls i) (passed_all D P M i b ls)
            → let from : ℕ = cond s l.high (cond t l.low 0) in
            Heard D P M i (xs ++ cond s (arc l.high ∷ arcs_of ls i) (cond t (arc l.low ∷ arcs_of ls i) (arcs_of ls i))) (passed_all D P M i (cond (eqb from 0) b (hear D P M i b (arc from))) ls)
        go true t one none = rw append_snoc at (one (arc l.high))
        go false true one none = rw append_snoc at (one (arc l.low))
        go false false one none = none

    -- what a node knows after all links
    pub heard : (ls : List Link) → Heard D P M i (arcs_of ls i) (passed_all D P M i unheard ls)
    unfolding asked
    heard ls = heard_links ls [] unheard (record { kept = kept_none D (kept_arc unheard) refl; asked = refl })
