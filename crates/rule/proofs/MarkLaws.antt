-- Forwarding marks come to rest from the farthest nodes inwards, and what they come to is the exact mark.
-- The rank of a node counts the reachable nodes that are as far or farther: a node that names it parent has a lower rank, and each rank is one round later.
use Prim.Native.Nat.{ℕ, zero, suc, ◌+◌, ◌≤◌, ◌<◌}
use native.Mathlib.Nat.{le_refl, le_trans}
use native.Mathlib.Omega.{arith}
use mathlib.Core.Path.{◌≡◌, refl, sym, ap, ◌∙◌, subst}
use mathlib.Core.Logic.{◌⊎◌, inl, inr, ⊎_elim}
use mathlib.Core.Bool.{Bool, true, false, cond, not, ◌&&◌, ◌||◌}
use mathlib.Core.List.Memᴰ
use mathlib.Core.List.{List, [], ◌∷◌, Memᴰ}
use borrow.Author.Tests.{eqb-true, eqb-false, eq-eqb, ne_eqb, lt-ltb, le-leb, lt-leb}
use lib.Dec.{T, eqb, leb, ltb, leb→le}
use Rattle.measure.specs.Measure.{ceiling}
use Rattle.rule.specs.Round.{Arc, Net, asked, new_mark}
use Rattle.rule.specs.Exact.{ExactParent, onward, Needed, own, on_way, ExactMark, set, clear}
use Rattle.rule.proofs.Sound.{Within, Sound}
use Rattle.rule.proofs.OfferLaws.{below?}
use Rattle.rule.proofs.ContractionLaws.{Solves}
use Rattle.rule.proofs.CountLaws.{count, count_more}
use Rattle.rule.proofs.DistanceLaws.{solved_le, solved_lower, solved_node, real_most}
use Rattle.rule.proofs.ParentLaws.{parent_arc}

-- node j names i its parent and has its mark set
abbrev pub Asks : (ℕ → ℕ) → (ℕ → ℕ) → ℕ → ℕ → Type 0
Asks P M i j = (P j ≡ i) × (M j ≡ 0 → ⊥)

-- the test for one neighbour
asks_true : (p q i : ℕ) → (eqb p i && not (eqb q 0)) ≡ true → (p ≡ i) × (q ≡ 0 → ⊥)
asks_true p q i e = go (eqb p i) refl (eqb q 0) refl e
  where
    go : (s : Bool) → eqb p i ≡ s → (t : Bool) → eqb q 0 ≡ t → (s && not t) ≡ true → (p ≡ i) × (q ≡ 0 → ⊥)
    go true a true b c = let z : ◌≡◌ {A = Bool} true false = sym c in absurd (subst T z tt)
    go true a false b c = (eqb-true p i a, eqb-false q 0 b)
    go false a true b c = absurd (subst T (sym c) tt)
    go false a false b c = absurd (subst T (sym c) tt)

asks_has : (p q i : ℕ) → p ≡ i → (q ≡ 0 → ⊥) → (eqb p i && not (eqb q 0)) ≡ true
asks_has p q i e n = rw (eq-eqb p i e, ne_eqb q 0 n)

pub asked_true : (P M : ℕ → ℕ) (i : ℕ) (xs : List Arc) → asked P M i xs ≡ true → (a : Arc) × Memᴰ a xs × Asks P M i a.from
unfolding asked
asked_true P M i [] e = absurd (subst T (sym e) tt)
asked_true P M i (x ∷ xs) e = go (eqb (P x.from) i && not (eqb (M x.from) 0)) refl e (λ k. asked_true P M i xs k)
  where
    go : (t : Bool) → (eqb (P x.from) i && not (eqb (M x.from) 0)) ≡ t → (t || asked P M i xs) ≡ true
        → (asked P M i xs ≡ true → (a : Arc) × Memᴰ a xs × Asks P M i a.from) → (a : Arc) × Memᴰ a (x ∷ xs) × Asks P M i a.from
    go true p q rest = (x, Memᴰ.head refl, asks_true (P x.from) (M x.from) i p)
    go false p q rest = let r = rest q in (r.0, Memᴰ.tail r.1, r.2)

pub asked_has : (P M : ℕ → ℕ) (i : ℕ) (a : Arc) (xs : List Arc) → Memᴰ a xs → Asks P M i a.from → asked P M i xs ≡ true
unfolding asked
asked_has P M i a [] m h = absurd (Memᴰ.not-nil m)
asked_has P M i a (x ∷ xs) m h = ⊎_elim now (λ k. later (asked_has P M i a xs k h)) (Memᴰ.cases_cons m)
  where
    now : a ≡ x → ((eqb (P x.from) i && not (eqb (M x.from) 0)) || asked P M i xs) ≡ true
    now e = let k : Asks P M i x.from = subst (λ (y : Arc). Asks P M i y.from) e h in rw (asks_has (P x.from) (M x.from) i k.0 k.1)

    or_true : (t : Bool) → (t || true) ≡ true
    or_true true = refl
    or_true false = refl

    later : asked P M i xs ≡ true → ((eqb (P x.from) i && not (eqb (M x.from) 0)) || asked P M i xs) ≡ true
    later e = rw e (or_true (eqb (P x.from) i && not (eqb (M x.from) 0)))

two_tests : (s t : Bool) → (s ≡ true → t ≡ true) → (t ≡ true → s ≡ true) → s ≡ t
two_tests true true f g = refl
two_tests true false f g = sym (f refl)
two_tests false true f g = g refl
two_tests false false f g = refl

-- a node's new mark is the same where the same neighbours ask
pub mark_same : (N : Net) (P M P' M' : ℕ → ℕ) (i : ℕ)
    → ((a : Arc) → Memᴰ a (N.arcs i) → Asks P M i a.from → Asks P' M' i a.from)
    → ((a : Arc) → Memᴰ a (N.arcs i) → Asks P' M' i a.from → Asks P M i a.from)
    → new_mark N P M i ≡ new_mark N P' M' i
unfolding new_mark
mark_same N P M P' M' i f g =
    ap (λ (t : Bool). cond (N.member i || t) 1 0)
    (two_tests (asked P M i (N.arcs i)) (asked P' M' i (N.arcs i))
    (λ e. let r = asked_true P M i (N.arcs i) e in asked_has P' M' i r.0 (N.arcs i) r.1 (f r.0 r.1 r.2))
    (λ e. let r = asked_true P' M' i (N.arcs i) e in asked_has P M i r.0 (N.arcs i) r.1 (g r.0 r.1 r.2)))

-- a new mark is set for a member and for a node that is asked, and for no other
pub mark_member : (N : Net) (P M : ℕ → ℕ) (i : ℕ) → T (N.member i) → new_mark N P M i ≡ 1
unfolding new_mark
mark_member N P M i h = go (N.member i) h
  where
    go : (t : Bool) → T t → ◌≡◌ {A = ℕ} (cond (t || asked P M i (N.arcs i)) 1 0) 1
    go true h = refl
    go false h = absurd h

pub mark_asked : (N : Net) (P M : ℕ → ℕ) (i : ℕ) → asked P M i (N.arcs i) ≡ true → new_mark N P M i ≡ 1
unfolding new_mark
mark_asked N P M i e = rw e (go (N.member i))
  where
    go : (t : Bool) → ◌≡◌ {A = ℕ} (cond (t || true) 1 0) 1
    go true = refl
    go false = refl

pub mark_why : (N : Net) (P M : ℕ → ℕ) (i : ℕ)
    → ((new_mark N P M i ≡ 1) × (T (N.member i) ⊎ (asked P M i (N.arcs i) ≡ true))) ⊎ (new_mark N P M i ≡ 0)
unfolding new_mark
mark_why N P M i = go (N.member i) (asked P M i (N.arcs i))
  where
    go : (s t : Bool) → (◌≡◌ {A = ℕ} (cond (s || t) 1 0) 1 × (T s ⊎ (t ≡ true))) ⊎ ◌≡◌ {A = ℕ} (cond (s || t) 1 0) 0
    go true true = inl (refl, inl tt)
    go true false = inl (refl, inl tt)
    go false true = inl (refl, inr refl)
    go false false = inr refl

-- one mark at most is exact
pub mark_unique : {N : Net} {S Q : ℕ → ℕ} {i x y : ℕ} → ExactMark N S Q i x → ExactMark N S Q i y → x ≡ y
mark_unique (set w e) (set v f) = e ∙ sym f
mark_unique (set w e) (clear v f) = absurd (v w)
mark_unique (clear w e) (set v f) = absurd (w v)
mark_unique (clear w e) (clear v f) = e ∙ sym f

-- the marks of round after round, with the parents that they were made by
abbrev pub MarkRun : Net → (ℕ → ℕ → ℕ) → (ℕ → ℕ → ℕ) → Type 0
MarkRun N P M = (t i : ℕ) → M (suc t) i ≡ new_mark N (P t) (M t) i

module _ {N : Net} {n m : ℕ} (ok : Sound N n m) {S : ℕ → ℕ} (solved : Solves N S) {Q : ℕ → ℕ} (exact : (i : ℕ) → ExactParent N S i (Q i)) where
  -- a neighbour of a node with a path has a path, and a neighbour of a node without has none
  pub neighbour_reached : (i : ℕ) (a : Arc) → Memᴰ a (N.arcs i) → S i < ceiling → S a.from < ceiling
  neighbour_reached i a k h =
      let b = ok.heard i a k in
      let l : S a.from ≤ S i + b.0.cost = subst (λ (x : ℕ). S a.from ≤ S x + b.0.cost) b.2 (solved_lower ok solved a.from b.0 b.1) in
      omega (arith, real_most ok solved i h, ok.dearest a.from b.0 b.1)

  pub neighbour_cut : (i : ℕ) (a : Arc) → Memᴰ a (N.arcs i) → S i ≡ ceiling → S a.from ≡ ceiling
  neighbour_cut i a k e =
      ⊎_elim (λ (h : S a.from < ceiling). absurd (omega (arith, solved_lower ok solved i a k, real_most ok solved a.from h, ok.dearest i a k)))
      (λ (h : ceiling ≤ S a.from). omega (arith, solved_le ok solved a.from))
      (below? (S a.from) ceiling)

  -- a node that names i its exact parent is farther than i
  pub child_farther : (i j : ℕ) → 1 ≤ i → Q j ≡ i → S i < S j
  child_farther i j low e =
      let a = parent_arc ok solved (exact j) (omega arith) in
      let w : S (Q j) ≡ S i = ap S e in
      omega (arith, a.3, ok.cheapest j a.0 a.1, ok.positive)

  -- how many reachable nodes are as far as i or farther
  unfoldable pub rank : ℕ → ℕ
  rank i = count (λ j. leb (S i) (S j) && ltb (S j) ceiling) 1 n

  far_test : (x y : ℕ) → x ≤ y → y < ceiling → (leb x y && ltb y ceiling) ≡ true
  far_test x y h k = rw (le-leb x y h, lt-ltb y ceiling k)

  not_far : (x y : ℕ) → y < x → (leb x y && ltb y ceiling) ≡ false
  not_far x y h = rw (lt-leb x y h)

  farther_passes : (x y z : ℕ) → x ≤ y → T (leb y z && ltb z ceiling) → T (leb x z && ltb z ceiling)
  farther_passes x y z h t = go (leb y z) refl t
    where
      go : (b : Bool) → leb y z ≡ b → T (b && ltb z ceiling) → T (leb x z && ltb z ceiling)
      go true e t = rw (le-leb x z (le_trans h (leb→le y z (subst T (sym e) tt)))) t
      go false e t = absurd t

  pub rank_falls : (i j : ℕ) → Within n i → S i < S j → S j ≤ ceiling → rank j < rank i
  unfolding rank
  rank_falls i j w h c =
      count_more (λ x. leb (S j) (S x) && ltb (S x) ceiling) (λ x. leb (S i) (S x) && ltb (S x) ceiling)
      (λ x t. farther_passes (S i) (S j) (S x) (omega arith) t) 1 n i w.0 (omega (arith, w.1))
      (not_far (S j) (S i) h) (far_test (S i) (S i) (le_refl (S i)) (omega arith))

  rank_positive : (i : ℕ) → S i < ceiling → 1 ≤ rank i
  unfolding rank
  rank_positive i h =
      let w = solved_node ok solved i h in
      let k = count_more (λ x. false) (λ x. leb (S i) (S x) && ltb (S x) ceiling) (λ x t. absurd t) 1 n i w.0 (omega (arith, w.1)) refl (far_test (S i) (S i) (le_refl (S i)) h) in
      omega arith

  -- Two runs whose parents are exact from t₀ on have the same marks at a node with a path, its rank later.
  pub marks_agree : (P M P' M' : ℕ → ℕ → ℕ) (t₀ : ℕ) → MarkRun N P M → MarkRun N P' M'
      → ((t j : ℕ) → t₀ ≤ t → S j < ceiling → P t j ≡ Q j) → ((t j : ℕ) → t₀ ≤ t → S j < ceiling → P' t j ≡ Q j)
      → (t i : ℕ) → S i < ceiling → t₀ + rank i ≤ t → M t i ≡ M' t i
  marks_agree P M P' M' t₀ r r' p p' zero i h l = absurd (omega (arith, rank_positive i h))
  marks_agree P M P' M' t₀ r r' p p' (suc t) i h l =
      r t i
      ∙ mark_same N (P t) (M t) (P' t) (M' t) i
      (λ a k w. carry (P t) (M t) (P' t) (M' t) (λ j c. p t j late c) (λ j c. p' t j late c) (λ j c f. marks_agree P M P' M' t₀ r r' p p' t j c (sooner j c f)) a k w)
      (λ a k w. carry (P' t) (M' t) (P t) (M t) (λ j c. p' t j late c) (λ j c. p t j late c) (λ j c f. sym (marks_agree P M P' M' t₀ r r' p p' t j c (sooner j c f))) a k w)
      ∙ sym (r' t i)
    where
      node : Within n i
      node = solved_node ok solved i h

      late : t₀ ≤ t
      late = omega (arith, rank_positive i h)

      sooner : (j : ℕ) → S j < ceiling → S i < S j → t₀ + rank j ≤ t
      sooner j c f = omega (arith, rank_falls i j node f (omega arith))

      carry : (P M P' M' : ℕ → ℕ) → ((j : ℕ) → S j < ceiling → P j ≡ Q j) → ((j : ℕ) → S j < ceiling → P' j ≡ Q j)
          → ((j : ℕ) → S j < ceiling → S i < S j → M j ≡ M' j)
          → (a : Arc) → Memᴰ a (N.arcs i) → Asks P M i a.from → Asks P' M' i a.from
      carry P M P' M' p p' same a k w =
          let c : S a.from < ceiling = neighbour_reached i a k h in
          let q : Q a.from ≡ i = sym (p a.from c) ∙ w.0 in
          let f : S i < S a.from = child_farther i a.from node.0 q in
          (p' a.from c ∙ q, λ z. w.1 (same a.from c f ∙ z))

  -- At a node without a path only membership counts, once the parents around it are 0.
  pub marks_cut : (P M P' M' : ℕ → ℕ) → ((j : ℕ) → S j ≡ ceiling → P j ≡ Q j) → ((j : ℕ) → S j ≡ ceiling → P' j ≡ Q j)
      → (i : ℕ) → S i ≡ ceiling → new_mark N P M i ≡ new_mark N P' M' i
  marks_cut P M P' M' p p' i e =
      mark_same N P M P' M' i (λ a k w. absurd (never P M p a k w)) (λ a k w. absurd (never P' M' p' a k w))
    where
      never : (P M : ℕ → ℕ) → ((j : ℕ) → S j ≡ ceiling → P j ≡ Q j) → (a : Arc) → Memᴰ a (N.arcs i) → Asks P M i a.from → ⊥
      never P M p a k w =
          let c : S a.from ≡ ceiling = neighbour_cut i a k e in
          let f : S i < S a.from = child_farther i a.from (ok.hearer i a k).0 (sym (p a.from c) ∙ w.0) in
          omega arith

  -- who is needed has a needed parent
  pub pass_on : (i j : ℕ) → S i < ceiling → Q j ≡ i → Needed N S Q j → Needed N S Q i
  unfolding onward
  pass_on i j h e (own w) = on_way h j 1 w e
  pass_on i j h e (on_way c k hops w f) = on_way h k (suc hops) w (ap Q f ∙ e)

  module _ {X : ℕ → ℕ} (rest : (i : ℕ) → X i ≡ new_mark N Q X i) where
    -- a node is a member, or is asked by a farther node that is itself needed
    why_needed : (i : ℕ) → (X i ≡ 0 → ⊥) → ((j : ℕ) → S i < S j → (X j ≡ 0 → ⊥) → Needed N S Q j) → Needed N S Q i
    why_needed i h farther = ⊎_elim (λ w. ⊎_elim (λ o. own o) (λ e. heeds (asked_true Q X i (N.arcs i) e)) w.1) (λ z. absurd (h (rest i ∙ z))) (mark_why N Q X i)
      where
        heeds : (a : Arc) × Memᴰ a (N.arcs i) × Asks Q X i a.from → Needed N S Q i
        heeds r =
            let f : S i < S r.0.from = child_farther i r.0.from (ok.hearer i r.0 r.1).0 r.2.0 in
            pass_on i r.0.from (omega (arith, solved_le ok solved r.0.from)) r.2.0 (farther r.0.from f r.2.1)

    needed_of : (b i : ℕ) → ceiling ≤ S i + b → (X i ≡ 0 → ⊥) → Needed N S Q i
    needed_of zero i c h = why_needed i h (λ j f k. absurd (omega (arith, solved_le ok solved j)))
    needed_of (suc b) i c h = why_needed i h (λ j f k. needed_of b j (omega arith) k)

    -- the way from a member sets every mark on it
    set_on_way : (k : ℕ) → T (N.member k) → (hops i : ℕ) → 1 ≤ i → onward Q hops k ≡ i → X i ≡ 1
    unfolding onward
    set_on_way k w zero i low e = rest i ∙ mark_member N Q X i (subst (λ (x : ℕ). T (N.member x)) e w)
    set_on_way k w (suc hops) i low e =
        let a = parent_arc ok solved (exact (onward Q hops k)) (omega arith) in
        let from : a.0.from ≡ i = a.2 ∙ e in
        let b = ok.heard (onward Q hops k) a.0 a.1 in
        let before = set_on_way k w hops (onward Q hops k) (ok.hearer (onward Q hops k) a.0 a.1).0 refl in
        rest i ∙ mark_asked N Q X i (asked_has Q X i b.0 (N.arcs i) (subst (λ (x : ℕ). Memᴰ b.0 (N.arcs x)) from b.1)
        (ap Q b.2 ∙ e, λ z. let q : ◌≡◌ {A = ℕ} 1 0 = sym before ∙ ap X (sym b.2) ∙ z in omega arith))

    pub marks_exact : (i : ℕ) → ExactMark N S Q i (X i)
    marks_exact i = ⊎_elim one none (mark_why N Q X i)
      where
        one : (new_mark N Q X i ≡ 1) × (T (N.member i) ⊎ (asked Q X i (N.arcs i) ≡ true)) → ExactMark N S Q i (X i)
        one w = set (needed_of ceiling i (omega arith) (λ z. let q : ◌≡◌ {A = ℕ} 1 0 = sym w.0 ∙ sym (rest i) ∙ z in omega arith)) (rest i ∙ w.0)

        never : new_mark N Q X i ≡ 0 → X i ≡ 1 → ⊥
        never z q = let r : ◌≡◌ {A = ℕ} 1 0 = sym q ∙ rest i ∙ z in omega arith

        not_needed : new_mark N Q X i ≡ 0 → Needed N S Q i → ⊥
        not_needed z (own w) = never z (rest i ∙ mark_member N Q X i w)
        not_needed z (on_way h k hops w e) = never z (set_on_way k w hops i (solved_node ok solved i h).0 e)

        none : new_mark N Q X i ≡ 0 → ExactMark N S Q i (X i)
        none z = clear (not_needed z) (rest i ∙ z)
