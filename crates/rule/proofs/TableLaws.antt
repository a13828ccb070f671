-- Tables and the functions that they stand for: after a round every number, node or not, holds what the rule gives it.
use Prim.Native.Nat.{ℕ, zero, suc, ◌+◌, ◌≤◌, ◌<◌}
use native.Mathlib.Nat.{add-zero, add-suc, suc-add}
use native.Mathlib.Omega.{arith}
use mathlib.Core.Path.{◌≡◌, refl, sym, ap, ◌∙◌, subst}
use mathlib.Core.Logic.{◌⊎◌, inl, inr, ⊎_elim}
use mathlib.Core.Bool.{Bool, true, false, cond, ◌||◌}
use mathlib.Core.List.{List, [], ◌∷◌, map, Memᴰ}
use lib.Dec.{T}
use lib.ListN.{length, get_or, get_or-eq_default}
use lib.Seq.{ext_get_or}
use Rattle.measure.specs.Measure.{ceiling}
use Rattle.rule.specs.Round.{Arc, Net, Cell, least, new_dist, asked, new_mark, new_cell, blank, at, numbered, round}
use Rattle.rule.proofs.Sound.{Within, Sound}
use Rattle.rule.proofs.OfferLaws.{below?, new_dist_other}
use Rattle.rule.proofs.ParentLaws.{parent_none}

pub within? : (n i : ℕ) → Within n i ⊎ (Within n i → ⊥)
within? n zero = inr (λ w. omega arith)
within? n (suc i) = ⊎_elim (λ (h : i < n). inl (omega arith, h)) (λ (h : n ≤ i). inr (λ w. omega arith)) (below? i n)

pub length_numbered : {A : Type 0} (f : ℕ → A) (k n : ℕ) → length (map f (numbered k n)) ≡ n
unfolding numbered
length_numbered f k zero = refl
length_numbered f k (suc n) = ap suc (length_numbered f (suc k) n)

pub get_d_numbered : {A : Type 0} (f : ℕ → A) (d : A) (k n j : ℕ) → j < n → get_or (map f (numbered k n)) j d ≡ f (k + j)
unfolding numbered
get_d_numbered f d k zero j h = absurd (omega arith)
get_d_numbered f d k (suc n) zero h = ap f (sym (add-zero k))
get_d_numbered f d k (suc n) (suc j) h = get_d_numbered f d (suc k) n j (omega arith) ∙ ap f (suc-add k j ∙ sym (add-suc k j))

pub length_round : (N : Net) (n : ℕ) (t : List Cell) → length (round N n t) ≡ n
unfolding round
length_round N n t = length_numbered (new_cell N (at t)) 1 n

-- a node holds what the rule gives it
pub at_round : (N : Net) (n : ℕ) (t : List Cell) (i : ℕ) → Within n i → at (round N n t) i ≡ new_cell N (at t) i
unfolding round at
at_round N n t zero w = absurd (omega arith)
at_round N n t (suc j) w = get_d_numbered (new_cell N (at t)) blank 1 n j (omega arith) ∙ ap (new_cell N (at t)) (omega arith)

-- a number that is no node holds nothing
pub at_blank : (t : List Cell) (n i : ℕ) → length t ≡ n → (Within n i → ⊥) → at t i ≡ blank
unfolding at
at_blank t n zero e w = refl
at_blank t n (suc j) e w =
    get_or-eq_default t blank (⊎_elim (λ (h : j < n). absurd (w (omega arith, h))) (λ (h : n ≤ j). omega arith) (below? j n))

-- two tables of n nodes are equal where their nodes hold the same
pub table_same : (t u : List Cell) (n : ℕ) → length t ≡ n → length u ≡ n → ((i : ℕ) → Within n i → at t i ≡ at u i) → t ≡ u
unfolding at
table_same t u n e f h = ext_get_or blank t u (e ∙ sym f) (λ i l. h (suc i) (omega arith, omega arith))

no_arcs : (xs : List Arc) → ((a : Arc) → Memᴰ a xs → ⊥) → xs ≡ []
no_arcs [] h = refl
no_arcs (x ∷ xs) h = absurd (h x (Memᴰ.head refl))

module _ {N : Net} {n m : ℕ} (ok : Sound N n m) where
  -- the rule gives a number that is no node nothing
  rule_blank : (s : ℕ → Cell) (i : ℕ) → (Within n i → ⊥) → new_cell N s i ≡ blank
  unfolding new_cell least new_mark asked
  rule_blank s i w =
      let none : N.arcs i ≡ [] = no_arcs (N.arcs i) (λ a k. w (ok.hearer i a k)) in
      let away : i ≡ N.root → ⊥ = λ e. w (subst (Within n) (sym e) ok.root) in
      let D : ℕ → ℕ = λ j. (s j).dist in
      let far : new_dist N D i ≡ ceiling = new_dist_other N D i away ∙ ap (least D) none in
      let bare : new_mark N (λ j. (s j).parent) (λ j. (s j).mark) i ≡ 0 =
      ap (λ (xs : List Arc). cond (N.member i || asked (λ j. (s j).parent) (λ j. (s j).mark) i xs) 1 0) none ∙ plain (N.member i) (λ t. w (ok.members i t)) in
      λ k. record { dist = far k; parent = parent_none N D (new_dist N D i) i (inr far) k; mark = bare k }
    where
      plain : (t : Bool) → (T t → ⊥) → ◌≡◌ {A = ℕ} (cond (t || false) 1 0) 0
      plain true h = absurd (h tt)
      plain false h = refl

  -- so after a round every number holds what the rule gives it
  pub at_round_all : (t : List Cell) (i : ℕ) → at (round N n t) i ≡ new_cell N (at t) i
  at_round_all t i =
      ⊎_elim (λ w. at_round N n t i w) (λ w. at_blank (round N n t) n i (length_round N n t) w ∙ sym (rule_blank (at t) i w)) (within? n i)
