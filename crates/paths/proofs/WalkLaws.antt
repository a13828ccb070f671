-- Walking from each member marks exactly the nodes that a way from a member passes.
use Prim.Native.Nat.{ℕ, zero, suc, ◌+◌, ◌≤◌, ◌<◌}
use native.Mathlib.Nat.{add-zero, add-suc, suc-add}
use native.Mathlib.Omega.{arith}
use mathlib.Core.Path.{◌≡◌, refl, sym, ap, ◌∙◌, subst}
use mathlib.Core.Logic.{◌⊎◌, inl, inr, ⊎_elim}
use mathlib.Core.Bool.{Bool, true, false, cond}
use mathlib.Core.List.{List}
use lib.Dec.{T}
use lib.ListN.{length, replicate, length-replicate}
use lib.Seq.{set_out}
use Rattle.rule.specs.Exact.{onward}
use Rattle.rule.proofs.OfferLaws.{same?, below?}
use Rattle.rule.proofs.Sound.{Within}
use Rattle.rule.proofs.TableLaws.{within?}
use Rattle.table.specs.Nodes.{node_at}
use Rattle.table.specs.Flag.{with_mark}
use Rattle.table.proofs.FlagLaws.{node_same, length_mark, mark_new, mark_old}
use Rattle.paths.specs.Walk.{walked, walked_from, marks_from}

-- a number that is no node has no mark to set
beyond : (M : List ℕ) (i : ℕ) → (Within (length M) i → ⊥) → with_mark M i ≡ M
unfolding with_mark
beyond M zero w = refl
beyond M (suc k) w = set_out M k 1 (⊎_elim (λ (h : k < length M). absurd (w (omega arith, h))) (λ (h : length M ≤ k). h) (below? k (length M)))

-- what a node's mark is: untouched, or 1 for a reason
abbrev Why : (ℕ → Type 0) → List ℕ → List ℕ → ℕ → Type 0
Why P M E j = (node_at 0 E j ≡ node_at 0 M j) ⊎ ((node_at 0 E j ≡ 1) × P j)

mark_why : (P : ℕ → Type 0) (M : List ℕ) (i j : ℕ) → P i → Why P M (with_mark M i) j
mark_why P M i j h = ⊎_elim at (λ n. inl (mark_old M i j n)) (same? j i)
  where
    at : j ≡ i → Why P M (with_mark M i) j
    at e = ⊎_elim inside outside (within? (length M) i)
      where
        inside : Within (length M) i → Why P M (with_mark M i) j
        inside w = inr (ap (node_at 0 (with_mark M i)) e ∙ mark_new M i w, subst P (sym e) h)

        outside : (Within (length M) i → ⊥) → Why P M (with_mark M i) j
        outside w = inl (ap (λ (x : List ℕ). node_at 0 x j) (beyond M i w))

why_then : (P : ℕ → Type 0) (M E F : List ℕ) (j : ℕ) → Why P M E j → Why P E F j → Why P M F j
why_then P M E F j (inl a) (inl b) = inl (b ∙ a)
why_then P M E F j (inr a) (inl b) = inr (b ∙ a.0, a.1)
why_then P M E F j a (inr b) = inr b

-- a mark that is 1 stays 1
stays : (P : ℕ → Type 0) (M E : List ℕ) (j : ℕ) → Why P M E j → node_at 0 M j ≡ 1 → node_at 0 E j ≡ 1
stays P M E j (inl a) e = a ∙ e
stays P M E j (inr a) e = a.0

module _ (Q : List ℕ) where
  pub walked_zero : (left : ℕ) (M : List ℕ) → walked Q left M 0 ≡ M
  unfolding walked with_mark
  walked_zero zero M = refl
  walked_zero (suc left) M = walked_zero left M

  pub length_walked : (left : ℕ) (M : List ℕ) (i : ℕ) → length (walked Q left M i) ≡ length M
  unfolding walked
  length_walked zero M i = refl
  length_walked (suc left) M i = length_walked left (with_mark M i) (node_at 0 Q i) ∙ length_mark M i

  -- P holds of every node on a way that starts where it holds
  Onwards : (ℕ → Type 0) → Type 0
  Onwards P = (i : ℕ) → P i → (node_at 0 Q i ≡ 0) ⊎ P (node_at 0 Q i)

  -- a walk changes only marks of nodes on the way
  walk_why : (P : ℕ → Type 0) → Onwards P → (left : ℕ) (M : List ℕ) (i : ℕ) → P i → (j : ℕ) → Why P M (walked Q left M i) j
  unfolding walked Onwards
  walk_why P on zero M i h j = inl refl
  walk_why P on (suc left) M i h j =
      why_then P M (with_mark M i) (walked Q left (with_mark M i) (node_at 0 Q i)) j (mark_why P M i j h)
      (⊎_elim (λ e. inl (ap (λ (x : ℕ). node_at 0 (walked Q left (with_mark M i) x) j) e ∙ ap (λ (x : List ℕ). node_at 0 x j) (walked_zero left (with_mark M i))))
      (λ p. walk_why P on left (with_mark M i) (node_at 0 Q i) p j) (on i h))

  -- and clears none
  walk_stays : (left : ℕ) (M : List ℕ) (i j : ℕ) → node_at 0 M j ≡ 1 → node_at 0 (walked Q left M i) j ≡ 1
  unfolding Onwards
  walk_stays left M i j e = stays (λ _. Unit {0}) M (walked Q left M i) j (walk_why (λ _. Unit {0}) (λ _ _. inr tt) left M i tt j) e

  onward_first : (h k : ℕ) → onward (node_at 0 Q) (suc h) k ≡ onward (node_at 0 Q) h (node_at 0 Q k)
  unfolding onward
  onward_first zero k = refl
  onward_first (suc h) k = ap (node_at 0 Q) (onward_first h k)

  -- a walk marks every node that its hops lead to
  walk_reaches : (left : ℕ) (M : List ℕ) (i h : ℕ) → h < left → Within (length M) (onward (node_at 0 Q) h i) → node_at 0 (walked Q left M i) (onward (node_at 0 Q) h i) ≡ 1
  unfolding walked onward
  walk_reaches zero M i h l w = absurd (omega arith)
  walk_reaches (suc left) M i zero l w = walk_stays left (with_mark M i) (node_at 0 Q i) i (mark_new M i w)
  walk_reaches (suc left) M i (suc h) l w =
      subst (λ (x : ℕ). node_at 0 (walked Q left (with_mark M i) (node_at 0 Q i)) x ≡ 1) (sym (onward_first h i))
      (walk_reaches left (with_mark M i) (node_at 0 Q i) h (omega arith) (subst (λ (n : ℕ). Within n (onward (node_at 0 Q) h (node_at 0 Q i))) (sym (length_mark M i)) (subst (Within (length M)) (onward_first h i) w)))

  -- the ways of all members
  module _ (member : ℕ → Bool) where
    length_from : (left i : ℕ) (M : List ℕ) → length (walked_from member Q left i M) ≡ length M
    unfolding walked_from
    length_from zero i M = refl
    length_from (suc left) i M = length_from left (suc i) (cond (member i) (walked Q (length M) M i) M) ∙ go (member i)
      where
        go : (b : Bool) → length (cond b (walked Q (length M) M i) M) ≡ length M
        go true = length_walked (length M) M i
        go false = refl

    from_why : (P : ℕ → Type 0) → Onwards P → ((k : ℕ) → T (member k) → P k) → (left i : ℕ) (M : List ℕ) (j : ℕ) → Why P M (walked_from member Q left i M) j
    unfolding walked_from
    from_why P on all zero i M j = inl refl
    from_why P on all (suc left) i M j =
        why_then P M (cond (member i) (walked Q (length M) M i) M) (walked_from member Q left (suc i) (cond (member i) (walked Q (length M) M i) M)) j
        (go (member i) (all i)) (from_why P on all left (suc i) (cond (member i) (walked Q (length M) M i) M) j)
      where
        go : (b : Bool) → (T b → P i) → Why P M (cond b (walked Q (length M) M i) M) j
        go true h = walk_why P on (length M) M i (h tt) j
        go false h = inl refl

    from_stays : (left i : ℕ) (M : List ℕ) (j : ℕ) → node_at 0 M j ≡ 1 → node_at 0 (walked_from member Q left i M) j ≡ 1
    unfolding Onwards
    from_stays left i M j e =
        stays (λ _. Unit {0}) M (walked_from member Q left i M) j (from_why (λ _. Unit {0}) (λ _ _. inr tt) (λ _ _. tt) left i M j) e

    from_reaches : (left i : ℕ) (M : List ℕ) (k h : ℕ) → T (member k) → i ≤ k → k < i + left → h < length M → Within (length M) (onward (node_at 0 Q) h k)
        → node_at 0 (walked_from member Q left i M) (onward (node_at 0 Q) h k) ≡ 1
    unfolding walked_from
    from_reaches zero i M k h t low high l w = absurd (omega (arith, add-zero i))
    from_reaches (suc left) i M k h t low high l w =
        ⊎_elim now (λ n. later (λ a b c d. from_reaches left (suc i) (cond (member i) (walked Q (length M) M i) M) k h t a b c d) n) (same? i k)
      where
        next : List ℕ
        next = cond (member i) (walked Q (length M) M i) M

        size : (b : Bool) → length (cond b (walked Q (length M) M i) M) ≡ length M
        size true = length_walked (length M) M i
        size false = refl

        go : (b : Bool) → T b → i ≡ k → node_at 0 (cond b (walked Q (length M) M i) M) (onward (node_at 0 Q) h k) ≡ 1
        go true x e = subst (λ (y : ℕ). node_at 0 (walked Q (length M) M y) (onward (node_at 0 Q) h k) ≡ 1) (sym e) (walk_reaches (length M) M k h l w)
        go false x e = absurd x

        now : i ≡ k → node_at 0 (walked_from member Q left (suc i) next) (onward (node_at 0 Q) h k) ≡ 1
        now e = from_stays left (suc i) next (onward (node_at 0 Q) h k) (go (member i) (subst (λ (x : ℕ). T (member x)) (sym e) t) e)

        later : (suc i ≤ k → k < suc i + left → h < length next → Within (length next) (onward (node_at 0 Q) h k) → node_at 0 (walked_from member Q left (suc i) next) (onward (node_at 0 Q) h k) ≡ 1)
            → (i ≡ k → ⊥) → node_at 0 (walked_from member Q left (suc i) next) (onward (node_at 0 Q) h k) ≡ 1
        later rest n =
            rest (omega (arith, n)) (omega (arith, suc-add i left, add-suc i left)) (omega (arith, size (member i)))
            (subst (λ (x : ℕ). Within x (onward (node_at 0 Q) h k)) (sym (size (member i))) w)

    pub length_marks : length (marks_from member Q) ≡ length Q
    unfolding marks_from
    length_marks = length_from (length Q) 1 (replicate (length Q) 0) ∙ length-replicate (length Q) 0

    -- a mark is 0, or 1 for a reason that every member has and every parent takes over
    pub marks_why : (P : ℕ → Type 0) → ((i : ℕ) → P i → (node_at 0 Q i ≡ 0) ⊎ P (node_at 0 Q i)) → ((k : ℕ) → T (member k) → P k)
        → (j : ℕ) → (node_at 0 (marks_from member Q) j ≡ 0) ⊎ ((node_at 0 (marks_from member Q) j ≡ 1) × P j)
    unfolding marks_from Onwards
    marks_why P on all j =
        ⊎_elim (λ e. inl (e ∙ node_same 0 (length Q) j)) (λ e. inr e) (from_why P on all (length Q) 1 (replicate (length Q) 0) j)

    -- each node on a member's way is marked
    pub marks_reach : (k h : ℕ) → T (member k) → Within (length Q) k → h < length Q → Within (length Q) (onward (node_at 0 Q) h k)
        → node_at 0 (marks_from member Q) (onward (node_at 0 Q) h k) ≡ 1
    unfolding marks_from
    marks_reach k h t v l w =
        let e : length {A = ℕ} (replicate (length Q) 0) ≡ length Q = length-replicate (length Q) 0 in
        from_reaches (length Q) 1 (replicate (length Q) 0) k h t v.0 (omega (arith, v.1)) (omega arith)
        (subst (λ (x : ℕ). Within x (onward (node_at 0 Q) h k)) (sym e) w)
