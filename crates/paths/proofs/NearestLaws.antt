-- The search for the nearest node that is not settled finds one, nearest of all, or tells that all are settled.
use Prim.Native.Nat.{ℕ, zero, suc, ◌+◌, ◌≤◌, ◌<◌}
use native.Mathlib.Nat.{le_refl, le_trans, le_of_eq, le_of_lt, zero-add, add-zero, add-suc, suc-add}
use native.Mathlib.Omega.{arith}
use mathlib.Core.Path.{◌≡◌, refl, sym, ap, ◌∙◌, subst}
use mathlib.Core.Logic.{◌⊎◌, inl, inr, ⊎_elim}
use mathlib.Core.Bool.{Bool, true, false, cond, not, ◌&&◌, ◌||◌, false≢true}
use borrow.Author.Tests.{eqb-true, eqb-false, ltb-true, ltb-false}
use lib.Dec.{eqb, ltb}
use lib.ListN.{length}
use Rattle.measure.specs.Measure.{ceiling}
use Rattle.rule.proofs.OfferLaws.{same?, below?}
use Rattle.rule.proofs.Sound.{Within}
use Rattle.table.specs.Nodes.{node_at}
use Rattle.std.proofs.Common.{Some}
use Rattle.paths.specs.Nearest.{Work, closer, nearest_from, nearest, some_node}

-- a node's distance, and whether it is settled
abbrev pub dist_in : Work → ℕ → ℕ
dist_in w i = node_at ceiling w.dists i

abbrev pub Settled : Work → ℕ → Type 0
Settled w i = node_at false w.done i ≡ false → ⊥

abbrev pub Waiting : Work → ℕ → Type 0
Waiting w i = node_at false w.done i ≡ false

-- b is the nearest node that is not settled of the first k, or 0 where they are all settled
pub record NearestOf (w : Work) (k b : ℕ) : Type 0 where
  pub none : b ≡ 0 → (j : ℕ) → Within k j → Settled w j
  pub node : (b ≡ 0 → ⊥) → Within k b
  pub waiting : (b ≡ 0 → ⊥) → Waiting w b
  pub least : (b ≡ 0 → ⊥) → (j : ℕ) → Within k j → Waiting w j → dist_in w b ≤ dist_in w j

module _ (w : Work) where
  -- a number up to k + 1 is up to k, or is k + 1
  last : (k j : ℕ) → Within (suc k) j → Within k j ⊎ (j ≡ suc k)
  last k j h = ⊎_elim (λ (l : j < suc k). inl (omega arith, omega arith)) (λ (l : suc k ≤ j). inr (omega arith)) (below? j (suc k))

  -- node k + 1 is passed over: it is settled, or a node as near stands already
  keep : (k b : ℕ) → NearestOf w k b → (Settled w (suc k) ⊎ ((b ≡ 0 → ⊥) × (dist_in w b ≤ dist_in w (suc k)))) → NearestOf w (suc k) b
  keep k b h why =
      record {
        none = λ e j l. ⊎_elim (λ v. h.none e j v) (λ v. ⊎_elim (λ s. subst (Settled w) (sym v) s) (λ s. absurd (s.0 e)) why) (last k j l);
        node = λ n. let v = h.node n in (v.0, omega (arith, v.1));
        waiting = h.waiting;
        least = λ n j l o. ⊎_elim (λ v. h.least n j v o) (λ v. ⊎_elim (λ s. absurd (subst (Settled w) (sym v) s o)) (λ s. subst (λ (x : ℕ). dist_in w b ≤ dist_in w x) (sym v) s.1) why) (last k j l);
      }

  -- node k + 1 is taken: it is not settled and nearer than what stood
  replace : (k b : ℕ) → NearestOf w k b → Waiting w (suc k) → ((b ≡ 0) ⊎ (dist_in w (suc k) < dist_in w b)) → NearestOf w (suc k) (suc k)
  replace k b h o why =
      record {
        none = λ e. absurd (omega arith);
        node = λ n. (omega arith, le_refl (suc k));
        waiting = λ n. o;
        least = λ n j l p. ⊎_elim (λ v. ⊎_elim (λ z. absurd (h.none z j v p)) (λ f. nearer j v p f (same? b 0)) why) (λ v. le_of_eq (ap (dist_in w) (sym v))) (last k j l);
      }
    where
      nearer : (j : ℕ) → Within k j → Waiting w j → dist_in w (suc k) < dist_in w b → (b ≡ 0) ⊎ (b ≡ 0 → ⊥) → dist_in w (suc k) ≤ dist_in w j
      nearer j v p f (inl z) = absurd (h.none z j v p)
      nearer j v p f (inr n) = le_trans (le_of_lt f) (h.least n j v p)

  step : (k b : ℕ) → NearestOf w k b → NearestOf w (suc k) (cond (closer w b (suc k)) (suc k) b)
  unfolding closer
  step k b h = go (node_at false w.done (suc k)) refl (eqb b 0) refl (ltb (dist_in w (suc k)) (dist_in w b)) refl
    where
      go : (s : Bool) → node_at false w.done (suc k) ≡ s → (t : Bool) → eqb b 0 ≡ t → (u : Bool) → ltb (dist_in w (suc k)) (dist_in w b) ≡ u
          → NearestOf w (suc k) (cond (not s && (t || u)) (suc k) b)
      go true e t f u g = keep k b h (inl (λ z. false≢true (sym z ∙ e)))
      go false e true f u g = replace k b h e (inl (eqb-true b 0 f))
      go false e false f true g = replace k b h e (inr (ltb-true (dist_in w (suc k)) (dist_in w b) g))
      go false e false f false g = keep k b h (inr (eqb-false b 0 f, ltb-false (dist_in w (suc k)) (dist_in w b) g))

  search_on : (left k b : ℕ) → NearestOf w k b → NearestOf w (k + left) (nearest_from w left (suc k) b)
  unfolding nearest_from
  search_on zero k b h = subst (λ (x : ℕ). NearestOf w x b) (sym (add-zero k)) h
  search_on (suc left) k b h =
      subst (λ (x : ℕ). NearestOf w x (nearest_from w left (suc (suc k)) (cond (closer w b (suc k)) (suc k) b))) (suc-add k left ∙ sym (add-suc k left))
      (search_on left (suc k) (cond (closer w b (suc k)) (suc k) b) (step k b h))

  pub nearest_is : NearestOf w (length w.dists) (nearest w)
  unfolding nearest
  nearest_is =
      subst (λ (x : ℕ). NearestOf w x (nearest_from w (length w.dists) 1 0)) (zero-add (length w.dists))
      (search_on (length w.dists) 0 0
      (record { none = λ e j l. absurd (omega arith); node = λ n. absurd (n refl); waiting = λ n. absurd (n refl); least = λ n. absurd (n refl) }))

  -- so the node that is found, if there is one, is a node
  pub nearest_within : (u : ℕ) → Some u ≡ some_node (nearest w) → Within (length w.dists) u
  nearest_within u e = go (nearest w) e nearest_is
    where
      go : (k : ℕ) → Some u ≡ some_node k → NearestOf w (length w.dists) k → Within (length w.dists) u
      go zero f near = cc
      go (suc k) f near = let same : u ≡ suc k = cc in subst (Within (length w.dists)) (sym same) (near.node (λ z. omega arith))
