-- The search takes what the definition takes: a law for each way through a turn of its loop, and for the loop's two ends.
use Prim.Native.Nat.{ℕ, zero, suc, ◌+◌, ◌-◌, ◌≤◌, ◌<◌}
use native.Mathlib.Nat.{sub-zero}
use native.Mathlib.Numerals.{add-one}
use native.Mathlib.Omega.{arith}
use mathlib.Core.Path.{◌≡◌, refl, sym, ap, ap₂, ◌∙◌}
use mathlib.Core.Logic.{◌⊎◌, inl, inr}
use mathlib.Core.Bool.{Bool, true, false, cond, not, ◌&&◌, ◌||◌, false≢true}
use borrow.Author.Tests.{eq-eqb, ne_eqb, lt-ltb, le-ltb}
use lib.Dec.{eqb, ltb}
use lib.ListN.{length, get_or}
use Rattle.std.proofs.Common.{Option, Some, None}
use Rattle.std.proofs.lemmas.Grind.{get_or_default_zero}
use Rattle.std.specs.Option.{is_some}
use Rattle.measure.specs.Measure.{ceiling}
use Rattle.table.proofs.PlaceLaws.{left_less, none_left}
use Rattle.paths.specs.Nearest.{Work, closer, nearest_from, nearest, some_node}
use Rattle.paths.proofs.NearestLaws.{dist_in}

-- Before the turn at place k a node stands, 0 for none, with its distance; a search that goes on from there finds the nearest.
pub record Standing (w : Work) (k : ℕ) (best : Option ℕ) (least : ℕ) : Type 0 where
  pub node : ℕ
  pub named : best ≡ some_node node
  pub far : least ≡ dist_in w node
  pub so_far : nearest_from w (length w.dists - k) (k + 1) node ≡ nearest w

-- whether none stands
stands : (n : ℕ) (r : Bool) → is_some (some_node n) ≡ not r → eqb n 0 ≡ r
stands zero true e = eq-eqb 0 0 refl
stands zero false e = absurd (false≢true e)
stands (suc k) true e = absurd (false≢true (sym e))
stands (suc k) false e = ne_eqb (suc k) 0 (λ z. omega arith)

-- the test on the node at hand
first_or_nearer : (r : Bool) (d m : ℕ) → (r ≡ true) ⊎ ((r ≡ false) × (d < m)) → (r || ltb d m) ≡ true
first_or_nearer true d m n = refl
first_or_nearer false d m (inl e) = absurd (false≢true e)
first_or_nearer false d m (inr n) = lt-ltb d m n.1

module _ (w : Work) where
  pub search_start : Standing w 0 None ceiling
  unfolding nearest
  search_start = record { node = 0; named = refl; far = refl; so_far = rw (sub-zero (length w.dists)) }

  module _ (k : ℕ) (best : Option ℕ) (least : ℕ) (h : Standing w k best least) where
    pub search_end : length w.dists ≤ k → best ≡ some_node (nearest w)
    unfolding nearest_from
    search_end l = h.named ∙ ap some_node (sym (ap (λ (x : ℕ). nearest_from w x (k + 1) h.node) (none_left (length w.dists) k l)) ∙ h.so_far)

    module _ (l : k < length w.dists) where
      search_turn : (t : Bool) → closer w h.node (k + 1) ≡ t
          → nearest_from w (length w.dists - (k + 1)) (k + 1 + 1) (cond t (k + 1) h.node) ≡ nearest w
      unfolding nearest_from
      search_turn t e =
          let n = length w.dists in
          ap (λ (x : ℕ). nearest_from w (n - (k + 1)) x (cond t (k + 1) h.node)) (add-one (k + 1))
          ∙ ap (λ (u : Bool). nearest_from w (n - (k + 1)) (suc (k + 1)) (cond u (k + 1) h.node)) (sym e)
          ∙ sym (ap (λ (x : ℕ). nearest_from w x (k + 1) h.node) (left_less n k l)) ∙ h.so_far

      -- which of the two is closer, by the loop's tests
      closer_is : (s : Bool) → s ≡ get_or w.done k false → closer w h.node (k + 1) ≡ not s && (eqb h.node 0 || ltb (get_or w.dists k 0) least)
      unfolding closer
      closer_is s e =
          ap (closer w h.node) (add-one k)
          ∙ ap₂ (λ (t : Bool) (d : ℕ). not t && (eqb h.node 0 || ltb d (dist_in w h.node))) (sym e) (get_or_default_zero w.dists k ceiling l)
          ∙ ap (λ (m : ℕ). not s && (eqb h.node 0 || ltb (get_or w.dists k 0) m)) (sym h.far)

      module _ (s : Bool) (e : s ≡ get_or w.done k false) (b : Option ℕ) (m : ℕ) where
        pub keep_settled : s ≡ true → b ≡ best → m ≡ least → Standing w (k + 1) b m
        keep_settled t f g =
            record {
              node = h.node;
              named = f ∙ h.named;
              far = g ∙ h.far;
              so_far = search_turn false (closer_is s e ∙ ap (λ (u : Bool). not u && (eqb h.node 0 || ltb (get_or w.dists k 0) least)) t);
            }

        module _ (r : Bool) (none : is_some best ≡ not r) where
          pub keep_nearer : s ≡ false → (r ≡ false) × (least ≤ get_or w.dists k 0) → b ≡ best → m ≡ least → Standing w (k + 1) b m
          keep_nearer t n f g =
              let stood : eqb h.node 0 ≡ false = stands h.node r (sym (ap is_some h.named) ∙ none) ∙ n.0 in
              record {
                node = h.node;
                named = f ∙ h.named;
                far = g ∙ h.far;
                so_far = search_turn false (closer_is s e ∙ rw (t, stood, le-ltb (get_or w.dists k 0) least n.1));
              }

          pub take_nearer : s ≡ false → (r ≡ true) ⊎ ((r ≡ false) × (get_or w.dists k 0 < least)) → b ≡ Some (k + 1) → m ≡ get_or w.dists k 0
              → Standing w (k + 1) b m
          take_nearer t n f g =
              let stood : eqb h.node 0 ≡ r = stands h.node r (sym (ap is_some h.named) ∙ none) in
              record {
                node = k + 1;
                named = f ∙ ap Some (add-one k) ∙ sym (ap some_node (add-one k));
                far = g ∙ sym (ap (dist_in w) (add-one k) ∙ get_or_default_zero w.dists k ceiling l);
                so_far = search_turn true (closer_is s e ∙ rw (t, stood, first_or_nearer r (get_or w.dists k 0) least n));
              }
