-- The network of a park is sound: each arc is one direction of a link, so ends, costs and the way back come from the links.
use Prim.Native.Nat.{ℕ, ◌≤◌}
use native.Mathlib.Nat.{le_trans, le-min, min-le_left, min-le_right, le_of_eq}
use native.Mathlib.Omega.{arith}
use mathlib.Core.Path.{◌≡◌, refl, sym, ap, ◌∙◌, subst}
use mathlib.Core.Logic.{◌⊎◌, inl, inr, ⊎_elim}
use mathlib.Core.Bool.{Bool, true, false, cond}
use mathlib.Core.List.Memᴰ
use mathlib.Core.List.{List, [], ◌∷◌, Memᴰ}
use borrow.Author.Tests.{eqb-true, eqb-false}
use lib.Dec.{eqb}
use Rattle.rule.specs.Round.{Arc, Link, Park, arcs_of, net_of}
use Rattle.rule.specs.Exact.{Node}
use Rattle.rule.specs.Settles.{ParkOk, least_cost}
use Rattle.rule.proofs.Sound.{Within, Sound}

-- a is what node i hears over the link l: the other end sends, at the link's cost
pub record Heard (l : Link) (i : ℕ) (a : Arc) : Type 0 where
  pub ends : ((l.low ≡ i) × (a.from ≡ l.high)) ⊎ ((l.high ≡ i) × (a.from ≡ l.low))
  pub cost : a.cost ≡ l.cost

-- every arc is heard over some link
pub arc_link : (ls : List Link) (i : ℕ) (a : Arc) → Memᴰ a (arcs_of ls i) → (l : Link) × Memᴰ l ls × Heard l i a
unfolding arcs_of
arc_link [] i a m = absurd (Memᴰ.not-nil m)
arc_link (l ∷ ls) i a m = go (eqb l.low i) refl (eqb l.high i) refl m (λ k. arc_link ls i a k)
  where
    low : Arc
    low = record { from = l.low; cost = l.cost }

    high : Arc
    high = record { from = l.high; cost = l.cost }

    new : (x : Arc) → (((l.low ≡ i) × (x.from ≡ l.high)) ⊎ ((l.high ≡ i) × (x.from ≡ l.low))) → x.cost ≡ l.cost
        → (Memᴰ a (arcs_of ls i) → (k : Link) × Memᴰ k ls × Heard k i a)
        → (a ≡ x) ⊎ Memᴰ a (arcs_of ls i) → (k : Link) × Memᴰ k (l ∷ ls) × Heard k i a
    new x e c rest (inl p) =
        (l, Memᴰ.head refl, subst (λ (y : Arc). Heard l i y) (sym p) (record { ends = e; cost = c }))
    new x e c rest (inr k) = let r = rest k in (r.0, Memᴰ.tail r.1, r.2)

    go : (s : Bool) → eqb l.low i ≡ s → (t : Bool) → eqb l.high i ≡ t
        → Memᴰ a (cond s (high ∷ arcs_of ls i) (cond t (low ∷ arcs_of ls i) (arcs_of ls i)))
        → (Memᴰ a (arcs_of ls i) → (k : Link) × Memᴰ k ls × Heard k i a) → (k : Link) × Memᴰ k (l ∷ ls) × Heard k i a
    go true p t q m rest = new high (inl (eqb-true l.low i p, refl)) refl rest (Memᴰ.cases_cons m)
    go false p true q m rest = new low (inr (eqb-true l.high i q, refl)) refl rest (Memᴰ.cases_cons m)
    go false p false q m rest = let r = rest m in (r.0, Memᴰ.tail r.1, r.2)

-- over each link each end hears the other, at the link's cost
pub link_arc : (ls : List Link) (i : ℕ) (l : Link) → Memᴰ l ls
    → (j : ℕ) → ((l.low ≡ i) × (l.high ≡ j)) ⊎ ((l.high ≡ i) × (l.low ≡ j))
    → (a : Arc) × Memᴰ a (arcs_of ls i) × (a.from ≡ j) × (a.cost ≡ l.cost)
unfolding arcs_of
link_arc [] i l m j e = absurd (Memᴰ.not-nil m)
link_arc (x ∷ ls) i l m j e = go (eqb x.low i) refl (eqb x.high i) refl (Memᴰ.cases_cons m) (λ k. link_arc ls i l k j e)
  where
    low : Arc
    low = record { from = x.low; cost = x.cost }

    high : Arc
    high = record { from = x.high; cost = x.cost }

    Found : List Arc → Type 0
    Found xs = (a : Arc) × Memᴰ a xs × (a.from ≡ j) × (a.cost ≡ l.cost)

    same_cost : l ≡ x → x.cost ≡ l.cost
    same_cost p = ap (λ (y : Link). y.cost) (sym p)

    behind : (y : Arc) (xs : List Arc) → Found xs → Found (y ∷ xs)
    behind y xs f = (f.0, Memᴰ.tail f.1, f.2, f.3)

    ends : l ≡ x → ((x.low ≡ i) × (x.high ≡ j)) ⊎ ((x.high ≡ i) × (x.low ≡ j))
    ends p = subst (λ (y : Link). ((y.low ≡ i) × (y.high ≡ j)) ⊎ ((y.high ≡ i) × (y.low ≡ j))) p e

    go : (s : Bool) → eqb x.low i ≡ s → (t : Bool) → eqb x.high i ≡ t → (l ≡ x) ⊎ Memᴰ l ls
        → (Memᴰ l ls → Found (arcs_of ls i)) → Found (cond s (high ∷ arcs_of ls i) (cond t (low ∷ arcs_of ls i) (arcs_of ls i)))
    go true p t q (inl w) rest =
        (high, Memᴰ.head refl, ⊎_elim (λ f. f.1) (λ f. f.0 ∙ sym (eqb-true x.low i p) ∙ f.1) (ends w), same_cost w)
    go false p true q (inl w) rest =
        (low, Memᴰ.head refl, ⊎_elim (λ f. absurd (eqb-false x.low i p f.0)) (λ f. f.1) (ends w), same_cost w)
    go false p false q (inl w) rest =
        ⊎_elim (λ f. absurd (eqb-false x.low i p f.0)) (λ f. absurd (eqb-false x.high i q f.0)) (ends w)
    go true p t q (inr k) rest = behind high (arcs_of ls i) (rest k)
    go false p true q (inr k) rest = behind low (arcs_of ls i) (rest k)
    go false p false q (inr k) rest = rest k

-- the least cost is at most each link's, and at least 1
pub least_cost_le : (ls : List Link) (l : Link) → Memᴰ l ls → least_cost ls ≤ l.cost
unfolding least_cost
least_cost_le [] l m = absurd (Memᴰ.not-nil m)
least_cost_le (x ∷ ls) l m =
    ⊎_elim (λ (e : l ≡ x). le_trans (min-le_left x.cost (least_cost ls)) (le_of_eq (ap (λ (y : Link). y.cost) (sym e))))
    (λ (k : Memᴰ l ls). le_trans (min-le_right x.cost (least_cost ls)) (least_cost_le ls l k))
    (Memᴰ.cases_cons m)

pub least_cost_positive : (ls : List Link) → ((l : Link) → Memᴰ l ls → 1 ≤ l.cost) → 1 ≤ least_cost ls
unfolding least_cost
least_cost_positive [] h = omega arith
least_cost_positive (x ∷ ls) h = le-min (h x (Memᴰ.head refl)) (least_cost_positive ls (λ l k. h l (Memᴰ.tail k)))

-- the park's network is sound
module _ {p : Park} (ok : ParkOk p) where
  within : {i : ℕ} → Node p i → Within p.nodes i
  within w = (w.least, w.most)

  link_ends : (i : ℕ) (l : Link) (a : Arc) → Memᴰ l p.links → Heard l i a → Within p.nodes i × Within p.nodes a.from
  link_ends i l a k h =
      ⊎_elim (λ e. (subst (Within p.nodes) e.0 (within (ok.low l k)), subst (Within p.nodes) (sym e.1) (within (ok.high l k))))
      (λ e. (subst (Within p.nodes) e.0 (within (ok.high l k)), subst (Within p.nodes) (sym e.1) (within (ok.low l k))))
      h.ends

  way_back : (i : ℕ) (l : Link) (a : Arc) → Memᴰ l p.links → Heard l i a
      → (b : Arc) × Memᴰ b (arcs_of p.links a.from) × (b.from ≡ i)
  way_back i l a k h =
      let b = link_arc p.links a.from l k i (⊎_elim (λ e. inr (sym e.1, e.0)) (λ e. inl (sym e.1, e.0)) h.ends) in
      (b.0, b.1, b.2)

  pub sound : Sound (net_of p) p.nodes (least_cost p.links)
  unfolding net_of
  sound =
      record {
        positive = least_cost_positive p.links ok.least;
        few = ok.few;
        root = within ok.root;
        cheapest = λ i a k. let l = arc_link p.links i a k in le_trans (least_cost_le p.links l.0 l.1) (le_of_eq (sym l.2.cost));
        dearest = λ i a k. let l = arc_link p.links i a k in le_trans (le_of_eq l.2.cost) (ok.largest l.0 l.1);
        hearer = λ i a k. let l = arc_link p.links i a k in (link_ends i l.0 a l.1 l.2).0;
        sender = λ i a k. let l = arc_link p.links i a k in (link_ends i l.0 a l.1 l.2).1;
        heard = λ i a k. let l = arc_link p.links i a k in way_back i l.0 a l.1 l.2;
        members = λ i t. within (ok.members i t);
      }
