-- What the offers of one settled node leave: every distance as it was, or at one of the offers that reach the node, and at most each of them.
use Prim.Native.Nat.{ℕ, zero, suc, ◌≤◌, ◌<◌, min}
use native.Mathlib.Nat.{le_refl, le_trans, le_of_eq, min-le_left, min-le_right}
use native.Mathlib.Omega.{arith}
use mathlib.Core.Path.{◌≡◌, refl, sym, ap, ◌∙◌, subst}
use mathlib.Core.Logic.{◌⊎◌, inl, inr, ⊎_elim}
use mathlib.Core.Bool.{Bool, true, false, cond}
use mathlib.Core.List.Memᴰ
use mathlib.Core.List.{List, [], ◌∷◌, Memᴰ}
use borrow.Author.Tests.{eqb-true, eqb-false}
use lib.Dec.{eqb}
use lib.ListN.{length, get_or, set, length-set}
use lib.Seq.{get_or-set_same, get_or-set_other, set_out}
use Rattle.measure.specs.Measure.{ceiling, plus}
use Rattle.rule.specs.Round.{Link}
use Rattle.rule.proofs.OfferLaws.{same?, below?}
use Rattle.rule.proofs.Sound.{Within}
use Rattle.table.specs.Nodes.{node_at}
use Rattle.table.proofs.ReadLaws.{get_d_any}
use Rattle.paths.specs.Offers.{lowered, offered, offered_all}

-- the link l joins the node u, which makes the offer, to node i
abbrev pub Joins : ℕ → ℕ → Link → Type 0
Joins u i l = ((l.low ≡ u) × (l.high ≡ i)) ⊎ ((l.high ≡ u) × (l.low ≡ i))

-- E is D after the offers that node u makes at distance d over the links ls
pub record Offers (u d : ℕ) (ls : List Link) (D E : List ℕ) : Type 0 where
  pub size : length E ≡ length D
  pub lower : (i : ℕ) → node_at ceiling E i ≤ node_at ceiling D i
  pub taken : (l : Link) → Memᴰ l ls → (i : ℕ) → Joins u i l → Within (length D) i → node_at ceiling E i ≤ plus d l.cost
  pub source : (i : ℕ) → (node_at ceiling E i ≡ node_at ceiling D i)
      ⊎ ((l : Link) × Memᴰ l ls × Joins u i l × (node_at ceiling E i ≡ plus d l.cost))

-- one distance lowered
pub record Lowered (j v : ℕ) (D E : List ℕ) : Type 0 where
  pub size : length E ≡ length D
  pub lower : (i : ℕ) → node_at ceiling E i ≤ node_at ceiling D i
  pub taken : Within (length D) j → node_at ceiling E j ≤ v
  pub source : (i : ℕ) → (node_at ceiling E i ≡ node_at ceiling D i) ⊎ ((i ≡ j) × (node_at ceiling E i ≡ v))

pub lowered_is : (D : List ℕ) (j v : ℕ) → Lowered j v D (lowered D j v)
unfolding lowered
lowered_is D zero v =
    record { size = refl; lower = λ i. le_refl (node_at ceiling D i); taken = λ w. absurd (omega arith); source = λ i. inl refl }
lowered_is D (suc k) v = ⊎_elim inside outside (below? k (length D))
  where
    E : List ℕ
    E = set D k (min (get_or D k 0) v)

    outside : length D ≤ k → Lowered (suc k) v D E
    outside h =
        let e : E ≡ D = set_out D k (min (get_or D k 0) v) h in
        record {
          size = ap length e;
          lower = λ i. le_of_eq (ap (λ (X : List ℕ). node_at ceiling X i) e);
          taken = λ w. absurd (omega arith);
          source = λ i. inl (ap (λ (X : List ℕ). node_at ceiling X i) e);
        }

    at_k : k < length D → get_or E k ceiling ≡ min (get_or D k ceiling) v
    at_k h = get_or-set_same D k (min (get_or D k 0) v) ceiling h ∙ ap (λ (x : ℕ). min x v) (get_d_any D k 0 ceiling h)

    other : (i : ℕ) → (i ≡ k → ⊥) → get_or E i ceiling ≡ get_or D i ceiling
    other i n = get_or-set_other D k i (min (get_or D k 0) v) ceiling n

    at_or : k < length D → (i : ℕ) → (get_or E i ceiling ≡ get_or D i ceiling) ⊎ ((i ≡ k) × (get_or E i ceiling ≡ v))
    at_or h i = ⊎_elim (λ (e : i ≡ k). split e (below? (get_or D k ceiling) v)) (λ n. inl (other i n)) (same? i k)
      where
        split : i ≡ k → (get_or D k ceiling < v) ⊎ (v ≤ get_or D k ceiling) → (get_or E i ceiling ≡ get_or D i ceiling) ⊎ ((i ≡ k) × (get_or E i ceiling ≡ v))
        split e (inl l) = inl (ap (λ (x : ℕ). get_or E x ceiling) e ∙ at_k h ∙ omega arith ∙ ap (λ (x : ℕ). get_or D x ceiling) (sym e))
        split e (inr l) = inr (e, ap (λ (x : ℕ). get_or E x ceiling) e ∙ at_k h ∙ omega arith)

    inside : k < length D → Lowered (suc k) v D E
    inside h =
        record {
          size = length-set D k (min (get_or D k 0) v);
          lower = down;
          taken = λ w. le_trans (le_of_eq (at_k h)) (min-le_right (get_or D k ceiling) v);
          source = from;
        }
      where
        down : (i : ℕ) → node_at ceiling E i ≤ node_at ceiling D i
        down zero = le_refl ceiling
        down (suc i) =
            ⊎_elim (λ (e : i ≡ k). le_trans (le_of_eq (ap (λ (x : ℕ). get_or E x ceiling) e ∙ at_k h)) (le_trans (min-le_left (get_or D k ceiling) v) (le_of_eq (ap (λ (x : ℕ). get_or D x ceiling) (sym e)))))
            (λ n. le_of_eq (other i n)) (same? i k)

        from : (i : ℕ) → (node_at ceiling E i ≡ node_at ceiling D i) ⊎ ((i ≡ suc k) × (node_at ceiling E i ≡ v))
        from zero = inl refl
        from (suc i) = ⊎_elim (λ e. inl e) (λ e. inr (ap suc e.0, e.1)) (at_or h i)

-- one link's offer: the end that is not u is lowered
module _ (u d : ℕ) where
  joined : (l : Link) (D : List ℕ) (j : ℕ) → Joins u j l → ((i : ℕ) → Joins u i l → i ≡ j)
      → Offers u d (l ∷ []) D (lowered D j (plus d l.cost))
  joined l D j e only =
      let r = lowered_is D j (plus d l.cost) in
      record {
        size = r.size;
        lower = r.lower;
        taken = λ k m i f w. let z : k ≡ l = Memᴰ.eq_of_singleton m in
            let ij : i ≡ j = only i (subst (λ (x : Link). Joins u i x) z f) in
            subst (λ (x : ℕ). node_at ceiling (lowered D j (plus d l.cost)) x ≤ plus d k.cost) (sym ij)
            (le_trans (r.taken (subst (Within (length D)) ij w)) (le_of_eq (ap (λ (x : Link). plus d x.cost) (sym z))));
        source = λ i. ⊎_elim (λ q. inl q) (λ q. inr (l, Memᴰ.head refl, subst (λ (x : ℕ). Joins u x l) (sym q.0) e, q.1)) (r.source i);
      }

  offered_is : (l : Link) (D : List ℕ) → Offers u d (l ∷ []) D (offered u d D l)
  unfolding offered lowered
  offered_is l D = go (eqb l.low u) refl (eqb l.high u) refl
    where
      go : (s : Bool) → eqb l.low u ≡ s → (t : Bool) → eqb l.high u ≡ t
          → Offers u d (l ∷ []) D (lowered D (cond s l.high (cond t l.low 0)) (plus d l.cost))
      go true a t b =
          let low : l.low ≡ u = eqb-true l.low u a in
          joined l D l.high (inl (low, refl)) (λ i f. ⊎_elim (λ q. sym q.1) (λ q. sym q.1 ∙ low ∙ sym q.0) f)
      go false a true b =
          joined l D l.low (inr (eqb-true l.high u b, refl)) (λ i f. ⊎_elim (λ q. absurd (eqb-false l.low u a q.0)) (λ q. sym q.1) f)
      go false a false b =
          record {
            size = refl;
            lower = λ i. le_refl (node_at ceiling D i);
            taken = λ k m i f w. let z : k ≡ l = Memᴰ.eq_of_singleton m in
                ⊎_elim (λ q. absurd (eqb-false l.low u a (ap (λ (x : Link). x.low) (sym z) ∙ q.0))) (λ q. absurd (eqb-false l.high u b (ap (λ (x : Link). x.high) (sym z) ∙ q.0))) f;
            source = λ i. inl refl;
          }

  -- offers one after the other
  then : (l : Link) (ls : List Link) (D E F : List ℕ) → Offers u d (l ∷ []) D E → Offers u d ls E F → Offers u d (l ∷ ls) D F
  then l ls D E F a b =
      record {
        size = b.size ∙ a.size;
        lower = λ i. le_trans (b.lower i) (a.lower i);
        taken = λ k m i f w. ⊎_elim (λ (p : k ≡ l). le_trans (b.lower i) (a.taken k (Memᴰ.head p) i f w))
            (λ (q : Memᴰ k ls). b.taken k q i f (subst (λ (n : ℕ). Within n i) (sym a.size) w)) (Memᴰ.cases_cons m);
        source = λ i. ⊎_elim
            (λ e. ⊎_elim (λ g. inl (e ∙ g)) (λ g. inr (g.0, Memᴰ.head (Memᴰ.eq_of_singleton g.1), g.2, e ∙ g.3)) (a.source i))
            (λ e. inr (e.0, Memᴰ.tail e.1, e.2, e.3)) (b.source i);
      }

  pub offers : (ls : List Link) (D : List ℕ) → Offers u d ls D (offered_all u d D ls)
  unfolding offered_all
  offers [] D =
      record {
        size = refl;
        lower = λ i. le_refl (node_at ceiling D i);
        taken = λ l m i f w. absurd (Memᴰ.not-nil m);
        source = λ i. inl refl;
      }
  offers (l ∷ ls) D = then l ls D (offered u d D l) (offered_all u d (offered u d D l) ls) (offered_is l D) (offers ls (offered u d D l))
