-- A chain over the numbers of nodes takes what the definition takes: of the numbers that are not settled, the first of the nearest.
use Prim.Native.Nat.{ℕ, zero, suc, ◌+◌, ◌-◌}
use native.Mathlib.Numerals.{add-one}
use native.Mathlib.Omega.{arith}
use mathlib.Core.Path.{◌≡◌, refl, sym, ap, ap₂, ◌∙◌, subst}
use mathlib.Core.Bool.{Bool, true, false, cond, not, ◌&&◌, ◌||◌}
use mathlib.Core.List.{List, [], ◌∷◌}
use borrow.Author.Tests.{ltb-true, ltb-false, ne_eqb}
use denote.Param.Members.{Mut}
use denote.Ref.{Bor}
use lib.Dec.{eqb, ltb}
use lib.ListN.{length}
use Rattle.std.proofs.Common.{Option, Some, None, Ordering, Less, Equal, Greater, map-id}
use Rattle.std.proofs.lemmas.Cmp.{ranked}
use Rattle.std.proofs.lemmas.Iterator.{YieldsList, items_from_drains}
use Rattle.std.proofs.lemmas.Iterator.Consumers.{YieldsList-from_shown}
use Rattle.std.specs.Fn.{CalledAt}
use Rattle.std.specs.Iterator.{KeyTurn, PicksMinByKey}
use Rattle.std.specs.List.{FoldsTo, fold, reduce, filter, range_with_len}
use Rattle.std.specs.Ordering.{nat_cmp, min_by_ordering}
use Rattle.std.specs.Range.{range_inclusive_start, range_inclusive_end, range_inclusive_exhausted, range_inclusive_len, range_inclusive_left, range_inclusive_steps}
use Rattle.std.specs.declared.ops.RangeInclusive.{RangeInclusive}
use Rattle.table.specs.Nodes.{node_at}
use Rattle.paths.specs.Nearest.{Work, closer, nearest_from, nearest, some_node}
use Rattle.paths.proofs.NearestLaws.{dist_in}

-- the lesser of two by key is the one that stood, unless the other's key is less
lesser : (m n a b : ℕ) → min_by_ordering (nat_cmp m n) a b ≡ cond (ltb n m) b a
lesser m n a b = go (nat_cmp m n) refl (ltb n m) refl
  where
    go : (o : Ordering) → o ≡ nat_cmp m n → (t : Bool) → ltb n m ≡ t → min_by_ordering o a b ≡ cond t b a
    go Less e true f = absurd (omega (arith, ranked m n Less e, ltb-true n m f))
    go Less e false f = refl
    go Equal e true f = absurd (omega (arith, ranked m n Equal e, ltb-true n m f))
    go Equal e false f = refl
    go Greater e true f = refl
    go Greater e false f = absurd (omega (arith, ranked m n Greater e, ltb-false n m f))

module _ (w : Work) where
  -- the nearer of two nodes, the first where they are as near
  nearer : ℕ → ℕ → ℕ
  nearer b i = min_by_ordering (nat_cmp (dist_in w b) (dist_in w i)) b i

  -- whether a node is not settled
  abbrev pub waits : ℕ → Bool
  waits i = not (node_at false w.done i)

  -- the nodes that wait, of so many from i on
  behind : ℕ → ℕ → List ℕ
  behind i left = filter waits (range_with_len i left)

  -- from a node that stands, and from none yet
  from_some : (left i b : ℕ) → some_node (nearest_from w left (suc i) (suc b)) ≡ Some (fold nearer (suc b) (behind (suc i) left))
  unfolding nearest_from closer behind nearer
  from_some zero i b = refl
  from_some (suc left) i b =
      go (λ x. from_some left (suc i) x ∙ ap (λ (k : ℕ). Some (fold nearer (suc x) (behind k left))) (sym (add-one (suc i))))
      (waits (suc i)) (eqb (suc b) 0) (ne_eqb (suc b) 0 (λ e. omega arith)) (ltb (dist_in w (suc i)) (dist_in w (suc b))) refl
    where
      kept : (u : Bool) → ltb (dist_in w (suc i)) (dist_in w (suc b)) ≡ u → cond u (suc i) (suc b) ≡ nearer (suc b) (suc i)
      kept u e = sym (lesser (dist_in w (suc b)) (dist_in w (suc i)) (suc b) (suc i) ∙ ap (λ (t : Bool). cond t (suc i) (suc b)) e)

      go : ((x : ℕ) → some_node (nearest_from w left (suc (suc i)) (suc x)) ≡ Some (fold nearer (suc x) (behind (suc i + 1) left)))
          → (s z : Bool) → z ≡ false → (u : Bool) → ltb (dist_in w (suc i)) (dist_in w (suc b)) ≡ u
          → some_node (nearest_from w left (suc (suc i)) (cond (s && (z || u)) (suc i) (suc b)))
          ≡ Some (fold nearer (suc b) (cond s (suc i ∷ behind (suc i + 1) left) (behind (suc i + 1) left)))
      go rest false z n u e = rest b
      go rest true true n u e = cc
      go rest true false n true e = rest i ∙ ap (λ (x : ℕ). Some (fold nearer x (behind (suc i + 1) left))) (kept true e)
      go rest true false n false e = rest b ∙ ap (λ (x : ℕ). Some (fold nearer x (behind (suc i + 1) left))) (kept false e)

  from_none : (left i : ℕ) → some_node (nearest_from w left (suc i) 0) ≡ reduce nearer (behind (suc i) left)
  unfolding nearest_from closer behind
  from_none zero i = refl
  from_none (suc left) i =
      go (from_none left (suc i) ∙ ap (λ (k : ℕ). reduce nearer (behind k left)) (sym (add-one (suc i))))
      (from_some left (suc i) i ∙ ap (λ (k : ℕ). Some (fold nearer (suc i) (behind k left))) (sym (add-one (suc i)))) (waits (suc i))
    where
      go : some_node (nearest_from w left (suc (suc i)) 0) ≡ reduce nearer (behind (suc i + 1) left)
          → some_node (nearest_from w left (suc (suc i)) (suc i)) ≡ Some (fold nearer (suc i) (behind (suc i + 1) left))
          → (s : Bool) → some_node (nearest_from w left (suc (suc i)) (cond (s && true) (suc i) 0))
          ≡ reduce nearer (cond s (suc i ∷ behind (suc i + 1) left) (behind (suc i + 1) left))
      go none some false = none
      go none some true = some

  nearest_chosen : some_node (nearest w) ≡ reduce nearer (filter waits (range_with_len 1 (length w.dists)))
  unfolding nearest behind
  nearest_chosen = from_none (length w.dists) 0

-- what a range of numbers, its end included, yields: the numbers from its start on
abbrev pub Ups : RangeInclusive ℕ → Option ℕ → RangeInclusive ℕ → Type 0
Ups = range_inclusive_steps (λ (a b : ℕ). b - a) (λ (a b : ℕ). b ≡ a + 1)

-- how many are ahead
ahead : RangeInclusive ℕ → ℕ
ahead s = range_inclusive_left (λ (a b : ℕ). b - a) s

ahead_none : (s t : RangeInclusive ℕ) → Ups s None t → length (range_with_len (range_inclusive_start s) (ahead s)) ≡ 0
unfolding ahead
ahead_none s t h = ap (λ (k : ℕ). length (range_with_len (range_inclusive_start s) k)) h.1.0

ahead_some : (s : RangeInclusive ℕ) (x : ℕ) (t : RangeInclusive ℕ) → Ups s (Some x) t
    → range_with_len (range_inclusive_start s) (ahead s) ≡ x ∷ range_with_len (range_inclusive_start t) (ahead t)
unfolding ahead
ahead_some s x t h =
    ap (range_with_len (range_inclusive_start s)) (sym h.1.1 ∙ add-one (ahead t)) ∙ ap₂ (λ (y : ℕ) (l : List ℕ). y ∷ l) (sym h.1.0) (go (range_inclusive_exhausted t) refl)
  where
    go : (b : Bool) → range_inclusive_exhausted t ≡ b → range_with_len (range_inclusive_start s + 1) (ahead t) ≡ range_with_len (range_inclusive_start t) (ahead t)
    go true e =
        let none : ahead t ≡ 0 = ap (range_inclusive_len (λ (a b : ℕ). b - a) (range_inclusive_start t) (range_inclusive_end t)) e in
        ap (range_with_len (range_inclusive_start s + 1)) none ∙ sym (ap (range_with_len (range_inclusive_start t)) none)
    go false e = ap (λ (a : ℕ). range_with_len a (ahead t)) (sym (h.1.2 e))

-- the numbers of n nodes
pub numbers : (s : RangeInclusive ℕ) (n : ℕ) → range_inclusive_start s ≡ 1 → range_inclusive_end s ≡ n → range_inclusive_exhausted s ≡ false
    → YieldsList Ups (λ (x : ℕ). x) s (range_with_len 1 n)
unfolding ahead
numbers s n e f g =
    let long : ahead s ≡ n =
    ap (range_inclusive_len (λ (a b : ℕ). b - a) (range_inclusive_start s) (range_inclusive_end s)) g ∙ omega arith in
    subst (YieldsList Ups (λ (x : ℕ). x) s) (ap₂ range_with_len e long)
    (YieldsList-from_shown Ups (λ (x : ℕ). x) (λ (t : RangeInclusive ℕ). range_with_len (range_inclusive_start t) (ahead t)) ahead_none ahead_some s)

-- the key that is kept is the kept node's
key_kept : (w : Work) (o : Ordering) (b i : ℕ) → dist_in w (min_by_ordering o b i) ≡ min_by_ordering o (dist_in w b) (dist_in w i)
key_kept w Less b i = refl
key_kept w Equal b i = refl
key_kept w Greater b i = refl

-- what is picked, where each call of the closure gives the node's distance
module _ {S F : Type 0} (steps : S → Option ℕ → S → Type 0) (g : Mut F (Bor ℕ × Unit {0}) ℕ) (f : F) (w : Work)
    (calls : (x k : ℕ) (q : F) → CalledAt g f x k q → (q ≡ f) × (k ≡ dist_in w x)) where
  picks : (p : (F × ℕ) × ℕ) (xs : List ℕ) (q : F × ℕ) (y : ℕ) → p.0.0 ≡ f → p.0.1 ≡ dist_in w p.1
      → FoldsTo (KeyTurn min_by_ordering min_by_ordering g nat_cmp) p xs (q, y) → y ≡ fold (nearer w) p.1 xs
  unfolding nearer
  picks p [] q y a b h = ap (λ (z : (F × ℕ) × ℕ). z.1) (sym h)
  picks p (x ∷ xs) q y a b (j, (k, o, called, by, key, item), rest) =
      let m = calls x k j.0.0 (subst (λ (z : F). CalledAt g z x k j.0.0) a called) in
      let o-is : o ≡ nat_cmp (dist_in w p.1) (dist_in w x) = sym by ∙ ap₂ nat_cmp b m.1 in
      let key-is : j.0.1 ≡ dist_in w j.1 =
      key ∙ ap₂ (min_by_ordering o) b m.1 ∙ sym (key_kept w o p.1 x) ∙ ap (dist_in w) (sym item) in
      picks j xs q y m.0 key-is rest
      ∙ ap (λ (z : ℕ). fold (nearer w) z xs) (item ∙ ap (λ (r : Ordering). min_by_ordering r p.1 x) o-is)

  pub picked : (s : S) (r : Option ℕ) → PicksMinByKey steps g nat_cmp s f r → YieldsList steps (λ x. x) s (filter (waits w) (range_with_len 1 (length w.dists)))
      → r ≡ some_node (nearest w)
  unfolding nearer
  picked s None (u, (t, y, last)) e =
      sym (nearest_chosen w ∙ ap (reduce (nearer w)) (sym (items_from_drains [] (t, y, λ _. (u, last)) e)))
  picked s (Some y) (x, xs, k, f1, q, (u, (t, ran, last)), called, folds) e =
      let m = calls x k f1 called in
      ap Some (picks ((f1, k), x) xs q y m.0 m.1 folds)
      ∙ sym (nearest_chosen w ∙ ap (reduce (nearer w)) (sym (sym (map-id (x ∷ xs)) ∙ items_from_drains (x ∷ xs) (t, ran, λ _. (u, last)) e)))
