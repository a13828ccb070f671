-- In an exact table every node with a path reaches the root, in fewer hops than there are nodes: each hop leads to a node that is nearer,
-- so the hops are no more than the nodes that are nearer than the first.
use Prim.Native.Nat.{ℕ, zero, suc, ◌+◌, ◌≤◌, ◌<◌, zero-le}
use mathlib.Core.Path.{◌≡◌, refl, sym, ap}
use mathlib.Core.Bool.{Bool, true, false, cond, ◌||◌}
use mathlib.Core.Logic.{◌⊎◌, inl, inr}
use mathlib.Core.List.Memᴰ
use mathlib.Core.List.{List, [], ◌∷◌, Memᴰ}
use native.Mathlib.Nat.{zero-add, add-zero}
use native.Mathlib.Omega.{arith}
use lib.Dec.{eqb}
use borrow.Author.Tests.{ne_eqb, eqb-false}
use Rattle.measure.specs.Measure.{ceiling}
use Rattle.rule.specs.Round.{Arc, Cell, Park, at, arcs_of, net_of}
use Rattle.rule.specs.Exact.{ExactParent, no_parent, by_arc, Node, Exact}
use Rattle.rule.specs.Settles.{ParkOk}
use Rattle.rule.proofs.ContractionLaws.{Solves}
use Rattle.rule.proofs.NetLaws.{sound}
use Rattle.rule.proofs.MarkLaws.{child_farther}
use Rattle.rule.proofs.HopsLaws.{nearer, nearer_falls, nearer_few}
use Rattle.rule.proofs.RoundsLaws.{still_exact}
use Rattle.rule.proofs.Demand3.{exact_still}
use Rattle.links.specs.Neighbours.{hears, neighbour}
use Rattle.answers.specs.declared.Outcome.TheVariants.{Reached}
use Rattle.way.specs.Way.{followed, way_of, park_way}

-- the sender of an arc among those that are heard is heard
heard : (xs : List Arc) (a : Arc) → Memᴰ a xs → hears xs a.from ≡ true
unfolding hears
heard [] a m = absurd (Memᴰ.not-nil m)
heard (x ∷ xs) a m = go (λ k. heard xs a k) (eqb x.from a.from) refl (Memᴰ.cases_cons m)
  where
    go : (Memᴰ a xs → hears xs a.from ≡ true) → (b : Bool) → eqb x.from a.from ≡ b → (a ≡ x) ⊎ Memᴰ a xs → (b || hears xs a.from) ≡ true
    go rest true e k = refl
    go rest false e (inl s) = absurd (eqb-false x.from a.from e (ap (λ (y : Arc). y.from) (sym s)))
    go rest false e (inr k) = rest k

module _ (p : Park) (t : List Cell) (ok : ParkOk p) (ex : Exact p t) where
  S : ℕ → ℕ
  S j = (at t j).dist

  Q : ℕ → ℕ
  Q j = (at t j).parent

  solved : Solves (net_of p) S
  unfolding S
  solved = (exact_still ok ex).dist

  exact : (i : ℕ) → ExactParent (net_of p) S i (Q i)
  unfolding S Q
  exact i = (still_exact (sound ok) (at t) (exact_still ok ex) i).parent

  -- how many nodes are nearer than i
  room : ℕ → ℕ
  room i = nearer (sound ok) solved exact (S i)

  -- away from the root a node with a path has a neighbour for its parent
  beside : (i : ℕ) → S i < ceiling → (i ≡ p.root → ⊥) → (1 ≤ Q i) × (neighbour p.links i (Q i) ≡ true)
  unfolding net_of neighbour
  beside i far other = go (Q i) (exact i)
    where
      go : (q : ℕ) → ExactParent (net_of p) S i q → (1 ≤ q) × (cond (eqb q 0) false (hears (arcs_of p.links i) q) ≡ true)
      go q (no_parent (inl e) z) = absurd (other e)
      go q (no_parent (inr e) z) = absurd (omega arith)
      go q (by_arc a m sum first e) =
          let from : 1 ≤ a.from = ((sound ok).sender i a m).0 in
          let some : q ≡ 0 → ⊥ = λ z. omega arith in
          (omega arith, rw (ne_eqb q 0 some, e) (heard (arcs_of p.links i) a m))

  -- the way goes on from i with so many hops more, no more than there are nodes nearer than i
  record Reaches (left hops i : ℕ) : Type 0 where
    more : ℕ
    few : more ≤ room i
    there : followed p.root p.links Q left hops i ≡ Reached (record { 0 = more + hops })

  -- by the hops still allowed, which are enough for the nodes that are nearer
  reaches : (left hops i : ℕ) → S i < ceiling → room i ≤ left → Reaches left hops i
  unfolding followed room
  reaches zero hops i far enough = go (eqb i p.root) refl
    where
      go : (b : Bool) → eqb i p.root ≡ b → Reaches zero hops i
      go true e = record { more = 0; few = zero-le; there = rw (e, zero-add) }
      go false e = absurd (omega (arith, nearer_falls (sound ok) solved exact i (beside i far (eqb-false i p.root e)).0))
  reaches (suc left) hops i far enough = go (λ f r. reaches left (suc hops) (Q i) f r) (eqb i p.root) refl
    where
      go : (S (Q i) < ceiling → room (Q i) ≤ left → Reaches left (suc hops) (Q i)) → (b : Bool) → eqb i p.root ≡ b → Reaches (suc left) hops i
      go rest true e = record { more = 0; few = zero-le; there = rw (e, zero-add) }
      go rest false e =
          let h = beside i far (eqb-false i p.root e) in
          let near : S (Q i) < S i = child_farther (sound ok) solved exact (Q i) i h.0 refl in
          let r : Reaches left (suc hops) (Q i) = rest (omega arith) (omega (arith, nearer_falls (sound ok) solved exact i h.0)) in
          let sum : r.more + suc hops ≡ suc r.more + hops = omega arith in
          record {
            more = suc r.more;
            few = omega (arith, r.few, nearer_falls (sound ok) solved exact i h.0);
            there = rw (e, h.1, ← sum) r.there;
          }

  -- "Reached, with the hops": in an exact table, from each node with a path, in fewer hops than there are nodes
  pub exact_reaches : (i : ℕ) → Node p i → (at t i).dist < ceiling → (h : ℕ) × (h < p.nodes) × (park_way p t i ≡ record { node = i; outcome = Reached (record { 0 = h }) })
  unfolding park_way way_of S Q room
  exact_reaches i node far =
      let few : room i < p.nodes = nearer_few (sound ok) solved exact i (node.least, node.most) in
      let r : Reaches p.nodes 0 i = reaches p.nodes 0 i far (omega arith) in
      (r.more, omega (arith, r.few), rw (r.there, add-zero))
