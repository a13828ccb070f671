-- The way over lent slices is the way in the park that the slices hold: costs, distances and marks play no part in it.
use Prim.Native.Nat.{ℕ, zero, suc, ◌≤◌}
use mathlib.Core.Path.{◌≡◌, refl, sym, ap, ◌∙◌}
use mathlib.Core.Bool.{Bool, true, false, cond, ◌||◌}
use mathlib.Core.List.{List, [], ◌∷◌}
use native.Mathlib.Nat.{le_of_suc-le-suc, not-suc-le-zero}
use native.Mathlib.Omega.{arith}
use lib.ListN.{length}
use lib.Dec.{eqb}
use Rattle.rule.specs.Round.{Arc, Cell, Link, at, arcs_of}
use Rattle.table.specs.Slices.{links_of, cells_of, park_of}
use Rattle.table.specs.Nodes.{node_at}
use Rattle.table.proofs.TableLaws.{slices, part_at}
use Rattle.links.specs.Neighbours.{ends_of, hears, neighbour}
use Rattle.way.specs.Way.{followed, way_of, park_way, nodes_over}

-- the parent that the rule reads in the table that three slices hold
pub parent_in_table : (ds ps ms : List ℕ) → length ds ≡ length ps → length ms ≡ length ps → (i : ℕ) → (at (cells_of ds ps ms) i).parent ≡ node_at 0 ps i
parent_in_table ds ps ms hd hm i =
    ap (λ (P : ℕ → ℕ). P i)
    (part_at (λ (c : Cell). c.parent) (cells_of ds ps ms) ∙ ap (node_at 0) (slices ds ps ms (sym hd) (hm ∙ sym hd)).parents)

-- what a node hears over the links that three slices hold does not depend on the costs
heard_in_links : (ls hs cs : List ℕ) → length ls ≤ length cs → (i q : ℕ) → hears (arcs_of (links_of ls hs cs) i) q ≡ hears (arcs_of (ends_of ls hs) i) q
unfolding links_of ends_of arcs_of hears
heard_in_links [] hs cs h i q = refl
heard_in_links (l ∷ ls) [] cs h i q = refl
heard_in_links (l ∷ ls) (g ∷ hs) [] h i q = absurd (not-suc-le-zero h)
heard_in_links (l ∷ ls) (g ∷ hs) (c ∷ cs) h i q = go (eqb l i) (eqb g i) (heard_in_links ls hs cs (le_of_suc-le-suc h) i q)
  where
    arc : ℕ → ℕ → Arc
    arc s x = record { from = s; cost = x }

    go : (a b : Bool) → hears (arcs_of (links_of ls hs cs) i) q ≡ hears (arcs_of (ends_of ls hs) i) q
        → hears (cond a (arc g c ∷ arcs_of (links_of ls hs cs) i) (cond b (arc l c ∷ arcs_of (links_of ls hs cs) i) (arcs_of (links_of ls hs cs) i))) q
        ≡ hears (cond a (arc g 0 ∷ arcs_of (ends_of ls hs) i) (cond b (arc l 0 ∷ arcs_of (ends_of ls hs) i) (arcs_of (ends_of ls hs) i))) q
    go true b e = ap (λ (x : Bool). eqb g q || x) e
    go false true e = ap (λ (x : Bool). eqb l q || x) e
    go false false e = e

pub neighbour_in_links : (ls hs cs : List ℕ) → length ls ≤ length cs → (i q : ℕ) → neighbour (links_of ls hs cs) i q ≡ neighbour (ends_of ls hs) i q
unfolding neighbour
neighbour_in_links ls hs cs h i q = ap (λ (x : Bool). cond (eqb q 0) false x) (heard_in_links ls hs cs h i q)

-- a way depends on the neighbours and on the parents alone
module _ (root : ℕ) (ls ms : List Link) (P Q : ℕ → ℕ) (near : (i q : ℕ) → neighbour ls i q ≡ neighbour ms i q) (same : (i : ℕ) → P i ≡ Q i) where
  pub followed_same : (left hops i : ℕ) → followed root ls P left hops i ≡ followed root ms Q left hops i
  unfolding followed
  followed_same zero hops i = refl
  followed_same (suc left) hops i = rw (near i (P i), followed_same left (suc hops) (P i), same i)

-- the way over lent slices, in the park and the table that they hold
pub way_in_park : (root : ℕ) (lows highs costs words ds ps ms : List ℕ) (i : ℕ)
    → length lows ≤ length costs → length ds ≡ length ps → length ms ≡ length ps → length ps ≤ 65_535
    → way_of root (ends_of lows highs) (node_at 0 ps) (nodes_over ps) i ≡ park_way (park_of (length ps) root lows highs costs words) (cells_of ds ps ms) i
unfolding way_of park_way park_of
way_in_park root lows highs costs words ds ps ms i hc hd hm few =
    let n : nodes_over ps ≡ length ps = omega arith in
    rw (n, followed_same root (links_of lows highs costs) (ends_of lows highs) (λ j. (at (cells_of ds ps ms) j).parent) (node_at 0 ps) (neighbour_in_links lows highs costs hc) (parent_in_table ds ps ms hd hm) (length ps) 0 i)
