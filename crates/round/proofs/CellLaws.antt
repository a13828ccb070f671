-- The cell that a node's turn makes is the rule's new cell.
use Prim.Native.Nat.{ℕ}
use mathlib.Core.Path.{◌≡◌, refl, sym, ap, ◌∙◌, subst, subst₃}
use mathlib.Core.Bool.{Bool, true, false, cond, ◌||◌}
use mathlib.Core.List.{List}
use lib.ListN.{length}
use lib.Dec.{eqb}
use borrow.Author.Tests.{eq-eqb, ne_eqb}
use Rattle.measure.specs.Measure.{ceiling}
use Rattle.rule.specs.Round.{Net, Cell, at, giving, chosen, new_dist, parent_at, new_mark, new_cell, arcs_of, net_of}
use Rattle.rule.proofs.OnePassLaws.{kept_from}
use Rattle.group.specs.Group.{member_in}
use Rattle.table.specs.Slices.{cells_of, park_of}
use Rattle.table.specs.Lent.{links_in, park_over}
use Rattle.table.specs.declared.Net as lent
use Rattle.round.specs.declared.keep.Best.{Best}
use Rattle.table.specs.Nodes.{node_at}
use Rattle.round.specs.Keep.{unheard, kept_arc}
use Rattle.round.specs.Scan.{passed_all}
use Rattle.round.proofs.HeardLaws.{Heard, heard}
use Rattle.table.proofs.TableLaws.{Slices, slices, part_at}

-- a node that has heard its arcs
module _ (N : Net) (s : ℕ → Cell) (i : ℕ) (b : Best) (h : Heard (λ j. (s j).dist) (λ j. (s j).parent) (λ j. (s j).mark) i (N.arcs i) b)
    (m : ℕ) (em : m ≡ cond (N.member i || b.asked) 1 0) where
  mark_is : m ≡ (new_cell N s i).mark
  unfolding new_cell new_mark
  mark_is = em ∙ ap (λ (t : Bool). cond (N.member i || t) 1 0) h.asked

  cell_root : N.root ≡ i → record { dist = 0; parent = 0; mark = m } ≡ new_cell N s i
  unfolding new_cell new_dist parent_at
  cell_root e =
      let z : eqb i N.root ≡ true = eq-eqb i N.root (sym e) in
      let d : 0 ≡ (new_cell N s i).dist = simp z in
      let p : 0 ≡ (new_cell N s i).parent = simp z in
      λ x. record { dist = d x; parent = p x; mark = mark_is x }

  cell_other : (N.root ≡ i → ⊥) → record { dist = b.dist.0; parent = b.arc.from; mark = m } ≡ new_cell N s i
  unfolding new_cell new_dist parent_at
  cell_other n =
      let z : eqb i N.root ≡ false = ne_eqb i N.root (λ e. n (sym e)) in
      let d : b.dist.0 ≡ (new_cell N s i).dist = simp z h.kept.dist in
      let D : ℕ → ℕ = λ j. (s j).dist in
      let p : b.arc.from ≡ (new_cell N s i).parent =
      simp z (kept_from D (N.arcs i) b.dist.0 (kept_arc b) h.kept ∙ ap (λ (v : ℕ). cond (eqb v ceiling) 0 (chosen (giving D v (N.arcs i)))) h.kept.dist) in
      λ x. record { dist = d x; parent = p x; mark = mark_is x }

-- the same for the node whose search went through slices
module _ (net : lent.Net) (ds ps ms : List ℕ) (even : (length ps ≡ length ds) × (length ms ≡ length ds)) (i : ℕ)
    (b : Best) (eb : b ≡ passed_all (node_at ceiling ds) (node_at 0 ps) (node_at 0 ms) i unheard (links_in net.links))
    (m : ℕ) (em : m ≡ cond (member_in 64 net.words.now i || b.asked) 1 0) where
  abbrev N : Net
  N = net_of (park_over (length ds) net)

  abbrev s : ℕ → Cell
  s = at (cells_of ds ps ms)

  heard_slices : Heard (λ j. (s j).dist) (λ j. (s j).parent) (λ j. (s j).mark) i (arcs_of (links_in net.links) i) b
  heard_slices =
      let t = cells_of ds ps ms in
      let e : Slices ds ps ms = slices ds ps ms even.0 even.1 in
      let D : (λ (j : ℕ). (s j).dist) ≡ node_at ceiling ds = part_at (λ (c : Cell). c.dist) t ∙ ap (node_at ceiling) e.dists in
      let P : (λ (j : ℕ). (s j).parent) ≡ node_at 0 ps = part_at (λ (c : Cell). c.parent) t ∙ ap (node_at 0) e.parents in
      let M : (λ (j : ℕ). (s j).mark) ≡ node_at 0 ms = part_at (λ (c : Cell). c.mark) t ∙ ap (node_at 0) e.marks in
      subst (λ (x : Best). Heard (λ j. (s j).dist) (λ j. (s j).parent) (λ j. (s j).mark) i (arcs_of (links_in net.links) i) x) (sym eb)
      (subst₃ (λ (D P M : ℕ → ℕ). Heard D P M i (arcs_of (links_in net.links) i) (passed_all (node_at ceiling ds) (node_at 0 ps) (node_at 0 ms) i unheard (links_in net.links)))
      (sym D) (sym P) (sym M) (heard (node_at ceiling ds) (node_at 0 ps) (node_at 0 ms) i refl refl (links_in net.links)))

  pub slices_root : net.root ≡ i → record { dist = 0; parent = 0; mark = m } ≡ new_cell (net_of (park_over (length ds) net)) (at (cells_of ds ps ms)) i
  unfolding net_of park_of
  slices_root e = cell_root N s i b heard_slices m em e

  pub slices_other : (net.root ≡ i → ⊥) → record { dist = b.dist.0; parent = b.arc.from; mark = m } ≡ new_cell (net_of (park_over (length ds) net)) (at (cells_of ds ps ms)) i
  unfolding net_of park_of
  slices_other n = cell_other N s i b heard_slices m em n
