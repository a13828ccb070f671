-- The table that is found without rounds is the exact table.
use Prim.Native.Nat.{ℕ, zero, suc, ◌≤◌, ◌<◌}
use native.Mathlib.Nat.{le_antisymm}
use native.Mathlib.Omega.{arith}
use mathlib.Core.Path.{◌≡◌, refl, sym, ap, ◌∙◌, subst, subst₂, subst₃}
use mathlib.Core.Logic.{◌⊎◌, inl, inr, ⊎_elim}
use mathlib.Core.List.{List}
use lib.Dec.{T}
use lib.ListN.{length, length-map, get_or-eq_default}
use Rattle.measure.specs.Measure.{ceiling}
use Rattle.rule.specs.Round.{Cell, Park, new_dist, parent_at, at, net_of}
use Rattle.rule.specs.Exact.{ExactDist, ExactParent, no_parent, ExactMark, set, clear, Needed, own, on_way, onward, ExactCell, Exact}
use Rattle.rule.specs.Settles.{ParkOk}
use Rattle.rule.proofs.OfferLaws.{same?, below?}
use Rattle.rule.proofs.Sound.{Within}
use Rattle.rule.proofs.ContractionLaws.{Solves}
use Rattle.rule.proofs.DistanceLaws.{certificate, solved_exact, solved_le, solved_node}
use Rattle.rule.proofs.ParentLaws.{parent_exact}
use Rattle.rule.proofs.MarkLaws.{pass_on, child_farther}
use Rattle.rule.proofs.HopsLaws.{hops_few}
use Rattle.rule.proofs.NetLaws.{sound}
use Rattle.rule.proofs.TableLaws.{within?, length_numbered, get_d_numbered}
use Rattle.table.specs.Slices.{cells_of}
use Rattle.table.specs.Nodes.{node_at}
use Rattle.table.proofs.TableLaws.{Slices, slices, part_at}
use Rattle.paths.specs.Walk.{marks_from}
use Rattle.round.specs.Parent.{parent_by}
use Rattle.paths.specs.Found.{found_dists, parents_by, found_parents, found_marks}
use Rattle.paths.proofs.SettleLaws.{found_certified, length_dists}
use Rattle.paths.proofs.WalkLaws.{length_marks, marks_why, marks_reach}

module _ {p : Park} (ok : ParkOk p) where
  S : ℕ → ℕ
  S = node_at ceiling (found_dists p)

  Q : ℕ → ℕ
  Q = node_at 0 (found_parents p)

  solved : Solves (net_of p) S
  unfolding S found_dists
  solved = certificate (net_of p) (node_at ceiling (found_dists p)) (found_certified ok)

  -- a number that is no node is at the ceiling
  outside : (i : ℕ) → (Within p.nodes i → ⊥) → S i ≡ ceiling
  outside i w =
      ⊎_elim (λ (h : S i < ceiling). absurd (w (solved_node (sound ok) solved i h))) (λ (h : ceiling ≤ S i). le_antisymm (solved_le (sound ok) solved i) h) (below? (S i) ceiling)

  pub length_found : length (found_dists p) ≡ p.nodes
  unfolding found_dists
  length_found = length_dists ok

  pub length_parents : length (found_parents p) ≡ p.nodes
  unfolding found_parents parents_by
  length_parents = length_numbered (λ (i : ℕ). parent_by p.root p.links (node_at ceiling (found_dists p)) i) 1 p.nodes

  -- a node's parent is the one that the rule gives by the distances
  parent_at_lem : (i : ℕ) → Within p.nodes i → Q i ≡ parent_at (net_of p) S (new_dist (net_of p) S i) i
  unfolding Q S found_parents parents_by parent_by net_of parent_at new_dist
  parent_at_lem zero w = absurd (omega arith)
  parent_at_lem (suc j) w =
      get_d_numbered (λ (i : ℕ). parent_by p.root p.links (node_at ceiling (found_dists p)) i) 0 1 p.nodes j (omega arith)
      ∙ ap (λ (i : ℕ). parent_by p.root p.links (node_at ceiling (found_dists p)) i) (omega arith)

  no_parent_lem : (i : ℕ) → (Within p.nodes i → ⊥) → Q i ≡ 0
  unfolding Q
  no_parent_lem zero w = refl
  no_parent_lem (suc j) w =
      get_or-eq_default (found_parents p) 0 (⊎_elim (λ (h : j < p.nodes). absurd (w (omega arith, h))) (λ (h : p.nodes ≤ j). omega (arith, length_parents)) (below? j p.nodes))

  parent_is : (i : ℕ) → ExactParent (net_of p) S i (Q i)
  parent_is i =
      ⊎_elim (λ w. subst (ExactParent (net_of p) S i) (sym (parent_at_lem i w ∙ ap (λ (v : ℕ). parent_at (net_of p) S v i) (sym (solved i)))) (parent_exact (sound ok) solved i))
      (λ w. no_parent (inr (outside i w)) (no_parent_lem i w)) (within? p.nodes i)

  M : ℕ → ℕ
  M = node_at 0 (found_marks p)

  -- who is needed has a needed parent, or none
  onwards : (i : ℕ) → Needed (net_of p) S Q i → (Q i ≡ 0) ⊎ Needed (net_of p) S Q (Q i)
  onwards i h = ⊎_elim (λ e. inl e) (λ n. inr (pass_on (sound ok) solved parent_is (Q i) i (reached n) refl h)) (same? (Q i) 0)
    where
      reached : (Q i ≡ 0 → ⊥) → S (Q i) < ceiling
      reached n = omega (arith, child_farther (sound ok) solved parent_is (Q i) i (omega (arith, n)) refl, solved_le (sound ok) solved i)

  mark_is : (i : ℕ) → Within p.nodes i → ExactMark (net_of p) S Q i (M i)
  unfolding M found_marks Q net_of onward
  mark_is i w =
      ⊎_elim (λ e. clear (λ h. never e h) e) (λ e. set e.1 e.0)
      (marks_why (found_parents p) p.member (Needed (net_of p) S Q) onwards (λ k t. own t) i)
    where
      one : (k h : ℕ) → T (p.member k) → onward Q h k ≡ i → node_at 0 (marks_from p.member (found_parents p)) i ≡ 1
      one k h t e =
          let v : Within p.nodes k = (sound ok).members k t in
          let few : h < p.nodes = hops_few (sound ok) solved parent_is h k v (subst (λ (x : ℕ). 1 ≤ x) (sym e) w.0) in
          subst (λ (x : ℕ). node_at 0 (marks_from p.member (found_parents p)) x ≡ 1) e
          (marks_reach (found_parents p) p.member k h t (subst (λ (n : ℕ). Within n k) (sym length_parents) v) (omega (arith, length_parents))
          (subst (λ (n : ℕ). Within n (onward Q h k)) (sym length_parents) (subst (Within p.nodes) (sym e) w)))

      never : node_at 0 (marks_from p.member (found_parents p)) i ≡ 0 → Needed (net_of p) S Q i → ⊥
      never z (own t) = let e : ◌≡◌ {A = ℕ} 1 0 = sym (one i 0 t refl) ∙ z in omega arith
      never z (on_way c k h t f) = let e : ◌≡◌ {A = ℕ} 1 0 = sym (one k h t f) ∙ z in omega arith

  length_found_marks : length (found_marks p) ≡ p.nodes
  unfolding found_marks
  length_found_marks = length_marks (found_parents p) p.member ∙ length_parents

  -- the table of the three
  pub found_exact : Exact p (cells_of (found_dists p) (found_parents p) (found_marks p))
  unfolding S Q M
  found_exact =
      record { size = sized; cells = λ i v. cell i (v.least, v.most) }
    where
      long : length (found_dists p) ≡ p.nodes
      long = length_found

      t : List Cell
      t = cells_of (found_dists p) (found_parents p) (found_marks p)

      e : Slices (found_dists p) (found_parents p) (found_marks p)
      e = slices (found_dists p) (found_parents p) (found_marks p) (length_parents ∙ sym long) (length_found_marks ∙ sym long)

      D : (λ (j : ℕ). (at t j).dist) ≡ S
      D = part_at (λ (c : Cell). c.dist) t ∙ ap (node_at ceiling) e.dists

      P : (λ (j : ℕ). (at t j).parent) ≡ Q
      P = part_at (λ (c : Cell). c.parent) t ∙ ap (node_at 0) e.parents

      X : (λ (j : ℕ). (at t j).mark) ≡ M
      X = part_at (λ (c : Cell). c.mark) t ∙ ap (node_at 0) e.marks

      sized : length t ≡ p.nodes
      sized = sym (length-map t (λ (c : Cell). c.dist)) ∙ ap length e.dists ∙ long

      cell : (i : ℕ) → Within p.nodes i → ExactCell (net_of p) (at t) i
      cell i w =
          record {
            dist = subst (λ (f : ℕ → ℕ). ExactDist (net_of p) i (f i)) (sym D) (solved_exact (sound ok) solved i);
            parent = subst₂ (λ (f g : ℕ → ℕ). ExactParent (net_of p) f i (g i)) (sym D) (sym P) (parent_is i);
            mark = subst₃ (λ (f g h : ℕ → ℕ). ExactMark (net_of p) f g i (h i)) (sym D) (sym P) (sym X) (mark_is i w);
          }
