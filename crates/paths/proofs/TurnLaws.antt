-- One law for each way out of a step of the search, and for each turn of a loop: the code's numbers are the definition's.
use Prim.Native.Nat.{ℕ, zero, suc, ◌+◌, ◌-◌, ◌≤◌, ◌<◌, min}
use native.Mathlib.Numerals.{add-one}
use native.Mathlib.Omega.{arith}
use mathlib.Core.Path.{◌≡◌, refl, sym, ap, ap₂, ◌∙◌}
use mathlib.Core.Bool.{Bool, true, false}
use mathlib.Core.List.{List}
use lib.ListN.{length, get_or, set, take, drop, replicate, length-replicate}
use lib.Seq.{set_out}
use Rattle.std.specs.Prelude.{Option, Some, None, unwrap_or}
use Rattle.std.proofs.lemmas.List.{take-replicate}
use Rattle.measure.specs.Measure.{ceiling, most_nodes, plus}
use Rattle.rule.specs.Round.{Link}
use Rattle.table.specs.Slices.{links_of}
use Rattle.table.specs.Nodes.{node_at, link_at}
use Rattle.table.proofs.LinkLaws.{links_past, links_next}
use Rattle.table.proofs.PlaceLaws.{place, left_less, none_left}
use Rattle.paths.specs.Nearest.{Work, nearest, some_node}
use Rattle.links.specs.Neighbours.{other_end, far_end}
use Rattle.links.proofs.NeighbourLaws.{end_is}
use Rattle.paths.specs.Offers.{lowered, offered, offered_all, settle_node, settle_nearest, settle_nodes, unsettled, dists_from}
use Rattle.paths.proofs.LowerLaws.{lowered_is}

-- an offer to one node, by the tests on its way
module _ (D : List ℕ) (v i : ℕ) where
  pub lower_zero : i ≡ 0 → D ≡ lowered D i v
  unfolding lowered
  lower_zero e = rw e

  module _ (h : i ≡ 0 → ⊥) where
    -- what `lowered` writes at a node's place
    pub lower_at : set D (i - 1) (min (get_or D (i - 1) 0) v) ≡ lowered D i v
    unfolding lowered
    lower_at = ap (λ (x : ℕ). lowered D x v) (sym (place i h))

    pub lower_out : length D ≤ i - 1 → D ≡ lowered D i v
    lower_out l = sym (set_out D (i - 1) (min (get_or D (i - 1) 0) v) l) ∙ lower_at

-- a turn over the links, and their end
module _ (u d : ℕ) (ls hs cs D all : List ℕ) (j : ℕ) (so_far : offered_all u d D (drop j (links_of ls hs cs)) ≡ all) (end : ℕ)
    (n : end ≡ min (length ls) (min (length hs) (length cs))) where
  pub offer_next : j < end → {o : Option ℕ} → o ≡ far_end (get_or ls j 0) (get_or hs j 0) u
      → {E : List ℕ} → E ≡ lowered D (unwrap_or o 0) (plus d (get_or cs j 0)) → offered_all u d E (drop (j + 1) (links_of ls hs cs)) ≡ all
  unfolding offered_all offered
  offer_next h {o} p {E} q =
      let far : unwrap_or o 0 ≡ other_end (get_or ls j 0) (get_or hs j 0) u =
      ap (λ (x : Option ℕ). unwrap_or x 0) p ∙ end_is (get_or ls j 0) (get_or hs j 0) u in
      ap (λ (X : List ℕ). offered_all u d X (drop (j + 1) (links_of ls hs cs))) (q ∙ ap (λ (x : ℕ). lowered D x (plus d (get_or cs j 0))) far)
      ∙ ap (λ (k : ℕ). offered_all u d (offered u d D (link_at ls hs cs j)) (drop k (links_of ls hs cs))) (add-one j)
      ∙ sym (ap (offered_all u d D) (links_next ls hs cs j (omega arith) (omega arith) (omega arith)))
      ∙ so_far

  pub offer_end : end ≤ j → D ≡ all
  unfolding offered_all
  offer_end h = sym (ap (offered_all u d D) (links_past ls hs cs j (omega arith))) ∙ so_far

-- a turn of the settling: all are settled, or one more is
module _ (ls : List Link) (w : Work) where
  pub settle_none : None ≡ some_node (nearest w) → settle_nearest ls w ≡ w
  unfolding settle_nearest settle_node
  settle_none e = go (nearest w) e
    where
      go : (k : ℕ) → None ≡ some_node k → settle_node ls w k ≡ w
      go zero e = refl
      go (suc k) e = cc

  pub settle_one : (u : ℕ) → Some u ≡ some_node (nearest w) → (E : List ℕ) → E ≡ offered_all u (node_at ceiling w.dists u) w.dists ls
      → settle_nearest ls w ≡ record { dists = E; done = set w.done (u - 1) true }
  unfolding settle_nearest settle_node
  settle_one u e E p = go (nearest w) e
    where
      go : (k : ℕ) → Some u ≡ some_node k → settle_node ls w k ≡ record { dists = E; done = set w.done (u - 1) true }
      go zero f = cc
      go (suc k) f =
          let same : suc k ≡ u = cc in
          let here : k ≡ u - 1 = omega arith in
          (λ j. record {
            dists = (ap (λ (x : ℕ). offered_all x (node_at ceiling w.dists x) w.dists ls) same ∙ sym p) j;
            done = set w.done (here j) true;
          })

module _ (ls : List Link) (w all : Work) (n k : ℕ) (so_far : settle_nodes ls (n - k) w ≡ all) where
  pub settle_next : k < n → (x : Work) → settle_nearest ls w ≡ x → settle_nodes ls (n - (k + 1)) x ≡ all
  unfolding settle_nodes
  settle_next h x e = ap (settle_nodes ls (n - (k + 1))) (sym e) ∙ sym (ap (λ (m : ℕ). settle_nodes ls m w) (left_less n k h)) ∙ so_far

  pub settle_end : n ≤ k → all ≡ w
  unfolding settle_nodes
  settle_end h = sym so_far ∙ ap (λ (m : ℕ). settle_nodes ls m w) (none_left n k h)

-- the distances at the start: the root's is lowered to 0
pub length_start : (root n : ℕ) → length (lowered (replicate n ceiling) root 0) ≡ n
length_start root n = (lowered_is (replicate n ceiling) root 0).size ∙ length-replicate n ceiling

-- from the slices as they are made ready to the distances
pub dists_found : (ls : List Link) (root n : ℕ) → n ≤ most_nodes → (D : List ℕ) → D ≡ lowered (replicate n ceiling) root 0
    → (out : Work) → settle_nodes ls (length D) (record { dists = D; done = take n (replicate most_nodes false) }) ≡ out → out.dists ≡ dists_from n root ls
unfolding dists_from unsettled
dists_found ls root n few D e out h =
    let long : length D ≡ n = ap length e ∙ length_start root n in
    ap (λ (w : Work). w.dists) (sym h)
    ∙ ap (λ (m : ℕ). (settle_nodes ls m (record { dists = D; done = take n (replicate most_nodes false) })).dists) long
    ∙ ap₂ (λ (x : List ℕ) (y : List Bool). (settle_nodes ls n (record { dists = x; done = y })).dists) e (take-replicate n most_nodes false few)
