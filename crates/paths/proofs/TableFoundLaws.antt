-- The three steps put together: parents node by node, and what the whole leaves in slices of a park's nodes.
use Prim.Native.Nat.{ℕ, ◌+◌, ◌≤◌, ◌<◌, min}
use native.Mathlib.Nat.{add_comm}
use native.Mathlib.Omega.{arith}
use mathlib.Core.Path.{◌≡◌, sym, ap, ap₂, ◌∙◌}
use mathlib.Core.List.{List}
use lib.ListN.{length, get_or, set, replicate}
use lib.Seq.{sets}
use Rattle.measure.specs.Measure.{ceiling, most_nodes}
use Rattle.rule.specs.Round.{Link}
use Rattle.rule.specs.Exact.{Exact}
use Rattle.rule.specs.Settles.{ParkOk}
use Rattle.rule.proofs.TableLaws.{length_numbered, get_d_numbered}
use Rattle.table.specs.Slices.{links_of, cells_of, park_of}
use Rattle.group.specs.Group.{member_in}
use Rattle.table.specs.Nodes.{node_at}
use Rattle.round.specs.Parent.{parent_by}
use Rattle.table.proofs.PartLaws.{sets_all}
use Rattle.table.proofs.SliceLaws.{over, over_next, over_all}
use Rattle.paths.specs.Offers.{dists_from}
use Rattle.paths.specs.Walk.{walked_from, marks_from}
use Rattle.paths.specs.Found.{found_dists, parents_by, found_parents, found_marks, Found}
use Rattle.paths.proofs.SettleLaws.{length_dists}
use Rattle.paths.proofs.FoundLaws.{found_exact}

module _ (root : ℕ) (ls : List Link) (D : List ℕ) (n : ℕ) where
  length_by : length (parents_by root ls D n) ≡ n
  unfolding parents_by
  length_by = length_numbered (λ (i : ℕ). parent_by root ls (node_at ceiling D) i) 1 n

  by_at : (k : ℕ) → k < n → get_or (parents_by root ls D n) k 0 ≡ parent_by root ls (node_at ceiling D) (k + 1)
  unfolding parents_by
  by_at k h = get_d_numbered (λ (i : ℕ). parent_by root ls (node_at ceiling D) i) 0 1 n k h ∙ ap (parent_by root ls (node_at ceiling D)) (add_comm 1 k)

-- the parents written up to place k
module _ (root : ℕ) (ls : List Link) (D old r : List ℕ) (k : ℕ) (so_far : r ≡ over (parents_by root ls D (length old)) k old) where
  pub parents_next : k < length old → (x : ℕ) → x ≡ parent_by root ls (node_at ceiling D) (k + 1)
      → set r k x ≡ over (parents_by root ls D (length old)) (k + 1) old
  parents_next h x e =
      over_next (parents_by root ls D (length old)) old k h (length_by root ls D (length old)) r so_far x
      (e ∙ sym (by_at root ls D (length old) k h))

  pub parents_end : length old ≤ k → r ≡ parents_by root ls D (length old)
  parents_end h = so_far ∙ over_all (parents_by root ls D (length old)) old k (omega (arith, length_by root ls D (length old))) (length_by root ls D (length old))

-- slices of so many nodes each: what is found is the park's
module _ (root n : ℕ) (ls hs cs ws ds ps ms ds' ps' ms' : List ℕ) (few : n ≤ most_nodes) (d : length ds ≡ n) (p : length ps ≡ n) (m : length ms ≡ n)
    (ok : ParkOk (park_of n root ls hs cs ws)) (found : Found root ls hs cs ws ds ps ms ds' ps' ms') where
  dists_are : ds' ≡ found_dists (park_of n root ls hs cs ws)
  unfolding found_dists park_of
  dists_are =
      let k : min most_nodes (length ds) ≡ n = omega arith in
      let long : length (dists_from n root (links_of ls hs cs)) ≡ n = length_dists ok in
      found.dists ∙ ap (λ (j : ℕ). sets ds 0 (dists_from j root (links_of ls hs cs))) k ∙ sets_all ds (dists_from n root (links_of ls hs cs)) (long ∙ sym d)

  parents_are : ps' ≡ found_parents (park_of n root ls hs cs ws)
  unfolding found_parents park_of
  parents_are = found.parents ∙ ap₂ (parents_by root (links_of ls hs cs)) dists_are p

  marks_are : ms' ≡ found_marks (park_of n root ls hs cs ws)
  unfolding found_marks marks_from park_of
  marks_are =
      let long : length ps' ≡ n = ap length found.parents ∙ length_by root (links_of ls hs cs) ds' (length ps) ∙ p in
      found.marks ∙ ap (λ (k : ℕ). walked_from (member_in 64 ws) ps' (length ps') 1 (replicate k 0)) (m ∙ sym long) ∙ ap (marks_from (member_in 64 ws)) parents_are

  -- and that is the exact table
  pub table_exact : Exact (park_of n root ls hs cs ws) (cells_of ds' ps' ms')
  table_exact =
      rw (dists_are, parents_are, marks_are) (found_exact ok)
