-- What Way answers, by the tests that led there; and the way over the slices of a file that was read is the way in its park.
use Prim.Native.Nat.{ℕ, ◌+◌, ◌≤◌, ◌<◌}
use Rattle.std.specs.Prelude.{Ok, Err}
use Rattle.reader.proofs.ApartLaws.{park_here}
use Rattle.way.specs.Way.{way_verdict, way_answer}
use Rattle.reader.specs.Words.{column, little}
use Rattle.links.specs.Neighbours.{ends_of}
use Rattle.park.proofs.ParkLaws.{fine_sizes}
use Rattle.park.proofs.RecordLaws.{length_cells}
use Rattle.park.specs.Layout.{head_size, group_at, first_cell}
use Rattle.park.specs.ParkFile.{park_in}
use Rattle.answers.specs.Verdicts.{fine, unless, ◌then◌}
use Rattle.park.specs.Reading.{nodes_in, root_in, link_count, verdict_of, file_in}
use Rattle.answers.specs.declared.refusal.Refusal.TheVariants.{Node}
use Rattle.answers.specs.declared.refusal.Refusal.{Refusal}
use Rattle.rule.specs.Round.{Link, Cell, Park}
use Rattle.table.specs.Nodes.{node_at}
use Rattle.table.specs.Slices.{lows_of, highs_of, costs_of, dists_of, parents_of, marks_of, cells_of, park_of}
use Rattle.table.proofs.TableLaws.{cells_of_lem}
use Rattle.way.proofs.SlicesLaws.{way_in_park}
use Rattle.way.specs.Way as way
use Rattle.answers.specs.declared.WayOfNode.{WayOfNode}
use Rattle.wire.specs.Big.{Bytes}
use borrow.Author.Tests.{le-leb, lt-leb}
use lib.ListN.{length, length-map}
use mathlib.Core.List.{List}
use mathlib.Core.Path.{◌≡◌, sym, ap, ap₂, ◌∙◌}
use native.Mathlib.Omega.{arith}

module _ (s : List ℕ) (bytes : Bytes s) (fine : verdict_of s ≡ fine) where
  abbrev links : List Link
  links = (file_in s).links

  abbrev table : List Cell
  table = (file_in s).state

  size : length table ≡ nodes_in s
  unfolding file_in
  size = length_cells s (first_cell (link_count s)) (nodes_in s)

  -- the way over slices that hold the file's ends and parents
  pub way_apart : (i : ℕ) (ls hs ps : List ℕ) → ls ≡ lows_of links → hs ≡ highs_of links → ps ≡ parents_of table
      → way.way_of (root_in s) (ends_of ls hs) (node_at 0 ps) (way.nodes_over ps) i ≡ way.park_way (park_in (file_in s)) table i
  way_apart i ls hs ps e f g =
      let words : List ℕ = column (little 8 s) (group_at (link_count s) + head_size) 8 4 in
      let long : length (parents_of table) ≡ nodes_in s = length-map table (λ (c : Cell). c.parent) ∙ size in
      let d : length (dists_of table) ≡ length (parents_of table) = length-map table (λ (c : Cell). c.dist) ∙ sym (length-map table (λ (c : Cell). c.parent)) in
      let m : length (marks_of table) ≡ length (parents_of table) = length-map table (λ (c : Cell). c.mark) ∙ sym (length-map table (λ (c : Cell). c.parent)) in
      let ends : length (lows_of links) ≤ length (costs_of links) = omega (arith, length-map links (λ (l : Link). l.low), length-map links (λ (l : Link). l.cost)) in
      rw (e, f, g)
      (way_in_park (root_in s) (lows_of links) (highs_of links) (costs_of links) words (dists_of table) (parents_of table) (marks_of table) i ends d m (omega (arith, (fine_sizes s fine).nodes))
      ∙ ap (λ (n : ℕ). way.park_way (park_of n (root_in s) (lows_of links) (highs_of links) (costs_of links) words) (cells_of (dists_of table) (parents_of table) (marks_of table)) i) long
      ∙ ap₂ (λ (p : Park) (t : List Cell). way.park_way p t i) (park_here s bytes fine) (cells_of_lem table))

-- a file that is refused
pub way_refused : (s : List ℕ) (i : ℕ) (r : Refusal) → verdict_of s ≡ Err r → Err r ≡ way_answer s i
unfolding way_answer way_verdict ◌then◌
way_refused s i r e = simp e

-- 0 is no node, and neither is a number above n
module _ (s : List ℕ) (i : ℕ) (fine : verdict_of s ≡ fine) where
  pub way_no_node : i < 1 → Err Node ≡ way_answer s i
  unfolding way_answer way_verdict unless ◌then◌
  way_no_node h = simp (fine, lt-leb 1 i h)

  pub way_above : 1 ≤ i → nodes_in s < i → Err Node ≡ way_answer s i
  unfolding way_answer way_verdict unless ◌then◌
  way_above h k = simp (fine, le-leb 1 i h, lt-leb i (nodes_in s) k)

  -- any other has a way
  pub way_told : (w : WayOfNode) → 1 ≤ i → i ≤ nodes_in s → w ≡ way.park_way (park_in (file_in s)) (file_in s).state i → Ok w ≡ way_answer s i
  unfolding way_answer way_verdict unless ◌then◌
  way_told w h k e = simp (fine, le-leb 1 i h, le-leb i (nodes_in s) k, e)
