-- The counts over the words and the marks that are taken apart from a file are the counts of the file: its members are nodes, so no bit above n is set,
-- and each test on words and marks is the test on the file.
use Prim.Native.Nat.{ℕ, zero, suc, ◌+◌, ◌≤◌, zero-le, suc-le-suc}
use mathlib.Core.Path.{◌≡◌, sym, ap, ap₂, fun_ext, ◌∙◌}
use mathlib.Core.Bool.{Bool, true, false, cond}
use mathlib.Core.List.{List}
use native.Mathlib.Omega.{arith}
use lib.ListN.{length, length-map}
use lib.Dec.{T}
use Rattle.rule.specs.Round.{Cell, Park, at, numbered}
use Rattle.wire.specs.Big.{Bytes}
use Rattle.group.specs.Group.{member_in}
use Rattle.group.specs.Count.{count, members_of}
use Rattle.group.proofs.WordLaws.{members_within}
use Rattle.table.specs.Nodes.{node_at}
use Rattle.table.specs.Slices.{marks_of, park_of}
use Rattle.table.proofs.TableLaws.{part_at}
use Rattle.answers.specs.declared.Counts.{Counts}
use Rattle.answers.specs.Verdicts.{fine}
use Rattle.park.specs.Layout.{head_size, group_at, first_cell}
use Rattle.park.specs.ParkFile.{park_in}
use Rattle.park.specs.Reading.{nodes_in, link_count, verdict_of, cells_read, file_in}
use Rattle.park.proofs.RecordLaws.{length_cells}
use Rattle.park.proofs.RoundTrip.{file_read}
use Rattle.park.proofs.ParkLaws.{fine_ok}
use Rattle.reader.specs.Words.{column, little}
use Rattle.reader.proofs.ApartLaws.{park_here}
use Rattle.summary.specs.Summary.{is_marked, is_served, marked_at, served_at, marked_of, served_of, counts_of}

-- no more numbers are counted than there are
pub count_most : (f : ℕ → Bool) (i n : ℕ) → count f (numbered i n) ≤ n
unfolding count numbered
count_most f i zero = zero-le
count_most f i (suc n) = go (f i) (count_most f (suc i) n)
  where
    go : (b : Bool) → count f (numbered (suc i) n) ≤ n → cond b (suc (count f (numbered (suc i) n))) (count f (numbered (suc i) n)) ≤ suc n
    go true h = suc-le-suc h
    go false h = omega arith

module _ (s : List ℕ) (bytes : Bytes s) (fine : verdict_of s ≡ fine) where
  abbrev n : ℕ
  n = nodes_in s

  abbrev words : List ℕ
  words = column (little 8 s) (group_at (link_count s) + head_size) 8 4

  abbrev marks : List ℕ
  marks = marks_of (file_in s).state

  size : length marks ≡ n
  unfolding file_in
  size = length-map (cells_read s (first_cell (link_count s)) n) (λ (c : Cell). c.mark) ∙ length_cells s (first_cell (link_count s)) n

  member_same : (i : ℕ) → member_in 64 words i ≡ (park_in (file_in s)).member i
  unfolding park_of
  member_same i = ap (λ (p : Park). p.member i) (park_here s bytes fine)

  mark_same : (i : ℕ) → node_at 0 marks i ≡ (at (file_in s).state i).mark
  mark_same i = ap (λ (M : ℕ → ℕ). M i) (sym (part_at (λ (c : Cell). c.mark) (file_in s).state))

  -- bits above n are 0
  within : (i : ℕ) → T (member_in 64 words i) → i ≤ n
  unfolding file_in park_in
  within i t = ((fine_ok s bytes fine).members i (rw (member_same i) at t)).most

  members_here : members_of words ≡ count (park_in (file_in s)).member (numbered 1 n)
  members_here =
      members_within words n (file_read s fine).few within
      ∙ ap (λ (f : ℕ → Bool). count f (numbered 1 n)) (fun_ext member_same)

  -- the counts over slices that hold the words and the marks
  pub counts_apart : (c : Counts) (ws ms : List ℕ) → ws ≡ words → ms ≡ marks
      → c.members ≡ members_of ws → c.marked ≡ marked_of ms → c.served ≡ served_of ws ms → c ≡ counts_of (file_in s)
  unfolding counts_of file_in marked_of served_of
  counts_apart c ws ms e m members marked served =
      let k : length ms ≡ n = ap length m ∙ size in
      let a : c.members ≡ count (park_in (file_in s)).member (numbered 1 n) = members ∙ ap members_of e ∙ members_here in
      let b : c.marked ≡ count (λ i. is_marked (at (file_in s).state i).mark) (numbered 1 n) =
      marked
      ∙ ap₂ (λ (x : List ℕ) (j : ℕ). count (marked_at x) (numbered 1 j)) m k
      ∙ ap (λ (g : ℕ → ℕ). count (λ i. is_marked (g i)) (numbered 1 n)) (fun_ext mark_same) in
      let d : c.served ≡ count (λ i. is_served ((park_in (file_in s)).member i) (at (file_in s).state i).mark) (numbered 1 n) =
      served
      ∙ ap₂ (λ (x : List ℕ) (j : ℕ). count (served_at ws x) (numbered 1 j)) m k
      ∙ ap (λ (x : List ℕ). count (served_at x marks) (numbered 1 n)) e
      ∙ ap₂ (λ (f : ℕ → Bool) (g : ℕ → ℕ). count (λ i. is_served (f i) (g i)) (numbered 1 n)) (fun_ext member_same) (fun_ext mark_same) in
      λ i. record { members = a i; marked = b i; served = d i }
