-- Reading a park file: document 01's table of fields and its refusals 1 to 8, with their exact conditions, places and order:
-- "the file from its start, field by field: head complete, tag, length, body complete, contents; then 8". Places are in bytes.
use Rattle.std.specs.Prelude.{ℕ, zero, suc, ◌+◌, ◌*◌, ◌-◌, ◌/◌, ◌%◌, ◌^◌, min, leb, ltb, eqb, length, get_or, take, drop, Bool, true, ◌&&◌, List, [], ◌∷◌, ◌≡◌, Result, Ok, Err}
use Rattle.measure.specs.Measure.{most_nodes, most_links}
use Rattle.park.specs.Layout.{head_size, link_size, group_size, cell_size, nodes_at, root_at, links_at, first_link, group_at, state_at, first_cell, end_at}
use Rattle.park.specs.ParkFile.{ParkFile}
use Rattle.answers.specs.Verdicts.{Verdict, fine, unless, ◌then◌, by_verdict}
use Rattle.answers.specs.declared.Head.{Head}
use Rattle.answers.specs.declared.Sizes.{Sizes}
use Rattle.answers.specs.declared.refusal.Refusal.TheVariants.{Short, Tag, Length, Bounds, Ends, Order, Bit, After}
use Rattle.answers.specs.declared.refusal.Refusal.{Refusal}
use Rattle.rule.specs.Round.{Link, Cell}
use Rattle.wire.specs.Big.{big}

-- the length that the field at a place says, in bytes
abbrev pub length_at : List ℕ → ℕ → ℕ
length_at s at = big 2 s (at + 1)

-- "head complete, tag, length, body complete" of the field due at a place. Its length is a multiple of `step` from `low` to `high`.
unfoldable pub field_at : List ℕ → ℕ → ℕ → ℕ → ℕ → ℕ → Verdict
field_at s at tag step low high =
    unless (leb (at + head_size) (length s)) (Short at)
    then unless (eqb (get_or s at 0) tag) (Tag at)
    then unless (eqb (length_at s at % step) 0) (Length at)
    then unless (leb low (length_at s at)) (Length at)
    then unless (leb (length_at s at) high) (Length at)
    then unless (leb (at + head_size + length_at s at) (length s)) (Short at)

-- "n (2), root (2)"
abbrev pub nodes_in : List ℕ → ℕ
nodes_in s = big 2 s nodes_at

abbrev pub root_in : List ℕ → ℕ
root_in s = big 2 s root_at

-- "n not in 1 to 256, or root not in 1 to n" is 4
unfoldable pub bounds_of : ℕ → ℕ → Verdict
bounds_of n root =
    unless (leb 1 n) Bounds
    then unless (leb n most_nodes) Bounds
    then unless (leb 1 root) Bounds
    then unless (leb root n) Bounds

-- field 1: four bytes
unfoldable pub head_in : List ℕ → Verdict
head_in s = field_at s 0 1 1 4 4 then bounds_of (nodes_in s) (root_in s)

-- the link whose record is at a place: "lower node (2), higher node (2), cost (2)"
abbrev pub low_at : List ℕ → ℕ → ℕ
low_at s at = big 2 s at

abbrev pub high_at : List ℕ → ℕ → ℕ
high_at s at = big 2 s (at + 2)

abbrev pub cost_at : List ℕ → ℕ → ℕ
cost_at s at = big 2 s (at + 4)

-- the node whose record is at a place: "distance (4), parent (2), mark (1)"
abbrev pub dist_at : List ℕ → ℕ → ℕ
dist_at s at = big 4 s at

abbrev pub parent_at : List ℕ → ℕ → ℕ
parent_at s at = big 2 s (at + 4)

abbrev pub mark_at : List ℕ → ℕ → ℕ
mark_at s at = get_or s (at + 6) 0

-- lower and higher end as one number, by which links ascend
abbrev pub key_at : List ℕ → ℕ → ℕ
key_at s at = big 4 s at

-- "link end not in 1 to n, ends not ascending, or cost 0" is 5, "link not after the one before" is 6; 5 before 6
unfoldable pub link_at : List ℕ → ℕ → ℕ → ℕ → Verdict
link_at s n at before =
    unless (leb 1 (low_at s at)) (Ends at)
    then unless (ltb (low_at s at) (high_at s at)) (Ends at)
    then unless (leb (high_at s at) n) (Ends at)
    then unless (leb 1 (cost_at s at)) (Ends at)
    then unless (ltb before (key_at s at)) (Order at)

-- the links that are left, from a place on, behind the key of the one before
unfoldable pub links_from : List ℕ → ℕ → ℕ → ℕ → ℕ → Verdict
links_from s n at before zero = fine
links_from s n at before (suc left) = link_at s n at before then links_from s n (at + link_size) (key_at s at) left

-- the links that field 2 has room for
abbrev pub link_count : List ℕ → ℕ
link_count s = length_at s links_at / link_size

-- field 2: "not a multiple of 6, or above 6,144" is 3
unfoldable pub links_in : List ℕ → Verdict
links_in s = field_at s links_at 2 link_size 0 (link_size * most_links) then links_from s (nodes_in s) first_link 0 (link_count s)

-- "bits above n are 0", of the bytes that are left, from a place on, n nodes being left
unfoldable pub bits_clear : List ℕ → ℕ → ℕ → ℕ → Bool
bits_clear s at n zero = true
bits_clear s at n (suc left) = ltb (get_or s at 0) (2 ^ min 8 n) && bits_clear s (at + 1) (n - 8) left

-- field 3: "group bit above n" is 7
unfoldable pub group_in : List ℕ → Verdict
group_in s =
    field_at s (group_at (link_count s)) 3 1 group_size group_size
    then unless (bits_clear s (group_at (link_count s) + head_size) (nodes_in s) group_size) (Bit (group_at (link_count s)))

-- field 4: "State is read as stored, not tidied."
unfoldable pub state_in : List ℕ → Verdict
state_in s = field_at s (state_at (link_count s)) 4 1 (cell_size * nodes_in s) (cell_size * nodes_in s)

-- "bytes after the last field" is 8
unfoldable pub end_in : List ℕ → Verdict
end_in s = unless (leb (length s) (end_at (nodes_in s) (link_count s))) (After (end_at (nodes_in s) (link_count s)))

-- "Four fields, once each, in this order, nothing behind them"
unfoldable pub verdict_of : List ℕ → Verdict
verdict_of s = head_in s then links_in s then group_in s then state_in s then end_in s

-- the links and the cells that stand from a place on
unfoldable pub links_read : List ℕ → ℕ → ℕ → List Link
links_read s at zero = []
links_read s at (suc left) = record { low = low_at s at; high = high_at s at; cost = cost_at s at } ∷ links_read s (at + link_size) left

unfoldable pub cells_read : List ℕ → ℕ → ℕ → List Cell
cells_read s at zero = []
cells_read s at (suc left) = record { dist = dist_at s at; parent = parent_at s at; mark = mark_at s at } ∷ cells_read s (at + cell_size) left

-- what the fields hold
unfoldable pub file_in : List ℕ → ParkFile
file_in s =
    record {
      nodes = nodes_in s;
      root = root_in s;
      links = links_read s first_link (link_count s);
      group = take group_size (drop (group_at (link_count s) + head_size) s);
      state = cells_read s (first_cell (link_count s)) (nodes_in s);
    }

-- what reading gives: the park of the file, or a refusal
pub data Read : Type 0 where
  park : ParkFile → Read
  refused : Refusal → Read

unfoldable pub read_park : List ℕ → Read
read_park s = by_verdict (verdict_of s) (park (file_in s)) refused

-- the three numbers that stand before the records
unfoldable pub head_of : List ℕ → Head
head_of s = record { nodes = nodes_in s; root = root_in s; links = link_count s }

-- the file s is not refused, and h has its three numbers
pub record ReadAs (s : List ℕ) (h : Head) : Type 0 where
  pub fine : verdict_of s ≡ fine
  pub nodes : h.nodes ≡ nodes_in s
  pub root : h.root ≡ root_in s
  pub links : h.links ≡ link_count s

-- what reading the fields finds: those numbers, or a refusal
unfoldable pub read_answer : List ℕ → Result Head Refusal
read_answer s = by_verdict (verdict_of s) (Ok (head_of s)) Err

-- "Check a file: n and the number of links, or a refusal."
unfoldable pub check_of : List ℕ → Result Sizes Refusal
check_of s = by_verdict (verdict_of s) (Ok (record { nodes = nodes_in s; links = link_count s })) Err
