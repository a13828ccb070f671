-- A file that is read holds a park of document 01: its root and its links' ends are nodes, its costs are costs, and its members are nodes.
use Rattle.table.proofs.PartLaws.{room_again, part_again}
use lib.Seq.{length-take-le}
use Rattle.answers.specs.Verdicts.{fine}
use Prim.Native.Nat.{ℕ, zero, suc, ◌*◌, ◌-◌, ◌/◌, ◌%◌, ◌^◌, ◌≤◌, ◌<◌, min}
use mathlib.Core.Path.{◌≡◌, sym, subst}
use mathlib.Core.Logic.{⊎_elim}
use mathlib.Core.List.Memᴰ
use mathlib.Core.List.{List, [], ◌∷◌, Memᴰ}
use native.Mathlib.Nat.{div-add-mod, le-div_iff_mul-le, one-mul, not-le_of_lt, le_trans}
use native.Mathlib.Decide.{dec_lt}
use native.Mathlib.Omega.{arith}
use lib.ListN.{length, get_or}
use lib.Dec.{T, eqb→eq}
use lib.Pow.{pow_pos, pow_mono}
use Rattle.rule.specs.Round.{Link}
use Rattle.rule.specs.Settles.{ParkOk}
use Rattle.wire.specs.Big.{Bytes}
use Rattle.group.specs.Group.{bit_set, member_in}
use Rattle.park.specs.ParkFile.{ParkFile, ParkFileOk, park_in, LinkOk, LinksOk, key_of}
use Rattle.measure.specs.Measure.{most_nodes, most_links}
use Rattle.park.specs.Layout.{end_at}
use Rattle.park.specs.Reading.{nodes_in, link_count, verdict_of, file_in, read_park, park}
use Rattle.park.proofs.RoundTrip.{read_then_encode, file_read, few_links, length_read}

-- a bit that is set is below the number
bit_below : (x j m : ℕ) → T (bit_set x j) → x < 2 ^ m → j < m
unfolding bit_set
bit_below x j m t h = go (dec_lt j m)
  where
    odd : x / 2 ^ j % 2 ≡ 1
    odd = eqb→eq (x / 2 ^ j % 2) 1 t

    least : 1 * 2 ^ j ≤ x
    least = (le-div_iff_mul-le (pow_pos j)).0 (omega (arith, odd))

    go : Dec (j < m) → j < m
    go (yes l) = l
    go (no l) = absurd (not-le_of_lt h (le_trans (pow_mono {i = m} {j = j} (omega arith)) (rw one-mul at least)))

-- "bits above n are 0": a member is a node
pub member_node : (n : ℕ) (group : List ℕ) → ((i : ℕ) → get_or group i 0 < 2 ^ min 8 (n - 8 * i))
    → (i : ℕ) → T (member_in 8 group i) → (1 ≤ i) × (i ≤ n)
unfolding member_in
member_node n group bits zero t = absurd t
member_node n group bits (suc k) t =
    let b : k % 8 < min 8 (n - 8 * (k / 8)) = bit_below (get_or group (k / 8) 0) (k % 8) (min 8 (n - 8 * (k / 8))) t (bits (k / 8)) in
    (omega arith, omega (arith, div-add-mod k 8))

-- a link of the list is a link of n nodes
link_of : (n before : ℕ) (ls : List Link) → LinksOk n before ls → (l : Link) → Memᴰ l ls → (k : ℕ) × LinkOk n k l
link_of n before [] ok l m = absurd (Memᴰ.not-nil m)
link_of n before (x ∷ ls) ok l m =
    ⊎_elim
    (λ (e : l ≡ x). (before, subst (λ (y : Link). LinkOk n before y) (sym e) ok.0))
    (λ (m' : Memᴰ l ls). link_of n (key_of x) ls ok.1 l m')
    (Memᴰ.cases_cons m)

pub park_ok : (f : ParkFile) → ParkFileOk f → ParkOk (park_in f)
unfolding park_in
park_ok f ok =
    let link : (l : Link) → Memᴰ l f.links → (k : ℕ) × LinkOk f.nodes k l = link_of f.nodes 0 f.links ok.links in
    record {
      few = ok.few;
      root = record { least = ok.root_least; most = ok.root_most };
      low = λ l m. record { least = (link l m).1.least; most = omega (arith, (link l m).1.ascending, (link l m).1.most) };
      high = λ l m. record { least = omega (arith, (link l m).1.least, (link l m).1.ascending); most = (link l m).1.most };
      least = λ l m. (link l m).1.cost;
      largest = λ l m. omega (arith, (link l m).1.largest);
      members = λ i t. record { least = (member_node f.nodes f.group ok.bits i t).0; most = (member_node f.nodes f.group ok.bits i t).1 };
    }

-- a file that is read holds a park
pub read_park_ok : (s : List ℕ) (f : ParkFile) → Bytes s → read_park s ≡ park f → ParkOk (park_in f)
read_park_ok s f b e = park_ok f (read_then_encode s f b e).1

-- a file that is not refused is read as what its fields hold, and holds a park of document 01
pub fine_read : (s : List ℕ) → verdict_of s ≡ fine → read_park s ≡ park (file_in s)
unfolding read_park
fine_read s e = simp e

pub fine_ok : (s : List ℕ) → Bytes s → verdict_of s ≡ fine → ParkOk (park_in (file_in s))
fine_ok s b fine = read_park_ok s (file_in s) b (fine_read s fine)

-- its sizes: at most 256 nodes and 1,024 links, and a length that follows from both
pub record Sizes (s : List ℕ) : Type 0 where
  pub nodes : nodes_in s ≤ most_nodes
  pub links : link_count s ≤ most_links
  pub size : length s ≡ end_at (nodes_in s) (link_count s)

pub fine_sizes : (s : List ℕ) → verdict_of s ≡ fine → Sizes s
fine_sizes s fine = let r = file_read s fine in record { nodes = r.few; links = few_links s r; size = length_read s r }

pub nodes_room : (s : List ℕ) (n : ℕ) → verdict_of s ≡ fine → n ≡ nodes_in s → n ≤ most_nodes
nodes_room s n fine e = omega (arith, (fine_sizes s fine).nodes)

pub links_room : (s : List ℕ) (links : ℕ) → verdict_of s ≡ fine → links ≡ link_count s → links ≤ most_links
links_room s links fine e = omega (arith, (fine_sizes s fine).links)

-- what the lengths of a file's slices are proved from: there is room for each in its array, and it is as long as it is asked for
pub ruleset lent = (nodes_room, links_room, length-take-le, room_again, part_again)
