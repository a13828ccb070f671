-- The round trip of a park file: write then read gives the same park, read then write gives the same bytes.
use Rattle.std.specs.Prelude.{Ok, Err}
use Prim.Native.Nat.{ℕ, ◌+◌, ◌*◌, ◌-◌, ◌%◌, ◌^◌, ◌≤◌, ◌<◌, min}
use mathlib.Core.Path.{◌≡◌, refl, sym, ap, ap₂, ◌∙◌}
use mathlib.Core.Bool.{true}
use mathlib.Core.List.{List, ◌++◌}
use native.Mathlib.Nat.{mul-div_cancel_left, mul-mod_right, mod-one, div-add-mod}
use native.Mathlib.Omega.{arith}
use native.Mathlib.Decide.{dec_lt}
use lib.ListN.{length, get_or, take, drop, length-append, get_or-eq_default}
use lib.Seq.{take_all, get_or-drop, get_or-take}
use lib.Dec.{lit<}
use lib.Pow.{pow_pos}
use borrow.Author.Tests.{le-leb, leb-true}
use Rattle.wire.specs.Big.{Bytes, bytes_of}
use Rattle.wire.proofs.BigLaws.{Has, has_all, has_left, has_right, has_at, has_part, written_read, length_bytes_of, read_written}
use Rattle.measure.specs.Measure.{most_nodes, most_links}
use Rattle.park.specs.Layout.{head_size, link_size, group_size, cell_size, links_at, first_link, group_at, state_at, first_cell, end_at, largest_file}
use Rattle.park.specs.ParkFile.{ParkFile, field, link_bytes, state_bytes, encode, ParkFileOk}
use Rattle.answers.specs.Verdicts.{Verdict, fine, unless, ◌then◌}
use Rattle.park.specs.Reading.{length_at, nodes_in, root_in, bounds_of, head_in, links_from, link_count, links_in, bits_clear, group_in, state_in, end_in, verdict_of, links_read, cells_read, file_in, park, read_park}
use Rattle.answers.proofs.VerdictLaws.{then_fine, unless_fine}
use Rattle.park.proofs.FieldLaws.{part, length_part, part_join, length_field, has_behind, Written, field_written, field_fine, FieldRead, field_read, field_part}
use Rattle.park.proofs.RecordLaws.{length_link_bytes, length_state_bytes, links_written, cells_written, bits_written, bits_read, links_part, cells_part, cells_ok, links_ok, length_links, length_cells}

pub length_encode : (f : ParkFile) → ParkFileOk f → length (encode f) ≡ end_at f.nodes (length f.links)
unfolding encode
length_encode f ok =
    simp (length-append, length_field, length_bytes_of, length_link_bytes, length_state_bytes)
    (omega (arith, ok.group_size, ok.state_size))

-- "The largest file is 7,984 bytes."
pub largest : (f : ParkFile) → ParkFileOk f → length (encode f) ≤ largest_file
largest f ok = omega (arith, length_encode f ok, ok.link_count, ok.few)

pub largest_reached : (f : ParkFile) → ParkFileOk f → f.nodes ≡ most_nodes → length f.links ≡ most_links → length (encode f) ≡ largest_file
largest_reached f ok n l = omega (arith, length_encode f ok)

-- what stands where in the file of a park
module _ (f : ParkFile) (ok : ParkFileOk f) where
  abbrev s : List ℕ
  s = encode f

  abbrev first : List ℕ
  first = bytes_of 2 f.nodes ++ bytes_of 2 f.root

  abbrev second : List ℕ
  second = link_bytes f.links

  abbrev fourth : List ℕ
  fourth = state_bytes f.state

  all : Has s 0 (field 1 first ++ (field 2 second ++ (field 3 f.group ++ field 4 fourth)))
  unfolding encode
  all = has_all (encode f)

  from2 : Has s links_at (field 2 second ++ (field 3 f.group ++ field 4 fourth))
  from2 = has_behind 1 first (field 2 second ++ (field 3 f.group ++ field 4 fourth)) links_at all (simp (length-append, length_bytes_of))

  abbrev l : ℕ
  l = length f.links

  from3 : Has s (group_at l) (field 3 f.group ++ field 4 fourth)
  from3 = has_behind 2 second (field 3 f.group ++ field 4 fourth) (group_at l) from2 (simp length_link_bytes (omega arith))

  from4 : Has s (state_at l) (field 4 fourth)
  from4 = has_behind 3 f.group (field 4 fourth) (state_at l) from3 (omega (arith, ok.group_size))

  one : Written s 0 1 first
  one = field_written 1 first (has_left (field 1 first) _ all) (simp (length-append, length_bytes_of) (lit< tt))

  two : Written s links_at 2 second
  two = field_written 2 second (has_left (field 2 second) _ from2) (omega (arith, length_link_bytes f.links, ok.link_count))

  three : Written s (group_at l) 3 f.group
  three = field_written 3 f.group (has_left (field 3 f.group) _ from3) (omega (arith, ok.group_size))

  four : Written s (state_at l) 4 fourth
  four = field_written 4 fourth from4 (omega (arith, length_state_bytes f.state, ok.state_size, ok.few))

  nodes_is : nodes_in s ≡ f.nodes
  nodes_is = written_read 2 f.nodes (has_left (bytes_of 2 f.nodes) (bytes_of 2 f.root) one.inside) (omega (arith, ok.few))

  root_is : root_in s ≡ f.root
  root_is =
      let t = has_right (bytes_of 2 f.nodes) (bytes_of 2 f.root) one.inside in
      let e : 3 + length (bytes_of 2 f.nodes) ≡ 5 = simp length_bytes_of in
      written_read 2 f.root (rw e at t) (omega (arith, ok.few, ok.root_most))

  said_is : length_at s links_at ≡ link_size * l
  said_is = two.said ∙ length_link_bytes f.links

  count_is : link_count s ≡ l
  count_is = rw said_is (mul-div_cancel_left l (lit< tt))

  head_fine : head_in s ≡ fine
  unfolding head_in bounds_of unless ◌then◌
  head_fine =
      let e = field_fine 1 4 4 one (mod-one _) (simp (length-append, length_bytes_of) (omega arith)) (simp (length-append, length_bytes_of) (omega arith)) in
      simp (e, nodes_is, root_is)
      (simp (le-leb _ _ ok.some, le-leb _ _ ok.few, le-leb _ _ ok.root_least, le-leb _ _ ok.root_most))

  links_fine : links_in s ≡ fine
  unfolding links_in ◌then◌
  links_fine =
      let len = length_link_bytes f.links in
      let m : length second % link_size ≡ 0 = rw len (mul-mod_right link_size l) in
      let e = field_fine link_size 0 (link_size * most_links) two m (omega arith) (omega (arith, len, ok.link_count)) in
      simp (e, nodes_is, count_is) (links_written f.nodes 0 f.links ok.few ok.links two.inside).0

  group_fine : group_in s ≡ fine
  unfolding group_in unless ◌then◌
  group_fine =
      let e = field_fine 1 group_size group_size three (mod-one _) (omega (arith, ok.group_size)) (omega (arith, ok.group_size)) in
      let b : bits_clear s (group_at l + head_size) f.nodes group_size ≡ true =
      bits_written s (group_at l + head_size) f.nodes group_size (λ i h. rw (has_at three.inside i (omega (arith, ok.group_size))) (ok.bits i)) in
      simp (nodes_is, count_is) (simp (e, b))

  state_fine : state_in s ≡ fine
  unfolding state_in
  state_fine =
      let len = length_state_bytes f.state in
      let e = field_fine 1 (cell_size * f.nodes) (cell_size * f.nodes) four (mod-one _) (omega (arith, len, ok.state_size)) (omega (arith, len, ok.state_size)) in
      simp (nodes_is, count_is) e

  end_fine : end_in s ≡ fine
  unfolding end_in unless
  end_fine =
      let h : length s ≤ end_at f.nodes l = omega (arith, length_encode f ok) in
      simp (nodes_is, count_is) (simp (le-leb _ _ h))

  verdict_fine : verdict_of s ≡ fine
  unfolding verdict_of ◌then◌
  verdict_fine = simp (head_fine, links_fine, group_fine, state_fine, end_fine)

  file_is : file_in s ≡ f
  unfolding file_in
  file_is =
      let ls = (links_written f.nodes 0 f.links ok.few ok.links two.inside).1 in
      let g : take group_size (drop (group_at l + head_size) s) ≡ f.group = rw (← ok.group_size) (has_part three.inside) in
      let c : cells_read s (first_cell l) f.nodes ≡ f.state = ap (cells_read s (first_cell l)) (sym ok.state_size) ∙ cells_written f.state ok.cells four.inside in
      simp (count_is, ls) (simp (nodes_is, root_is) (simp (g, c)))

  -- write then read gives the same park
  pub encode_read : read_park (encode f) ≡ park f
  unfolding read_park
  encode_read = simp (verdict_fine, file_is)

-- what is known of a list of bytes that was not refused
pub record FileRead (s : List ℕ) : Type 0 where
  pub head : FieldRead s 0 1 1 4 4
  pub some : 1 ≤ nodes_in s
  pub few : nodes_in s ≤ most_nodes
  pub root_least : 1 ≤ root_in s
  pub root_most : root_in s ≤ nodes_in s
  pub links : FieldRead s links_at 2 link_size 0 (link_size * most_links)
  pub records : links_from s (nodes_in s) first_link 0 (link_count s) ≡ fine
  pub group : FieldRead s (group_at (link_count s)) 3 1 group_size group_size
  pub bits : bits_clear s (group_at (link_count s) + head_size) (nodes_in s) group_size ≡ true
  pub state : FieldRead s (state_at (link_count s)) 4 1 (cell_size * nodes_in s) (cell_size * nodes_in s)
  pub end : length s ≤ end_at (nodes_in s) (link_count s)

-- a head that was not refused says at most 256 nodes
pub head_few : (s : List ℕ) → head_in s ≡ fine → nodes_in s ≤ most_nodes
unfolding head_in bounds_of
head_few s e = leb-true _ _ (unless_fine _ _ (then_fine _ _ (then_fine _ _ (then_fine _ _ e).1).1).0)

pub file_read : (s : List ℕ) → verdict_of s ≡ fine → FileRead s
unfolding verdict_of head_in bounds_of links_in group_in state_in end_in
file_read s e =
    let a = then_fine _ _ e in
    let b = then_fine _ _ a.1 in
    let c = then_fine _ _ b.1 in
    let d = then_fine _ _ c.1 in
    let h = then_fine _ _ a.0 in
    let h2 = then_fine _ _ h.1 in
    let h3 = then_fine _ _ h2.1 in
    let h4 = then_fine _ _ h3.1 in
    let l = then_fine _ _ b.0 in
    let g = then_fine _ _ c.0 in
    record {
      head = field_read s 0 1 1 4 4 h.0;
      some = leb-true _ _ (unless_fine _ _ h2.0);
      few = leb-true _ _ (unless_fine _ _ h3.0);
      root_least = leb-true _ _ (unless_fine _ _ h4.0);
      root_most = leb-true _ _ (unless_fine _ _ h4.1);
      links = field_read s links_at 2 link_size 0 (link_size * most_links) l.0;
      records = l.1;
      group = field_read s (group_at (link_count s)) 3 1 group_size group_size g.0;
      bits = unless_fine _ _ g.1;
      state = field_read s (state_at (link_count s)) 4 1 (cell_size * nodes_in s) (cell_size * nodes_in s) d.0;
      end = leb-true _ _ (unless_fine _ _ d.1);
    }

-- the sizes of a list of bytes that was not refused
module _ (s : List ℕ) (r : FileRead s) where
  -- the link field's length is six bytes a link
  pub six : link_size * link_count s ≡ length_at s links_at
  six = omega (arith, div-add-mod (length_at s links_at) link_size, r.links.multiple)

  pub few_links : link_count s ≤ most_links
  few_links = omega (arith, six, r.links.most)

  pub length_read : length s ≡ end_at (nodes_in s) (link_count s)
  length_read = omega (arith, r.state.room, r.state.least, r.end)

module _ (s : List ℕ) (b : Bytes s) (r : FileRead s) where
  abbrev count : ℕ
  count = link_count s

  abbrev bits_at : ℕ
  bits_at = group_at (link_count s) + head_size

  head_part : field 1 (bytes_of 2 (nodes_in s) ++ bytes_of 2 (root_in s)) ≡ part s 0 links_at
  head_part =
      let body : bytes_of 2 (nodes_in s) ++ bytes_of 2 (root_in s) ≡ part s head_size 4 =
      ap₂ (λ (x y : List ℕ). x ++ y) (read_written 2 s 3 b (omega (arith, length_read s r))) (read_written 2 s 5 b (omega (arith, length_read s r)))
      ∙ part_join s 3 5 2 2 refl in
      field_part (bytes_of 2 (nodes_in s) ++ bytes_of 2 (root_in s)) 4 b r.head (omega (arith, r.head.least, r.head.most)) body

  links_field : field 2 (link_bytes (links_read s first_link count)) ≡ part s links_at (head_size + link_size * count)
  links_field =
      field_part (link_bytes (links_read s first_link count)) (link_size * count) b r.links (sym (six s r))
      (links_part s b first_link count (omega (arith, length_read s r)))

  group_field : field 3 (part s bits_at group_size) ≡ part s (group_at count) (head_size + group_size)
  group_field = field_part (part s bits_at group_size) group_size b r.group (omega (arith, r.group.least, r.group.most)) refl

  state_field : field 4 (state_bytes (cells_read s (first_cell count) (nodes_in s))) ≡ part s (state_at count) (head_size + cell_size * nodes_in s)
  state_field =
      field_part (state_bytes (cells_read s (first_cell count) (nodes_in s))) (cell_size * nodes_in s) b r.state (omega (arith, r.state.least, r.state.most))
      (cells_part s b (first_cell count) (nodes_in s) (omega (arith, length_read s r)))

  read_encode : encode (file_in s) ≡ s
  unfolding encode file_in
  read_encode =
      let third : ℕ = head_size + group_size in
      let fourth : ℕ = head_size + cell_size * nodes_in s in
      let second : ℕ = head_size + link_size * count in
      let q : links_at + second ≡ group_at count = omega arith in
      let w : links_at + (second + (third + fourth)) ≡ length s = omega (arith, length_read s r) in
      rw (head_part, links_field, group_field, state_field)
      (rw (part_join s (group_at count) (state_at count) third fourth refl, part_join s links_at (group_at count) second (third + fourth) q, part_join s 0 links_at links_at (second + (third + fourth)) refl, w)
      (take_all (length s) s (omega arith)))

  group_bits : (i : ℕ) → get_or (part s bits_at group_size) i 0 < 2 ^ min 8 (nodes_in s - 8 * i)
  group_bits i = go (dec_lt i group_size)
    where
      go : Dec (i < group_size) → get_or (part s bits_at group_size) i 0 < 2 ^ min 8 (nodes_in s - 8 * i)
      go (yes h) = rw (get_or-take group_size (drop bits_at s) i 0 h, get_or-drop bits_at s i 0) (bits_read s bits_at (nodes_in s) group_size r.bits i h)
      go (no h) = rw (get_or-eq_default (part s bits_at group_size) 0 {n = i} (omega (arith, length_part s bits_at group_size (omega (arith, length_read s r))))) (pow_pos (min 8 (nodes_in s - 8 * i)))

  read_ok : ParkFileOk (file_in s)
  unfolding file_in
  read_ok =
      record {
        some = r.some;
        few = r.few;
        root_least = r.root_least;
        root_most = r.root_most;
        link_count = omega (arith, length_links s first_link count, few_links s r);
        links = links_ok s b (nodes_in s) first_link 0 count r.records;
        group_size = length_part s bits_at group_size (omega (arith, length_read s r));
        bits = group_bits;
        state_size = length_cells s (first_cell count) (nodes_in s);
        cells = cells_ok s b (first_cell count) (nodes_in s);
      }

-- a file that is read as a park was not refused, and the park is what its fields hold
pub read_fine : (s : List ℕ) (f : ParkFile) → read_park s ≡ park f → (verdict_of s ≡ fine) × (file_in s ≡ f)
unfolding read_park
read_fine s f e = go (verdict_of s) refl
  where
    go : (v : Verdict) → verdict_of s ≡ v → (verdict_of s ≡ fine) × (file_in s ≡ f)
    go (Ok _) p = (p, cc)
    go (Err r) p = let z : ◌≡◌ {A = ℕ} 0 1 = cc in absurd (omega arith)

-- read then write gives the same bytes, and what is read is a park that has a file
pub read_then_encode : (s : List ℕ) (f : ParkFile) → Bytes s → read_park s ≡ park f → (encode f ≡ s) × ParkFileOk f
read_then_encode s f b e =
    let p = read_fine s f e in
    let r = file_read s p.0 in
    (ap encode (sym p.1) ∙ read_encode s b r, rw p.1 at (read_ok s b r))

-- the file of a park is not refused
pub encode_fine : (f : ParkFile) → ParkFileOk f → verdict_of (encode f) ≡ fine
encode_fine f ok = (read_fine (encode f) f (encode_read f ok)).0
