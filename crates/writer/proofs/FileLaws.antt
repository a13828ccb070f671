-- The file that a park's numbers make is the park's file, and numbers of a wrong count are refused as 3 where their field starts.
use Prim.Native.Nat.{ℕ, ◌+◌, ◌*◌, ◌%◌, ◌≤◌, ◌<◌}
use Rattle.writer.proofs.MakeLaws.{made_right, made_wrong, length_numbers, links_few}
use Rattle.writer.specs.Made.{numbers, flat, links_right, state_right, state_made, group_made, links_made, file_of}
use Rattle.park.proofs.FieldLaws.{field_written, has_behind, length_refused}
use Rattle.park.proofs.RoundTrip.{encode_read, head_few}
use Rattle.measure.specs.Measure.{most_links}
use Rattle.park.specs.Layout.{group_at, state_at}
use Rattle.park.specs.ParkFile.{ParkFile, ParkFileOk, field, link_bytes, state_bytes, encode}
use Rattle.answers.specs.Verdicts.{fine, ◌then◌}
use Rattle.std.specs.Prelude.{Err}
use Rattle.park.specs.Reading.{length_at, nodes_in, link_count, head_in, links_in, group_in, state_in, verdict_of, read_park, park}
use Rattle.answers.specs.declared.refusal.Refusal.TheVariants.{Length}
use Rattle.rule.specs.Round.{Link, Cell}
use Rattle.table.specs.Slices.{cells_of}
use Rattle.table.proofs.TestLaws.{both_true}
use Rattle.wire.proofs.BigLaws.{Has, has_all, has_left, length_bytes_of}
use Rattle.wire.specs.Big.{bytes_of}
use borrow.Author.Tests.{le-leb, eq-eqb, eqb-true}
use lib.Dec.{eqb, leb, lit<}
use lib.ListN.{length, length-append, length-map}
use mathlib.Core.Bool.{true, false}
use mathlib.Core.List.{List, [], ◌∷◌, ◌++◌, map, append_assoc, append-nil}
use mathlib.Core.Path.{◌≡◌, refl, ap, ◌∙◌}
use native.Mathlib.Nat.{mul-mod_right}
use native.Mathlib.Omega.{arith}

numbers_flat : (ls : List Link) → numbers (flat ls) ≡ link_bytes ls
unfolding numbers flat link_bytes
numbers_flat [] = refl
numbers_flat (l ∷ ls) = let ih = numbers_flat ls in simp (ih, append_assoc)

length_flat : (ls : List Link) → length (flat ls) ≡ 3 * length ls
unfolding flat
length_flat [] = refl
length_flat (l ∷ ls) = omega (arith, length_flat ls)

-- a table taken apart and put together
cells_together : (t : List Cell) → cells_of (map (λ (c : Cell). c.dist) t) (map (λ (c : Cell). c.parent) t) (map (λ (c : Cell). c.mark) t) ≡ t
unfolding cells_of
cells_together [] = refl
cells_together (c ∷ t) = ap (λ (l : List Cell). c ∷ l) (cells_together t)

-- the numbers of a park's file
abbrev pub numbers_file : ParkFile → List ℕ
numbers_file f =
    file_of f.nodes f.root (flat f.links) f.group
    (map (λ (c : Cell). c.dist) f.state) (map (λ (c : Cell). c.parent) f.state) (map (λ (c : Cell). c.mark) f.state)

pub file_encode : (f : ParkFile) → ParkFileOk f → numbers_file f ≡ encode f
unfolding file_of links_made group_made state_made encode
file_encode f ok =
    let n : ℕ = f.nodes in
    let ds : List ℕ = map (λ (c : Cell). c.dist) f.state in
    let ps : List ℕ = map (λ (c : Cell). c.parent) f.state in
    let ms : List ℕ = map (λ (c : Cell). c.mark) f.state in
    let len = length_flat f.links in
    let third : length (flat f.links) % 3 ≡ 0 = rw len (mul-mod_right 3 (length f.links)) in
    let few : length (flat f.links) ≤ 3072 = omega (arith, len, ok.link_count) in
    let links : links_right (flat f.links) ≡ true = simp (eq-eqb _ _ third, le-leb _ _ few) in
    let d : length ds ≡ n = length-map f.state (λ (c : Cell). c.dist) ∙ ok.state_size in
    let p : length ps ≡ n = length-map f.state (λ (c : Cell). c.parent) ∙ ok.state_size in
    let m : length ms ≡ n = length-map f.state (λ (c : Cell). c.mark) ∙ ok.state_size in
    let state : state_right n ds ps ms ≡ true = simp (le-leb _ _ ok.few, eq-eqb _ _ d, eq-eqb _ _ p, eq-eqb _ _ m) in
    let body : state_bytes (cells_of ds ps ms) ≡ state_bytes f.state = ap state_bytes (cells_together f.state) in
    rw (made_right 4 (state_right n ds ps ms) (state_bytes (cells_of ds ps ms)) [] state, body, append-nil (field 4 (state_bytes f.state)))
    (rw (made_right 3 (eqb (length f.group) 32) f.group (field 4 (state_bytes f.state)) (eq-eqb _ _ ok.group_size))
    (rw (made_right 2 (links_right (flat f.links)) (numbers (flat f.links)) (field 3 f.group ++ field 4 (state_bytes f.state)) links, numbers_flat f.links)))

-- write then read gives the same park
pub write_read : (f : ParkFile) → ParkFileOk f → read_park (numbers_file f) ≡ park f
write_read f ok = ap read_park (file_encode f ok) ∙ encode_read f ok

module _ (n root : ℕ) (links group ds ps ms : List ℕ) where
  abbrev s : List ℕ
  s = file_of n root links group ds ps ms

  from2 : Has s 7 (links_made links (group_made group (state_made n ds ps ms)))
  unfolding file_of
  from2 =
      has_behind 1 (bytes_of 2 n ++ bytes_of 2 root) (links_made links (group_made group (state_made n ds ps ms))) 7 (has_all s)
      (simp (length-append, length_bytes_of))

  -- "more than 1,024 links .. is 3 at the place where that field starts"
  pub links_wrong : links_right links ≡ false → head_in s ≡ fine → verdict_of s ≡ Err (Length 7)
  unfolding verdict_of links_in links_made ◌then◌
  links_wrong w h =
      let e = made_wrong 2 (links_right links) (numbers links) (group_made group (state_made n ds ps ms)) w in
      let r = length_refused 2 6 0 6144 (rw e at from2) (λ _. lit< tt) in
      simp (h, r)

  module _ (right : links_right links ≡ true) where
    from2_right : Has s 7 (field 2 (numbers links) ++ group_made group (state_made n ds ps ms))
    unfolding links_made
    from2_right = let e = made_right 2 (links_right links) (numbers links) (group_made group (state_made n ds ps ms)) right in rw e at from2

    from3 : Has s (10 + 2 * length links) (group_made group (state_made n ds ps ms))
    from3 =
        has_behind 2 (numbers links) (group_made group (state_made n ds ps ms)) (10 + 2 * length links) from2_right
        (omega (arith, length_numbers links))

    said : length_at s 7 ≡ 2 * length links
    said =
        let few : length links ≤ 3072 = links_few links right in
        let w = field_written 2 (numbers links) (has_left (field 2 (numbers links)) (group_made group (state_made n ds ps ms)) from2_right) (omega (arith, length_numbers links)) in
        w.said ∙ length_numbers links

    -- the later fields stand behind three numbers a link
    six : 6 * link_count s ≡ 2 * length links
    six = omega (arith, said, eqb-true (length links % 3) 0 (both_true (eqb (length links % 3) 0) (leb (length links) (3 * most_links)) right).0)

    -- "a group not of 32 bytes"
    pub group_wrong : eqb (length group) 32 ≡ false → head_in s ≡ fine → links_in s ≡ fine → verdict_of s ≡ Err (Length (10 + 2 * length links))
    unfolding verdict_of group_in group_made ◌then◌
    group_wrong w h l =
        let e = made_wrong 3 (eqb (length group) 32) group (state_made n ds ps ms) w in
        let r = length_refused 3 1 32 32 (rw e at from3) (λ _. lit< tt) in
        let place : group_at (link_count s) ≡ 10 + 2 * length links = omega (arith, six) in
        simp (h, l, place) (simp r)

    -- "or a state not of n nodes"
    pub state_wrong : eqb (length group) 32 ≡ true → state_right n ds ps ms ≡ false → head_in s ≡ fine → links_in s ≡ fine → group_in s ≡ fine
        → verdict_of s ≡ Err (Length (45 + 2 * length links))
    unfolding verdict_of state_in group_made state_made ◌then◌
    state_wrong g w h l k =
        let few : 7 * nodes_in s < 65535 = omega (arith, head_few s h) in
        let e3 = made_right 3 (eqb (length group) 32) group (state_made n ds ps ms) g in
        let from4 = has_behind 3 group (state_made n ds ps ms) (45 + 2 * length links) (rw e3 at from3) (omega (arith, eqb-true (length group) 32 g)) in
        let e = made_wrong 4 (state_right n ds ps ms) (state_bytes (cells_of ds ps ms)) [] w in
        let r = length_refused 4 1 (7 * nodes_in s) (7 * nodes_in s) (rw e at from4) (λ _. few) in
        let place : state_at (link_count s) ≡ 45 + 2 * length links = omega (arith, six) in
        simp (h, l, k, place) (simp r)
