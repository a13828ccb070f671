-- What is taken apart is what the file holds: the slices of a file that is read are the links, the state and the park of the file.
use Prim.Native.Nat.{ℕ, zero, suc, ◌+◌, ◌*◌, ◌-◌, ◌/◌, ◌%◌, ◌^◌, ◌≤◌, ◌<◌}
use mathlib.Core.Path.{◌≡◌, refl, sym, ap, ap₂, fun_ext, ◌∙◌}
use mathlib.Core.List.{List, [], ◌∷◌, map}
use native.Mathlib.Nat.{add-zero, mul_assoc, add-mul-div_left}
use native.Mathlib.Decide.{dec_lt}
use native.Mathlib.Omega.{arith}
use lib.ListN.{length, get_or, take, drop, length-map, get_or-eq_default}
use lib.Seq.{sets, get_or-take, get_or-drop}
use lib.Dec.{eqb}
use lib.Pow.{pow_pos, pow-add, shr-shr}
use Rattle.rule.specs.Round.{Link, Cell}
use Rattle.wire.specs.Big.{Bytes}
use Rattle.group.specs.Group.{bit_set, member_in}
use Rattle.table.specs.Slices.{links_of, lows_of, highs_of, costs_of, park_of}
use Rattle.table.proofs.PartLaws.{sets_all, sets_take}
use Rattle.answers.specs.declared.Head.{Head}
use Rattle.answers.specs.Verdicts.{fine}
use Rattle.park.specs.Layout.{head_size, group_size, first_link, group_at, first_cell}
use Rattle.park.specs.ParkFile.{park_in}
use Rattle.park.specs.Reading.{verdict_of, links_read, cells_read, file_in, ReadAs, nodes_in, root_in, link_count}
use Rattle.park.proofs.FieldLaws.{part, length_part}
use Rattle.park.proofs.RecordLaws.{length_links, length_cells}
use Rattle.park.proofs.RoundTrip.{file_read, length_read}
use Rattle.reader.specs.Words.{column, little}

-- the links of the slices of links are those links
pub links_of_lem : (ls : List Link) → links_of (lows_of ls) (highs_of ls) (costs_of ls) ≡ ls
unfolding links_of
links_of_lem [] = refl
links_of_lem (l ∷ ls) = ap (λ (r : List Link). l ∷ r) (links_of_lem ls)

-- one part of each link or node of a file that was read, as it was taken into the front of a slice that is long enough, and into one that is as long
module _ (s : List ℕ) (h : Head) (read : ReadAs s h) (old new : List ℕ) where
  pub link_part : (f : Link → ℕ) (n : ℕ) → n ≡ h.links → n ≤ length old → new ≡ sets old 0 (map f (links_read s first_link h.links)) → take n new ≡ map f (file_in s).links
  unfolding file_in
  link_part f n e room put =
      ap₂ take e put
      ∙ sets_take old _ h.links (length-map (links_read s first_link h.links) f ∙ length_links s first_link h.links) (omega arith)
      ∙ ap (λ (k : ℕ). map f (links_read s first_link k)) read.links

  pub state_part : (f : Cell → ℕ) (n : ℕ) → n ≡ h.nodes → n ≤ length old → new ≡ sets old 0 (map f (cells_read s (first_cell h.links) h.nodes)) → take n new ≡ map f (file_in s).state
  unfolding file_in
  state_part f n e room put =
      ap₂ take e put
      ∙ sets_take old _ h.nodes (length-map (cells_read s (first_cell h.links) h.nodes) f ∙ length_cells s (first_cell h.links) h.nodes) (omega arith)
      ∙ ap₂ (λ (l n : ℕ). map f (cells_read s (first_cell l) n)) read.links read.nodes

  pub state_all : (f : Cell → ℕ) → length old ≡ nodes_in s → new ≡ sets old 0 (map f (cells_read s (first_cell h.links) h.nodes)) → new ≡ map f (file_in s).state
  unfolding file_in
  state_all f e put =
      put
      ∙ sets_all old _ (length-map (cells_read s (first_cell h.links) h.nodes) f ∙ length_cells s (first_cell h.links) h.nodes ∙ read.nodes ∙ sym e)
      ∙ ap₂ (λ (l n : ℕ). map f (cells_read s (first_cell l) n)) read.links read.nodes

-- the k-th number of a column
pub column_at : (read : ℕ → ℕ) (from step n k : ℕ) → k < n → get_or (column read from step n) k 0 ≡ read (from + k * step)
unfolding column
column_at read from step zero k h = absurd (omega arith)
column_at read from step (suc n) zero h = let e : from + 0 * step ≡ from = omega arith in rw e
column_at read from step (suc n) (suc k) h =
    let e : from + step + k * step ≡ from + suc k * step = omega (arith, native.Mathlib.Nat.suc-mul k step) in
    column_at read (from + step) step n k (omega arith) ∙ ap read e

pub length_column : (read : ℕ → ℕ) (from step n : ℕ) → length (column read from step n) ≡ n
unfolding column
length_column read from step zero = refl
length_column read from step (suc n) = ap suc (length_column read (from + step) step n)

-- bit 8 j + b of a number with the low byte first is bit b of its byte j
low_bit : (x y b : ℕ) → b < 8 → (x + 256 * y) / 2 ^ b % 2 ≡ x / 2 ^ b % 2
low_bit x y b h =
    let r : ℕ = 7 - b in
    let e : b + (1 + r) ≡ 8 = omega arith in
    let p : 256 ≡ 2 ^ b * (2 * 2 ^ r) = ap (λ (k : ℕ). 2 ^ k) (sym e) ∙ pow-add 2 b (1 + r) ∙ ap (λ (k : ℕ). 2 ^ b * k) (pow-add 2 1 r) in
    let q : 256 * y ≡ 2 ^ b * (2 * (2 ^ r * y)) = ap (λ (k : ℕ). k * y) p ∙ mul_assoc (2 ^ b) (2 * 2 ^ r) y ∙ ap (λ (k : ℕ). 2 ^ b * k) (mul_assoc 2 (2 ^ r) y) in
    rw (q, add-mul-div_left x (2 * (2 ^ r * y)) (pow_pos b)) (omega arith)

little_bit : (s : List ℕ) → Bytes s → (m i j b : ℕ) → j < m → b < 8 → little m s i / 2 ^ (8 * j + b) % 2 ≡ get_or s (i + j) 0 / 2 ^ b % 2
unfolding little
little_bit s bytes zero i j b h l = absurd (omega arith)
little_bit s bytes (suc m) i zero b h l =
    let e : 8 * 0 + b ≡ b = omega arith in
    rw (e, add-zero i) (low_bit (get_or s i 0) (little m s (i + 1)) b l)
little_bit s bytes (suc m) i (suc j) b h l =
    let x : ℕ = get_or s i 0 in
    let y : ℕ = little m s (i + 1) in
    let e : 8 * suc j + b ≡ 8 + (8 * j + b) = omega arith in
    let q : (x + 256 * y) / 2 ^ 8 ≡ y = omega (arith, bytes i) in
    let f : i + 1 + j ≡ i + suc j = omega arith in
    let ih = little_bit s bytes m (i + 1) j b (omega arith) l in
    rw (e, ← shr-shr (x + 256 * y) 8 (8 * j + b), q) (rw f at ih)

-- the law over the width: a member by four words is a member by 32 bytes
module _ (s : List ℕ) (bytes : Bytes s) (from : ℕ) (room : from + 32 ≤ length s) where
  abbrev words : List ℕ
  words = column (little 8 s) from 8 4

  member_bit : (k : ℕ) → Dec (k < 256) → get_or words (k / 64) 0 / 2 ^ (k % 64) % 2 ≡ get_or (part s from 32) (k / 8) 0 / 2 ^ (k % 8) % 2
  member_bit k (yes h) =
      let j : ℕ = k % 64 / 8 in
      let a : k % 64 ≡ 8 * j + k % 8 = omega arith in
      let b : from + k / 64 * 8 + j ≡ from + k / 8 = omega arith in
      let w : get_or words (k / 64) 0 ≡ little 8 s (from + k / 64 * 8) = column_at (little 8 s) from 8 4 (k / 64) (omega arith) in
      let g : get_or (part s from 32) (k / 8) 0 ≡ get_or s (from + k / 8) 0 = get_or-take 32 (drop from s) (k / 8) 0 (omega arith) ∙ get_or-drop from s (k / 8) 0 in
      let t = little_bit s bytes 8 (from + k / 64 * 8) j (k % 8) (omega arith) (omega arith) in
      rw (w, g, a) (rw b at t)
  member_bit k (no h) =
      let w : get_or words (k / 64) 0 ≡ 0 = get_or-eq_default words 0 {n = k / 64} (omega (arith, length_column (little 8 s) from 8 4)) in
      let g : get_or (part s from 32) (k / 8) 0 ≡ 0 = get_or-eq_default (part s from 32) 0 {n = k / 8} (omega (arith, length_part s from 32 room)) in
      rw (w, g) (omega (arith, native.Mathlib.Nat.zero-div (2 ^ (k % 64)), native.Mathlib.Nat.zero-div (2 ^ (k % 8))))

  pub member_words : (i : ℕ) → member_in 64 words i ≡ member_in 8 (part s from 32) i
  unfolding member_in bit_set
  member_words zero = refl
  member_words (suc k) = ap (λ (x : ℕ). eqb x 1) (member_bit k (dec_lt k 256))

-- the slices of a file that is not refused are the slices of its park
pub park_here : (s : List ℕ) → Bytes s → verdict_of s ≡ fine → let ls = (file_in s).links in
    park_of (nodes_in s) (root_in s) (lows_of ls) (highs_of ls) (costs_of ls) (column (little 8 s) (group_at (link_count s) + head_size) 8 4) ≡ park_in (file_in s)
unfolding park_of park_in file_in
park_here s bytes fine =
    let from : ℕ = group_at (link_count s) + head_size in
    let member : member_in 64 (column (little 8 s) from 8 4) ≡ member_in 8 (part s from group_size) =
    fun_ext (member_words s bytes from (omega (arith, length_read s (file_read s fine)))) in
    λ i. record { nodes = nodes_in s; root = root_in s; links = links_of_lem (links_read s first_link (link_count s)) i; member = member i }
