-- Putting a field behind another: the stores of head, body and rest are one store of them all.
use Prim.Native.Nat.{ℕ, suc, ◌+◌, ◌*◌, ◌/◌, ◌%◌, ◌≤◌, ◌<◌}
use mathlib.Core.Path.{◌≡◌, refl, sym, ap, ap₂, ◌∙◌}
use mathlib.Core.Bool.{Bool, true, false, ◌&&◌}
use mathlib.Core.List.{List, [], ◌∷◌, ◌++◌}
use native.Mathlib.Nat.{add-zero}
use native.Mathlib.Numerals.{add-one}
use native.Mathlib.Omega.{arith}
use lib.ListN.{length, get_or, drop, drop_of_length-le, length-append}
use lib.Seq.{sets, drop-cons}
use lib.Dec.{leb, eqb}
use borrow.Author.Tests.{leb-true, eq-eqb, eqb-true, ne_eqb}
use Rattle.wire.specs.Big.{bytes_of}
use Rattle.wire.proofs.StoreLaws.{sets_append, put_then, put_both}
use Rattle.wire.proofs.BigLaws.{length_bytes_of}
use Rattle.park.specs.ParkFile.{field, state_bytes}
use Rattle.table.specs.Slices.{cells_of}
use Rattle.park.proofs.FieldLaws.{length_field}
use Rattle.park.proofs.RecordLaws.{length_state_bytes}
use Rattle.park.proofs.StateLaws.{length_cells_of}
use Rattle.table.proofs.TestLaws.{both_true}
use Rattle.writer.specs.Made.{numbers, made, links_right, state_right, state_made, group_made, links_made, file_of}

-- one number of a run, and the rest
pub numbers_turn : (whole l xs : List ℕ) (at i : ℕ) → i < length xs → sets l at (numbers (drop i xs)) ≡ whole
    → sets (sets l at (bytes_of 2 (get_or xs i 0))) (at + 2) (numbers (drop (i + 1) xs)) ≡ whole
unfolding numbers
numbers_turn whole l xs at i h e =
    let x : ℕ = get_or xs i 0 in
    let f : drop i xs ≡ x ∷ drop (suc i) xs = drop-cons xs i 0 h in
    let g : sets l at (bytes_of 2 x ++ numbers (drop (suc i) xs)) ≡ whole = rw f at e in
    ap₂ (λ (k j : ℕ). sets (sets l at (bytes_of 2 x)) (at + k) (numbers (drop j xs))) (sym (length_bytes_of 2 x)) (add-one i)
    ∙ sets_append l at (bytes_of 2 x) (numbers (drop (suc i) xs)) ∙ g

-- the same of the numbers of the links, which stand from the first link on
pub link_number_turn : (whole l xs : List ℕ) (i : ℕ) → i < length xs → sets l (10 + 2 * i) (numbers (drop i xs)) ≡ whole
    → sets (sets l (10 + 2 * i) (bytes_of 2 (get_or xs i 0))) (10 + 2 * (i + 1)) (numbers (drop (i + 1) xs)) ≡ whole
link_number_turn whole l xs i h e =
    let next : 10 + 2 * (i + 1) ≡ 10 + 2 * i + 2 = omega arith in
    rw next (numbers_turn whole l xs (10 + 2 * i) i h e)

pub numbers_none : (xs : List ℕ) (i : ℕ) → length xs ≤ i → numbers (drop i xs) ≡ []
unfolding numbers
numbers_none xs i h = rw (drop_of_length-le xs h)

pub length_numbers : (xs : List ℕ) → length (numbers xs) ≡ 2 * length xs
unfolding numbers
length_numbers [] = refl
length_numbers (x ∷ xs) = let ih = length_numbers xs in simp (length-append, length_bytes_of) (omega (arith, ih))

-- a head, a body and what follows are one store
pub field_put : (l : List ℕ) (at tag : ℕ) (body rest : List ℕ) (size : ℕ) → size ≡ length body
    → sets (sets (sets l at (tag ∷ bytes_of 2 size)) (at + 3) body) (at + 3 + length body) rest ≡ sets l at (field tag body ++ rest)
unfolding field
field_put l at tag body rest size e =
    let h : List ℕ = tag ∷ bytes_of 2 (length body) in
    let n : length h ≡ 3 = ap suc (length_bytes_of 2 (length body)) in
    let a : sets (sets l at h) (at + 3) body ≡ sets l at (h ++ body) = ap (λ (k : ℕ). sets (sets l at h) (at + k) body) (sym n) ∙ sets_append l at h body in
    let m : at + 3 + length body ≡ at + length (h ++ body) = rw (length-append h body, n) (omega arith) in
    rw e (ap₂ (λ (x : List ℕ) (k : ℕ). sets x k rest) a m ∙ sets_append l at (h ++ body) rest)

pub length_made : (tag : ℕ) (body rest : List ℕ) → length (field tag body ++ rest) ≡ 3 + length body + length rest
length_made tag body rest = simp (length-append, length_field)

-- a field of the right size, and one that is not
pub made_right : (tag : ℕ) (right : Bool) (body rest : List ℕ) → right ≡ true → made tag right body rest ≡ field tag body ++ rest
unfolding made
made_right tag right body rest e = rw e

pub made_wrong : (tag : ℕ) (right : Bool) (body rest : List ℕ) → right ≡ false → made tag right body rest ≡ tag ∷ bytes_of 2 65535
unfolding made bytes_of
made_wrong tag right body rest e = rw e

-- where a field goes that is not of the right size: m is what its head leaves of l
pub made_stop : (l : List ℕ) (at tag : ℕ) (right : Bool) (body rest : List ℕ) {m : List ℕ} → (right ≡ true → ⊥) → m ≡ sets l at (tag ∷ bytes_of 2 65535)
    → (m ≡ sets l at (made tag right body rest)) × (at + 3 ≡ at + length (made tag right body rest))
unfolding made bytes_of
made_stop l at tag true body rest h p = absurd (h refl)
made_stop l at tag false body rest h p = (p, refl)

-- where one goes that is, with those behind it, which start at `next`: its head leaves m, its body n, and they o, up to `end`
pub made_go : (l : List ℕ) (at tag : ℕ) (right : Bool) (body rest : List ℕ) (size next : ℕ) {m n o : List ℕ} {end : ℕ}
    → right ≡ true → size ≡ length body → next ≡ at + 3 + length body
    → m ≡ sets l at (tag ∷ bytes_of 2 size) → n ≡ sets m (at + 3) body → (o ≡ sets n next rest) × (end ≡ next + length rest)
    → (o ≡ sets l at (made tag right body rest)) × (end ≡ at + length (made tag right body rest))
made_go l at tag right body rest size next e f g x y z =
    let w = made_right tag right body rest e in
    let a = field_put l at tag body rest size f in
    let k = length_made tag body rest in
    (put_then next rest (put_then (at + 3) body x y) z.0 ∙ rw (w, g) a, z.1 ∙ rw (w, k, g) (omega arith))

-- a state that is right has 7 bytes a node
pub state_length : (n : ℕ) (ds ps ms : List ℕ) → state_right n ds ps ms ≡ true → length (state_bytes (cells_of ds ps ms)) ≡ 7 * n
state_length n ds ps ms e =
    let a = both_true (leb n 256) (eqb (length ds) n && (eqb (length ps) n && eqb (length ms) n)) e in
    let b = both_true (eqb (length ds) n) (eqb (length ps) n && eqb (length ms) n) a.1 in
    let c = both_true (eqb (length ps) n) (eqb (length ms) n) b.1 in
    length_state_bytes (cells_of ds ps ms)
    ∙ ap (λ (j : ℕ). 7 * j) (length_cells_of ds ps ms n (eqb-true _ _ b.0) (eqb-true _ _ c.0) (eqb-true _ _ c.1))

-- more than 256 nodes have no state that is right
pub state_few : (n : ℕ) (ds ps ms : List ℕ) → state_right n ds ps ms ≡ true → n ≤ 256
state_few n ds ps ms e = leb-true _ _ (both_true (leb n 256) (eqb (length ds) n && (eqb (length ps) n && eqb (length ms) n)) e).0

module _ (l : List ℕ) (at n : ℕ) (ds ps ms : List ℕ) where
  pub state_stop : {m : List ℕ} → (state_right n ds ps ms ≡ true → ⊥) → m ≡ sets l at (4 ∷ bytes_of 2 65535)
      → (m ≡ sets l at (state_made n ds ps ms)) × (at + 3 ≡ at + length (state_made n ds ps ms))
  unfolding state_made
  state_stop = made_stop l at 4 (state_right n ds ps ms) (state_bytes (cells_of ds ps ms)) []

  pub state_go : (size : ℕ) {m o : List ℕ} → (state_right n ds ps ms ≡ true) × (size ≡ 7 * n)
      → m ≡ sets l at (4 ∷ bytes_of 2 size) → o ≡ sets m (at + 3) (state_bytes (cells_of ds ps ms))
      → (o ≡ sets l at (state_made n ds ps ms)) × (at + 3 + 7 * n ≡ at + length (state_made n ds ps ms))
  unfolding state_made
  state_go size r p q =
      let body : List ℕ = state_bytes (cells_of ds ps ms) in
      let k = state_length n ds ps ms r.0 in
      made_go l at 4 (state_right n ds ps ms) body [] size (at + 3 + 7 * n) r.0 (r.1 ∙ sym k) (omega (arith, k)) p q (refl, sym (add-zero (at + 3 + 7 * n)))

pub group_go : (l : List ℕ) (at : ℕ) (group rest : List ℕ) {m n o : List ℕ} {end : ℕ} → length group ≡ 32
    → m ≡ sets l at (3 ∷ bytes_of 2 32) → n ≡ sets m (at + 3) group → (o ≡ sets n (at + 35) rest) × (end ≡ at + 35 + length rest)
    → (o ≡ sets l at (group_made group rest)) × (end ≡ at + length (group_made group rest))
unfolding group_made
group_go l at group rest e =
    made_go l at 3 (eqb (length group) 32) group rest 32 (at + 35) (eq-eqb _ _ e) (sym e) (omega arith)

-- the same in equations: the stores of a group of 32 bytes and its length, and what a group of another size makes
pub group_put : (l : List ℕ) (at : ℕ) (group rest : List ℕ) → length group ≡ 32
    → sets (sets (sets l at (3 ∷ bytes_of 2 32)) (at + 3) group) (at + 35) rest ≡ sets l at (group_made group rest)
group_put l at group rest e = (group_go l at group rest e refl refl (refl, refl)).0

pub group_length : (group rest : List ℕ) → length group ≡ 32 → length (group_made group rest) ≡ 35 + length rest
group_length group rest e = let g = group_go [] 0 group rest e refl refl (refl, refl) in omega (arith, g.1)

pub group_cut : (group rest : List ℕ) → (length group ≡ 32 → ⊥) → group_made group rest ≡ 3 ∷ bytes_of 2 65535
unfolding group_made
group_cut group rest e = made_wrong 3 (eqb (length group) 32) group rest (ne_eqb _ _ e)

pub cut_length : (group rest : List ℕ) → (length group ≡ 32 → ⊥) → length (group_made group rest) ≡ 3
cut_length group rest e = ap length (group_cut group rest e) ∙ ap suc (length_bytes_of 2 65535)

pub links_few : (links : List ℕ) → links_right links ≡ true → length links ≤ 3072
links_few links e = leb-true _ _ (both_true (eqb (length links % 3) 0) (leb (length links) 3072) e).1

module _ (l links rest : List ℕ) where
  pub links_stop : {m : List ℕ} → (links_right links ≡ true → ⊥) → m ≡ sets l 7 (2 ∷ bytes_of 2 65535)
      → (m ≡ sets l 7 (links_made links rest)) × (10 ≡ 7 + length (links_made links rest))
  unfolding links_made
  links_stop = made_stop l 7 2 (links_right links) (numbers links) rest

  pub links_go : (count : ℕ) {m n o : List ℕ} {end : ℕ} → (links_right links ≡ true) × (count ≡ length links / 3)
      → m ≡ sets l 7 (2 ∷ bytes_of 2 (2 * length links)) → n ≡ sets m 10 (numbers links)
      → (o ≡ sets n (10 + 6 * count) rest) × (end ≡ 10 + 6 * count + length rest)
      → (o ≡ sets l 7 (links_made links rest)) × (end ≡ 7 + length (links_made links rest))
  unfolding links_made
  links_go count r =
      let third = eqb-true _ _ (both_true (eqb (length links % 3) 0) (leb (length links) 3072) r.0).0 in
      let k = length_numbers links in
      made_go l 7 2 (links_right links) (numbers links) rest (2 * length links) (10 + 6 * count) r.0 (sym k) (omega (arith, k, third, r.1))

pub length_file : (n root : ℕ) (rest : List ℕ) → 7 + length rest ≡ length (field 1 (bytes_of 2 n ++ bytes_of 2 root) ++ rest)
length_file n root rest = simp (length-append, length_field, length_bytes_of)

-- the first field's head leaves m, its numbers n and o, and the fields behind it p, up to `end`
pub file_go : (l : List ℕ) (nodes root : ℕ) (rest : List ℕ) {m n o p : List ℕ} {end : ℕ}
    → m ≡ sets l 0 (1 ∷ bytes_of 2 4) → n ≡ sets m 3 (bytes_of 2 nodes) → o ≡ sets n 5 (bytes_of 2 root) → (p ≡ sets o 7 rest) × (end ≡ 7 + length rest)
    → (p ≡ sets l 0 (field 1 (bytes_of 2 nodes ++ bytes_of 2 root) ++ rest)) × (end ≡ length (field 1 (bytes_of 2 nodes ++ bytes_of 2 root) ++ rest))
file_go l nodes root rest {m} e f g h =
    let body : List ℕ = bytes_of 2 nodes ++ bytes_of 2 root in
    let four : 4 ≡ length body = sym (length-append (bytes_of 2 nodes) (bytes_of 2 root) ∙ ap₂ (λ (a b : ℕ). a + b) (length_bytes_of 2 nodes) (length_bytes_of 2 root)) in
    let b = put_both m 3 5 (bytes_of 2 nodes) (bytes_of 2 root) (ap (λ (k : ℕ). 3 + k) (sym (length_bytes_of 2 nodes))) f g in
    let whole = ap (λ (k : ℕ). sets (sets (sets l 0 (1 ∷ bytes_of 2 4)) 3 body) (3 + k) rest) four ∙ field_put l 0 1 body rest 4 four in
    (put_then 7 rest (put_then 3 body e b) h.0 ∙ whole, h.1 ∙ length_file nodes root rest)

-- the file that numbers make fits the largest file
pub made_small : (tag k m : ℕ) (right : Bool) (body rest : List ℕ) → (right ≡ true → length body ≤ k) → length rest ≤ m
    → length (made tag right body rest) ≤ 3 + k + m
unfolding made
made_small tag k m true body rest h l = rw (length_made tag body rest) (omega (arith, h refl))
made_small tag k m false body rest h l = omega arith

pub file_small : (n root : ℕ) (links group ds ps ms : List ℕ) → length (file_of n root links group ds ps ms) ≤ 7984
unfolding file_of links_made group_made state_made
file_small n root links group ds ps ms =
    let state : length (state_made n ds ps ms) ≤ 3 + 1792 + 0 =
    made_small 4 1792 0 (state_right n ds ps ms) (state_bytes (cells_of ds ps ms)) []
    (λ e. omega (arith, state_few n ds ps ms e, state_length n ds ps ms e)) (omega arith) in
    let group' : length (group_made group (state_made n ds ps ms)) ≤ 3 + 32 + (3 + 1792 + 0) =
    made_small 3 32 (3 + 1792 + 0) (eqb (length group) 32) group (state_made n ds ps ms) (λ e. omega (arith, eqb-true (length group) 32 e)) state in
    let links' : length (links_made links (group_made group (state_made n ds ps ms))) ≤ 3 + 6144 + (3 + 32 + (3 + 1792 + 0)) =
    made_small 2 6144 (3 + 32 + (3 + 1792 + 0)) (links_right links) (numbers links) (group_made group (state_made n ds ps ms))
    (λ e. omega (arith, length_numbers links, links_few links e)) group' in
    omega (arith, links', length_file n root (links_made links (group_made group (state_made n ds ps ms))))

-- what the group's field is proved from
pub ruleset group_field = (group_put, group_length, group_cut, cut_length)
