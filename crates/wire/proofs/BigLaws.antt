-- The laws of big-endian numbers, over the width: written then read is the same, read then written is the same bytes.
use Prim.Native.Nat.{ℕ, zero, suc, ◌+◌, ◌*◌, ◌/◌, ◌%◌, ◌^◌, ◌≤◌, ◌<◌}
use mathlib.Core.Path.{◌≡◌, refl, sym, ap, ◌∙◌}
use mathlib.Core.List.{List, [], ◌∷◌, ◌++◌, append_assoc, append-nil}
use native.Mathlib.Nat.{add-zero, pow-suc}
use native.Mathlib.Numerals.{add-one}
use native.Mathlib.Omega.{arith}
use lib.ListN.{length, get_or, take, drop, length-append, get_or-append, length-drop}
use lib.Seq.{take-suc, get_or-drop, get_or-append-add, take_at, drop_at}
use Rattle.wire.specs.Big.{Bytes, big, bytes_of}

-- a number of four bytes is two of two
pub big_four : (s : List ℕ) (i : ℕ) → big 4 s i ≡ big 2 s i * 65536 + big 2 s (i + 2)
unfolding big
big_four s i =
    let e : i + 2 + 0 ≡ i + 2 = omega arith in
    let f : i + 2 + 1 ≡ i + 3 = omega arith in
    rw (e, f) (omega arith)

-- each byte is below 256, so a number of k bytes is below 256 ^ k
pub big_lt : (k : ℕ) (s : List ℕ) (i : ℕ) → Bytes s → big k s i < 256 ^ k
unfolding big
big_lt zero s i b = omega arith
big_lt (suc k) s i b =
    let ih : big k s i < 256 ^ k = big_lt k s i b in
    let e : 256 ^ suc k ≡ 256 ^ k * 256 = pow-suc 256 k in
    omega (arith, b (i + k))

pub length_bytes_of : (k x : ℕ) → length (bytes_of k x) ≡ k
unfolding bytes_of
length_bytes_of zero x = refl
length_bytes_of (suc k) x =
    let ih : length (bytes_of k (x / 256)) ≡ k = length_bytes_of k (x / 256) in
    simp (length-append, ih, add-one)

-- what stands at a place of a list: xs, between `before` of as many elements as the place says and `after`
pub record Has (s : List ℕ) (i : ℕ) (xs : List ℕ) : Type 0 where
  pub before : List ℕ
  pub after : List ℕ
  pub whole : s ≡ before ++ (xs ++ after)
  pub place : length before ≡ i

pub has_all : (s : List ℕ) → Has s 0 s
has_all s = record { before = []; after = []; whole = sym (append-nil s); place = refl }

pub has_left : {s : List ℕ} {i : ℕ} (xs ys : List ℕ) → Has s i (xs ++ ys) → Has s i xs
has_left xs ys h = record { before = h.before; after = ys ++ h.after; whole = h.whole ∙ simp append_assoc; place = h.place }

pub has_right : {s : List ℕ} {i : ℕ} (xs ys : List ℕ) → Has s i (xs ++ ys) → Has s (i + length xs) ys
has_right {i} xs ys h =
    record {
      before = h.before ++ xs;
      after = h.after;
      whole = h.whole ∙ simp append_assoc;
      place = length-append h.before xs ∙ ap (λ (n : ℕ). n + length xs) h.place;
    }

pub has_length : {s : List ℕ} {i : ℕ} {xs : List ℕ} → Has s i xs → i + length xs ≤ length s
has_length {xs} h = let e = ap length h.whole in omega (arith, simp length-append at e, h.place)

pub has_at : {s : List ℕ} {i : ℕ} {xs : List ℕ} → Has s i xs → (j : ℕ) → j < length xs → get_or s (i + j) 0 ≡ get_or xs j 0
has_at {xs} h j l = rw (h.whole, ← h.place) (get_or-append-add h.before (xs ++ h.after) j 0 ∙ get_or-append xs h.after 0 j l)

pub has_part : {s : List ℕ} {i : ℕ} {xs : List ℕ} → Has s i xs → take (length xs) (drop i s) ≡ xs
has_part {i} {xs} h =
    rw h.whole (ap (take (length xs)) (drop_at h.before (xs ++ h.after) i h.place) ∙ take_at xs h.after (length xs) refl)

-- written then read is the same number
pub written_read : (k x : ℕ) {s : List ℕ} {i : ℕ} → Has s i (bytes_of k x) → x < 256 ^ k → big k s i ≡ x
unfolding big bytes_of
written_read zero x h l = omega arith
written_read (suc k) x {s} {i} h l =
    let xs : List ℕ = bytes_of k (x / 256) in
    let e : 256 ^ suc k ≡ 256 ^ k * 256 = pow-suc 256 k in
    let q : x / 256 < 256 ^ k = omega arith in
    let ih : big k s i ≡ x / 256 = written_read k (x / 256) (has_left xs (x % 256 ∷ []) h) q in
    let r : Has s (i + length xs) (x % 256 ∷ []) = has_right xs (x % 256 ∷ []) h in
    let low : get_or s (i + length xs + 0) 0 ≡ x % 256 = has_at r 0 (omega arith) in
    let w : i + length xs + 0 ≡ i + k = simp (length_bytes_of, add-zero) in
    let low' : get_or s (i + k) 0 ≡ x % 256 = rw w at low in
    rw (ih, low') (omega arith)

-- read then written is the same bytes
pub read_written : (k : ℕ) (s : List ℕ) (i : ℕ) → Bytes s → i + k ≤ length s → bytes_of k (big k s i) ≡ take k (drop i s)
unfolding big bytes_of
read_written zero s i b h = refl
read_written (suc k) s i b h =
    let d : ℕ = get_or s (i + k) 0 in
    let lt : d < 256 = b (i + k) in
    let q : (big k s i * 256 + d) / 256 ≡ big k s i = omega arith in
    let m : (big k s i * 256 + d) % 256 ≡ d = omega arith in
    let room : k < length (drop i s) = rw length-drop (omega arith) in
    let ih : bytes_of k (big k s i) ≡ take k (drop i s) = read_written k s i b (omega arith) in
    rw (q, m, ih) (sym (take-suc (drop i s) k 0 room ∙ ap (λ (x : ℕ). take k (drop i s) ++ (x ∷ [])) (get_or-drop i s k 0)))
