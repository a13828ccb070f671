-- The members of a group set in 64-bit words: the set bits of each word, word by word, and none above n in a park of n nodes.
use Prim.Native.Nat.{ℕ, zero, suc, ◌+◌, ◌-◌, ◌*◌, ◌/◌, ◌%◌, ◌^◌, ◌≤◌, ◌<◌}
use mathlib.Core.Path.{◌≡◌, refl, sym, ap, ◌∙◌, subst}
use mathlib.Core.Bool.{Bool, true, false, cond}
use mathlib.Core.List.{List, [], ◌∷◌}
use native.Mathlib.Nat.{add-zero, zero-add, zero-lt-suc, mod-lt, div-one}
use native.Mathlib.Numerals.{add-one}
use native.Mathlib.Omega.{arith}
use lib.ListN.{get_or, take}
use lib.Dec.{T, eqb}
use lib.Arith.{lt-one}
use lib.Pow.{shr_lt, shr-shr}
use lib.Count.{ones, ones_step, ones-le}
use Rattle.std.specs.List.{sum_by}
use Rattle.rule.specs.Round.{numbered}
use Rattle.group.specs.Group.{bit_set, member_in}
use Rattle.group.specs.Count.{count, members_of}
use Rattle.group.proofs.CountLaws.{count_split, count_same, count_none}

-- a binary digit, counted
digit : (b n : ℕ) → b < 2 → cond (eqb b 1) (suc n) n ≡ b + n
digit zero n h = sym (zero-add n)
digit (suc zero) n h = omega arith
digit (suc (suc b)) n h = absurd (omega arith)

-- the set bits of x from bit d on are the ones of what is left of x there
bits_from : (n x d : ℕ) → x / 2 ^ d < 2 ^ n → count (bit_set x) (numbered d n) ≡ ones (x / 2 ^ d)
unfolding count numbered bit_set ones
bits_from zero x d h = rw (lt-one h)
bits_from (suc n) x d h =
    let half : x / 2 ^ d / 2 ≡ x / 2 ^ suc d = shr-shr x d 1 ∙ ap (λ (k : ℕ). x / 2 ^ k) (add-one d) in
    let less : x / 2 ^ suc d < 2 ^ n = subst (λ (y : ℕ). y < 2 ^ n) half (shr_lt n 1 (subst (λ (k : ℕ). x / 2 ^ d < 2 ^ k) (sym (add-one n)) h)) in
    digit (x / 2 ^ d % 2) (count (bit_set x) (numbered (suc d) n)) (mod-lt (x / 2 ^ d) (zero-lt-suc 1))
    ∙ ap (λ (y : ℕ). x / 2 ^ d % 2 + y) (bits_from n x (suc d) less ∙ ap ones (sym half))
    ∙ sym (ones_step (x / 2 ^ d))

-- the set bits of a word of n bits are its ones
pub bits_ones : (n x : ℕ) → x < 2 ^ n → count (bit_set x) (numbered 0 n) ≡ ones x
bits_ones n x h =
    let whole : x / 2 ^ 0 ≡ x = div-one x in
    bits_from n x 0 (subst (λ (y : ℕ). y < 2 ^ n) (sym whole) h) ∙ ap ones whole

-- the members that word j has bits for are its set bits
word_members : (words : List ℕ) (j : ℕ) → count (member_in 64 words) (numbered (64 * j + 1) 64) ≡ count (bit_set (get_or words j 0)) (numbered 0 64)
unfolding member_in
word_members words j = count_same (member_in 64 words) (bit_set (get_or words j 0)) 64 (64 * j + 1) 0 bit
  where
    at : (k d : ℕ) → k / 64 ≡ j → k % 64 ≡ d → member_in 64 words (suc k) ≡ bit_set (get_or words j 0) d
    at k d e f = rw (e, f)

    bit : (d : ℕ) → d < 64 → member_in 64 words (64 * j + 1 + d) ≡ bit_set (get_or words j 0) (0 + d)
    bit d h =
        let e : 64 * j + 1 + d ≡ suc (64 * j + d) = omega arith in
        rw e (at (64 * j + d) (0 + d) (omega arith) (omega arith))

-- the members of four words
pub members_words : (words : List ℕ) → members_of words
    ≡ (count (bit_set (get_or words 0 0)) (numbered 0 64) + count (bit_set (get_or words 1 0)) (numbered 0 64))
    + (count (bit_set (get_or words 2 0)) (numbered 0 64) + count (bit_set (get_or words 3 0)) (numbered 0 64))
unfolding members_of
members_words words =
    let f : ℕ → Bool = member_in 64 words in
    rw (count_split f 128 128 1, count_split f 64 64 1, count_split f 64 64 129, word_members words 0, word_members words 1, word_members words 2, word_members words 3)

-- Where each member is one of the nodes 1 to n, the words count as many as there are among them.
pub members_within : (words : List ℕ) (n : ℕ) → n ≤ 256 → ((i : ℕ) → T (member_in 64 words i) → i ≤ n) → members_of words ≡ count (member_in 64 words) (numbered 1 n)
unfolding members_of
members_within words n h within =
    let f : ℕ → Bool = member_in 64 words in
    let e : n + (256 - n) ≡ 256 = omega arith in
    let none : count f (numbered (1 + n) (256 - n)) ≡ 0 = count_none f (256 - n) (1 + n) λ d l. out (1 + n + d) (omega arith) in
    ap (λ (k : ℕ). count f (numbered 1 k)) (sym e) ∙ count_split f n (256 - n) 1 ∙ rw (none, add-zero)
  where
    out : (i : ℕ) → n < i → member_in 64 words i ≡ false
    out i l = go (member_in 64 words i) (within i)
      where
        go : (b : Bool) → (T b → i ≤ n) → b ≡ false
        go true k = absurd (omega (arith, k tt))
        go false k = refl

-- what four words give, where a word that is not there gives nothing
four_words : (f : ℕ → ℕ) → f 0 ≡ 0 → (words : List ℕ) → sum_by f (take 4 words)
    ≡ (f (get_or words 0 0) + f (get_or words 1 0)) + (f (get_or words 2 0) + f (get_or words 3 0))
four_words f e [] = rw e
four_words f e (a ∷ []) = rw e (omega arith)
four_words f e (a ∷ b ∷ []) = rw e (omega arith)
four_words f e (a ∷ b ∷ c ∷ []) = rw e (omega arith)
four_words f e (a ∷ b ∷ c ∷ d ∷ words) = omega arith

module _ (words : List ℕ) (fits : (j : ℕ) → get_or words j 0 < 2 ^ 64) where
  -- the ones of the first four words are the members
  pub ones_sum : sum_by ones (take 4 words) ≡ members_of words
  unfolding ones
  ones_sum =
      four_words ones refl words
      ∙ sym (members_words words ∙ rw (bits_ones 64 _ (fits 0), bits_ones 64 _ (fits 1), bits_ones 64 _ (fits 2), bits_ones 64 _ (fits 3)))

  -- and a word of 64 bits has no more
  pub ones_few : sum_by ones (take 4 words) ≤ 256
  unfolding ones
  ones_few =
      rw (four_words ones refl words)
      (omega (arith, ones-le 64 _ (fits 0), ones-le 64 _ (fits 1), ones-le 64 _ (fits 2), ones-le 64 _ (fits 3)))
