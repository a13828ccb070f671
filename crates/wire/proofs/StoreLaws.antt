-- The laws of stores of many bytes: one store outside, two that are one, and one that the end of the list cuts off.
use Prim.Native.Nat.{ℕ, suc, ◌+◌, ◌-◌, ◌≤◌, ◌<◌, min}
use mathlib.Core.Path.{◌≡◌, refl, ap, ◌∙◌}
use mathlib.Core.List.{List, [], ◌∷◌, ◌++◌, append_assoc}
use native.Mathlib.Nat.{add-zero}
use native.Mathlib.Omega.{arith}
use lib.ListN.{length, set, take, drop, drop_of_length-le}
use native.Mathlib.Decide.{dec_lt}
use Rattle.std.proofs.lemmas.List.{take-append-drop}
use lib.Seq.{sets, sets-eq, length-sets, length-take-le, drop-drop, set_out}

-- a store outside the list changes nothing
pub sets_out : (l : List ℕ) (i : ℕ) (vs : List ℕ) → length l ≤ i → sets l i vs ≡ l
sets_out l i [] h = refl
sets_out l i (v ∷ vs) h = rw (set_out l i v h) (sets_out l (suc i) vs (omega arith))

-- stores one behind the other are one store
pub sets_append : (l : List ℕ) (i : ℕ) (a b : List ℕ) → sets (sets l i a) (i + length a) b ≡ sets l i (a ++ b)
sets_append l i [] b = rw add-zero
sets_append l i (x ∷ a) b =
    let e : i + suc (length a) ≡ suc i + length a = omega arith in
    rw e (sets_append (set l i x) (suc i) a b)

-- a store into what stands for a list is one into the list
pub put_then : (i : ℕ) (xs : List ℕ) {l m n : List ℕ} → m ≡ l → n ≡ sets m i xs → n ≡ sets l i xs
put_then i xs e f = f ∙ ap (λ (x : List ℕ). sets x i xs) e

-- two stores, the second right behind the first, are one
pub put_both : (l : List ℕ) (i j : ℕ) (a b : List ℕ) {m n : List ℕ} → j ≡ i + length a → m ≡ sets l i a → n ≡ sets m j b → n ≡ sets l i (a ++ b)
put_both l i j a b h e f = put_then j b e f ∙ ap (λ (k : ℕ). sets (sets l i a) k b) h ∙ sets_append l i a b

-- behind the end of the list there is no room, and behind the last byte there is nothing to put
pub sets_cut : (l vs : List ℕ) (i n : ℕ) → min (length vs) (length l - i) ≤ n → sets l (i + n) (drop n vs) ≡ l
sets_cut l vs i n h = go (dec_lt n (length vs))
  where
    go : Dec (n < length vs) → sets l (i + n) (drop n vs) ≡ l
    go (yes f) = sets_out l (i + n) (drop n vs) (omega arith)
    go (no f) = let none : drop n vs ≡ [] = drop_of_length-le vs (omega arith) in rw none

-- as many bytes as there is room for, copied into the part of the list that starts at place i
pub part_put : (l vs part : List ℕ) (i n : ℕ) → i ≤ length l → n ≡ min (length vs) (length l - i) → part ≡ take n vs
    → take i l ++ (part ++ drop (i + n - i) (drop i l)) ≡ sets l i vs
part_put l vs part i n h e p =
    let m : length part ≡ n = ap length p ∙ length-take-le n vs (omega arith) in
    let k : i + n - i ≡ length part = omega arith in
    let here : sets l i part ≡ take i l ++ (part ++ drop (i + length part) l) =
    sets-eq part l i (omega arith) ∙ append_assoc (take i l) part (drop (i + length part) l) in
    let out : sets (sets l i part) (i + length part) (drop n vs) ≡ sets l i part = rest (dec_lt n (length vs)) m in
    let all : part ++ drop n vs ≡ vs = rw p (take-append-drop n vs) in
    rw (k, drop-drop, ← here, ← out) (sets_append l i part (drop n vs) ∙ ap (sets l i) all)
  where
    rest : Dec (n < length vs) → length part ≡ n → sets (sets l i part) (i + length part) (drop n vs) ≡ sets l i part
    rest (yes f) m = sets_out (sets l i part) (i + length part) (drop n vs) (omega (arith, length-sets l i part))
    rest (no f) m = let none : drop n vs ≡ [] = drop_of_length-le vs (omega arith) in rw none
