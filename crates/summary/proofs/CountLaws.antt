-- The elements of a list that pass a filter are as many as the nodes that pass a test, where element k decides the test of node k + 1.
use Prim.Native.Nat.{ℕ, suc, ◌+◌, ◌<◌}
use mathlib.Core.Path.{◌≡◌, refl, ap, ◌∙◌}
use mathlib.Core.Bool.{Bool, true, false, cond}
use mathlib.Core.List.{List, [], ◌∷◌}
use native.Mathlib.Numerals.{add-one}
use native.Mathlib.Omega.{arith}
use lib.ListN.{length, get_or}
use Rattle.std.specs.List.{filter, enumerate_from}
use Rattle.std.proofs.lemmas.List.FromFn.{length-enumerate_from, get_or-enumerate_from}
use Rattle.rule.specs.Round.{numbered}
use Rattle.group.specs.Group.{member_in}
use Rattle.group.specs.Count.{count}
use Rattle.summary.specs.Summary.{is_marked, is_served, marked_at, served_at, marked_of, served_of}

-- from element n on, which decides the test of node n + 1
filtered : {X : Type 0} (d : X) (t : X → Bool) (f : ℕ → Bool) (xs : List X) (n : ℕ) → ((k : ℕ) → k < length xs → t (get_or xs k d) ≡ f (suc (n + k)))
    → length (filter t xs) ≡ count f (numbered (suc n) (length xs))
unfolding count numbered
filtered d t f [] n h = refl
filtered d t f (x ∷ xs) n h =
    let first : t x ≡ f (suc n) = h 0 (omega arith) ∙ ap f (omega arith) in
    let rest : length (filter t xs) ≡ count f (numbered (suc (suc n)) (length xs)) =
    filtered d t f xs (suc n) (λ k l. h (suc k) (omega arith) ∙ ap f (omega arith)) in
    rw (← rest, ← first) (go (t x))
  where
    go : (b : Bool) → length (cond b (x ∷ filter t xs) (filter t xs)) ≡ cond b (suc (length (filter t xs))) (length (filter t xs))
    go true = refl
    go false = refl

pub marked_filtered : (marks : List ℕ) → length (filter is_marked marks) ≡ marked_of marks
unfolding marked_of
marked_filtered marks = filtered 0 is_marked (marked_at marks) marks 0 (λ k l. ap (λ (j : ℕ). is_marked (get_or marks j 0)) (omega arith))

-- whether the node of a mark at a place is a served member
abbrev pub serves : List ℕ → ℕ × ℕ → Bool
serves words p = is_served (member_in 64 words (p.0 + 1)) p.1

pub served_filtered : (words marks : List ℕ) → length (filter (serves words) (enumerate_from 0 marks)) ≡ served_of words marks
unfolding served_of
served_filtered words marks =
    filtered (0, 0) (serves words) (served_at words marks) (enumerate_from 0 marks) 0 decides
    ∙ ap (λ (n : ℕ). count (served_at words marks) (numbered 1 n)) (length-enumerate_from 0 marks)
  where
    decides : (k : ℕ) → k < length (enumerate_from 0 marks) → serves words (get_or (enumerate_from 0 marks) k (0, 0)) ≡ served_at words marks (suc (0 + k))
    decides k l =
        let here : get_or (enumerate_from 0 marks) k (0, 0) ≡ (0 + k, get_or marks k 0) = get_or-enumerate_from 0 marks k (0, 0) (omega (arith, length-enumerate_from 0 marks)) in
        let place : 0 + k ≡ k = omega arith in
        ap (serves words) here ∙ rw (place, add-one k)
