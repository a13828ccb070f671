-- A table's lines, and what follows them.
use Rattle.std.proofs.Common.{◌≡◌, ℕ, ◌+◌, List, ◌++◌, ◌∷◌, [], ap, ◌∙◌, zero, suc, append_assoc, codes, length, sym}
use Rattle.std.proofs.lemmas.List.{flat_map_more}
use Rattle.console.specs.Text.{header, line_of, line_text, lines, settled_text}
use Rattle.console.specs.declared.text.Settled.{Settled}
use Rattle.std.specs.Fmt.{decimal}
use Rattle.std.specs.List.{flat_map, range_with_len}
use native.Mathlib.Omega.{arith}

-- n numbers from a on, and the next
numbers_more : (a n j : ℕ) → a + n ≡ j → range_with_len a n ++ j ∷ [] ≡ range_with_len a (suc n)
numbers_more a zero j e = let same : j ≡ a = omega arith in ap {B = List ℕ} (λ k. k ∷ []) same
numbers_more a (suc n) j e = ap {B = List ℕ} (λ ks. a ∷ ks) (numbers_more (a + 1) n j (omega arith))

-- the line of the next node
pub lines_more : (t : Settled) (n : ℕ) → (header ++ lines t n) ++ (line_text (line_of t (n + 1)) ++ codes "\n") ≡ header ++ lines t (n + 1)
lines_more t n =
    let next : suc n ≡ n + 1 = omega arith in
    let newest : range_with_len 1 n ++ (n + 1) ∷ [] ≡ range_with_len 1 (n + 1) =
    numbers_more 1 n (n + 1) (omega arith) ∙ ap (range_with_len 1) next in
    flat_map_more (λ node. line_text (line_of t node) ++ codes "\n") header (range_with_len 1 n) (n + 1)
    ∙ ap (λ ks. header ++ flat_map (λ node. line_text (line_of t node) ++ codes "\n") ks) newest

-- after the line of the last node come the rounds
pub lines_end : (t : Settled) (n : ℕ) → n ≡ length t.table.dists.now → (header ++ lines t n) ++ (codes "rounds " ++ decimal t.rounds.0) ≡ settled_text t
lines_end t n e =
    ap (λ k. (header ++ lines t k) ++ (codes "rounds " ++ decimal t.rounds.0)) e
    ∙ sym (append_assoc (header ++ lines t (length t.table.dists.now)) (codes "rounds ") (decimal t.rounds.0))
