-- The answer is what reading finds, with the two counts of a file that is not refused.
use Rattle.std.proofs.Common.{ℕ, List, ◌≡◌, sym}
use Rattle.std.specs.Prelude.{Result, Ok}
use Rattle.park.specs.Reading.{read_answer, check_of}
use Rattle.park.proofs.CheckedLaws.{head_found, refusal_found}
use Rattle.answers.proofs.VerdictLaws.{exit}
use Rattle.answers.specs.declared.Head.{Head}
use Rattle.answers.specs.declared.Sizes.{Sizes}
use Rattle.answers.specs.declared.refusal.Refusal.{Refusal}
use Rattle.reader.proofs.check.Goals as goal

counts : (s : List ℕ) (h : Head) → read_answer s ≡ Ok h → ◌≡◌ {A = Result Sizes Refusal} (Ok (record { nodes = h.nodes; links = h.links })) (check_of s)
unfolding check_of
counts s h e = let f = head_found s h e in simp (f.fine, f.nodes, f.links)

pub returns-in_err-nodes : goal.returns-in_err-nodes
unfolding check_of
returns-in_err-nodes c = exit c.from_residual.ensures.1 (simp (refusal_found _ _ (sym c.in_err-nodes.ensures)))

pub returns : goal.returns
returns c = counts _ _ (sym c.in_ok-nodes.ensures)
