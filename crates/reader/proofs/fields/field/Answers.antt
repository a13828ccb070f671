-- The tests of the code are the definition's, in its order.
use Rattle.std.proofs.Common.{sym, ◌∙◌, ◌≡◌, ◌+◌, ◌%◌, ◌≤◌, ℕ, List, length, get_or, leb, eqb}
use Rattle.park.specs.Reading.{field_at, length_at}
use Rattle.answers.specs.Verdicts.{Verdict, unless, ◌then◌}
use Rattle.answers.specs.declared.refusal.Refusal.TheVariants.{Length, Short}
use Rattle.std.proofs.lemmas.Bool.{lt-leb, le-leb, eq-eqb, ne_eqb}
use Rattle.reader.proofs.fields.field.Goals.{then-length-step-ne0-via-then-length-step-ne0, then-length-step-ne0-via-else-length-step-ne0+then-length-low, then-length-step-ne0-via-else-length-step-ne0+else-length-low+then-high-length}
use Rattle.reader.proofs.fields.field.Goals as goal

-- the tests of the length, once it is read
abbrev tests : List ℕ → ℕ → ℕ → ℕ → ℕ → ℕ → Verdict
tests s at step low high size =
    unless (eqb (size % step) 0) (Length at)
    then unless (leb low size) (Length at)
    then unless (leb size high) (Length at)
    then unless (leb (at + 3 + size) (length s)) (Short at)

-- a complete head with the tag that is due leaves those tests
sized : (s : List ℕ) (at tag step low high size : ℕ) → at + 3 ≤ length s → get_or s at 0 ≡ tag → size ≡ length_at s at
    → field_at s at tag step low high ≡ tests s at step low high size
unfolding field_at unless ◌then◌
sized s at tag step low high size room due read = simp (le-leb _ _ room, eq-eqb _ _ due, read)

pub returns-then-file-at : goal.returns-then-file-at
unfolding field_at unless ◌then◌
returns-then-file-at c = simp (lt-leb _ _ c.if-file-at.true)

pub returns-then-byte_at-tag : goal.returns-then-byte_at-tag
unfolding field_at unless ◌then◌
returns-then-byte_at-tag c =
    simp (le-leb _ _ c.if-file-at.false, ne_eqb _ _ (λ e. c.if-byte_at-tag.true (c.byte_at.ensures ∙ e ∙ sym c.tag-tag.ensures)))

pub returns-then-length-step-ne0 : goal.returns-then-length-step-ne0
unfolding unless ◌then◌
returns-then-length-step-ne0 c =
    rw (sized _ _ _ _ _ _ _ c.if-file-at.false (sym c.byte_at.ensures ∙ c.if-byte_at-tag.false ∙ c.tag-tag.ensures) c.number_at-length.ensures.0)
    (elim c.then-length-step-ne0.branch [
      | then-length-step-ne0-via-then-length-step-ne0 w ↦ simp (ne_eqb _ _ w.if-length-step-ne0.true)
      | then-length-step-ne0-via-else-length-step-ne0+then-length-low w ↦
          simp (eq-eqb _ _ w.if-length-step-ne0.false, lt-leb _ _ w.if-length-low.true)
      | then-length-step-ne0-via-else-length-step-ne0+else-length-low+then-high-length w ↦
          simp (eq-eqb _ _ w.if-length-step-ne0.false, le-leb _ _ w.if-length-low.false, lt-leb _ _ w.if-high-length.true)
    ])

pub returns-then-file-at-2 : goal.returns-then-file-at-2
unfolding unless ◌then◌
returns-then-file-at-2 c =
    rw (sized _ _ _ _ _ _ _ c.if-file-at.false (sym c.byte_at.ensures ∙ c.if-byte_at-tag.false ∙ c.tag-tag.ensures) c.number_at-length.ensures.0)
    (simp (eq-eqb _ _ c.if-length-step-ne0.false, le-leb _ _ c.if-length-low.false, le-leb _ _ c.if-high-length.false, lt-leb _ _ c.if-file-at-2.true))

pub returns : goal.returns
unfolding unless ◌then◌
returns c =
    rw (sized _ _ _ _ _ _ _ c.if-file-at.false (sym c.byte_at.ensures ∙ c.if-byte_at-tag.false ∙ c.tag-tag.ensures) c.number_at-length.ensures.0)
    (simp (eq-eqb _ _ c.if-length-step-ne0.false, le-leb _ _ c.if-length-low.false, le-leb _ _ c.if-high-length.false, le-leb _ _ c.if-file-at-2.false))
