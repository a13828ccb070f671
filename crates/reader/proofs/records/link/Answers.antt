-- Each test of the code is the next test of the definition.
use Rattle.std.proofs.Common.{◌≡◌, ℕ, List, sym, ◌∙◌, leb}
use Rattle.park.specs.Reading.{link_at, low_at, high_at, cost_at, key_at}
use Rattle.answers.specs.Verdicts.{unless, ◌then◌}
use Rattle.answers.specs.Verdicts.{Verdict}
use Rattle.answers.specs.declared.refusal.Refusal.TheVariants.{Ends, Order}
use Rattle.std.proofs.Common.{ltb}
use Rattle.std.proofs.lemmas.Bool.{lt-leb, le-leb, lt-ltb, le-ltb}
use Rattle.reader.proofs.records.link.Goals.{then-low-lt1-via-then-low-lt1, then-low-lt1-via-else-low-lt1+then-high-low, then-low-lt1-via-else-low-lt1+else-high-low+then-nodes-high, then-low-lt1-via-else-low-lt1+else-high-low+else-nodes-high+then-cost-lt1}
use Rattle.reader.proofs.records.link.Goals as goal

-- the tests of a record, once its ends are read
abbrev tests : List ℕ → ℕ → ℕ → ℕ → ℕ → ℕ → Verdict
tests s n at before low high =
    unless (leb 1 low) (Ends at)
    then unless (ltb low high) (Ends at)
    then unless (leb high n) (Ends at)
    then unless (leb 1 (cost_at s at)) (Ends at)
    then unless (ltb before (key_at s at)) (Order at)

ends : (s : List ℕ) (n at before low high : ℕ) → low ≡ low_at s at → high ≡ high_at s at
    → link_at s n at before ≡ tests s n at before low high
unfolding link_at unless ◌then◌
ends s n at before low high l h = simp (l, h)

pub returns-then-low-lt1 : goal.returns-then-low-lt1
unfolding unless ◌then◌
returns-then-low-lt1 c =
    rw (ends _ _ _ _ _ _ c.read-link.ensures.low c.read-link.ensures.high)
    (elim c.then-low-lt1.branch [
      | then-low-lt1-via-then-low-lt1 w ↦ simp (lt-leb _ _ w.if-low-lt1.true)
      | then-low-lt1-via-else-low-lt1+then-high-low w ↦ simp (le-leb _ _ w.if-low-lt1.false, le-ltb _ _ w.if-high-low.true)
      | then-low-lt1-via-else-low-lt1+else-high-low+then-nodes-high w ↦
          simp (le-leb _ _ w.if-low-lt1.false, lt-ltb _ _ w.if-high-low.false, lt-leb _ _ w.if-nodes-high.true)
      | then-low-lt1-via-else-low-lt1+else-high-low+else-nodes-high+then-cost-lt1 w ↦
          rw (← c.read-link.ensures.cost)
          (simp (le-leb _ _ w.if-low-lt1.false, lt-ltb _ _ w.if-high-low.false, le-leb _ _ w.if-nodes-high.false, lt-leb _ _ w.if-cost-lt1.true))
    ])

pub returns-then-key-before : goal.returns-then-key-before
unfolding unless ◌then◌
returns-then-key-before c =
    rw (ends _ _ _ _ _ _ c.read-link.ensures.low c.read-link.ensures.high, sym c.read-link.ensures.cost, sym (c.key.ensures ∙ c.read-link.ensures.key))
    (simp (le-leb _ _ c.if-low-lt1.false, lt-ltb _ _ c.if-high-low.false, le-leb _ _ c.if-nodes-high.false, le-leb _ _ c.if-cost-lt1.false, le-ltb _ _ c.if-key-before.true))

pub returns : goal.returns
unfolding unless ◌then◌
returns c =
    rw (ends _ _ _ _ _ _ c.read-link.ensures.low c.read-link.ensures.high, sym c.read-link.ensures.cost, sym (c.key.ensures ∙ c.read-link.ensures.key))
    (simp (le-leb _ _ c.if-low-lt1.false, lt-ltb _ _ c.if-high-low.false, le-leb _ _ c.if-nodes-high.false, le-leb _ _ c.if-cost-lt1.false, lt-ltb _ _ c.if-key-before.false))
