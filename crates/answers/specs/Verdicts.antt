-- What a step of a call finds, nothing to refuse or a refusal, and how steps follow one another.
use Rattle.std.specs.Prelude.{Bool, true, false, Result, Ok, Err}
use Rattle.answers.specs.declared.refusal.Refusal.{Refusal}

-- what a step finds
abbrev pub Verdict : Type 0
Verdict = Result (Unit {0}) Refusal

-- nothing to refuse
abbrev pub fine : Verdict
fine = Ok tt

infixr 20 ◌then◌
-- a refusal, unless the test holds
unfoldable pub unless : Bool → Refusal → Verdict
unless true r = Ok tt
unless false r = Err r

-- the first refusal of two steps
unfoldable pub ◌then◌ : Verdict → Verdict → Verdict
Ok x then v = v
Err r then v = Err r

-- the answer of a call: its own where nothing is refused, and else the refusal
abbrev pub by_verdict : {A : Type 0} → Verdict → A → (Refusal → A) → A
by_verdict (Ok x) good refused = good
by_verdict (Err r) good refused = refused r
