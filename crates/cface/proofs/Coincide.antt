-- Any two outcomes that Exact's or Right's contract for C allows coincide, in all eight numbers and every byte of the area. The other
-- five contracts are equations, and say one outcome as they stand.
use Prim.Native.Nat.{ℕ}
use mathlib.Core.Path.{◌≡◌, sym, ap, ◌∙◌}
use mathlib.Core.List.{List}
use Rattle.wire.specs.Big.{Bytes}
use Rattle.std.specs.Prelude.{Bool, Result}
use Rattle.answers.specs.declared.refusal.Refusal.{Refusal}
use Rattle.exact.specs.Exact.{Exacted}
use Rattle.exact.proofs.ExactFileLaws.{exact_one}
use Rattle.right.specs.Right.{Judged}
use Rattle.right.proofs.RightLaws.{right_one}
use Rattle.answers.specs.Values.{exact_values, right_values}

-- what `chandvreksh_exact` ensures of a file, an area and a place: `is` has the answer's numbers
abbrev pub ExactAllows : List ℕ → List ℕ → ℕ → List ℕ → List ℕ → Type 0
ExactAllows s old place new is =
    (found : Result (Unit {0}) Refusal) × Exacted s old place found new × (is ≡ exact_values found)

pub exact_coincides : (s old : List ℕ) (place : ℕ) → Bytes s → (new new' is is' : List ℕ)
    → ExactAllows s old place new is → ExactAllows s old place new' is' → (is ≡ is') × (new ≡ new')
exact_coincides s old place b new new' is is' (r, x, e) (r', x', e') =
    let same : (r ≡ r') × (new ≡ new') = exact_one s old place b r r' new new' x x' in
    (e ∙ ap exact_values same.0 ∙ sym e', same.1)

-- what `chandvreksh_right` ensures of a file
abbrev pub RightAllows : List ℕ → List ℕ → Type 0
RightAllows s is = (found : Result Bool Refusal) × Judged s found × (is ≡ right_values found)

pub right_coincides : (s : List ℕ) → Bytes s → (is is' : List ℕ) → RightAllows s is → RightAllows s is' → is ≡ is'
right_coincides s b is is' (r, j, e) (r', j', e') =
    e ∙ ap right_values (right_one s b r r' j j') ∙ sym e'
