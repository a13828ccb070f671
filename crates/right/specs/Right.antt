-- Right of document 01, stated by the exact table and not by rounds.
use Rattle.std.specs.Prelude.{ℕ, List, ◌≡◌, Bool, true, false, Result, Ok, Err}
use Rattle.park.specs.ParkFile.{park_in}
use Rattle.park.specs.Reading.{verdict_of, file_in}
use Rattle.answers.specs.Verdicts.{fine}
use Rattle.answers.specs.declared.refusal.Refusal.{Refusal}
use Rattle.rule.specs.Exact.{Exact}

-- "yes exactly when the stored state is the exact table, value for value"; a file that Check refuses gets Check's refusal
pub record Judged (s : List ℕ) (r : Result Bool Refusal) : Type 0 where
  pub refused : (v : Refusal) → verdict_of s ≡ Err v → r ≡ Err v
  pub yes : verdict_of s ≡ fine → Exact (park_in (file_in s)) (file_in s).state → r ≡ Ok true
  pub no : verdict_of s ≡ fine → (Exact (park_in (file_in s)) (file_in s).state → ⊥) → r ≡ Ok false
