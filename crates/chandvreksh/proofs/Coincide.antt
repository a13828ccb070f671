-- Any two outcomes that a call's contract allows coincide. Exact and Right, which are stated by the exact table, have this in their
-- own crates (`exact_one`, `right_one`). Counts are in rounds, sizes and places in bytes.
use Prim.Native.Nat.{ℕ}
use mathlib.Core.Path.{◌≡◌, sym, ◌∙◌}
use mathlib.Core.List.{List}
use lib.ListN.{length}
use Rattle.std.specs.Prelude.{Result}
use Rattle.answers.specs.declared.Sizes.{Sizes}
use Rattle.answers.specs.declared.Written.{Written}
use Rattle.answers.specs.declared.Ran.{Ran}
use Rattle.answers.specs.declared.WayOfNode.{WayOfNode}
use Rattle.answers.specs.declared.Counts.{Counts}
use Rattle.answers.specs.declared.refusal.Refusal.{Refusal}
use Rattle.park.specs.Reading.{check_of}
use Rattle.area.specs.Area.{area_with}
use Rattle.writer.specs.Write.{write_verdict, write_of}
use Rattle.run.specs.Run.{run_answer, run_verdict, run_file}
use Rattle.way.specs.Way.{way_answer}
use Rattle.summary.specs.Summary.{summary_answer}

-- two that are both what a definition says
one : {A : Type 0} {x y said : A} → x ≡ said → y ≡ said → x ≡ y
one p q = p ∙ sym q

pub check_one : (s : List ℕ) (r r' : Result Sizes Refusal) → r ≡ check_of s → r' ≡ check_of s → r ≡ r'
check_one s r r' x y = one x y

pub way_one : (s : List ℕ) (i : ℕ) (r r' : Result WayOfNode Refusal) → r ≡ way_answer s i → r' ≡ way_answer s i → r ≡ r'
way_one s i r r' x y = one x y

pub summary_one : (s : List ℕ) (r r' : Result Counts Refusal) → r ≡ summary_answer s → r' ≡ summary_answer s → r ≡ r'
summary_one s r r' x y = one x y

-- what Run's contract allows: the answer, and the area's final bytes
abbrev pub RunAllows : List ℕ → ℕ → List ℕ → ℕ → Result Ran Refusal → List ℕ → Type 0
RunAllows s N old place r new =
    (r ≡ run_answer s N (length old) place) × (new ≡ area_with (run_verdict s N (length old) place) (run_file s N) place old)

pub run_one : (s : List ℕ) (N : ℕ) (old : List ℕ) (place : ℕ) (r r' : Result Ran Refusal) (new new' : List ℕ)
    → RunAllows s N old place r new → RunAllows s N old place r' new' → (r ≡ r') × (new ≡ new')
run_one s N old place r r' new new' x y = (one x.0 y.0, one x.1 y.1)

-- what Write's contract allows, for the file that the numbers would make
abbrev pub WriteAllows : List ℕ → List ℕ → ℕ → Result Written Refusal → List ℕ → Type 0
WriteAllows file old place r new =
    (r ≡ write_of file (length old) place) × (new ≡ area_with (write_verdict file (length old) place) file place old)

pub write_one : (file old : List ℕ) (place : ℕ) (r r' : Result Written Refusal) (new new' : List ℕ)
    → WriteAllows file old place r new → WriteAllows file old place r' new' → (r ≡ r') × (new ≡ new')
write_one file old place r r' new new' x y = (one x.0 y.0, one x.1 y.1)
