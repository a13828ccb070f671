-- A table written over another node by node, all three parts together.
use Prim.Native.Nat.{ℕ, ◌+◌, ◌≤◌, ◌<◌}
use native.Mathlib.Omega.{arith}
use mathlib.Core.Path.{◌≡◌, refl, sym, ◌∙◌}
use mathlib.Core.List.{List}
use lib.ListN.{length, get_or, set, length-set}
use Rattle.table.specs.Fit.{Together}
use Rattle.table.proofs.SliceLaws.{over, over_next, over_all}

-- three slices that are written up to place k with those of a table (xd xp xm), and behind what they were (ds₀ ps₀ ms₀)
pub record Filled (xd xp xm ds₀ ps₀ ms₀ ds ps ms : List ℕ) (k : ℕ) : Type 0 where
  pub before : Together xd xp xm ds₀ ps₀ ms₀
  pub now : Together xd xp xm ds ps ms
  pub dists : ds ≡ over xd k ds₀
  pub parents : ps ≡ over xp k ps₀
  pub marks : ms ≡ over xm k ms₀

pub filled_start : (xd xp xm ds ps ms : List ℕ) → Together xd xp xm ds ps ms → Filled xd xp xm ds ps ms ds ps ms 0
filled_start xd xp xm ds ps ms t = record { before = t; now = t; dists = refl; parents = refl; marks = refl }

module _ (xd xp xm ds₀ ps₀ ms₀ ds ps ms : List ℕ) (k : ℕ) (f : Filled xd xp xm ds₀ ps₀ ms₀ ds ps ms k) where
  -- one node more
  pub filled_next : k < length xd → (a b c : ℕ) → (a ≡ get_or xd k 0) × (b ≡ get_or xp k 0) × (c ≡ get_or xm k 0)
      → Filled xd xp xm ds₀ ps₀ ms₀ (set ds k a) (set ps k b) (set ms k c) (k + 1)
  filled_next h a b c e =
      let t = f.before.table in
      let old = f.before.second in
      let new = f.now.second in
      record {
        before = f.before;
        now = record { table = t; second = (length-set ds k a ∙ new.0, length-set ps k b ∙ new.1, length-set ms k c ∙ new.2) };
        dists = over_next xd ds₀ k (omega arith) (sym old.0) ds f.dists a e.0;
        parents = over_next xp ps₀ k (omega arith) (t.0 ∙ sym old.1) ps f.parents b e.1;
        marks = over_next xm ms₀ k (omega arith) (t.1 ∙ sym old.2) ms f.marks c e.2;
      }

  -- all of them
  pub filled_all : length xd ≤ k → (ds ≡ xd) × (ps ≡ xp) × (ms ≡ xm)
  filled_all h =
      let t = f.before.table in
      let old = f.before.second in (
        f.dists ∙ over_all xd ds₀ k h (sym old.0),
        f.parents ∙ over_all xp ps₀ k (omega arith) (t.0 ∙ sym old.1),
        f.marks ∙ over_all xm ms₀ k (omega arith) (t.1 ∙ sym old.2),
      )
