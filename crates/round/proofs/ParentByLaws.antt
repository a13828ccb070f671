-- The search of one node gives the parent by distances: its arc kept is the one that the rule names.
use Prim.Native.Nat.{ℕ}
use mathlib.Core.Path.{◌≡◌, sym, ap, ◌∙◌}
use mathlib.Core.Logic.{inl}
use mathlib.Core.Bool.{false, cond}
use mathlib.Core.List.{List}
use lib.Dec.{eqb}
use borrow.Author.Tests.{ne_eqb}
use Rattle.measure.specs.Measure.{ceiling}
use Rattle.rule.specs.Round.{Link, giving, chosen, new_dist, parent_at, arcs_of}
use Rattle.rule.proofs.OnePassLaws.{kept_from}
use Rattle.rule.proofs.ParentLaws.{parent_none}
use Rattle.round.specs.declared.keep.Best.{Best}
use Rattle.round.specs.Keep.{unheard, kept_arc}
use Rattle.round.specs.Scan.{passed_all}
use Rattle.round.specs.Parent.{bare_net, parent_by}
use Rattle.round.proofs.HeardLaws.{heard}

pub by_root : (root : ℕ) (ls : List Link) (D : ℕ → ℕ) (i : ℕ) → root ≡ i → 0 ≡ parent_by root ls D i
unfolding parent_by
by_root root ls D i e = sym (parent_none (bare_net root ls) D (new_dist (bare_net root ls) D i) i (inl (sym e)))

pub by_search : (root : ℕ) (ls : List Link) (D P M : ℕ → ℕ) (i : ℕ) (b : Best) → (root ≡ i → ⊥) → b ≡ passed_all D P M i unheard ls
    → D 0 ≡ ceiling → M 0 ≡ 0 → b.arc.from ≡ parent_by root ls D i
unfolding parent_by parent_at new_dist
by_search root ls D P M i b n e far clear =
    let h = heard D P M i far clear ls in
    let z : eqb i root ≡ false = ne_eqb i root (λ q. n (sym q)) in
    ap (λ (x : Best). x.arc.from) e
    ∙ kept_from D (arcs_of ls i) (passed_all D P M i unheard ls).dist.0 (kept_arc (passed_all D P M i unheard ls)) h.kept
    ∙ ap (λ (v : ℕ). cond (eqb v ceiling) 0 (chosen (giving D v (arcs_of ls i)))) h.kept.dist
    ∙ rw z
