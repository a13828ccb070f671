-- The search goes through the pairs of ends, one for each link, and what is cut off both slices is in no pair.
use Rattle.std.proofs.Common.{ℕ, sym, ◌∙◌, take, le_of_eq, rules, tests}
use Rattle.std.proofs.lemmas.Iterator.{YieldsList-from_slice, YieldsList-from_zip}
use Rattle.std.proofs.lemmas.Iterator.Search.{any_from_yields_List}
use Rattle.links.proofs.NeighbourLaws.{hears_over, heard_cut}
use Rattle.links.proofs.hears.Goals as goal

pub returns : goal.returns
returns c =
    any_from_yields_List (λ (p : ℕ × ℕ). hears_over p.0 p.1 c.args.node c.args.other) c.any.new.self _ _ c.any.ensures.ran
    (YieldsList-from_zip (YieldsList-from_slice (take c.min-l.result c.args.lows.now) cc) (YieldsList-from_slice (take c.min-l.result c.args.highs.now) cc)) (λ x b q k. search (rules, tests))
    ∙ heard_cut _ _ c.min-l.result _ _ (le_of_eq (sym c.min-l.ensures))
