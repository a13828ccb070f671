-- Each mark adds whether it is set, so that the sum is the number of the marked nodes.
use Rattle.std.proofs.Common.{sym, ◌∙◌, cond, ℕ, rules, tests, arith}
use Rattle.std.proofs.lemmas.Iterator.{YieldsList-from_slice, YieldsList-from_map}
use Rattle.std.proofs.lemmas.Iterator.Consumers.{sum_by_from_yields_List, fits_by_from_yields_list}
use Rattle.std.proofs.lemmas.List.Sums.{length-filter, count_by-le-length}
use Rattle.summary.specs.Summary.{is_marked}
use Rattle.summary.proofs.CountLaws.{marked_filtered}
use Rattle.summary.proofs.counts.marked.Goals as goal

-- what a mark adds
abbrev adds : ℕ → ℕ
adds mark = cond (is_marked mark) 1 0

pub sum-requires-clause-fits : goal.sum-requires-clause-fits
sum-requires-clause-fits c =
    let marks = c.args.marks.now in
    fits_by_from_yields_list adds marks c.map.result _
    (YieldsList-from_map _ adds (YieldsList-from_slice marks (cc)) c.map.ensures.closure (λ x r q k. search (rules, tests)))
    (omega (arith, count_by-le-length is_marked marks))

pub returns : goal.returns
returns c =
    let marks = c.args.marks.now in
    sum_by_from_yields_List adds marks c.map.result _ c.sum.ensures.ran
    (YieldsList-from_map _ adds (YieldsList-from_slice marks (cc)) c.map.ensures.closure (λ x r q k. search (rules, tests)))
    ∙ sym (length-filter is_marked marks)
    ∙ marked_filtered marks
