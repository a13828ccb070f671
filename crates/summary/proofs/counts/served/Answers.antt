-- Each place adds whether its node is a served member, so that the sum is the number of these.
use Rattle.std.proofs.Common.{sym, ◌∙◌, cond, ℕ, List, rules, tests, arith}
use Rattle.std.specs.List.{enumerate_from}
use Rattle.std.proofs.lemmas.Iterator.{YieldsList-from_slice, YieldsList-from_map}
use Rattle.std.proofs.lemmas.Iterator.Consumers.{YieldsList-from_enumerate, sum_by_from_yields_List, fits_by_from_yields_list}
use Rattle.std.proofs.lemmas.List.Sums.{length-filter, count_by-le-length}
use Rattle.std.proofs.lemmas.List.FromFn.{length-enumerate_from}
use Rattle.summary.proofs.CountLaws.{serves, served_filtered}
use Rattle.summary.proofs.counts.served.Goals as goal

-- what a place and its mark add
abbrev adds : List ℕ → ℕ × ℕ → ℕ
adds words p = cond (serves words p) 1 0

pub sum-requires-clause-fits : goal.sum-requires-clause-fits
sum-requires-clause-fits c =
    let marks = c.args.marks.now in
    let words = c.args.words.now in
    let places = enumerate_from 0 marks in
    fits_by_from_yields_list (adds words) places c.map.result _
    (YieldsList-from_map _ (adds words) (YieldsList-from_enumerate (YieldsList-from_slice marks (cc)) (cc)) c.map.ensures.closure (λ x r q k. search (rules, tests)))
    (omega (arith, count_by-le-length (serves words) places, length-enumerate_from 0 marks))

pub returns : goal.returns
returns c =
    let marks = c.args.marks.now in
    let words = c.args.words.now in
    let places = enumerate_from 0 marks in
    sum_by_from_yields_List (adds words) places c.map.result _ c.sum.ensures.ran
    (YieldsList-from_map _ (adds words) (YieldsList-from_enumerate (YieldsList-from_slice marks (cc)) (cc)) c.map.ensures.closure (λ x r q k. search (rules, tests)))
    ∙ sym (length-filter (serves words) places)
    ∙ served_filtered words marks
