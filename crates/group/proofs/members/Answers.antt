-- Four words have at most 256 ones, and these are the members.
use Rattle.std.proofs.Common.{take, ◌∙◌, rules, arith}
use Rattle.std.specs.Prelude.{count_ones}
use Rattle.std.proofs.lemmas.Iterator.{YieldsList-from_slice, YieldsList-from_take, YieldsList-from_map}
use Rattle.std.proofs.lemmas.Iterator.Consumers.{sum_by_from_yields_List, fits_by_from_yields_list}
use Rattle.group.proofs.WordLaws.{ones_sum, ones_few}
use Rattle.group.proofs.members.Goals as goal

pub sum-requires-clause-fits : goal.sum-requires-clause-fits
sum-requires-clause-fits c =
    let words = c.args.words.now in
    fits_by_from_yields_list count_ones (take 4 words) c.map.result _
    (YieldsList-from_map _ count_ones (YieldsList-from_take 4 (YieldsList-from_slice words (cc)) (cc)) c.map.ensures.closure (λ x r q k. search rules))
    (omega (arith, ones_few words λ i. (c.type_inv.words i).fits))

pub returns : goal.returns
returns c =
    let words = c.args.words.now in
    sum_by_from_yields_List count_ones (take 4 words) c.map.result _ c.sum.ensures.ran
    (YieldsList-from_map _ count_ones (YieldsList-from_take 4 (YieldsList-from_slice words (cc)) (cc)) c.map.ensures.closure (λ x r q k. search rules))
    ∙ ones_sum words λ i. (c.type_inv.words i).fits
