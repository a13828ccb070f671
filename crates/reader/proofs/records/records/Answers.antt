-- A turn of the loop is a step of the definition.
use Rattle.std.proofs.Common.{◌≡◌, ◌+◌, ◌-◌, ◌*◌, sym, ◌∙◌, arith}
use Rattle.park.specs.Layout.{first_link, link_size}
use Rattle.answers.proofs.VerdictLaws.{exit}
use Rattle.reader.proofs.RecordsLaws.{links_out, links_on, links_none}
use Rattle.reader.proofs.records.records.Goals as goal

pub returns-in_err-link : goal.returns-in_err-link
returns-in_err-link c =
    let l = c.loop-i in
    exit c.from_residual.ensures.1 (links_out _ _ _ _ (c.args.links - l.i) _ (omega arith) (sym c.in_err-link.ensures) ∙ sym l.invariant)

pub loop-i-preserved : goal.loop-i-preserved
loop-i-preserved c =
    let l = c.loop-i in
    let a = c.args in
    let place : first_link + link_size * l.i + 6 ≡ first_link + link_size * (l.i + 1) = omega arith in
    let left : a.links - l.i - 1 ≡ a.links - (l.i + 1) = omega arith in
    let e = links_on a.file.now a.nodes (first_link + link_size * l.i) l.before (a.links - l.i) (omega arith) (sym c.in_ok-link.ensures) in
    rw (← place, ← left, c.key-before.ensures, c.read.ensures.key) (l.invariant ∙ e)

pub returns : goal.returns
returns c = links_none _ _ _ _ (c.args.links - c.loop-i.i) (omega arith) ∙ sym c.loop-i.invariant
