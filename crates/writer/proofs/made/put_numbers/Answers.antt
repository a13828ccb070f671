use Rattle.std.proofs.Common.{sym, ap, ◌+◌, ◌*◌, ◌∙◌}
use Rattle.std.proofs.lemmas.List.Edits.{sets}
use Rattle.writer.proofs.MakeLaws.{link_number_turn, numbers_none}
use Rattle.writer.proofs.made.put_numbers.Goals as goal

pub loop-i-preserved : goal.loop-i-preserved
loop-i-preserved c =
    let l = c.loop-i in
    let t = link_number_turn _ l.out c.args.list.now l.i c.loop-i-test.true l.invariant in
    rw (← c.put16.ensures) at t

pub returns : goal.returns
returns c =
    let l = c.loop-i in
    ap (sets l.out (10 + 2 * l.i)) (sym (numbers_none c.args.list.now l.i c.loop-i-test.false)) ∙ l.invariant
