-- Behind the last byte that has room nothing is left to put.
use Rattle.std.proofs.Common.{sym, ◌∙◌, arith}
use Rattle.wire.proofs.StoreLaws.{sets_out, sets_cut}
use Rattle.wire.proofs.bytes.put_bytes.Goals as goal

pub returns-after-loop-i : goal.returns-after-loop-i
returns-after-loop-i c =
    let l = c.loop-i in
    sym (sets_cut l.s c.args.bytes.now c.args.place l.i (omega (arith, c.min-n.ensures, c.loop-i-test.false, l.auto.s))) ∙ l.invariant

pub returns-else-place-s : goal.returns-else-place-s
returns-else-place-s c = sym (sets_out c.args.s.now c.args.place c.args.bytes.now c.if-place-s.false)
