-- No more nodes are counted than there are marks, so both counts fit.
use Rattle.std.proofs.Common.{length, arith}
use Rattle.summary.specs.Summary.{marked_at, served_at, marked_of, served_of}
use Rattle.summary.proofs.SummaryLaws.{count_most}
use Rattle.summary.proofs.count_all.Goals as goal

pub overflow_cast-marked : goal.overflow_cast-marked
unfolding marked_of
overflow_cast-marked c =
    let a = c.args in
    omega (arith, c.marked-marked.ensures, count_most (marked_at a.marks.now) 1 (length a.marks.now))

pub overflow_cast-served : goal.overflow_cast-served
unfolding served_of
overflow_cast-served c =
    let a = c.args in
    omega (arith, c.served-served.ensures, count_most (served_at a.words.now a.marks.now) 1 (length a.marks.now))
