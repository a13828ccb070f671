use Rattle.std.proofs.Common.{arith, sym, ◌∙◌, ◌+◌, ◌*◌}
use Rattle.wire.proofs.StoreLaws.{sets_out}
use Rattle.area.proofs.StateLaws.{rest, put_next, put_all}
use Rattle.area.proofs.state.put_cells.Goals as goal

pub returns-then-area-at : goal.returns-then-area-at
returns-then-area-at c =
    let a = c.args in
    let l = c.loop-i in
    let left = rest a.table.now.dists.now a.table.now.parents.now a.table.now.marks.now l.i in
    sym (sets_out l.area (a.from + 7 * l.i) left (omega (arith, l.invariant.0, c.if-area-at.true))) ∙ l.invariant.1

pub loop-i-preserved : goal.loop-i-preserved
loop-i-preserved c =
    let a = c.args in
    let l = c.loop-i in
    let next = put_next a.table.now.dists.now a.table.now.parents.now a.table.now.marks.now _ l.area _ a.from l.i _ (omega (arith, c.shortest-i-end.ensures)) (omega (arith, l.invariant.0, c.if-area-at.false)) (omega arith) c.put_cell.ensures l.invariant.1 in
    (omega (arith, l.invariant.0), next)

pub returns : goal.returns
returns c =
    let a = c.args in
    let l = c.loop-i in
    put_all a.table.now.dists.now a.table.now.parents.now a.table.now.marks.now _ l.area _ l.i (omega (arith, c.shortest-i-end.ensures)) l.invariant.1
