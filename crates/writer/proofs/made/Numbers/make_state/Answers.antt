-- The field is put where it has a length; else its length is one that no field may have.
use Rattle.writer.proofs.MakeLaws.{state_go, state_stop}
use Rattle.writer.proofs.made.Numbers.make_state.Goals as goal

pub returns-in_default : goal.returns-in_default
returns-in_default c =
    let a = c.args in
    let n = a.self.now in
    record {
      made =
          rw (← c.state_at-at.ensures)
          (state_stop a.out.now c.state_at-at.result n.nodes n.table.dists.now n.table.parents.now n.table.marks.now c.in_default.ensures c.put_head.ensures);
    }

pub returns : goal.returns
returns c =
    let a = c.args in
    let n = a.self.now in
    record {
      made =
          rw (c.end_at.ensures, ← c.state_at-at.ensures)
          (state_go a.out.now c.state_at-at.result n.nodes n.table.dists.now n.table.parents.now n.table.marks.now _ c.in-Some.ensures c.put_head-2.ensures c.put_cells.ensures);
    }
