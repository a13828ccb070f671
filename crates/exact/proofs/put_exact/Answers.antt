-- The exact table is left in parts of the arrays that are as long as the file says, and goes into the file where there is room.
use Rattle.std.proofs.Common.{sym, ◌∙◌}
use Rattle.table.proofs.PartLaws.{part}
use Rattle.park.proofs.ParkLaws.{nodes_room}
use Rattle.exact.proofs.ExactFileLaws.{found_table, exact_placed}
use Rattle.exact.proofs.put_exact.Goals as goal

pub returns : goal.returns
returns c =
    let t = c.exact_table in
    let read = c.args.read.now.read_as in
    let a = c.args in
    let put = c.put_with_state in
    let long = c.from-n.ensures ∙ read.nodes in
    let few = nodes_room _ _ read.fine long in
    let size = sym (part _ _ few) ∙ long in
    record {
      put = (
        put.ensures.put.0,
        exact_placed a.read.now.file.now a.area.now put.new.area _ t.new.dists _ t.new.parents _ t.new.marks a.place c.from-n.result a.read.now.head put.result
            a.read.now.bytes read
            (found_table a.read.now.file.now a.read.now.bytes a.read.now.head read _ _ _ _ _ _ (size, sym (part _ _ few) ∙ long, sym (part _ _ few) ∙ long) t.ensures)
            (t.auto.dists, t.auto.parents, t.auto.marks) (few, few, few) put.ensures.put.1,
      );
    }
