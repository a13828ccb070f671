-- The field is put where there is a number of links; else its length is one that no field may have.
use Rattle.writer.specs.Fields.{from_group}
use Rattle.writer.proofs.MakeLaws.{links_go, links_stop}
use Rattle.writer.proofs.made.Numbers.make_links.Goals as goal

pub returns-in_default : goal.returns-in_default
returns-in_default c =
    let a = c.args in
    let n = a.self.now in
    record {
      made =
          links_stop a.out.now n.links.now (from_group n)
          c.in_default.ensures c.put_head.ensures;
    }

pub returns : goal.returns
returns c =
    let a = c.args in
    let n = a.self.now in
    record {
      made =
          links_go a.out.now n.links.now (from_group n) _
          c.in-Some.ensures c.put_head-2.ensures c.put_numbers.ensures c.make_group.ensures.made;
    }
