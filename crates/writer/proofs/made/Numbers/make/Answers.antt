-- The head and the fields behind it are one store.
use Rattle.writer.specs.Made.{file_of}
use Rattle.writer.specs.Fields.{from_links}
use Rattle.writer.proofs.MakeLaws.{file_go}
use Rattle.writer.proofs.made.Numbers.make.Goals as goal

pub returns : goal.returns
unfolding file_of
returns c =
    let a = c.args in
    let n = a.self.now in
    record {
      made =
          file_go a.out.now n.nodes n.root (from_links n) c.put_head.ensures c.put16.ensures c.put16-2.ensures c.make_links.ensures.made;
    }
