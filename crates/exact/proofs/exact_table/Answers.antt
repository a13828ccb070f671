-- The first parts of the arrays hold the links that the head says, so what is found in them is found for the file.
use Rattle.std.proofs.Common.{◌≡◌, ◌≤◌, min, arith}
use Rattle.measure.specs.Measure.{most_links}
use Rattle.exact.proofs.ExactFileLaws.{found_here}
use Rattle.exact.proofs.exact_table.Goals as goal

pub returns : goal.returns
returns c =
    let room : c.from-l.result ≤ 1024 = omega (arith, c.from-l.ensures, c.min-count.ensures) in
    let few : c.min-count.result ≡ min most_links c.args.head.links = omega (arith, c.min-count.ensures) in
    found_here c.args.file.now c.args.head c.min-count.result c.from-l.result few c.from-l.ensures _ _ _ _ _ _ _ _ _ _ _ _ _ (room, room, room)
    c.take_park.ensures.taken c.exact_table.ensures
