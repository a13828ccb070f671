-- A file that was read has no more links and nodes than the arrays have room for, and the way over its slices is the way in its park.
use Rattle.std.proofs.Common.{◌∙◌}
use Rattle.rule.specs.Round.{Link, Cell}
use Rattle.park.proofs.ParkLaws.{nodes_room, links_room}
use Rattle.reader.proofs.ApartLaws.{link_part, state_part}
use Rattle.way.proofs.WayFileLaws.{way_apart}
use Rattle.way.proofs.way_in.Goals as goal

pub returns : goal.returns
returns c =
    let read = c.args.read.now.read_as in
    let few = links_room _ _ read.fine (c.from-l.ensures ∙ read.links) in
    rw (c.way_of.ensures.led, read.root)
    (way_apart _ c.args.read.now.bytes read.fine c.args.node _ _ _
    (link_part _ _ read _ _ (λ (x : Link). x.low) c.from-l.result c.from-l.ensures few c.take_links.ensures.taken.0)
    (link_part _ _ read _ _ (λ (x : Link). x.high) c.from-l.result c.from-l.ensures few c.take_links.ensures.taken.1)
    (state_part _ _ read _ _ (λ (x : Cell). x.parent) c.from-n.result c.from-n.ensures (nodes_room _ _ read.fine (c.from-n.ensures ∙ read.nodes)) c.take_state.ensures.taken.1))
