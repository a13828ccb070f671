-- A file that was read has no more nodes than the arrays have room for, and the counts over its words and marks are its own.
use Rattle.std.proofs.Common.{◌≡◌, ◌∙◌, arith}
use Rattle.rule.specs.Round.{Cell}
use Rattle.park.proofs.ParkLaws.{nodes_room}
use Rattle.reader.proofs.ApartLaws.{state_part}
use Rattle.summary.proofs.SummaryLaws.{counts_apart}
use Rattle.summary.proofs.counts_in.Goals as goal

pub returns : goal.returns
returns c =
    let file = c.args.read.now.file.now in
    let read = c.args.read.now.read_as in
    let head = c.args.read.now.head in
    let few = nodes_room _ _ read.fine read.nodes in
    let all : c.min-n.result ≡ head.nodes = omega (arith, c.min-n.ensures, c.from.ensures, few) in
    let room = nodes_room _ _ read.fine (all ∙ read.nodes) in
    counts_apart file c.args.read.now.bytes read.fine _ _ _
    (rw read.links at c.take_group.ensures)
    (state_part file _ read _ _ (λ (x : Cell). x.mark) c.min-n.result all room c.take_state.ensures.taken.2)
    c.count_all.ensures.0
    c.count_all.ensures.1
    c.count_all.ensures.2
