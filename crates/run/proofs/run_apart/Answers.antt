-- The slices hold what the file holds, so the run over them is the run of the file's park from its state.
use Rattle.std.proofs.Common.{refl, ◌∙◌}
use Rattle.rule.specs.Round.{Link, Cell}
use Rattle.park.proofs.ParkLaws.{links_room}
use Rattle.reader.proofs.ApartLaws.{link_part, state_all}
use Rattle.run.proofs.RunFileLaws.{ran_apart}
use Rattle.run.proofs.run_apart.Goals as goal

pub returns : goal.returns
returns c =
    let read = c.args.read.now.read_as in
    let long = c.requires in
    let park = c.take_park.ensures.taken in
    let state = c.take_state.ensures.taken in
    let n = c.from-l.ensures in
    let f = c.args.read.now.file.now in
    let few = links_room _ _ read.fine (n ∙ read.links) in
    ran_apart f c.args.read.now.bytes _ read c.args.count.0 _ _ _ _ refl
    (link_part f _ read _ _ (λ (x : Link). x.low) c.from-l.result n few park.0)
    (link_part f _ read _ _ (λ (x : Link). x.high) c.from-l.result n few park.1)
    (link_part f _ read _ _ (λ (x : Link). x.cost) c.from-l.result n few park.2)
    park.3
    (state_all f _ read _ _ (λ (x : Cell). x.dist) long.0 state.0)
    (state_all f _ read _ _ (λ (x : Cell). x.parent) long.1 state.1)
    (state_all f _ read _ _ (λ (x : Cell). x.mark) long.2 state.2)
    _ _ _ _ c.run.ensures.ran
