-- The arrays are as long as the largest park needs, so a part of each is as long as the file says; the run's table is left there, and
-- its bytes in the file are the new file.
use Rattle.std.proofs.Common.{ℕ, ◌≡◌, refl, sym, ◌∙◌, arith}
use Rattle.table.proofs.PartLaws.{part}
use Rattle.park.proofs.ParkLaws.{nodes_room}
use Rattle.run.proofs.RunFileLaws.{ends_refused, ends_done}
use Rattle.run.proofs.run_read.Goals as goal

pub run_apart-ran-requires : goal.run_apart-ran-requires
run_apart-ran-requires c =
    let long = c.from-n.ensures ∙ c.args.read.now.read_as.nodes in
    let few = nodes_room _ _ c.args.read.now.read_as.fine long in
    (sym (part _ _ few) ∙ long, sym (part _ _ few) ∙ long, sym (part _ _ few) ∙ long)

pub returns-in_err-unsettled : goal.returns-in_err-unsettled
returns-in_err-unsettled c =
    let a = c.args in
    ends_refused a.read.now.file.now a.area.now a.count.0 a.place _ c.run_apart-ran.result _ c.run_apart-ran.ensures.0
    c.in_err-unsettled.ensures refl c.from_residual.ensures.1

pub returns-in_err-put_with_state : goal.returns-in_err-put_with_state
returns-in_err-put_with_state c =
    let e = c.in_err-put_with_state.ensures.put.0 ∙ c.requires in
    let z : ◌≡◌ {A = ℕ} 0 1 = cc in
    absurd (omega arith)

pub returns : goal.returns
returns c =
    let ran = c.run_apart-ran in
    let read = c.args.read.now.read_as in
    let a = c.args in
    let few = nodes_room _ _ read.fine (c.from-n.ensures ∙ read.nodes) in
    ends_done a.read.now.file.now a.area.now c.put_with_state.new.area _ ran.new.dists _ ran.new.parents _ ran.new.marks
    a.count.0 a.place c.from-n.result a.read.now.head ran.result _ _ c.args.read.now.bytes read
    c.from-n.ensures ran.ensures.0 c.in_ok-unsettled.ensures refl ran.ensures.1
    (ran.auto.dists, ran.auto.parents, ran.auto.marks) (few, few, few) c.requires c.in_ok-put_with_state.ensures.put.0 c.in_ok-put_with_state.ensures.put.1
