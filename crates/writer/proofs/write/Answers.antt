-- The file is made in the array, checked there, and put into the area if there is room.
use Rattle.std.proofs.Common.{sym, ap, ◌∙◌}
use Rattle.answers.proofs.VerdictLaws.{exit}
use Rattle.park.specs.Reading.{verdict_of}
use Rattle.park.proofs.CheckedLaws.{head_found, refusal_found}
use Rattle.writer.specs.Made.{file_of}
use Rattle.writer.specs.Write.{write_of}
use Rattle.writer.proofs.MakeLaws.{file_small}
use Rattle.writer.proofs.WriteLaws.{Held, held, write_refused, write_room}
use Rattle.writer.proofs.write.Goals as goal
use Rattle.writer.proofs.write.Goals.{After-make-size}

-- what the array holds once the file is made
made : (c : After-make-size)
    → let a = c.args in
    Held (file_of a.nodes a.root a.links.now a.group.now a.dists.now a.parents.now a.marks.now) c.make-size.result c.make-size.new.out
made c =
    let a = c.args in
    held _ _ c.make-size.result c.make-size.new.out c.make-size.ensures.made.0 c.make-size.auto.out
    (file_small a.nodes a.root a.links.now a.group.now a.dists.now a.parents.now a.marks.now) c.make-size.ensures.made.1

pub slice_bounds-made-end : goal.slice_bounds-made-end
slice_bounds-made-end c = (made (goal.at.slice_bounds-made-end c).After-make-size).room

pub slice_bounds-file-end : goal.slice_bounds-file-end
slice_bounds-file-end c = (made (goal.at.slice_bounds-file-end c).After-make-size).count

pub returns-in_err-read : goal.returns-in_err-read
returns-in_err-read c =
    let h = made (goal.at.returns-in_err-read c).After-make-size in
    let w = write_refused _ _ _ _ (ap verdict_of (sym h.front) ∙ refusal_found _ _ (sym c.in_err-read.ensures)) in
    record { answered = exit c.from_residual.ensures.1 w.0; written = w.1 }

pub returns-in_err-put_file : goal.returns-in_err-put_file
unfolding write_of
returns-in_err-put_file c =
    let h = made (goal.at.returns-in_err-put_file c).After-make-size in
    let fine = ap verdict_of (sym h.front) ∙ (head_found _ _ (sym c.in_ok-read.ensures)).fine in
    let put = c.in_err-put_file.ensures.put in
    let w = write_room _ _ _ c.put_file.new.area _ _ h.front fine put.0 put.1 in
    record { answered = exit c.from_residual-in_err-put_file.ensures.1 (simp (sym w.0)); written = w.1 }

pub returns : goal.returns
unfolding write_of
returns c =
    let h = made (goal.at.returns c).After-make-size in
    let fine = ap verdict_of (sym h.front) ∙ (head_found _ _ (sym c.in_ok-read.ensures)).fine in
    let put = c.in_ok-put_file.ensures.put in
    let w = write_room _ _ _ c.put_file.new.area _ _ h.front fine put.0 put.1 in
    record { answered = simp (sym w.0, h.said); written = w.1 }
