-- Where there is room, the file is in the area, and the part that holds it takes the new state.
use Rattle.std.proofs.Common.{ℕ, List, refl, sym, ◌∙◌, arith}
use Rattle.answers.proofs.VerdictLaws.{exit}
use Rattle.park.specs.Layout.{first_cell}
use Rattle.park.specs.ParkFile.{state_bytes}
use Rattle.table.specs.Slices.{cells_of}
use Rattle.area.proofs.AreaLaws.{room_fine, refused_stays, sets_in_area}
use Rattle.area.proofs.state.put_with_state.Goals as goal

pub returns-in_err-put_file : goal.returns-in_err-put_file
returns-in_err-put_file c =
    let put = c.in_err-put_file.ensures.put in
    let e = exit c.from_residual.ensures.1 refl in
    record { put = (e ∙ put.0, refused_stays _ _ _ _ _ e put.1) }

pub overflow_add-end : goal.overflow_add-end
overflow_add-end c = omega (arith, room_fine _ _ _ (sym c.in_ok-put_file.ensures.put.0))

pub slice_bounds-put_state-end : goal.slice_bounds-put_state-end
slice_bounds-put_state-end c = omega (arith, room_fine _ _ _ (sym c.in_ok-put_file.ensures.put.0), c.put_file.auto.area)

pub returns : goal.returns
returns c =
    let a = c.args in
    let put = c.in_ok-put_file.ensures.put in
    let room = room_fine _ _ _ (sym put.0) in
    let state : List ℕ = state_bytes (cells_of a.table.now.dists.now a.table.now.parents.now a.table.now.marks.now) in
    let whole =
    sets_in_area a.area.now c.put_file.new.area a.file.now a.place (first_cell a.links) state room.0 put.1 _ c.put_state.ensures in
    record { put = (put.0, whole) }
