-- Where there is room, the part of the area that starts at the place takes the file.
use Rattle.std.proofs.Common.{[], refl, sym, ◌∙◌, arith}
use Rattle.answers.proofs.VerdictLaws.{exit}
use Rattle.area.specs.Area.{area_with}
use Rattle.area.proofs.AreaLaws.{area_put, room_fine, refused_stays}
use Rattle.area.proofs.put_file.Goals as goal

pub returns-in_err-room : goal.returns-in_err-room
unfolding area_with
returns-in_err-room c =
    let e = exit c.from_residual.ensures.1 refl in
    record { put = (e ∙ c.in_err-room.ensures, refused_stays [] _ _ _ _ e refl) }

pub slice_bounds-put_bytes-count : goal.slice_bounds-put_bytes-count
slice_bounds-put_bytes-count c = omega (arith, room_fine _ _ _ (sym c.in_ok-room.ensures))

pub slice_bounds-put_bytes-start : goal.slice_bounds-put_bytes-start
slice_bounds-put_bytes-start c = omega (arith, room_fine _ _ _ (sym c.in_ok-room.ensures))

pub returns : goal.returns
returns c =
    let fits = room_fine _ _ _ (sym c.in_ok-room.ensures) in
    let p = area_put c.args.area.now c.args.file.now c.args.place fits.0 fits.1 in
    record { put = (c.in_ok-room.ensures, rw (sym c.put_bytes.ensures) at p) }
