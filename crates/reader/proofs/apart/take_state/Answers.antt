use Rattle.std.proofs.Common.{refl, ◌<◌, ◌≤◌, arith}
use Rattle.rule.specs.Round.{Cell}
use Rattle.park.specs.Layout.{first_cell}
use Rattle.park.specs.Reading.{cells_read}
use Rattle.reader.proofs.FillLaws.{cell_turn, cell_rest}
use Rattle.reader.proofs.apart.take_state.Goals as goal

pub loop-i-init : goal.loop-i-init
unfolding cells_read
loop-i-init c = (refl, refl, refl)

pub loop-i-preserved : goal.loop-i-preserved
loop-i-preserved c =
    let l = c.loop-i in
    let s = c.args.file.now in
    let first = first_cell c.args.links in
    let at = c.first_cell-first.ensures in (
      cell_turn s (λ (k : Cell). k.dist) first l.i _ _ _ _ l.invariant.0 (rw at at c.read-cell.ensures.dist) c.put_at.ensures,
      cell_turn s (λ (k : Cell). k.parent) first l.i _ _ _ _ l.invariant.1 (rw at at c.read-cell.ensures.parent) c.put_at-in-loop-i.ensures,
      cell_turn s (λ (k : Cell). k.mark) first l.i _ _ _ _ l.invariant.2 (rw at at c.read-cell.ensures.mark) c.put_at-in-loop-i-2.ensures,
    )

pub returns : goal.returns
returns c =
    let l = c.loop-i in
    let a = c.args in
    let s = a.file.now in
    let first = first_cell a.links in
    let most : l.i ≤ a.nodes = omega (arith, l.auto.i-end, c.loop-i-test.false, c.min-i-end.ensures, c.from.ensures) in
    -- the loop ends early only where no slice has room
    let full : l.i < a.nodes → c.max-room.result ≤ l.i = λ h. omega (arith, c.loop-i-test.false, c.min-i-end.ensures, c.from.ensures) in
    record {
      taken = (
        cell_rest s (λ (k : Cell). k.dist) first l.i a.nodes _ _ most (λ h. omega (arith, full h, c.max.ensures, c.max-room.ensures)) l.invariant.0,
        cell_rest s (λ (k : Cell). k.parent) first l.i a.nodes _ _ most (λ h. omega (arith, full h, c.max.ensures, c.max-room.ensures)) l.invariant.1,
        cell_rest s (λ (k : Cell). k.mark) first l.i a.nodes _ _ most (λ h. omega (arith, full h, c.max.ensures, c.max-room.ensures)) l.invariant.2,
      );
    }
