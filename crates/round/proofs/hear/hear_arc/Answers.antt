-- What the callees ensure is put together: the offer, whether the neighbour asks, and the better of the two.
use Rattle.std.proofs.Common.{ℕ, ap, ap₂, ◌∙◌}
use Rattle.measure.specs.Measure.{plus}
use Rattle.rule.specs.Round.{through}
use Rattle.round.specs.declared.keep.Best.{Best}
use Rattle.round.specs.Keep.{arc_of, kept}
use Rattle.round.specs.Hear.{with_asked, hear}
use Rattle.round.proofs.hear.hear_arc.Goals as goal

pub returns : goal.returns
unfolding hear through
returns c =
    rw c.from-from.ensures at
    (c.keep.ensures
    ∙ ap₂ (λ (b : Best) (x : ℕ). kept b x (arc_of c.args.arc))
    (c.with_asked-told.ensures ∙ ap (with_asked c.args.best) c.asks_for.ensures)
    (c.plus-offer.ensures ∙ ap (λ (x : ℕ). plus x c.args.arc.cost.0) c.dist_at.ensures))
