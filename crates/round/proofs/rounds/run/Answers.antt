-- The run is that of the slices' fronts, as many nodes as all three have, and at most as many as the room for the next round has.
use Rattle.std.proofs.Common.{ℕ, min, ap, ◌∙◌}
use Rattle.round.proofs.OverLaws.{run_fronts}
use Rattle.round.proofs.rounds.run.Goals as goal

pub returns : goal.returns
returns c =
    record {
      ran = run_fronts _ c.args.net.now _ _ _ _ (c.shorter-n.ensures ∙ ap (λ (k : ℕ). min 256 k) c.shortest.ensures) _ _ _ _ c.run_nodes.ensures.ran;
    }
