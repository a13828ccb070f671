-- A turn keeps the node that stands, or takes the one at hand.
use Rattle.std.proofs.Common.{◌≡◌, false, rules, tests}
use lib.ListN.{get_or}
use Rattle.paths.proofs.StandingLaws.{search_start, search_end, keep_settled, keep_nearer, take_nearer}
use Rattle.paths.proofs.nearest.nearest_node.Goals.{then-not-settled+then-dist-least, else-not-settled, else-not-settled-via-then-not-settled+else-dist-least, else-not-settled-via-else-not-settled}
use Rattle.paths.proofs.nearest.nearest_node.Goals as goal

pub loop-at-init : goal.loop-at-init
loop-at-init c = search_start _

pub loop-at-preserved : goal.loop-at-preserved
loop-at-preserved c =
    let settled : c.unwrap_or-settled.result ≡ get_or c.args.done.now c.loop-at.at false = search (rules, tests) in
    elim c.if-not-settled.branch [
      | then-not-settled+then-dist-least w ↦ take_nearer _ _ _ _ c.loop-at.invariant c.loop-at-test.true _ settled _ _ _ w.is_none.ensures
          w.if-not-settled.true w.if-dist-least.either w.best-is w.least-is
      | else-not-settled w ↦ elim w.else-not-settled.branch [
        | else-not-settled-via-then-not-settled+else-dist-least v ↦ keep_nearer _ _ _ _ c.loop-at.invariant c.loop-at-test.true _ settled _ _ _ v.is_none.ensures
            v.if-not-settled.true v.if-dist-least.false w.best-is w.least-is
        | else-not-settled-via-else-not-settled v ↦ keep_settled _ _ _ _ c.loop-at.invariant c.loop-at-test.true _ settled _ _
            v.if-not-settled.false w.best-is w.least-is
      ]
    ]

pub returns : goal.returns
returns c = search_end _ _ _ _ c.loop-at.invariant c.loop-at-test.false
