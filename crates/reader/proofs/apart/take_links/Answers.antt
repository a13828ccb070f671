use Rattle.std.proofs.Common.{refl}
use Rattle.rule.specs.Round.{Link}
use Rattle.park.specs.Layout.{first_link}
use Rattle.park.specs.Reading.{links_read}
use Rattle.reader.proofs.FillLaws.{link_turn}
use Rattle.reader.proofs.apart.take_links.Goals as goal

pub loop-i-init : goal.loop-i-init
unfolding links_read
loop-i-init c = (refl, refl, refl)

pub loop-i-preserved : goal.loop-i-preserved
loop-i-preserved c =
    let l = c.loop-i in
    let s = c.args.file.now in (
      link_turn s (λ (k : Link). k.low) first_link l.i _ _ _ _ l.invariant.0 c.read-link.ensures.low c.put_at.ensures,
      link_turn s (λ (k : Link). k.high) first_link l.i _ _ _ _ l.invariant.1 c.read-link.ensures.high c.put_at-in-loop-i.ensures,
      link_turn s (λ (k : Link). k.cost) first_link l.i _ _ _ _ l.invariant.2 c.read-link.ensures.cost c.put_at-in-loop-i-2.ensures,
    )
