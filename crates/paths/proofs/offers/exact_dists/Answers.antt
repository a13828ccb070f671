-- The part that is lent has as many nodes as a park may have, and the rest stays as it is.
use Rattle.std.proofs.Common.{◌≡◌, ℕ, ◌≤◌, min, length, take, sym, ap, ◌∙◌, arith}
use borrow.Author.Rules.{rules}
use Rattle.std.proofs.lemmas.List.Edits.{sets}
use Rattle.measure.specs.Measure.{most_nodes}
use Rattle.table.specs.Lent.{links_in}
use Rattle.table.proofs.PartLaws.{part, sets_front}
use Rattle.paths.specs.Offers.{dists_from}
use Rattle.paths.proofs.offers.exact_dists.Goals as goal

pub returns : goal.returns
returns c =
    let n : ℕ = c.shorter-n.result in
    let room : n ≤ length c.args.dists.now = omega (arith, c.shorter-n.ensures) in
    let few : length (take n c.args.dists.now) ≡ min most_nodes (length c.args.dists.now) = sym (part _ c.args.dists.now room) ∙ c.shorter-n.ensures in
    let long : length c.find_dists.new.dists ≡ length (take n c.args.dists.now) = search rules in
    record {
      found =
          sym (sets_front c.args.dists.now c.find_dists.new.dists n (long ∙ sym (part _ c.args.dists.now room)) room)
          ∙ ap (sets c.args.dists.now 0)
          (c.find_dists.ensures ∙ ap (λ (k : ℕ). dists_from k c.args.root (links_in c.args.links.now)) few);
    }
