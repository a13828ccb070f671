-- The number is 0, its word is past the end, or the word's bit decides.
use Rattle.std.proofs.Common.{arith, rules, tests}
use Rattle.group.proofs.MemberLaws.{member_zero, member_bit}
use Rattle.group.proofs.is_member.Goals as goal

pub returns-in_default : goal.returns-in_default
returns-in_default c = member_zero _ _ (omega (arith, c.in_default.ensures))

pub returns : goal.returns
returns c =
    member_bit c.args.words.now _ c.args.node c.get.result _ c.in-Some.ensures.0 c.in-Some.ensures.1 c.get.ensures.lookup
    (λ x h. search (rules, tests)) c.is_some_and.ensures
