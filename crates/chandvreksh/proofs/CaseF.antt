-- Case F of document 01 through Exact: "exact distance of 4 is 7, parent 2."
use Prim.Native.Nat.{ℕ, zero, suc}
use native.Mathlib.Omega.{arith}
use mathlib.Core.Path.{◌≡◌, refl, ◌∙◌, ap}
use mathlib.Core.Bool.{Bool, true, false, ◌&&◌}
use mathlib.Core.List.{List, [], ◌∷◌}
use lib.ListN.{length}
use lib.Dec.{T, leb, leb→le}
use Rattle.wire.specs.Big.{Bytes, big, bytes_of}
use Rattle.group.specs.Group.{bit_set, member_in}
use Rattle.rule.specs.Round.{through, least, giving, before, first, chosen, new_dist, parent_at, asked, new_mark, new_cell, at, numbered, round, arcs_of, net_of}
use Rattle.rule.proofs.Demand3 as demand3
use Rattle.std.specs.Prelude.{Result}
use Rattle.answers.specs.declared.refusal.Refusal.{Refusal}
use Rattle.park.specs.ParkFile.{park_in, field, link_bytes, state_bytes, encode, with_state}
use Rattle.answers.specs.Verdicts.{fine, unless, ◌then◌}
use Rattle.park.specs.Reading.{field_at, bounds_of, head_in, link_at, links_from, links_in, bits_clear, group_in, state_in, end_in, verdict_of, links_read, cells_read, file_in, read_park, park}
use Rattle.park.proofs.ParkLaws.{read_park_ok}
use Rattle.area.specs.Area.{area_with}
use Rattle.exact.specs.Exact.{exact_verdict, Exacted}
use Rattle.chandvreksh.specs.Cases.{file_f, zeros, exact_f}

-- the file is read
read_f : read_park (file_f (zeros 4)) ≡ park (file_in (file_f (zeros 4)))
unfolding big bytes_of field link_bytes state_bytes encode unless ◌then◌ field_at bounds_of head_in link_at links_from links_in bits_clear group_in state_in end_in verdict_of links_read cells_read file_in read_park
read_f = refl

-- a round leaves the table as it is
rests_f : round (net_of (park_in (file_in (file_f (zeros 4))))) (park_in (file_in (file_f (zeros 4)))).nodes exact_f ≡ exact_f
unfolding big bytes_of bit_set member_in through least giving before first chosen new_dist parent_at asked new_mark new_cell at numbered round arcs_of net_of park_in field link_bytes state_bytes encode links_read cells_read file_in
rests_f = refl

-- with it as the state, the file is this one
written_f : encode (with_state (file_in (file_f (zeros 4))) exact_f) ≡ file_f exact_f
unfolding big bytes_of field link_bytes state_bytes encode with_state links_read cells_read file_in
written_f = refl

-- a test that every element is a byte
small : List ℕ → Bool
small [] = true
small (x ∷ xs) = leb x 255 && small xs

both : (a b : Bool) → T (a && b) → T a × T b
both true b h = (tt, h)
both false b h = absurd h

small_bytes : (s : List ℕ) → T (small s) → Bytes s
unfolding small
small_bytes [] h zero = omega arith
small_bytes [] h (suc i) = omega arith
small_bytes (x ∷ xs) h zero = let e = leb→le x 255 (both (leb x 255) (small xs) h).0 in omega (arith, e)
small_bytes (x ∷ xs) h (suc i) = small_bytes xs (both (leb x 255) (small xs) h).1 i

bytes_f : Bytes (file_f (zeros 4))
unfolding small bytes_of field link_bytes state_bytes encode
bytes_f = small_bytes (file_f (zeros 4)) tt

-- what Exact leaves in an area with room for it
pub exact_f_lem : (old : List ℕ) (place : ℕ) (r : Result (Unit {0}) Refusal) (new : List ℕ)
    → Exacted (file_f (zeros 4)) old place r new → exact_verdict (file_f (zeros 4)) (length old) place ≡ fine → new ≡ area_with fine (file_f exact_f) place old
exact_f_lem old place r new x taken =
    x.written taken exact_f ((demand3.quiet (read_park_ok (file_f (zeros 4)) (file_in (file_f (zeros 4))) bytes_f read_f) exact_f).0 rests_f)
    ∙ ap (λ (y : List ℕ). area_with fine y place old) written_f
