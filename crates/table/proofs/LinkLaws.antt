-- The links that three slices hold, taken one by one from the front.
use Prim.Native.Nat.{ℕ, zero, suc, ◌≤◌, ◌<◌, min}
use native.Mathlib.Nat.{not-suc-le-zero, le_of_suc-le-suc}
use native.Mathlib.Omega.{arith}
use mathlib.Core.Path.{◌≡◌, refl}
use mathlib.Core.List.{List, [], ◌∷◌}
use lib.ListN.{length, drop, drop_of_length-le}
use Rattle.table.specs.Slices.{links_of}
use Rattle.table.specs.Nodes.{link_at}

links_le : (ls hs cs : List ℕ) → length (links_of ls hs cs) ≤ min (length ls) (min (length hs) (length cs))
unfolding links_of
links_le [] hs cs = omega arith
links_le (l ∷ ls) [] cs = omega arith
links_le (l ∷ ls) (h ∷ hs) [] = omega arith
links_le (l ∷ ls) (h ∷ hs) (c ∷ cs) = omega (arith, links_le ls hs cs)

-- past the last place of the shortest slice there is no link
pub links_past : (ls hs cs : List ℕ) (j : ℕ) → min (length ls) (min (length hs) (length cs)) ≤ j → drop j (links_of ls hs cs) ≡ []
links_past ls hs cs j h = let z : length (links_of ls hs cs) ≤ j = omega (arith, links_le ls hs cs) in drop_of_length-le (links_of ls hs cs) z

-- at any other place the next link is the one that stands there
pub links_next : (ls hs cs : List ℕ) (j : ℕ) → j < length ls → j < length hs → j < length cs → drop j (links_of ls hs cs) ≡ link_at ls hs cs j ∷ drop (suc j) (links_of ls hs cs)
unfolding links_of
links_next [] hs cs j a b c = absurd (not-suc-le-zero a)
links_next (l ∷ ls) [] cs j a b c = absurd (not-suc-le-zero b)
links_next (l ∷ ls) (h ∷ hs) [] j a b c = absurd (not-suc-le-zero c)
links_next (l ∷ ls) (h ∷ hs) (x ∷ cs) zero a b c = refl
links_next (l ∷ ls) (h ∷ hs) (x ∷ cs) (suc j) a b c = links_next ls hs cs j (le_of_suc-le-suc a) (le_of_suc-le-suc b) (le_of_suc-le-suc c)
