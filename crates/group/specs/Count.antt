-- How many members a group set has, in nodes.
use Rattle.std.specs.Prelude.{ℕ, suc, Bool, cond, List, [], ◌∷◌}
use Rattle.measure.specs.Measure.{most_nodes}
use Rattle.rule.specs.Round.{numbered}
use Rattle.group.specs.Group.{member_in}

-- how many of the numbers pass the test
unfoldable pub count : (ℕ → Bool) → List ℕ → ℕ
count f [] = 0
count f (i ∷ xs) = cond (f i) (suc (count f xs)) (count f xs)

-- "Members are counted over whole words of the group set": all the 256 numbers that the four words have a bit for
unfoldable pub members_of : List ℕ → ℕ
members_of words = count (member_in 64 words) (numbered 1 most_nodes)
