-- "Write a park given by its numbers": the file that the numbers would make.
-- Links come as 16-bit numbers, three to a link: lower node, higher node, cost (in cost units).
use Rattle.std.specs.Prelude.{ℕ, ◌*◌, ◌%◌, Bool, ◌&&◌, cond, List, [], ◌∷◌, ◌++◌, length, leb, eqb}
use Rattle.rule.specs.Round.{Link}
use Rattle.wire.specs.Big.{bytes_of}
use Rattle.measure.specs.Measure.{most_nodes, most_links}
use Rattle.park.specs.Layout.{group_size}
use Rattle.park.specs.ParkFile.{field, state_bytes}
use Rattle.table.specs.Slices.{cells_of}

-- "Each number has its field's width": 16-bit numbers, one behind the other
unfoldable pub numbers : List ℕ → List ℕ
numbers [] = []
numbers (x ∷ xs) = bytes_of 2 x ++ numbers xs

-- the numbers of links, three to a link
unfoldable pub flat : List Link → List ℕ
flat [] = []
flat (l ∷ ls) = l.low ∷ l.high ∷ l.cost ∷ flat ls

-- A field and the fields behind it. Where the numbers are not as many as the field takes, its length is one that no field may have and
-- the file ends there: Check gives 3 at the place where that field starts.
unfoldable pub made : ℕ → Bool → List ℕ → List ℕ → List ℕ
made tag right body rest = cond right (field tag body ++ rest) (tag ∷ 255 ∷ 255 ∷ [])

-- "a state not of n nodes"; more than 256 nodes have no file
abbrev pub state_right : ℕ → List ℕ → List ℕ → List ℕ → Bool
state_right n dists parents marks = leb n most_nodes && (eqb (length dists) n && (eqb (length parents) n && eqb (length marks) n))

unfoldable pub state_made : ℕ → List ℕ → List ℕ → List ℕ → List ℕ
state_made n dists parents marks = made 4 (state_right n dists parents marks) (state_bytes (cells_of dists parents marks)) []

-- "a group not of 32 bytes"
unfoldable pub group_made : List ℕ → List ℕ → List ℕ
group_made group rest = made 3 (eqb (length group) group_size) group rest

-- "more than 1,024 links"; three numbers to a link
abbrev pub links_right : List ℕ → Bool
links_right links = eqb (length links % 3) 0 && leb (length links) (3 * most_links)

unfoldable pub links_made : List ℕ → List ℕ → List ℕ
links_made links rest = made 2 (links_right links) (numbers links) rest

-- the file that the numbers would make
unfoldable pub file_of : ℕ → ℕ → List ℕ → List ℕ → List ℕ → List ℕ → List ℕ → List ℕ
file_of n root links group dists parents marks =
    field 1 (bytes_of 2 n ++ bytes_of 2 root) ++ links_made links (group_made group (state_made n dists parents marks))
