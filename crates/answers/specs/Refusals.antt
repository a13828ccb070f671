-- Document 01's table "Numbers given back": the number and the place, in bytes, of each refusal.
use Rattle.std.specs.Fmt.{decimal}
use Rattle.std.specs.Prelude.{ℕ, List, ◌++◌, codes}
use Rattle.answers.specs.declared.refusal.Refusal.TheVariants.{Short, Tag, Length, Bounds, Ends, Order, Bit, After, Room, Count, Unsettled, Node}
use Rattle.answers.specs.declared.refusal.Refusal.{Refusal}

-- the table's first column
abbrev pub number_of : Refusal → ℕ
number_of (Short place) = 1
number_of (Tag place) = 2
number_of (Length place) = 3
number_of Bounds = 4
number_of (Ends place) = 5
number_of (Order place) = 6
number_of (Bit place) = 7
number_of (After place) = 8
number_of Room = 9
number_of Count = 10
number_of Unsettled = 11
number_of Node = 12

-- the table's last column
abbrev pub place_of : Refusal → ℕ
place_of (Short place) = place
place_of (Tag place) = place
place_of (Length place) = place
place_of Bounds = 0
place_of (Ends place) = place
place_of (Order place) = place
place_of (Bit place) = place
place_of (After place) = place
place_of Room = 0
place_of Count = 0
place_of Unsettled = 0
place_of Node = 0

-- how a refusal is printed: its number and its place, in decimal
abbrev pub refusal_text : Refusal → List ℕ
refusal_text r = codes "refused " ++ decimal (number_of r) ++ codes " at " ++ decimal (place_of r)
