-- Document 01's cases that are marked P, as one table: what a call is asked, and the values and the bytes that it comes to. Beside them
-- stand the easy errors that no case of its own shows: stored numbers near the limits, and numbers for Write that make no park.
-- Distances and costs are in cost units, counts in rounds, sizes and places in bytes.
use Rattle.std.specs.Prelude.{ℕ, ◌+◌, List, [], ◌∷◌, ◌++◌, length, replicate}
use Rattle.rule.specs.Round.{Cell, Link}
use Rattle.park.specs.ParkFile.{encode}
use Rattle.park.specs.Reading.{check_of}
use Rattle.writer.specs.Made.{file_of}
use Rattle.area.specs.Area.{area_with}
use Rattle.writer.specs.Write.{write_verdict, write_of}
use Rattle.run.specs.Run.{run_answer, run_verdict, run_file}
use Rattle.way.specs.Way.{way_answer}
use Rattle.answers.specs.Values.{values, check_values, run_values, write_values, way_values}

-- a call and what it is given
pub data Ask : Type 0 where
  check : List ℕ → Ask
  run : List ℕ → ℕ → Ask
  way : List ℕ → ℕ → Ask
  -- nodes, links, group, marks; the root is 1, the distances and parents are three zeros
  write : ℕ → List ℕ → List ℕ → List ℕ → Ask

-- a lent area: one byte before a file of so many bytes and one behind it
abbrev pub room : ℕ → List ℕ
room size = replicate (2 + size) 77

-- the lent area of a run
abbrev pub lent : List ℕ → List ℕ
lent s = room (length s)

-- the file that the numbers of a write would make
abbrev pub file_by : ℕ → List ℕ → List ℕ → List ℕ → List ℕ
file_by n ls g ms = file_of n 1 ls g (replicate 3 0) (replicate 3 0) ms

-- what the call answers, and behind it the lent area that it leaves
abbrev pub told : Ask → List ℕ
told (check s) = check_values (check_of s)
told (run s N) = run_values (run_answer s N (length (lent s)) 1) ++ area_with (run_verdict s N (length (lent s)) 1) (run_file s N) 1 (lent s)
told (way s i) = way_values (way_answer s i)
told (write n ls g ms) =
    write_values (write_of (file_by n ls g ms) 83 1) ++ area_with (write_verdict (file_by n ls g ms) 83 1) (file_by n ls g ms) 1 (room 81)

-- a node's state: distance, parent, mark
abbrev pub cell : ℕ → ℕ → ℕ → Cell
cell d p m = record { dist = d; parent = p; mark = m }

-- a link: lower node, higher node, cost
abbrev pub link : ℕ → ℕ → ℕ → Link
link l h c = record { low = l; high = h; cost = c }

-- the file of a park: nodes, root, links, the first byte of its group, state
abbrev pub file : ℕ → ℕ → List Link → ℕ → List Cell → List ℕ
file n r ls g t = encode (record { nodes = n; root = r; links = ls; group = g ∷ replicate 31 0; state = t })

-- the area that a run leaves with that file in it
abbrev pub left : List ℕ → List ℕ
left s = 77 ∷ (s ++ (77 ∷ []))

-- "n 3, root 1, links 1-2 cost 10, 2-3 cost 1, member 3"
abbrev pub file_a : List Cell → List ℕ
file_a = file 3 1 (link 1 2 10 ∷ link 2 3 1 ∷ []) 4

-- its bytes, with a state that is all zero
abbrev pub bytes_a : List ℕ
bytes_a =
    (1 ∷ 0 ∷ 4 ∷ 0 ∷ 3 ∷ 0 ∷ 1 ∷ 2 ∷ 0 ∷ 12 ∷ 0 ∷ 1 ∷ 0 ∷ 2 ∷ 0 ∷ 10 ∷ 0 ∷ 2 ∷ 0 ∷ 3 ∷ 0 ∷ 1 ∷ [])
    ++ ((3 ∷ 0 ∷ 32 ∷ 4 ∷ replicate 31 0) ++ (4 ∷ 0 ∷ 21 ∷ replicate 21 0))

-- its numbers for Write: the links; the first of them twice; one number too few; the group in so many bytes and one more
abbrev pub links_a : List ℕ
links_a = 1 ∷ 2 ∷ 10 ∷ 2 ∷ 3 ∷ 1 ∷ []

abbrev pub twice : List ℕ
twice = 1 ∷ 2 ∷ 10 ∷ 1 ∷ 2 ∷ 10 ∷ []

abbrev pub broken : List ℕ
broken = 1 ∷ 2 ∷ 10 ∷ 2 ∷ 3 ∷ []

abbrev pub group_a : ℕ → List ℕ
group_a more = 4 ∷ replicate more 0

-- "n 3, root 3, links 1-2 cost 1, 2-3 cost 10, member 1"
abbrev pub file_b : List Cell → List ℕ
file_b = file 3 3 (link 1 2 1 ∷ link 2 3 10 ∷ []) 1

-- "n 4, root 1, links 1-2 and 1-3 cost 5, 2-4 and 3-4 cost 2"
abbrev pub file_f : List Cell → List ℕ
file_f = file 4 1 (link 1 2 5 ∷ link 1 3 5 ∷ link 2 4 2 ∷ link 3 4 2 ∷ []) 0

-- "State is all zero unless said."
abbrev pub zeros : ℕ → List Cell
zeros n = replicate n (cell 0 0 0)

-- case A's table after 1 round, and after 11
abbrev pub after_one : List Cell
after_one = cell 0 0 0 ∷ cell 1 3 0 ∷ cell 1 2 1 ∷ []

abbrev pub settled_a : List Cell
settled_a = cell 0 0 1 ∷ cell 10 1 1 ∷ cell 11 2 1 ∷ []

-- "exact distance of 4 is 7, parent 2"
abbrev pub exact_f : List Cell
exact_f = cell 0 0 0 ∷ cell 5 1 0 ∷ cell 5 1 0 ∷ cell 7 2 0 ∷ []

pub record Row : Type 0 where
  pub ask : Ask
  pub answer : List ℕ

abbrev row : Ask → List ℕ → Row
row a v = record { ask = a; answer = v }

abbrev pub rows : List Row
rows =
    -- A: its 81 bytes are a park of 3 nodes and 2 links
    row (check bytes_a) (values 3 2 0)
    -- "Round 1: distances 0, 1, 1; parents 0, 3, 2; marks 0, 0, 1."
    ∷ row (run bytes_a 1) (values 1 0 0 ++ left (file_a after_one))
    -- "Round 10: distances 0, 10, 10; node 2's parent is 1."
    ∷ row (run (file_a (zeros 3)) 10) (values 10 0 0 ++ left (file_a (cell 0 0 0 ∷ cell 10 1 1 ∷ cell 10 2 1 ∷ [])))
    -- "Quiet after 11."
    ∷ row (run (file_a (zeros 3)) 16_777_217) (values 11 1 0 ++ left (file_a settled_a))
    -- "N = 0 returns the input file and says whether it is quiet."
    ∷ row (run (file_a (zeros 3)) 0) (values 0 0 0 ++ left (file_a (zeros 3)))
    -- and in the exact table one more round changes nothing: no round is done
    ∷ row (run (file_a settled_a) 1) (values 0 1 0 ++ left (file_a settled_a))
    -- A1: "in the state after round 1 of A: looping. After 11 rounds: reached, 2 hops."
    ∷ row (way (file_a after_one) 3) (values 3 2 0)
    ∷ row (way (file_a settled_a) 3) (values 3 0 2)
    -- B: "After 10, node 2's parent is still 1; after 11 it is 3; quiet after 12, when the root's mark is set."
    ∷ row (run (file_b (zeros 3)) 10) (values 10 0 0 ++ left (file_b (cell 10 2 1 ∷ cell 10 1 1 ∷ cell 0 0 0 ∷ [])))
    ∷ row (run (file_b (zeros 3)) 11) (values 11 0 0 ++ left (file_b (cell 11 2 1 ∷ cell 10 3 1 ∷ cell 0 0 0 ∷ [])))
    ∷ row (run (file_b (zeros 3)) 16_777_217) (values 12 1 0 ++ left (file_b (cell 11 2 1 ∷ cell 10 3 1 ∷ cell 0 0 1 ∷ [])))
    -- C: "n 1, no links, no member, state bytes all 255: one round, then 0, 0, 0, quiet."
    ∷ row (run (file 1 1 [] 0 (cell 4_294_967_295 65_535 255 ∷ [])) 16_777_217) (values 1 1 0 ++ left (file 1 1 [] 0 (zeros 1)))
    -- D: "n 2, root 1, no links, member 2: one round; node 2 holds 16,777,215, 0, 1."
    ∷ row (run (file 2 1 [] 2 (zeros 2)) 16_777_217) (values 1 1 0 ++ left (file 2 1 [] 2 (cell 0 0 0 ∷ cell 16_777_215 0 1 ∷ [])))
    -- a stored 4,294,967,295 is read as the ceiling, a sum above the ceiling is the ceiling, and it gives no parent
    ∷ row (run (file 3 1 (link 2 3 65_535 ∷ []) 0 (cell 0 0 0 ∷ cell 4_294_967_295 3 0 ∷ cell 16_777_214 2 0 ∷ [])) 1)
    (values 1 1 0 ++ left (file 3 1 (link 2 3 65_535 ∷ []) 0 (cell 0 0 0 ∷ cell 16_777_215 0 0 ∷ cell 16_777_215 0 0 ∷ [])))
    -- F: the run comes to the exact table
    ∷ row (run (file_f (zeros 4)) 16_777_217) (values 4 1 0 ++ left (file_f exact_f))
    -- G: "empty input: 1 at 0."
    ∷ row (check []) (1 ∷ replicate 7 0)
    -- H: "n 257: 4."
    ∷ row (check (file 257 1 [] 0 (zeros 257))) (4 ∷ replicate 7 0)
    -- I: "cost 0: 5", at the record
    ∷ row (check (file 2 1 (link 1 2 0 ∷ []) 0 (zeros 2))) (5 ∷ 10 ∷ replicate 6 0)
    -- J: "the same link twice: 6", at the second record
    ∷ row (check (file 2 1 (link 1 2 7 ∷ link 1 2 7 ∷ []) 0 (zeros 2))) (6 ∷ 16 ∷ replicate 6 0)
    -- K: "N = 16,777,218: 10", and the area stays
    ∷ row (run (file_a (zeros 3)) 16_777_218) ((10 ∷ replicate 7 0) ++ lent (file_a (zeros 3)))
    -- Write: A's numbers make its 81 bytes
    ∷ row (write 3 links_a (group_a 31) (replicate 3 0)) (values 0 0 0 ++ left bytes_a)
    -- n 257 comes before a broken list of links, which is 3 where its field starts
    ∷ row (write 257 broken (group_a 31) (replicate 3 0)) ((4 ∷ replicate 7 0) ++ room 81)
    ∷ row (write 3 broken (group_a 31) (replicate 3 0)) ((3 ∷ 7 ∷ replicate 6 0) ++ room 81)
    -- a link that stands twice comes before a group that is too short, and that before a state that is
    ∷ row (write 3 twice (group_a 30) (replicate 3 0)) ((6 ∷ 16 ∷ replicate 6 0) ++ room 81)
    ∷ row (write 3 links_a (group_a 30) (replicate 2 0)) ((3 ∷ 22 ∷ replicate 6 0) ++ room 81)
    ∷ row (write 3 links_a (group_a 31) (replicate 2 0)) ((3 ∷ 57 ∷ replicate 6 0) ++ room 81)
    ∷ []
