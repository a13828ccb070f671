-- Where everything stands in a park file and how much room it takes, in bytes, by the numbers of nodes and of links: document 01's table.
use Rattle.std.specs.Prelude.{ℕ, ◌+◌, ◌*◌}
use Rattle.measure.specs.Measure.{most_nodes, most_links}
use Rattle.park.specs.declared.layout.Field.TheVariants.{Nodes, Links, Group, State}
use Rattle.park.specs.declared.layout.Field.{Field}

-- the tag byte of each field
abbrev pub tag_of : Field → ℕ
tag_of Nodes = 1
tag_of Links = 2
tag_of Group = 3
tag_of State = 4

-- the head of a field: "one tag byte, a two-byte length"
abbrev pub head_size : ℕ
head_size = 3

-- the record of a link: "lower node (2), higher node (2), cost (2)"
abbrev pub link_size : ℕ
link_size = 6

-- the bits of the group, one for each of 256 nodes
abbrev pub group_size : ℕ
group_size = 32

-- the record of a node: "distance (4), parent (2), mark (1)"
abbrev pub cell_size : ℕ
cell_size = 7

-- field 1 starts the file: "n (2), root (2)"
abbrev pub nodes_at : ℕ
nodes_at = head_size

abbrev pub root_at : ℕ
root_at = nodes_at + 2

-- field 2 and its first record
abbrev pub links_at : ℕ
links_at = root_at + 2

abbrev pub first_link : ℕ
first_link = links_at + head_size

-- field 3, behind the records of so many links
abbrev pub group_at : ℕ → ℕ
group_at links = first_link + link_size * links

-- field 4, behind the group
abbrev pub state_at : ℕ → ℕ
state_at links = group_at links + (head_size + group_size)

-- its first record
abbrev pub first_cell : ℕ → ℕ
first_cell links = state_at links + head_size

-- the end of the file, behind the records of so many nodes
abbrev pub end_at : ℕ → ℕ → ℕ
end_at nodes links = first_cell links + cell_size * nodes

-- "The largest file is 7,984 bytes."
abbrev pub largest_file : ℕ
largest_file = end_at most_nodes most_links

-- above every place that the numbers of a file can name, so that no sum of places overflows
abbrev pub far_place : ℕ
far_place = 1_048_576
