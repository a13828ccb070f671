-- The park file of document 01: what it holds, and its bytes. Numbers of nodes and links, costs and distances in cost units.
use Rattle.std.specs.Prelude.{ℕ, ◌+◌, ◌*◌, ◌-◌, ◌^◌, ◌≤◌, ◌<◌, min, ◌≡◌, List, [], ◌∷◌, ◌++◌, length, get_or}
use Rattle.wire.specs.Big.{bytes_of}
use Rattle.rule.specs.Round.{Link, Cell, Park}
use Rattle.group.specs.Group.{member_in}
use Rattle.measure.specs.Measure.{most_nodes, most_links}
use Rattle.park.specs.Layout.{group_size}

-- "Nodes 1 to n. One node is the root. Links. The group. For each node a stored distance, parent and mark."
pub record ParkFile : Type 0 where
  pub nodes : ℕ
  pub root : ℕ
  pub links : List Link
  pub group : List ℕ
  pub state : List Cell

-- the park that a file holds, without its state
unfoldable pub park_in : ParkFile → Park
park_in f = record { nodes = f.nodes; root = f.root; links = f.links; member = member_in 8 f.group }

-- "one tag byte, a two-byte length, the body"
unfoldable pub field : ℕ → List ℕ → List ℕ
field tag body = tag ∷ (bytes_of 2 (length body) ++ body)

-- "each: lower node (2), higher node (2), cost (2)"
unfoldable pub link_bytes : List Link → List ℕ
link_bytes [] = []
link_bytes (l ∷ ls) = (bytes_of 2 l.low ++ (bytes_of 2 l.high ++ bytes_of 2 l.cost)) ++ link_bytes ls

-- "each node: distance (4), parent (2), mark (1)"
unfoldable pub state_bytes : List Cell → List ℕ
state_bytes [] = []
state_bytes (c ∷ cs) = (bytes_of 4 c.dist ++ (bytes_of 2 c.parent ++ (c.mark ∷ []))) ++ state_bytes cs

-- "Four fields, once each, in this order, nothing behind them"
unfoldable pub encode : ParkFile → List ℕ
encode f =
    field 1 (bytes_of 2 f.nodes ++ bytes_of 2 f.root)
    ++ (field 2 (link_bytes f.links) ++ (field 3 f.group ++ field 4 (state_bytes f.state)))

-- the same park with another state
unfoldable pub with_state : ParkFile → List Cell → ParkFile
with_state f t = record { nodes = f.nodes; root = f.root; links = f.links; group = f.group; state = t }

-- lower and higher end as one number, by which links ascend: "ascending by lower, then higher"
abbrev pub key_of : Link → ℕ
key_of l = l.low * 65_536 + l.high

-- a link of n nodes that stands after the key of the one before
pub record LinkOk (n before : ℕ) (l : Link) : Type 0 where
  pub least : 1 ≤ l.low
  pub ascending : l.low < l.high
  pub most : l.high ≤ n
  pub cost : 1 ≤ l.cost
  pub largest : l.cost < 2 ^ 16
  pub after : before < key_of l

abbrev pub LinksOk : ℕ → ℕ → List Link → Type 0
LinksOk n before [] = Unit
LinksOk n before (l ∷ ls) = LinkOk n before l × LinksOk n (key_of l) ls

-- "a stored distance (any 32-bit number), a stored parent (any 16-bit number) and a stored mark (any byte)"
pub record CellOk (c : Cell) : Type 0 where
  pub dist : c.dist < 2 ^ 32
  pub parent : c.parent < 2 ^ 16
  pub mark : c.mark < 2 ^ 8

abbrev pub CellsOk : List Cell → Type 0
CellsOk [] = Unit
CellsOk (c ∷ cs) = CellOk c × CellsOk cs

-- the parks that have a file
pub record ParkFileOk (f : ParkFile) : Type 0 where
  -- "n from 1 to 256"
  pub some : 1 ≤ f.nodes
  pub few : f.nodes ≤ most_nodes
  -- "One node is the root"
  pub root_least : 1 ≤ f.root
  pub root_most : f.root ≤ f.nodes
  -- "Links 0 to 1,024", in order
  pub link_count : length f.links ≤ most_links
  pub links : LinksOk f.nodes 0 f.links
  -- 32 bytes, "bits above n are 0"
  pub group_size : length f.group ≡ group_size
  pub bits : (i : ℕ) → get_or f.group i 0 < 2 ^ min 8 (f.nodes - 8 * i)
  -- a cell for each node
  pub state_size : length f.state ≡ f.nodes
  pub cells : CellsOk f.state
