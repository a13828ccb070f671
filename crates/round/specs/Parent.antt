-- The rule's parent by given distances, for whoever has distances but no table.
use Rattle.std.specs.Prelude.{ℕ, false, List}
use Rattle.rule.specs.Round.{Net, Link, new_dist, parent_at, arcs_of}

-- the network of these links, with no member: a parent does not depend on the group
abbrev pub bare_net : ℕ → List Link → Net
bare_net root ls = record { root = root; arcs = arcs_of ls; member = λ _. false }

-- the parent of node i by the distances D
unfoldable pub parent_by : ℕ → List Link → (ℕ → ℕ) → ℕ → ℕ
parent_by root ls D i = parent_at (bare_net root ls) D (new_dist (bare_net root ls) D i) i
