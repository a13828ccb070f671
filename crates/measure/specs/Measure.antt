-- The numbers that stand with the measures of document 01, and the one addition of costs.
-- Costs and distances are in cost units, round counts in rounds.
use Rattle.std.specs.Prelude.{ℕ, ◌+◌, min}

-- "The ceiling is 16,777,215. It means 'no path'." In cost units.
abbrev pub ceiling : ℕ
ceiling = 16_777_215

-- "one cost from 1 to 65,535": the largest cost of a link, in cost units.
abbrev pub largest_cost : ℕ
largest_cost = 65_535

-- "n from 1 to 256": the most nodes of a park
abbrev pub most_nodes : ℕ
most_nodes = 256

-- "Links 0 to 1,024": the most links of a park
abbrev pub most_links : ℕ
most_links = 1024

-- "Run with a count N from 0 to 16,777,217": the largest count, in rounds.
abbrev pub most_rounds : ℕ
most_rounds = 16_777_217

-- "A stored distance above the ceiling is read as the ceiling."
abbrev pub cap : ℕ → ℕ
cap x = min ceiling x

-- "A sum above the ceiling is the ceiling": a distance and the cost of one link more.
abbrev pub plus : ℕ → ℕ → ℕ
plus distance cost = cap (cap distance + cost)
