-- What Summary answers for a file, by document 01: "members, marked nodes, and served members". All are in nodes.
use Rattle.std.specs.Prelude.{ℕ, Bool, not, ◌&&◌, List, length, eqb, Result, Ok, Err}
use Rattle.rule.specs.Round.{at, numbered}
use Rattle.group.specs.Group.{member_in}
use Rattle.group.specs.Count.{count}
use Rattle.table.specs.Nodes.{node_at}
use Rattle.answers.specs.Verdicts.{by_verdict}
use Rattle.answers.specs.declared.Counts.{Counts}
use Rattle.answers.specs.declared.refusal.Refusal.{Refusal}
use Rattle.park.specs.ParkFile.{ParkFile, park_in}
use Rattle.park.specs.Reading.{verdict_of, file_in}

-- whether a stored mark is set: any byte but zero is
abbrev pub is_marked : ℕ → Bool
is_marked mark = not (eqb mark 0)

-- whether a node is a served member, by whether it is a member and by its stored mark: the one place that says so
abbrev pub is_served : Bool → ℕ → Bool
is_served member mark = member && is_marked mark

-- how many nodes of a file pass the test
abbrev pub nodes_with : ParkFile → (ℕ → Bool) → ℕ
nodes_with f test = count test (numbered 1 f.nodes)

-- the members, the marked nodes and the served members of a file
unfoldable pub counts_of : ParkFile → Counts
counts_of f =
    record {
      members = nodes_with f (park_in f).member;
      marked = nodes_with f (λ i. is_marked (at f.state i).mark);
      served = nodes_with f (λ i. is_served ((park_in f).member i) (at f.state i).mark);
    }

-- the counts of a file, or its refusal
unfoldable pub summary_answer : List ℕ → Result Counts Refusal
summary_answer s = by_verdict (verdict_of s) (Ok (counts_of (file_in s))) Err

-- whether node i is marked, by the marks in a slice, and whether it is a served member, by the words of the group set too
abbrev pub marked_at : List ℕ → ℕ → Bool
marked_at marks i = is_marked (node_at 0 marks i)

abbrev pub served_at : List ℕ → List ℕ → ℕ → Bool
served_at words marks i = is_served (member_in 64 words i) (node_at 0 marks i)

-- how many of them there are, of as many nodes as there are marks
unfoldable pub marked_of : List ℕ → ℕ
marked_of marks = count (marked_at marks) (numbered 1 (length marks))

unfoldable pub served_of : List ℕ → List ℕ → ℕ
served_of words marks = count (served_at words marks) (numbered 1 (length marks))
