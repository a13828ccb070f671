-- In a file whose state is the exact table, Way answers for each node with a path that the root is reached, in fewer hops than there are nodes.
use Prim.Native.Nat.{ℕ, ◌<◌}
use mathlib.Core.Path.{◌≡◌, sym, ap, ◌∙◌}
use mathlib.Core.List.{List}
use Rattle.measure.specs.Measure.{ceiling}
use Rattle.rule.specs.Round.{at, net_of}
use Rattle.rule.specs.Exact.{Route, Node, Exact}
use Rattle.rule.specs.Settles.{ParkOk}
use Rattle.rule.proofs.NetLaws.{sound}
use Rattle.rule.proofs.DistanceLaws.{path_reaches}
use Rattle.rule.proofs.Demand3.{exact_still}
use Rattle.wire.specs.Big.{Bytes}
use Rattle.park.specs.ParkFile.{ParkFile, park_in}
use Rattle.park.specs.Reading.{nodes_in, file_in, read_park, park}
use Rattle.park.proofs.RoundTrip.{read_fine}
use Rattle.park.proofs.ParkLaws.{read_park_ok}
use Rattle.answers.specs.declared.Outcome.TheVariants.{Reached}
use Rattle.way.specs.Way.{park_way, way_answer}
use Rattle.way.proofs.WayLaws.{exact_reaches}
use Rattle.std.specs.Prelude.{Ok}
use Rattle.way.proofs.WayFileLaws.{way_told}

-- what is told of a node of a file that is read as a park
told : (s : List ℕ) (f : ParkFile) → read_park s ≡ park f → (i : ℕ) → Node (park_in f) i → way_answer s i ≡ Ok (park_way (park_in f) f.state i)
unfolding file_in park_in
told s f e i node =
    let p = read_fine s f e in
    let nodes : nodes_in s ≡ f.nodes = ap (λ (g : ParkFile). g.nodes) p.1 in
    let w : park_way (park_in f) f.state i ≡ park_way (park_in (file_in s)) (file_in s).state i = ap (λ (g : ParkFile). park_way (park_in g) g.state i) (sym p.1) in
    sym (way_told s i p.0 (park_way (park_in f) f.state i) node.least (rw nodes node.most) w)

pub exact_told : (s : List ℕ) (f : ParkFile) → Bytes s → read_park s ≡ park f → Exact (park_in f) f.state
    → (i x : ℕ) → Node (park_in f) i → Route (net_of (park_in f)) i x
    → (h : ℕ) × (h < (park_in f).nodes) × (way_answer s i ≡ Ok (record { node = i; outcome = Reached (record { 0 = h }) }))
exact_told s f bytes e ex i x node route =
    let ok : ParkOk (park_in f) = read_park_ok s f bytes e in
    let far : (at f.state i).dist < ceiling = path_reaches (sound ok) (exact_still ok ex).dist route in
    let r = exact_reaches (park_in f) f.state ok ex i node far in
    (r.0, r.1, told s f e i node ∙ ap Ok r.2)
