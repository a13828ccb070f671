-- A new state in an old file: the bytes of the state are replaced, and the file is that of the park with the new state.
use Prim.Native.Nat.{ℕ, zero, suc, ◌+◌, ◌*◌, ◌^◌, ◌≤◌, ◌<◌}
use mathlib.Core.Path.{◌≡◌, sym, ap, ap₂, ◌∙◌}
use mathlib.Core.List.{List, [], ◌∷◌, ◌++◌, append_assoc, append-nil}
use native.Mathlib.Omega.{arith}
use lib.ListN.{length, get_or, drop, length-append, drop_of_length-le}
use lib.Seq.{sets, sets-eq, take_at}
use Rattle.rule.specs.Round.{Cell}
use Rattle.wire.specs.Big.{Bytes, bytes_of}
use Rattle.wire.proofs.BigLaws.{length_bytes_of}
use Rattle.park.specs.Layout.{first_cell}
use Rattle.park.specs.ParkFile.{ParkFile, field, link_bytes, state_bytes, encode, with_state, ParkFileOk, CellsOk}
use Rattle.table.specs.Slices.{cells_of}
use Rattle.park.specs.Reading.{read_park, park}
use Rattle.park.proofs.FieldLaws.{length_field}
use Rattle.park.proofs.RecordLaws.{length_link_bytes, length_state_bytes}
use Rattle.park.proofs.RoundTrip.{encode_read, read_then_encode}

-- a list's end replaced by one of the same length
sets_end : (p xs ys : List ℕ) (i : ℕ) → length p ≡ i → length xs ≡ length ys → sets (p ++ xs) i ys ≡ p ++ ys
sets_end p xs ys i e f =
    let room : i + length ys ≤ length (p ++ xs) = rw length-append (omega arith) in
    let none : drop (i + length ys) (p ++ xs) ≡ [] = drop_of_length-le (p ++ xs) {i = i + length ys} (rw length-append (omega arith)) in
    sets-eq ys (p ++ xs) i room
    ∙ ap₂ (λ (a b : List ℕ). a ++ ys ++ b) (take_at p xs i e) none
    ∙ append-nil (p ++ ys)

-- all bytes of a file before those of its state, which are k
abbrev front : ParkFile → ℕ → List ℕ
front f k =
    field 1 (bytes_of 2 f.nodes ++ bytes_of 2 f.root)
    ++ (field 2 (link_bytes f.links) ++ (field 3 f.group ++ (4 ∷ bytes_of 2 k)))

front_encode : (f : ParkFile) → encode f ≡ front f (length (state_bytes f.state)) ++ state_bytes f.state
unfolding encode field
front_encode f = simp append_assoc

length_front : (f : ParkFile) (k : ℕ) → ParkFileOk f → length (front f k) ≡ first_cell (length f.links)
length_front f k ok =
    simp (length-append, length_field, length_bytes_of, length_link_bytes) (omega (arith, ok.group_size))

pub encode_state : (f : ParkFile) (t : List Cell) → ParkFileOk f → length t ≡ f.nodes
    → sets (encode f) (first_cell (length f.links)) (state_bytes t) ≡ encode (with_state f t)
unfolding with_state
encode_state f t ok e =
    let n : length (state_bytes f.state) ≡ length (state_bytes t) =
    length_state_bytes f.state ∙ ap (λ (k : ℕ). 7 * k) (ok.state_size ∙ sym e) ∙ sym (length_state_bytes t) in
    let k : ℕ = length (state_bytes f.state) in
    ap (λ (l : List ℕ). sets l (first_cell (length f.links)) (state_bytes t)) (front_encode f)
    ∙ sets_end (front f k) (state_bytes f.state) (state_bytes t) (first_cell (length f.links)) (length_front f k ok) n
    ∙ ap (λ (j : ℕ). front f j ++ state_bytes t) n
    ∙ sym (front_encode (record { nodes = f.nodes; root = f.root; links = f.links; group = f.group; state = t }))

pub with_ok : (f : ParkFile) (t : List Cell) → ParkFileOk f → length t ≡ f.nodes → CellsOk t → ParkFileOk (with_state f t)
unfolding with_state
with_ok f t ok e cells =
    record {
      some = ok.some;
      few = ok.few;
      root_least = ok.root_least;
      root_most = ok.root_most;
      link_count = ok.link_count;
      links = ok.links;
      group_size = ok.group_size;
      bits = ok.bits;
      state_size = e;
      cells = cells;
    }

-- the state's bytes of a file that was read, replaced by a table of n cells: the file of the park with that table, and it is read as that park
pub state_put : (s : List ℕ) (f : ParkFile) (t : List Cell) → Bytes s → read_park s ≡ park f → length t ≡ f.nodes
    → sets s (first_cell (length f.links)) (state_bytes t) ≡ encode (with_state f t)
state_put s f t b r e =
    let p = read_then_encode s f b r in
    ap (λ (l : List ℕ). sets l (first_cell (length f.links)) (state_bytes t)) (sym p.0) ∙ encode_state f t p.1 e

pub state_read : (s : List ℕ) (f : ParkFile) (t : List Cell) → Bytes s → read_park s ≡ park f → length t ≡ f.nodes → CellsOk t
    → read_park (sets s (first_cell (length f.links)) (state_bytes t)) ≡ park (with_state f t)
state_read s f t b r e cells =
    ap read_park (state_put s f t b r e) ∙ encode_read (with_state f t) (with_ok f t (read_then_encode s f b r).1 e cells)

-- a table in three slices of n numbers has n cells
pub length_cells_of : (ds ps ms : List ℕ) (n : ℕ) → length ds ≡ n → length ps ≡ n → length ms ≡ n → length (cells_of ds ps ms) ≡ n
unfolding cells_of
length_cells_of [] ps ms n a b c = a
length_cells_of (d ∷ ds) [] ms n a b c = absurd (omega arith)
length_cells_of (d ∷ ds) (p ∷ ps) [] n a b c = absurd (omega arith)
length_cells_of (d ∷ ds) (p ∷ ps) (m ∷ ms) zero a b c = absurd (omega arith)
length_cells_of (d ∷ ds) (p ∷ ps) (m ∷ ms) (suc n) a b c =
    ap suc (length_cells_of ds ps ms n (omega arith) (omega arith) (omega arith))

-- the numbers of a 32-bit, a 16-bit and a byte slice are cells that have a file
pub cells_of_ok : (ds ps ms : List ℕ) → ((i : ℕ) → get_or ds i 0 < 2 ^ 32) → ((i : ℕ) → get_or ps i 0 < 2 ^ 16) → ((i : ℕ) → get_or ms i 0 < 2 ^ 8)
    → CellsOk (cells_of ds ps ms)
unfolding cells_of
cells_of_ok [] ps ms a b c = tt
cells_of_ok (d ∷ ds) [] ms a b c = tt
cells_of_ok (d ∷ ds) (p ∷ ps) [] a b c = tt
cells_of_ok (d ∷ ds) (p ∷ ps) (m ∷ ms) a b c =
    (record { dist = a 0; parent = b 0; mark = c 0 }, cells_of_ok ds ps ms (λ i. a (suc i)) (λ i. b (suc i)) (λ i. c (suc i)))
