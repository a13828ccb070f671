-- Filling slices from their front, one record a turn: what stands so far are the numbers of the records so far.
use Prim.Native.Nat.{ℕ, zero, suc, ◌+◌, ◌-◌, ◌*◌, ◌≤◌, ◌<◌}
use mathlib.Core.Path.{◌≡◌, refl, sym, ap, ap₂, ◌∙◌}
use mathlib.Core.List.{List, [], ◌∷◌, ◌++◌, map, map-append}
use native.Mathlib.Numerals.{add-one}
use native.Mathlib.Decide.{dec_lt}
use native.Mathlib.Omega.{arith}
use lib.ListN.{length, get_or, set, length-map}
use lib.Seq.{sets, length-sets, set_out}
use Rattle.rule.specs.Round.{Link, Cell}
use Rattle.wire.proofs.StoreLaws.{sets_append}
use Rattle.park.specs.Layout.{link_size, cell_size}
use Rattle.park.specs.Reading.{low_at, high_at, cost_at, dist_at, parent_at, mark_at, links_read, cells_read}
use Rattle.reader.specs.Words.{column}
use Rattle.park.proofs.RecordLaws.{length_links, length_cells}

-- the link and the cell whose records are at a place
abbrev pub link_in : List ℕ → ℕ → Link
link_in s at = record { low = low_at s at; high = high_at s at; cost = cost_at s at }

abbrev pub cell_in : List ℕ → ℕ → Cell
cell_in s at = record { dist = dist_at s at; parent = parent_at s at; mark = mark_at s at }

-- one number more behind those that were put
more : (old xs ys zs : List ℕ) (i v : ℕ) → length xs ≡ i → ys ≡ sets old 0 xs → zs ≡ set ys i v → zs ≡ sets old 0 (xs ++ (v ∷ []))
more old xs ys zs i v n e f =
    let m : i ≡ 0 + length xs = omega arith in
    f ∙ ap₂ (λ (l : List ℕ) (k : ℕ). set l k v) e m ∙ sets_append old 0 xs (v ∷ [])

module _ (s : List ℕ) where
  -- one record more behind those that are read
  links_more : (at n : ℕ) → links_read s at (suc n) ≡ links_read s at n ++ (link_in s (at + link_size * n) ∷ [])
  unfolding links_read
  links_more at zero = let e : at + link_size * 0 ≡ at = omega arith in rw e
  links_more at (suc n) =
      let e : at + link_size + link_size * n ≡ at + link_size * suc n = omega arith in
      ap (λ (ls : List Link). link_in s at ∷ ls) (rw e at (links_more (at + link_size) n))

  cells_more : (at n : ℕ) → cells_read s at (suc n) ≡ cells_read s at n ++ (cell_in s (at + cell_size * n) ∷ [])
  unfolding cells_read
  cells_more at zero = let e : at + cell_size * 0 ≡ at = omega arith in rw e
  cells_more at (suc n) =
      let e : at + cell_size + cell_size * n ≡ at + cell_size * suc n = omega arith in
      ap (λ (cs : List Cell). cell_in s at ∷ cs) (rw e at (cells_more (at + cell_size) n))

  -- a turn of the loop, for one part of a link or a cell
  pub link_turn : (f : Link → ℕ) (at i v : ℕ) (old xs ys : List ℕ) → xs ≡ sets old 0 (map f (links_read s at i)) → v ≡ f (link_in s (at + link_size * i)) → ys ≡ set xs i v
      → ys ≡ sets old 0 (map f (links_read s at (i + 1)))
  link_turn f at i v old xs ys e g h =
      let n : length (map f (links_read s at i)) ≡ i = length-map (links_read s at i) f ∙ length_links s at i in
      let whole : map f (links_read s at (i + 1)) ≡ map f (links_read s at i) ++ (v ∷ []) =
      rw (add-one i, links_more at i, map-append, g) in
      rw whole (more old (map f (links_read s at i)) xs ys i v n e h)

  pub cell_turn : (f : Cell → ℕ) (at i v : ℕ) (old xs ys : List ℕ) → xs ≡ sets old 0 (map f (cells_read s at i)) → v ≡ f (cell_in s (at + cell_size * i)) → ys ≡ set xs i v
      → ys ≡ sets old 0 (map f (cells_read s at (i + 1)))
  cell_turn f at i v old xs ys e g h =
      let n : length (map f (cells_read s at i)) ≡ i = length-map (cells_read s at i) f ∙ length_cells s at i in
      let whole : map f (cells_read s at (i + 1)) ≡ map f (cells_read s at i) ++ (v ∷ []) =
      rw (add-one i, cells_more at i, map-append, g) in
      rw whole (more old (map f (cells_read s at i)) xs ys i v n e h)

  -- behind the end of a slice no more numbers are put, so that a loop may end there
  cell_past : (f : Cell → ℕ) (at i : ℕ) (old : List ℕ) → length old ≤ i → (d : ℕ)
      → sets old 0 (map f (cells_read s at i)) ≡ sets old 0 (map f (cells_read s at (i + d)))
  cell_past f at i old h zero = let e : i + 0 ≡ i = omega arith in rw e
  cell_past f at i old h (suc d) =
      let so_far : List ℕ = sets old 0 (map f (cells_read s at (i + d))) in
      let v : ℕ = f (cell_in s (at + cell_size * (i + d))) in
      let out : so_far ≡ set so_far (i + d) v = sym (set_out so_far (i + d) v (omega (arith, length-sets old 0 (map f (cells_read s at (i + d)))))) in
      let e : i + d + 1 ≡ i + suc d = omega arith in
      cell_past f at i old h d ∙ rw e at (cell_turn f at (i + d) v old so_far so_far refl refl out)

  pub cell_rest : (f : Cell → ℕ) (at i n : ℕ) (old xs : List ℕ) → i ≤ n → (i < n → length old ≤ i) → xs ≡ sets old 0 (map f (cells_read s at i))
      → xs ≡ sets old 0 (map f (cells_read s at n))
  cell_rest f at i n old xs h past e = go (dec_lt i n)
    where
      go : Dec (i < n) → xs ≡ sets old 0 (map f (cells_read s at n))
      go (yes l) = let whole : i + (n - i) ≡ n = omega arith in e ∙ rw whole at (cell_past f at i old (past l) (n - i))
      go (no l) = let whole : i ≡ n = omega arith in rw whole at e

-- a list with a word at each place is the column of those words
pub column_is : (read : ℕ → ℕ) (from step n : ℕ) (xs : List ℕ) → length xs ≡ n → ((k : ℕ) → k < n → get_or xs k 0 ≡ read (from + step * k)) → xs ≡ column read from step n
unfolding column
column_is read from step zero [] e h = refl
column_is read from step zero (x ∷ xs) e h = absurd (omega arith)
column_is read from step (suc n) [] e h = absurd (omega arith)
column_is read from step (suc n) (x ∷ xs) e h =
    let first : from + step * 0 ≡ from = omega arith in
    let rest : (k : ℕ) → k < n → get_or xs k 0 ≡ read (from + step + step * k) =
    λ k l. let m : from + step * suc k ≡ from + step + step * k = omega arith in rw m at (h (suc k) (omega arith)) in
    ap₂ (λ (y : ℕ) (ys : List ℕ). y ∷ ys) (rw first at (h 0 (omega arith))) (column_is read (from + step) step n xs (omega arith) rest)
