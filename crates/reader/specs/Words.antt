-- What a file's group is taken apart into: a column of 64-bit words. Places and steps are in bytes.
use Rattle.std.specs.Prelude.{ℕ, zero, suc, ◌+◌, ◌*◌, List, [], ◌∷◌, get_or}

-- n numbers, one from each `step` bytes, the first at `from`; `read` says what number stands at a place
unfoldable pub column : (ℕ → ℕ) → ℕ → ℕ → ℕ → List ℕ
column read from step zero = []
column read from step (suc n) = read from ∷ column read (from + step) step n

-- the number that the k bytes from place i make, the low byte first: byte j of the group is bits 8j to 8j + 7
unfoldable pub little : ℕ → List ℕ → ℕ → ℕ
little zero s i = 0
little (suc k) s i = get_or s i 0 + 256 * little k s (i + 1)
