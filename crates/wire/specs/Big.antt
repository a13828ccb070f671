-- "All numbers have the high byte first": numbers of k bytes in a list of bytes. Widths and places are in bytes.
use Rattle.std.specs.Prelude.{ℕ, zero, suc, ◌+◌, ◌*◌, ◌/◌, ◌%◌, ◌<◌, List, [], ◌∷◌, ◌++◌, get_or}

-- each element is a byte
abbrev pub Bytes : List ℕ → Type 0
Bytes s = (i : ℕ) → get_or s i 0 < 256

-- the number that the k bytes from place i make, the high byte first; a byte outside the list is 0
unfoldable pub big : ℕ → List ℕ → ℕ → ℕ
big zero s i = 0
big (suc k) s i = big k s i * 256 + get_or s (i + k) 0

-- the k bytes of a number, the high byte first
unfoldable pub bytes_of : ℕ → ℕ → List ℕ
bytes_of zero x = []
bytes_of (suc k) x = bytes_of k (x / 256) ++ (x % 256 ∷ [])
