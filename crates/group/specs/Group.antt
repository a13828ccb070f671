-- The group set, over numbers of any width: 32 bytes in the file, four 64-bit words where members are counted.
use Rattle.std.specs.Prelude.{ℕ, zero, suc, ◌/◌, ◌%◌, ◌^◌, Bool, false, List, get_or, eqb}

-- whether bit k of x is 1, the lowest bit being bit 0
unfoldable pub bit_set : ℕ → ℕ → Bool
bit_set x k = eqb (x / 2 ^ k % 2) 1

-- "node i is bit (i−1) mod 8, lowest bit 0, of byte (i−1)/8", with the width for 8; 0 is no node
unfoldable pub member_in : ℕ → List ℕ → ℕ → Bool
member_in width xs zero = false
member_in width xs (suc k) = bit_set (get_or xs (k / width) 0) (k % width)
