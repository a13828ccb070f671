-- What is read of a list, by its place.
use Prim.Native.Nat.{ℕ, zero, suc, ◌<◌}
use native.Mathlib.Nat.{not-suc-le-zero, le_of_suc-le-suc}
use mathlib.Core.Path.{◌≡◌, refl}
use mathlib.Core.List.{List, [], ◌∷◌}
use lib.ListN.{length, get_or}

-- within a list it does not matter what stands past its end
pub get_d_any : (xs : List ℕ) (k d e : ℕ) → k < length xs → get_or xs k d ≡ get_or xs k e
get_d_any [] k d e h = absurd (not-suc-le-zero h)
get_d_any (x ∷ xs) zero d e h = refl
get_d_any (x ∷ xs) (suc k) d e h = get_d_any xs k d e (le_of_suc-le-suc h)
