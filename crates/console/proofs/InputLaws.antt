-- What stands at the start of the room after one read more.
use Rattle.std.proofs.Common.{◌≡◌, ℕ, ◌+◌, ◌≤◌, List, ◌++◌, length, take, sym, ap, ◌∙◌, subst, length-take-le}
use Rattle.std.proofs.Math.Seq.{take-append-add}
use Rattle.std.proofs.lemmas.List.{take-append-le}
use Rattle.std.proofs.KnownBytes.{Consumes-trans}
use Rattle.std.specs.Io.KnownBytes.{Consumes}
use Rattle.std.specs.declared.option.Option.{Option}
use borrow.Rule.Slice.PartMut.{put_mid, post_of}

-- the bytes that stood there before, and behind them those of the read
joined : (room part : List ℕ) (done k n : ℕ) → done ≤ length room → n ≤ length part → take done room ++ take n part ≡ take (done + n) (put_mid done k room part)
joined room part done k n within fits =
    sym (ap (λ m. take (m + n) (put_mid done k room part)) (sym (length-take-le done room within))
    ∙ take-append-add (take done room) (part ++ post_of done k room) n
    ∙ ap (λ l. take done room ++ l) (take-append-le n part (post_of done k room) fits))

-- nothing of the input is lost between two reads
pub taken_more : (a b c : Option (List ℕ)) (room part : List ℕ) (done k n : ℕ) → done ≤ length room → n ≤ length part
    → Consumes a b (take done room) → Consumes b c (take n part) → Consumes a c (take (done + n) (put_mid done k room part))
taken_more a b c room part done k n within fits before read =
    subst (Consumes a c) (joined room part done k n within fits) (Consumes-trans a b c _ _ before read)
