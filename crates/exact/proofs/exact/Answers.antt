-- Reading decides whether the file is refused, and then the room whether the area takes it.
use Rattle.std.proofs.Common.{ℕ, List, subst}
use Rattle.exact.specs.Exact.{Exacted}
use Rattle.exact.proofs.ExactFileLaws.{exact_refused, exact_put}
use Rattle.exact.proofs.exact.Goals as goal

pub returns-in_err-read : goal.returns-in_err-read
returns-in_err-read c = exact_refused c.args.file.now c.args.area.now c.args.place _ c.in_err-read.ensures c.from_residual.ensures.1

pub returns : goal.returns
returns c =
    let h = c.in_ok-read.read in
    let a = c.args in
    let put = c.put_exact in
    let own = exact_put h.file.now h.bytes h.head h.read_as a.area.now put.new.area a.place put.result put.ensures.put.0 put.ensures.put.1 in
    subst (λ (s : List ℕ). Exacted s a.area.now a.place put.result put.new.area) c.in_ok-read.ensures own
