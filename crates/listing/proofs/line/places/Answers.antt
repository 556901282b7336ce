-- `listing::line::places` meets its contract: the logarithm lies between two powers of ten. Assumes nothing.
use Rattle.listing.proofs.Putting.{places-by}
use Rattle.listing.proofs.line.places.Goals as goal

pub returns : goal.returns
returns c =
    let l = c.checked_ilog10.ensures in
    rw c.unwrap_or.ensures (places-by c.args.n c.checked_ilog10.result l.none l.power_le l.next_power_gt l.bound)
