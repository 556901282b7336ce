-- `comparing::line::difference` meets its contract: its three fields, one behind the other. Assumes nothing.
use mathlib.Core.List.{List, ◌++◌}
use Prim.Native.Nat.{ℕ}
use Rattle.listing.specs.Text.{decimal, field, last_field}
use Rattle.listing.proofs.Putting.{put_then, put-laid}
use Rattle.comparing.specs.Text.{entry_text, difference_text}
use Rattle.comparing.proofs.line.difference.Goals as goal

pub returns : goal.returns
unfolding difference_text
returns c =
    let d = c.args.d in
    let t1 : List ℕ = field (decimal d.index) in
    let t2 : List ℕ = field (entry_text d.left) in
    let t3 : List ℕ = last_field (entry_text d.right) in
    let p = put_then t1 t2 c.number-a.ensures.put c.entry-b.ensures.put in let both = put-laid (t1 ++ t2 ++ t3) (put_then (t1 ++ t2) t3 p c.entry.ensures.put) in record { length = both.0; text = both.1 }
