-- `listing::line::row` meets its contract: its five fields, one behind the other. Assumes nothing.
use mathlib.Core.List.{List, ◌++◌}
use Prim.Native.Nat.{ℕ}
use Rattle.listing.specs.Text.{kind_word, lead_text, decimal, hexadecimal, field, last_field, row_text}
use Rattle.listing.proofs.Putting.{put_then, put-laid}
use Rattle.listing.proofs.line.row.Goals as goal

pub returns : goal.returns
unfolding row_text
returns c =
    let a = c.args in
    let t1 : List ℕ = field (decimal a.n) in
    let t2 : List ℕ = field (kind_word a.row.kind) in
    let t3 : List ℕ = field (lead_text a.row.kind a.row.lead) in
    let t4 : List ℕ = field (decimal a.row.bits) in
    let t5 : List ℕ = last_field (hexadecimal a.row.value) in
    let p2 = put_then t1 t2 c.number-a.ensures.put c.kind_word-b.ensures.put in
    let p3 = put_then (t1 ++ t2) t3 p2 c.lead-c.ensures.put in
    let p4 = put_then (t1 ++ t2 ++ t3) t4 p3 c.number-d.ensures.put in let both = put-laid (t1 ++ t2 ++ t3 ++ t4 ++ t5) (put_then (t1 ++ t2 ++ t3 ++ t4) t5 p4 c.value.ensures.put) in record { length = both.0; text = both.1 }
