-- `listing::line::refused` meets its contract: the word and three numbers, one behind the other. Assumes nothing.
use mathlib.Core.Path.{subst}
use mathlib.Core.List.{List, ◌++◌}
use Prim.Native.Nat.{ℕ}
use Rattle.models.specs.declared.Fault.{Fault}
use Rattle.listing.specs.Text.{refused_word, field, last_field, decimal, refused_text}
use Rattle.listing.specs.Inner.Lines.{Put}
use Rattle.listing.proofs.Putting.{put_then}
use Rattle.listing.proofs.line.refused.Goals as goal

pub returns : goal.returns
unfolding refused_text
returns c =
    let m = c in
    let n = c in
    let w = c in
    let k = c in
    let a = k.args in
    let f = k.from-fault.result in
    let t1 : List ℕ = field refused_word in
    let t2 : List ℕ = field (decimal f.number) in
    let t3 : List ℕ = field (decimal f.value) in
    let t4 : List ℕ = last_field (decimal f.place) in
    let p2 = put_then t1 t2 w.word-a.ensures n.number-b.ensures.put in
    let p3 = put_then (t1 ++ t2) t3 p2 m.number-c.ensures.put in
    let p = put_then (t1 ++ t2 ++ t3) t4 p3 c.number.ensures.put in
    subst (λ (x : Fault). Put a.line.now a.at (refused_text x) c.number.new.line c.number.result) k.from-fault.ensures p
