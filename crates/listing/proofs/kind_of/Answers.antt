-- `listing::kind_of` meets its contract. Assumes nothing.
use mathlib.Core.Path.{sym, ap, ◌∙◌}
use mathlib.Core.Bool.{Bool}
use native.Mathlib.Omega.{arith}
use Rattle.coding.specs.Inner.Ahead.{bits_in}
use Rattle.listing.specs.Rows.{kind_read}
use Rattle.listing.proofs.Finding.{top_small, kind-none, kind-keep, kind-short, kind-same, kind-new}
use Rattle.listing.proofs.kind_of.Goals as goal

pub returns-then-raw : goal.returns-then-raw
unfolding kind_read
returns-then-raw c =
    let a = c.args in
    sym (ap (λ (r : Bool). kind_read r (bits_in a.ahead.word a.ahead.left)) c.if-raw.true)

pub returns-then-ahead-lt1 : goal.returns-then-ahead-lt1
returns-then-ahead-lt1 c =
    let a = c.args in
    sym (ap (λ (r : Bool). kind_read r (bits_in a.ahead.word a.ahead.left)) c.if-raw.false ∙ kind-none a.ahead.word a.ahead.left (omega arith))

pub returns-then-head-lt2 : goal.returns-then-head-lt2
returns-then-head-lt2 c =
    let a = c.args in
    sym (ap (λ (r : Bool). kind_read r (bits_in a.ahead.word a.ahead.left)) c.if-raw.false ∙ kind-keep a.ahead.word a.ahead.left (omega arith) (omega arith))

pub returns-then-ahead-lt2 : goal.returns-then-ahead-lt2
returns-then-ahead-lt2 c =
    let a = c.args in
    sym (ap (λ (r : Bool). kind_read r (bits_in a.ahead.word a.ahead.left)) c.if-raw.false ∙ kind-short a.ahead.word (omega arith) (top_small a.ahead.word (omega arith)) a.ahead.left (omega arith) (omega arith))

pub returns-then-head-eq2 : goal.returns-then-head-eq2
returns-then-head-eq2 c =
    let a = c.args in
    sym (ap (λ (r : Bool). kind_read r (bits_in a.ahead.word a.ahead.left)) c.if-raw.false ∙ kind-same a.ahead.word (omega arith) (top_small a.ahead.word (omega arith)) a.ahead.left (omega arith) (omega arith))

pub returns : goal.returns
returns c =
    let a = c.args in
    sym (ap (λ (r : Bool). kind_read r (bits_in a.ahead.word a.ahead.left)) c.if-raw.false ∙ kind-new a.ahead.word (omega arith) (top_small a.ahead.word (omega arith)) a.ahead.left (omega arith) (omega arith))
