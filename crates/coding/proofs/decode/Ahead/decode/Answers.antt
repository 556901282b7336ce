-- `coding::decode::Ahead::decode` meets its contract, code word by code word. Assumes nothing.
use mathlib.Core.Path.{◌≡◌, sym, ap, ◌∙◌}
use mathlib.Core.Bool.{Bool, false}
use native.Mathlib.Omega.{arith}
use Rattle.bits.specs.Bits.{field, field_at}
use Rattle.stream.specs.Format.{macaque, window_in}
use Rattle.stream.specs.Read.{Step, read_one}
use Rattle.coding.specs.Inner.Ahead.{bits_in}
use Rattle.coding.proofs.Decoding.{at-end, word_cut, is_same}
use Rattle.coding.proofs.decode.Ahead.decode.Goals as goal
use Rattle.coding.proofs.decode.Ahead.decode.Goals.{Else-part-eq0, Else-raw}

-- the value is coded
coded : (c : Else-raw) {q : Step}
    → q ≡ read_one macaque false (window_in c.args.lead c.args.trail) c.args.last (bits_in c.args.self.word c.args.self.left)
    → q ≡ read_one macaque c.args.raw (window_in c.args.lead c.args.trail) c.args.last (bits_in c.args.self.word c.args.self.left)
coded c e =
    let a = c.args in
    e ∙ ap (λ (r : Bool). read_one macaque r (window_in a.lead a.trail) a.last (bits_in a.self.word a.self.left)) (sym c.if-raw.false)

-- its first bit is set
no-keep : (c : Else-part-eq0) → ¬ (field_at 0 1 (field 64 c.args.self.word) ≡ 0)
no-keep c z = c.if-part-eq0.false (c.part.ensures.is ∙ z)

pub returns-then-raw : goal.returns-then-raw
returns-then-raw c =
    let a = c.args in
    c.in_full.ensures ∙ ap (λ (r : Bool). read_one macaque r (window_in a.lead a.trail) a.last (bits_in a.self.word a.self.left)) (sym c.if-raw.true)

pub returns-then-self-lt1 : goal.returns-then-self-lt1
returns-then-self-lt1 c =
    let a = c.args in
    coded (goal.at.returns-then-self-lt1 c).Else-raw (at-end a.self.word a.self.left a.self.few (window_in a.lead a.trail) a.last (omega arith))

pub returns-then-part-eq0 : goal.returns-then-part-eq0
returns-then-part-eq0 c = coded (goal.at.returns-then-part-eq0 c).Else-raw c.in_window.ensures

pub returns-then-self-lt2 : goal.returns-then-self-lt2
returns-then-self-lt2 c =
    let a = c.args in
    coded (goal.at.returns-then-self-lt2 c).Else-raw (word_cut a.self.word a.self.left a.self.few (window_in a.lead a.trail) a.last (no-keep (goal.at.returns-then-self-lt2 c).Else-part-eq0) (omega arith) (omega arith))

pub returns-then-part-eq0-2 : goal.returns-then-part-eq0-2
returns-then-part-eq0-2 c =
    let a = c.args in
    coded (goal.at.returns-then-part-eq0-2 c).Else-raw (is_same a.self.word a.self.left a.self.few (window_in a.lead a.trail) a.last (no-keep (goal.at.returns-then-part-eq0-2 c).Else-part-eq0) (omega arith) (sym c.part-2.ensures.is ∙ c.if-part-eq0-2.true))

pub returns : goal.returns
returns c = coded (goal.at.returns c).Else-raw c.with_window.ensures
