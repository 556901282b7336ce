-- `exports::put_words` meets its contract: a word more at the front, and the row behind it as it was. Assumes nothing.
use mathlib.Core.Path.{refl}
use native.Mathlib.Omega.{arith}
use Rattle.exports.proofs.Front.{taken-more, left-less, all-there}
use Rattle.exports.proofs.put_words.Goals as goal

pub loop-i-init : goal.loop-i-init
loop-i-init g c = (omega arith, refl, refl)

pub loop-i-preserved : goal.loop-i-preserved
loop-i-preserved g c =
    let a = c.args in
    let l = c.loop-i in
    let x = c.index-words-i.result in (
      omega arith,
      taken-more l.row a.words.now l.i x (omega (arith, l.auto.row)) c.loop-i-test.true c.index-words-i.is l.invariant.1,
      left-less l.row a.row.now l.i x l.invariant.2,
    )

pub returns-clause-row : goal.returns-clause-row
returns-clause-row g c =
    let a = c.args in
    let l = c.loop-i in
    all-there l.row a.words.now a.row.now l.i (omega arith) c.if-row-words.false l.invariant.1 l.invariant.2
