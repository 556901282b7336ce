-- `exports::put_words`. The invariant: the first i words stand at the front of the row, and behind them what it held. Assumes nothing.
use Rattle.std.proofs.Common.{length, ◌-◌, ◌≡◌, ◌≤◌}
use lib.ListN.{take, drop}
use Rattle.exports.proofs.put_words.Given as goal

abbrev pub invariant-loop-i : goal.invariant-loop-i
invariant-loop-i g l = (l.i ≤ length l.words) × (take l.i l.row ≡ take l.i l.words) × (drop l.i l.row ≡ drop l.i l.initial.row)

abbrev pub decreases-loop-i : goal.decreases-loop-i
decreases-loop-i g l = length l.words - l.i
