-- `place_table::check` meets its contract: refused by the first cause that holds, else what the stream beside its table says. Assumes nothing.
use mathlib.Core.Path.{sym, ap, ◌∙◌}
use Prim.Native.Nat.{ℕ}
use native.Mathlib.Omega.{arith}
use borrow.Author.Tests.{ltb-false}
use lib.ListN.{length}
use Rattle.bits.specs.Bits.{bits_of}
use Rattle.models.specs.Answers.{refused, NoneHolds}
use Rattle.models.specs.Limits.{most_values}
use Rattle.models.proofs.Judged.{none-holds, when-passed}
use Rattle.places.specs.Table.{same_entries, entries_in, matched}
use Rattle.stream.specs.Read.{read_all}
use Rattle.places.specs.Calls.{table_in}
use Rattle.places.proofs.Calls.{number-says}
use Rattle.places.proofs.Check.{numbered}
use Rattle.places.proofs.Words.{table-length}
use Rattle.macaque_v.specs.State.{stream_in, is_first, opened}
use Rattle.place_table.specs.Calls.{check_causes, check_answer}
use Rattle.place_table.proofs.check.Goals as goal
use Rattle.place_table.proofs.check.Goals.{In_ok-judge_check}

-- nothing refuses
clear : (c : In_ok-judge_check)
    → NoneHolds (check_causes c.args.count (length c.args.table.now) c.args.entries)
clear c = none-holds _ _ c.judge_check.ensures c.in_ok-judge_check.was

pub compare-requires : goal.compare-requires
compare-requires c =
    let a = c.args in
    let free = clear (goal.at.compare-requires c).In_ok-judge_check in
    let n = number-says (length a.table.now) a.entries a.count free.1 in
    (ltb-false most_values a.count free.0, omega (arith, n.0, n.1))

pub returns : goal.returns
unfolding check_answer
returns c =
    let a = c.args in
    let causes = check_causes a.count (length a.table.now) a.entries in
    let S = stream_in (is_first a.opening) in
    let n = number-says (length a.table.now) a.entries a.count (clear (goal.at.returns c).In_ok-judge_check).1 in
    let own = entries_in S a.count (opened a.opening) (bits_of a.bytes.now) in
    c.compare.ensures
    ∙ ap (λ (k : ℕ). matched (same_entries (table_in a.table.now k) own) (read_all S a.count (opened a.opening) (bits_of a.bytes.now))) (sym n.1)
    ∙ sym (numbered S a.count (opened a.opening) (bits_of a.bytes.now) (table_in a.table.now a.entries) (table-length a.table.now a.entries ∙ n.1))
    ∙ when-passed causes _ c.judge_check.ensures refused _ c.in_ok-judge_check.was
