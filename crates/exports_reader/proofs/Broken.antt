-- A stream that breaks off, read through a reader's row: each value before the break comes through, and then the fault that reading a count says, with
-- the row and the output as they were; the values are those that were sent. And `last_value` says the same fault. Assumes nothing.
use mathlib.Core.Path.{◌≡◌, ap, ◌∙◌}
use mathlib.Core.List.{List, ◌++◌}
use Prim.Native.Nat.{ℕ, ◌*◌, ◌^◌, ◌≤◌, ◌<◌}
use borrow.Author.Tests.{le-leb}
use lib.ListN.{length, take}
use Rattle.bits.specs.Bits.{bits_of}
use Rattle.models.specs.Answers.{answered, refused, fault_in}
use Rattle.models.specs.Limits.{most_values}
use Rattle.models.specs.declared.Fault.{Fault}
use Rattle.macaque_v.specs.State.{opening_value}
use Rattle.macaque_v.specs.Read.{values_in}
use Rattle.exports.specs.Face.{fault_said, row_after, plain_fault, one_word}
use Rattle.exports.proofs.Rows.{refused-with-room}
use Rattle.exports_stream.specs.Calls.{opening_of, count_in}
use Rattle.reader.specs.Calls.{next_answer, end_answer}
use Rattle.reader.specs.Run.{last_answer}
use Rattle.reader.specs.Broken.{ReadsUntil, ReadsAsSent}
use Rattle.reader.specs.declared.position.Position.{Position}
use Rattle.reader.proofs.Broken as call
use Rattle.exports_reader.specs.Row.{reader_length}
use Rattle.exports_reader.specs.Calls.{open_row}
use Rattle.exports_reader.specs.Broken.{BreaksWith, RowReadsUntil, RowReadsAsSent}
use Rattle.exports_reader.proofs.Promises.{next-refused-with, each-of-the-nexts}

-- opened into a row
module _ (mode opening : ℕ) (row out : List ℕ) (one : mode ≤ 1) (words : reader_length ≤ length row) (room : 1 ≤ length out) (h : opening_value (opening_of mode opening) < 2 ^ 32) where
  -- what a reader reads is read through the row
  until-through-a-row : (bytes : List ℕ) (f : Fault) → ReadsUntil bytes (opening_of mode opening) f → RowReadsUntil bytes (open_row mode opening row) out f
  until-through-a-row bytes f R =
      record {
        values = R.run.values;
        long = R.long;
        each =
            each-of-the-nexts bytes mode opening row out one words room h f.value R.run R.accepts (BreaksWith bytes f)
            (λ after left long is.
            record {
              next = λ other. next-refused-with bytes after left long f R.run.after (ap (next_answer bytes) is ∙ R.next other);
              end = λ eight. ap (λ (p : Position). plain_fault (end_answer bytes p)) is ∙ ap plain_fault (R.end eight);
            });
      }

  sent-through-a-row : (bytes : List ℕ) (f : Fault) (sent : List ℕ) → ReadsAsSent bytes (opening_of mode opening) f sent → RowReadsAsSent bytes (open_row mode opening row) out f sent
  unfolding until-through-a-row
  sent-through-a-row bytes f sent R = record { until = until-through-a-row bytes f R.until; as_sent = R.as_sent }

  -- ---- the promises: of bytes that reading a count refuses

  module _ (bytes : List ℕ) (n : ℕ) (few : n ≤ most_values) (f : Fault) (e : values_in bytes n (opening_of mode opening) ≡ refused f) where
    -- as many nexts as the fault says answer 0 and a value; behind them the next answers the fault and changes nothing or, where it is 8, the end answers it
    pub until-it-broke-through-a-row : RowReadsUntil bytes (open_row mode opening row) out f
    until-it-broke-through-a-row = until-through-a-row bytes f (call.until-it-broke bytes (opening_of mode opening) h n few f e)

    -- where the bits before its place are those of a stream that was sent, the values that come through are the first of those that were sent
    pub as-it-was-sent-through-a-row : (whole : List ℕ) (n₀ : ℕ) (sent : List ℕ) → values_in whole n₀ (opening_of mode opening) ≡ answered sent → f.value ≤ n₀
        → take f.place (bits_of bytes) ≡ take f.place (bits_of whole) → RowReadsAsSent bytes (open_row mode opening row) out f sent
    as-it-was-sent-through-a-row whole n₀ sent acc le same =
        sent-through-a-row bytes f sent (call.as-it-was-sent bytes (opening_of mode opening) h n few f e whole n₀ sent acc le same)

    -- `last_value` answers the fault, and leaves its output
    pub last-value-says-where : (value : List ℕ) → 1 ≤ length value
        → (fault_said 1 (length value) (last_answer bytes (count_in mode n) (opening_of mode opening)) ≡ f)
        × (row_after 1 one_word value (last_answer bytes (count_in mode n) (opening_of mode opening)) ≡ value)
    last-value-says-where value fits =
        rw (le-leb mode 1 one)
        (refused-with-room one_word 1 value (last_answer bytes n (opening_of mode opening)) f (call.every-call-says-where bytes (opening_of mode opening) h n few f e).last fits)

  -- ---- and of a stream that was sent, n values of a count that is allowed

  module _ (bytes : List ℕ) (n : ℕ) (few : n ≤ most_values) (sent : List ℕ) (acc : values_in bytes n (opening_of mode opening) ≡ answered sent) where
    -- only the first m bytes arrived: 5, and before it the nexts hand out the first of the values that were sent
    pub a-cut-is-5-through-a-row : (m : ℕ) → m < length bytes
        → (f : Fault) × (f.number ≡ 5) × (values_in (take m bytes) n (opening_of mode opening) ≡ refused f) × RowReadsAsSent (take m bytes) (open_row mode opening row) out f sent
    a-cut-is-5-through-a-row m less =
        let C = call.a-cut-is-5 bytes (opening_of mode opening) h n few sent acc m less in
        (C.fault, C.five, C.refuses, sent-through-a-row (take m bytes) C.fault sent C.reads)

    -- further bytes follow: the nexts hand out all values that were sent, and then the end answers 8, at the first bit of these bytes
    pub two-run-together-through-a-row : (more : List ℕ) → 0 < length more
        → (values_in (bytes ++ more) n (opening_of mode opening) ≡ refused (fault_in 8 n (8 * length bytes)))
        × RowReadsAsSent (bytes ++ more) (open_row mode opening row) out (fault_in 8 n (8 * length bytes)) sent
    two-run-together-through-a-row more any =
        let C = call.two-run-together bytes (opening_of mode opening) h n few sent acc more any in
        (C.0, sent-through-a-row (bytes ++ more) (fault_in 8 n (8 * length bytes)) sent C.1)
