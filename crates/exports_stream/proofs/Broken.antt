-- What refuses a stream comes back through the C face as it was said: number, value and place. And what the call was lent is as it was. Assumes nothing.
use mathlib.Core.Path.{◌≡◌, sym, ap, ◌∙◌}
use mathlib.Core.List.{List}
use Prim.Native.Nat.{ℕ, ◌≤◌}
use borrow.Author.Tests.{le-leb}
use lib.ListN.{length, take}
use Rattle.models.specs.Answers.{refused, itself, keeping, NoneHolds}
use Rattle.models.specs.Limits.{most_values}
use Rattle.models.specs.declared.Fault.{Fault}
use Rattle.models.proofs.Judged.{accepted}
use Rattle.macaque_v.specs.Read.{values_in}
use Rattle.macaque_v.proofs.Broken as call
use Rattle.exports.specs.Face.{bound_of, row_in, plain_fault, one_word}
use Rattle.exports.proofs.Rows.{refused-with-room}
use Rattle.exports_stream.specs.Row.{writer_row}
use Rattle.exports_stream.specs.Calls.{opening_of, count_in, reopen_face_causes, reopen_fault, reopen_row, reopen_buffer, grid_fault, grid_out, sum_fault, sum_out}

module _ (n mode opening : ℕ) (f : Fault) (one : mode ≤ 1) where
  module _ (bytes : List ℕ) (few : n ≤ most_values) (e : values_in bytes n (opening_of mode opening) ≡ refused f) where
    pub grid-says-where : (out : List ℕ) → n ≤ length out → (grid_fault bytes n mode opening out ≡ f) × (grid_out bytes n mode opening out ≡ out)
    unfolding grid_fault grid_out
    grid-says-where out room =
        let g = call.grid-says-where n (opening_of mode opening) f bytes few e out room in
        rw (le-leb mode 1 one) (ap plain_fault g.0, g.1)

    pub sum-says-where : (out : List ℕ) → 1 ≤ length out → (sum_fault bytes n mode opening out ≡ f) × (sum_out bytes n mode opening out ≡ out)
    unfolding sum_fault sum_out
    sum-says-where out room = rw (le-leb mode 1 one) (refused-with-room one_word 1 out _ f (call.sum-says-where n (opening_of mode opening) f bytes few e) room)

  -- reopening at any k into a row, where the bytes in use are refused and no cause of its own holds
  pub reopening-says-where : (kind bound : ℕ) (buf : List ℕ) (used k : ℕ) (row : List ℕ) → NoneHolds (reopen_face_causes buf used n k mode kind bound row)
      → values_in (take used buf) n (opening_of mode opening) ≡ refused f
      → (reopen_fault buf used n k mode opening kind bound row ≡ f)
      × (reopen_row buf used n k mode opening kind bound row ≡ row)
      × (reopen_buffer buf used n k mode opening kind bound row ≡ buf)
  unfolding reopen_fault reopen_row reopen_buffer
  reopening-says-where kind bound buf used k row free e =
      let causes = reopen_face_causes buf used n k mode kind bound row in
      let all : values_in (take used buf) (count_in mode n) (opening_of mode opening) ≡ refused f = rw (le-leb mode 1 one) e in
      let r = call.reopening-says-where (count_in mode n) (opening_of mode opening) f (bound_of kind bound) buf used k (free.0, (free.1.0, (free.1.1.0, tt))) all in (
        sym (accepted itself _ causes free) ∙ ap plain_fault r.0,
        sym (accepted (keeping row) _ causes free) ∙ ap (row_in writer_row row) r.0,
        sym (accepted (keeping buf) _ causes free) ∙ r.1,
      )
