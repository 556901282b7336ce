-- One value's bits as a number and its width, so that they are put at once, and the window after it. Assumes nothing.
use Rattle.std.specs.Prelude.{◌≡◌, Bool, List, ℕ, ◌^◌, ◌≤◌, ◌<◌}
use Rattle.bits.specs.Bits.{field}
use Rattle.stream.specs.Format.{macaque, Window, window_in, kind_of, code_of, window_by, bits_for, window_for}
use Rattle.coding.specs.declared.code.Code.{Code}

-- r says these bits, and leaves this window
pub record Says (bits : List Bool) (win : Window) (r : Code) : Type 0 where
  pub digits : field r.width r.bits ≡ bits
  pub small : r.bits < 2 ^ r.width
  pub window : window_in r.lead r.trail ≡ win
  pub some : 0 < r.width
  pub short : r.width ≤ 45

-- the code of x, the exclusive or with the last value
abbrev pub CodedXor : Window → ℕ → Code → Type 0
CodedXor win x r = Says (code_of macaque win x) (window_by macaque win x (kind_of macaque win x)) r

-- the bits of the kept value v after the last value l
abbrev pub Coded : Bool → Window → ℕ → ℕ → Code → Type 0
Coded raw win l v r = Says (bits_for macaque raw win l v) (window_for macaque raw win l v) r
