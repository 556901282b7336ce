-- `macaque_v::noting::put_entry` meets its contract: the four words of the entry. Assumes nothing.
use mathlib.Core.Path.{◌≡◌, ap, ◌∙◌}
use mathlib.Core.List.{List, [], ◌∷◌, ◌++◌}
use Prim.Native.Nat.{ℕ, ◌+◌, ◌-◌, ◌*◌}
use native.Mathlib.Omega.{arith}
use lib.ListN.{take, drop}
use Rattle.std.proofs.lemmas.List.{drop-drop}
use Rattle.places.specs.Calls.{words_of}
use Rattle.macaque_v.proofs.noting.put_entry.Goals as goal

pub returns : goal.returns
unfolding words_of
returns c =
    let a = c.args in
    let at : ℕ = 4 * a.k in
    let n : ℕ = at + 4 - at in
    let end : at + n ≡ 4 * (a.k + 1) = omega arith in
    ap (λ (new : List ℕ). take at a.table.now ++ (new ++ drop n (drop at a.table.now))) c.copy_from_slice.ensures.after
    ∙ ap (λ (rest : List ℕ). take at a.table.now ++ ((a.place ∷ a.last ∷ a.lead ∷ a.trail ∷ []) ++ rest)) (drop-drop n at a.table.now ∙ ap (λ (m : ℕ). drop m a.table.now) end)
