-- Laws of a place table in lent words, four to an entry: how many entries are in use, which each is, the first of them alone, and what new entries laid
-- behind them leave. Assumes nothing.
use mathlib.Core.Path.{◌≡◌, refl, sym, ap, ap₂, ◌∙◌}
use mathlib.Core.List.{List, [], ◌∷◌, ◌++◌, append_assoc, append-nil}
use mathlib.Core.Option.{none, some}
use Prim.Native.Nat.{ℕ, zero, suc, ◌+◌, ◌-◌, ◌*◌, ◌≤◌, ◌<◌}
use native.Mathlib.Omega.{arith}
use lib.ListN.{length, take, drop, get_or, get_elem?, length-append, length-drop, take-append-drop}
use lib.Seq.{take_at, drop_at, get_or-take, get_or-drop, drop-drop, length-take-le, sets, sets-eq}
use Rattle.places.specs.Table.{Entry}
use Rattle.places.specs.Calls.{words_each, entry_at, table_in, words_of, laid_entries}
use Rattle.places.proofs.Entries.{elem_at, elem-first, elem-none}

-- ---- the entries in use

pub table-length : (words : List ℕ) (n : ℕ) → length (table_in words n) ≡ n
unfolding table_in
table-length words zero = refl
table-length words (suc n) = omega (arith, length-append (table_in words n) (entry_at words n ∷ []), table-length words n)

-- ---- entries and their words

-- entries whose four words are the same
entry-by-words : (us ws : List ℕ) (i j : ℕ) → ((c : ℕ) → c < words_each → get_or us (words_each * i + c) 0 ≡ get_or ws (words_each * j + c) 0) → entry_at us i ≡ entry_at ws j
entry-by-words us ws i j same =
    let first : (n : ℕ) → n ≡ n + 0 = λ n. omega arith in
    let p : get_or us (words_each * i) 0 ≡ get_or ws (words_each * j) 0 =
    ap (λ (n : ℕ). get_or us n 0) (first (words_each * i)) ∙ same 0 (omega arith) ∙ ap (λ (n : ℕ). get_or ws n 0) (sym (first (words_each * j))) in
    let l = same 1 (omega arith) in
    let w = same 2 (omega arith) in
    let t = same 3 (omega arith) in
    λ k. record { place = p k; last = l k; win = record { lead = w k; trail = t k } }

-- the entries behind the first n are those of the words behind them
entry-behind : (words : List ℕ) (n i : ℕ) → entry_at (drop (words_each * n) words) i ≡ entry_at words (n + i)
entry-behind words n i =
    entry-by-words (drop (words_each * n) words) words i (n + i) (λ c lt.
    let e : words_each * n + (words_each * i + c) ≡ words_each * (n + i) + c = omega arith in
    get_or-drop (words_each * n) words (words_each * i + c) 0 ∙ ap (λ (k : ℕ). get_or words k 0) e)

pub table-parts : (words : List ℕ) (n m : ℕ) → table_in words (n + m) ≡ table_in words n ++ table_in (drop (words_each * n) words) m
unfolding table_in
table-parts words n zero =
    let e : n + 0 ≡ n = omega arith in
    ap (table_in words) e ∙ sym (append-nil (table_in words n))
table-parts words n (suc m) =
    let up : n + suc m ≡ suc (n + m) = omega arith in
    let rest : List ℕ = drop (words_each * n) words in
    ap (table_in words) up
    ∙ ap₂ (λ (es : List Entry) (e : Entry). es ++ (e ∷ [])) (table-parts words n m) (sym (entry-behind words n m))
    ∙ append_assoc (table_in words n) (table_in rest m) (entry_at rest m ∷ [])

-- the first k of them
pub take-table : (words : List ℕ) (k n : ℕ) → k ≤ n → take k (table_in words n) ≡ table_in words k
take-table words k n le =
    let up : n ≡ k + (n - k) = omega arith in
    ap (λ (j : ℕ). take k (table_in words j)) up ∙ ap (take k) (table-parts words k (n - k))
    ∙ take_at (table_in words k) (table_in (drop (words_each * k) words) (n - k)) k (table-length words k)

-- entry i of n in use is that of its four words
pub entry-in-use : (words : List ℕ) (n i : ℕ) → i < n → get_elem? (table_in words n) i ≡ some (entry_at words i)
unfolding table_in
entry-in-use words n i lt =
    let m : ℕ = n - suc i in
    let up : n ≡ suc i + m = omega arith in
    ap (λ (j : ℕ). get_elem? (table_in words j) i) up ∙ ap (λ (z : List Entry). get_elem? z i) (table-parts words (suc i) m)
    ∙ elem-first (table_in words (suc i)) (table_in (drop (words_each * suc i) words) m) i (omega (arith, table-length words (suc i)))
    ∙ elem_at (table_in words i) (entry_at words i) [] i (table-length words i)

pub no-entry-in-use : (words : List ℕ) (n i : ℕ) → n ≤ i → get_elem? (table_in words n) i ≡ none
no-entry-in-use words n i le = elem-none (table_in words n) i (omega (arith, table-length words n))

-- the first n entries are told by their words alone
pub table-of-first : (us ws : List ℕ) (n : ℕ) → take (words_each * n) us ≡ take (words_each * n) ws → table_in us n ≡ table_in ws n
unfolding table_in
table-of-first us ws n e = go n (omega arith)
  where
    word : (j : ℕ) → j < words_each * n → get_or us j 0 ≡ get_or ws j 0
    word j lt =
        sym (get_or-take (words_each * n) us j 0 lt) ∙ ap (λ (z : List ℕ). get_or z j 0) e ∙ get_or-take (words_each * n) ws j 0 lt

    go : (m : ℕ) → m ≤ n → table_in us m ≡ table_in ws m
    go zero le = refl
    go (suc m) le =
        ap₂ (λ (es : List Entry) (d : Entry). es ++ (d ∷ [])) (go m (omega arith))
        (entry-by-words us ws m m (λ c lt. word (words_each * m + c) (omega arith)))

pub words-length : (es : List Entry) → length (words_of es) ≡ words_each * length es
unfolding words_of
words-length [] = refl
words-length (e ∷ es) = omega (arith, words-length es)

pub words_append : (es ds : List Entry) → words_of (es ++ ds) ≡ words_of es ++ words_of ds
unfolding words_of
words_append [] ds = refl
words_append (e ∷ es) ds = ap (λ (z : List ℕ). words_of (e ∷ []) ++ z) (words_append es ds)

-- entries, from the words that they were laid in
pub table-of-words : (es : List Entry) (r : List ℕ) → table_in (words_of es ++ r) (length es) ≡ es
unfolding table_in words_of
table-of-words [] r = refl
table-of-words (e ∷ es) r =
    let up : suc (length es) ≡ 1 + length es = omega arith in
    ap (table_in (words_of (e ∷ es) ++ r)) up
    ∙ table-parts (words_of (e ∷ es) ++ r) 1 (length es)
    ∙ ap (λ (ds : List Entry). e ∷ ds) (table-of-words es r)

-- ---- entries laid behind the first n

-- no entry more: the words are what they were
pub laid_none : (words : List ℕ) (n : ℕ) → laid_entries words n [] ≡ words
unfolding words_of
laid_none words n =
    let e : n + 0 ≡ n = omega arith in
    ap (λ (k : ℕ). take (words_each * n) words ++ drop (words_each * k) words) e ∙ take-append-drop (words_each * n) words

module _ (words : List ℕ) (n : ℕ) (es : List Entry) where
  abbrev before : List ℕ
  before = take (words_each * n) words

  abbrev behind : List ℕ
  behind = drop (words_each * (n + length es)) words

  module _ (fits : words_each * n ≤ length words) where
    front_length : length (before ++ words_of es) ≡ words_each * (n + length es)
    front_length = omega (arith, length-append before (words_of es), length-take-le (words_each * n) words fits, words-length es)

    -- the words before them stay
    pub laid-before : take (words_each * n) (laid_entries words n es) ≡ take (words_each * n) words
    laid-before = take_at before (words_of es ++ behind) (words_each * n) (length-take-le (words_each * n) words fits)

    -- and the words behind them
    pub laid-behind : drop (words_each * (n + length es)) (laid_entries words n es) ≡ drop (words_each * (n + length es)) words
    laid-behind =
        ap (drop (words_each * (n + length es))) (sym (append_assoc before (words_of es) behind))
        ∙ drop_at (before ++ words_of es) behind (words_each * (n + length es)) front_length

    -- the entries in use are then the first n and these
    pub laid_table : table_in (laid_entries words n es) (n + length es) ≡ table_in words n ++ es
    laid_table =
        table-parts (laid_entries words n es) n (length es)
        ∙ ap₂ (λ (ds fs : List Entry). ds ++ fs) (table-of-first (laid_entries words n es) words n laid-before)
        (ap (λ (z : List ℕ). table_in z (length es)) (drop_at before (words_of es ++ behind) (words_each * n) (length-take-le (words_each * n) words fits))
        ∙ table-of-words es behind)

    -- entries more behind these
    pub laid_more : (ds : List Entry) → laid_entries (laid_entries words n es) (n + length es) ds ≡ laid_entries words n (es ++ ds)
    laid_more ds =
        let m : ℕ = n + length es in
        let laid : List ℕ = laid_entries words n es in
        let front : take (words_each * m) laid ≡ before ++ words_of es =
        ap (take (words_each * m)) (sym (append_assoc before (words_of es) behind)) ∙ take_at (before ++ words_of es) behind (words_each * m) front_length in
        let further : (z : List ℕ) → drop (words_each * length ds) (drop (words_each * m) z) ≡ drop (words_each * (m + length ds)) z =
        λ z.
        let sum : words_each * m + words_each * length ds ≡ words_each * (m + length ds) = omega arith in
        drop-drop (words_each * length ds) (words_each * m) z ∙ ap (λ (k : ℕ). drop k z) sum in
        let last : drop (words_each * (m + length ds)) laid ≡ drop (words_each * (m + length ds)) words =
        sym (further laid) ∙ ap (drop (words_each * length ds)) laid-behind ∙ further words in
        let all : m + length ds ≡ n + length (es ++ ds) = omega (arith, length-append es ds) in
        ap₂ (λ (x y : List ℕ). x ++ (words_of ds ++ y)) front (last ∙ ap (λ (k : ℕ). drop (words_each * k) words) all)
        ∙ append_assoc before (words_of es) (words_of ds ++ drop (words_each * (n + length (es ++ ds))) words)
        ∙ ap (λ (z : List ℕ). before ++ z) (sym (append_assoc (words_of es) (words_of ds) (drop (words_each * (n + length (es ++ ds))) words))
        ∙ ap (λ (z : List ℕ). z ++ drop (words_each * (n + length (es ++ ds))) words) (sym (words_append es ds)))

  module _ (fits : words_each * (n + length es) ≤ length words) where
    -- there are as many words as before
    pub laid-length : length (laid_entries words n es) ≡ length words
    laid-length =
        omega (arith, length-append before (words_of es ++ behind), length-append (words_of es) behind, length-take-le (words_each * n) words (omega arith), words-length es, length-drop (words_each * (n + length es)) words)

    -- it is to store their words one after another
    pub laid-stores : sets words (words_each * n) (words_of es) ≡ laid_entries words n es
    laid-stores =
        let e : words_each * n + length (words_of es) ≡ words_each * (n + length es) = omega (arith, words-length es) in
        sets-eq (words_of es) words (words_each * n) (omega arith)
        ∙ ap (λ (k : ℕ). before ++ words_of es ++ drop k words) e
        ∙ append_assoc before (words_of es) behind
