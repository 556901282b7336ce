-- Laws of the differences of two lists: which indices are listed, in which order, and what the lists in each other's place give. Assumes nothing.
use mathlib.Core.Path.{◌≡◌, refl, sym, ap, ap₂, ◌∙◌, subst}
use mathlib.Core.Logic.{inl, inr}
use mathlib.Core.Bool.{Bool, true, false, cond, false≢true, true≢false}
use mathlib.Core.List.{List, [], ◌∷◌}
use Prim.Native.Nat.{ℕ, zero, suc, ◌+◌, ◌≤◌, ◌<◌, max}
use native.Mathlib.Nat.{max_comm, le-max_left, le-max_right}
use native.Mathlib.Omega.{arith}
use borrow.Author.Tests.{eq-eqb, ne_eqb, eqb-false, eqb-true, leb-true, leb-false}
use Rattle.std.specs.Prelude.{Option, Some, None}
use lib.Dec.{eqb, leb}
use lib.ListN.{length, get_or}
use Rattle.models.proofs.Tests.{by-test, never}
use Rattle.comparing.specs.Differences.{entry_at, same_entry, both_at, if_differs, differences_from, differences, Among, PartsAt, other_values, left_only, right_only, Above, Rising, swapped}
use Rattle.comparing.specs.declared.Difference.{Difference}

-- ---- entries

pub entry-there : (us : List ℕ) (i : ℕ) → i < length us → entry_at us i ≡ Some (get_or us i 0)
unfolding entry_at
entry-there [] i h = absurd (omega arith)
entry-there (u ∷ us) zero h = refl
entry-there (u ∷ us) (suc i) h = entry-there us i (omega arith)

pub entry-missing : (us : List ℕ) (i : ℕ) → length us ≤ i → entry_at us i ≡ None
unfolding entry_at
entry-missing [] i h = refl
entry-missing (u ∷ us) zero h = absurd (omega arith)
entry-missing (u ∷ us) (suc i) h = entry-missing us i (omega arith)

same_refl : (a : Option ℕ) → same_entry a a ≡ true
same_refl None = refl
same_refl (Some u) = eq-eqb u u refl

pub same-swapped : (a b : Option ℕ) → same_entry b a ≡ same_entry a b
same-swapped None None = refl
same-swapped None (Some v) = refl
same-swapped (Some u) None = refl
same-swapped (Some u) (Some v) = eqb-swapped (eqb u v) refl
  where
    eqb-swapped : (t : Bool) → eqb u v ≡ t → eqb v u ≡ t
    eqb-swapped true e = eq-eqb v u (sym (eqb-true u v e))
    eqb-swapped false e = ne_eqb v u (λ f. eqb-false u v e (sym f))

missing-no-value : {v : ℕ} → None ≡ Some v → ⊥
missing-no-value e = never (cc)

same-value : {u v : ℕ} → Some u ≡ Some v → u ≡ v
same-value e = cc

-- entries that are the same are equal
pub same-equal : (a b : Option ℕ) → same_entry a b ≡ true → a ≡ b
same-equal None None h = refl
same-equal None (Some v) h = absurd (false≢true h)
same-equal (Some u) None h = absurd (false≢true h)
same-equal (Some u) (Some v) h = ap Some (eqb-true u v h)

pub not_same : (a b : Option ℕ) → ¬ (a ≡ b) → same_entry a b ≡ false
not_same a b h = go (same_entry a b) refl
  where
    go : (t : Bool) → same_entry a b ≡ t → t ≡ false
    go true e = absurd (h (same-equal a b e))
    go false e = refl

-- ---- the differences of n indices from i on

module _ (us vs : List ℕ) where
  pub most : (n i : ℕ) → length (differences_from n i us vs) ≤ n
  unfolding differences_from
  most zero i = omega arith
  most (suc n) i =
      let h = most n (suc i) in
      by-test (λ (ds : List Difference). length ds ≤ suc n) (same_entry (entry_at us i) (entry_at vs i)) (differences_from n (suc i) us vs) (both_at us vs i ∷ differences_from n (suc i) us vs)
      (λ e. omega arith) (λ e. omega arith)

  -- an index at which the entries are not the same is listed
  pub listed : (n i j : ℕ) → i ≤ j → j < i + n → ¬ (entry_at us j ≡ entry_at vs j) → Among (both_at us vs j) (differences_from n i us vs)
  unfolding differences_from
  listed zero i j le lt h = absurd (omega arith)
  listed (suc n) i j le lt h = go (eqb i j) refl (listed n (suc i) j)
    where
      later : List Difference
      later = differences_from n (suc i) us vs

      go : (t : Bool) → eqb i j ≡ t → (suc i ≤ j → j < suc i + n → ¬ (entry_at us j ≡ entry_at vs j) → Among (both_at us vs j) later) → Among (both_at us vs j) (if_differs (both_at us vs i) later)
      go true e ih =
          let is : i ≡ j = eqb-true i j e in
          rw (is, not_same (entry_at us j) (entry_at vs j) h) (inl refl)
      go false e ih =
          let apart : ¬ (i ≡ j) = eqb-false i j e in
          let more : Among (both_at us vs j) later = ih (omega arith) (omega arith) h in
          by-test (Among (both_at us vs j)) (same_entry (entry_at us i) (entry_at vs i)) later (both_at us vs i ∷ later) (λ e. more) (λ e. inr more)

  -- and nothing else is
  pub record Parts (n i : ℕ) (d : Difference) : Type 0 where
    pub from : i ≤ d.index
    pub below : d.index < i + n
    pub is : d ≡ both_at us vs d.index
    pub apart : ¬ (entry_at us d.index ≡ entry_at vs d.index)

  pub nothing-else : (n i : ℕ) (d : Difference) → Among d (differences_from n i us vs) → Parts n i d
  unfolding differences_from
  nothing-else zero i d h = absurd h
  nothing-else (suc n) i d h = go (same_entry (entry_at us i) (entry_at vs i)) refl h (nothing-else n (suc i) d)
    where
      later : List Difference
      later = differences_from n (suc i) us vs

      further : Parts n (suc i) d → Parts (suc n) i d
      further p = record { from = omega (arith, p.from); below = omega (arith, p.below); is = p.is; apart = p.apart }

      here : same_entry (entry_at us i) (entry_at vs i) ≡ false → d ≡ both_at us vs i → Parts (suc n) i d
      here e is =
          let at : d.index ≡ i = ap (λ (x : Difference). x.index) is in
          record {
            from = omega (arith, at);
            below = omega (arith, at);
            is = is ∙ ap (both_at us vs) (sym at);
            apart =
                λ f. true≢false
                (sym (same_refl (entry_at us i))
                ∙ ap (same_entry (entry_at us i)) (ap (entry_at us) (sym at) ∙ f ∙ ap (entry_at vs) at)
                ∙ e);
          }

      go : (t : Bool) → same_entry (entry_at us i) (entry_at vs i) ≡ t → Among d (cond t later (both_at us vs i ∷ later)) → (Among d later → Parts n (suc i) d) → Parts (suc n) i d
      go true e m ih = further (ih m)
      go false e (inl is) ih = here e is
      go false e (inr m) ih = further (ih m)

  above : (n i k : ℕ) → k < i → Above k (differences_from n i us vs)
  unfolding differences_from
  above zero i k h = tt
  above (suc n) i k h =
      let more = above n (suc i) k (omega arith) in
      by-test (Above k) (same_entry (entry_at us i) (entry_at vs i)) (differences_from n (suc i) us vs) (both_at us vs i ∷ differences_from n (suc i) us vs) (λ e. more) (λ e. (h, more))

  pub rising : (n i : ℕ) → Rising (differences_from n i us vs)
  unfolding differences_from
  rising zero i = tt
  rising (suc n) i =
      let more = rising n (suc i) in
      by-test Rising (same_entry (entry_at us i) (entry_at vs i)) (differences_from n (suc i) us vs) (both_at us vs i ∷ differences_from n (suc i) us vs)
      (λ e. more) (λ e. (above n (suc i) i (omega arith), more))

  pub turned : (n i : ℕ) → differences_from n i vs us ≡ swapped (differences_from n i us vs)
  unfolding differences_from
  turned zero i = refl
  turned (suc n) i = go (same_entry (entry_at us i) (entry_at vs i)) refl (turned n (suc i))
    where
      later : List Difference
      later = differences_from n (suc i) us vs

      go : (t : Bool) → same_entry (entry_at us i) (entry_at vs i) ≡ t → differences_from n (suc i) vs us ≡ swapped later
          → if_differs (both_at vs us i) (differences_from n (suc i) vs us) ≡ swapped (cond t later (both_at us vs i ∷ later))
      go true e ih = rw (same-swapped (entry_at us i) (entry_at vs i) ∙ e) ih
      go false e ih = rw (same-swapped (entry_at us i) (entry_at vs i) ∙ e) (ap (λ (ds : List Difference). both_at vs us i ∷ ds) ih)

pub none-of-itself : (us : List ℕ) (n i : ℕ) → differences_from n i us us ≡ []
unfolding differences_from
none-of-itself us zero i = refl
none-of-itself us (suc n) i = rw (same_refl (entry_at us i)) (none-of-itself us n (suc i))

pub length-swapped : (ds : List Difference) → length (swapped ds) ≡ length ds
length-swapped [] = refl
length-swapped (d ∷ ds) = ap suc (length-swapped ds)

-- ---- lists of the same entries are the same

same_entries : (us vs : List ℕ) → ((i : ℕ) → entry_at us i ≡ entry_at vs i) → us ≡ vs
unfolding entry_at
same_entries [] [] h = refl
same_entries [] (v ∷ vs) h = absurd (missing-no-value (h 0))
same_entries (u ∷ us) [] h = absurd (missing-no-value (sym (h 0)))
same_entries (u ∷ us) (v ∷ vs) h = ap₂ (λ (x : ℕ) (xs : List ℕ). x ∷ xs) (same-value (h 0)) (same_entries us vs (λ i. h (suc i)))

-- ---- all differences

module _ (us vs : List ℕ) where
  not_listed : differences us vs ≡ [] → (i : ℕ) → entry_at us i ≡ entry_at vs i
  not_listed e i = go (same_entry (entry_at us i) (entry_at vs i)) refl
    where
      go : (t : Bool) → same_entry (entry_at us i) (entry_at vs i) ≡ t → entry_at us i ≡ entry_at vs i
      go true s = same-equal (entry_at us i) (entry_at vs i) s
      go false s = beyond (leb (max (length us) (length vs)) i) refl
        where
          beyond : (t : Bool) → leb (max (length us) (length vs)) i ≡ t → entry_at us i ≡ entry_at vs i
          beyond true b =
              let far = leb-true (max (length us) (length vs)) i b in
              entry-missing us i (omega (arith, le-max_left (length us) (length vs))) ∙ sym (entry-missing vs i (omega (arith, le-max_right (length us) (length vs))))
          beyond false b =
              absurd
              (subst (Among (both_at us vs i)) e
              (listed us vs (max (length us) (length vs)) 0 i (omega arith) (omega (arith, leb-false (max (length us) (length vs)) i b))
              (λ f. true≢false (sym (same_refl (entry_at us i)) ∙ ap (same_entry (entry_at us i)) f ∙ s))))

  -- no difference is listed only where the lists are the same
  pub only-of-the-same : length (differences us vs) ≡ 0 → us ≡ vs
  only-of-the-same e = same_entries us vs (not_listed (empty (differences us vs) e))
    where
      empty : (ds : List Difference) → length ds ≡ 0 → ds ≡ []
      empty [] h = refl
      empty (d ∷ ds) h = absurd (omega arith)

  -- the entries of an index that both lists have, and that one of them has
  both-there : (i : ℕ) → i < length us → i < length vs → both_at us vs i ≡ record { index = i; left = Some (get_or us i 0); right = Some (get_or vs i 0) }
  both-there i p q = ap₂ (λ (a b : Option ℕ). record { index = i; left = a; right = b }) (entry-there us i p) (entry-there vs i q)

  left_there : (i : ℕ) → i < length us → length vs ≤ i → both_at us vs i ≡ record { index = i; left = Some (get_or us i 0); right = None }
  left_there i p q = ap₂ (λ (a b : Option ℕ). record { index = i; left = a; right = b }) (entry-there us i p) (entry-missing vs i q)

  right_there : (i : ℕ) → length us ≤ i → i < length vs → both_at us vs i ≡ record { index = i; left = None; right = Some (get_or vs i 0) }
  right_there i p q = ap₂ (λ (a b : Option ℕ). record { index = i; left = a; right = b }) (entry-missing us i p) (entry-there vs i q)

  -- where the lists part is listed
  pub parting-listed : (d : Difference) → PartsAt us vs d → Among d (differences us vs)
  parting-listed d (other_values i p q apart) =
      subst (λ (x : Difference). Among x (differences us vs)) (both-there i p q)
      (listed us vs (max (length us) (length vs)) 0 i (omega arith) (omega arith)
      (λ e. apart (same-value (sym (entry-there us i p) ∙ e ∙ entry-there vs i q))))
  parting-listed d (left_only i p q) =
      subst (λ (x : Difference). Among x (differences us vs)) (left_there i p q)
      (listed us vs (max (length us) (length vs)) 0 i (omega arith) (omega arith)
      (λ e. missing-no-value (sym (sym (entry-there us i p) ∙ e ∙ entry-missing vs i q))))
  parting-listed d (right_only i p q) =
      subst (λ (x : Difference). Among x (differences us vs)) (right_there i p q)
      (listed us vs (max (length us) (length vs)) 0 i (omega arith) (omega arith)
      (λ e. missing-no-value (sym (entry-missing us i p) ∙ e ∙ entry-there vs i q)))

  -- and what is listed is where they part
  pub listed-parting : (d : Difference) → Among d (differences us vs) → PartsAt us vs d
  listed-parting d h = go (leb (length us) i) refl (leb (length vs) i) refl
    where
      i : ℕ
      i = d.index

      p : Parts us vs (max (length us) (length vs)) 0 d
      p = nothing-else us vs (max (length us) (length vs)) 0 d h

      go : (a : Bool) → leb (length us) i ≡ a → (b : Bool) → leb (length vs) i ≡ b → PartsAt us vs d
      go false x false y =
          let there = leb-false (length us) i x in
          let also = leb-false (length vs) i y in
          subst (PartsAt us vs) (sym (p.is ∙ both-there i there also))
          (other_values i there also (λ e. p.apart (entry-there us i there ∙ ap Some e ∙ sym (entry-there vs i also))))
      go false x true y =
          let there = leb-false (length us) i x in
          let ended = leb-true (length vs) i y in
          subst (PartsAt us vs) (sym (p.is ∙ left_there i there ended)) (left_only i there ended)
      go true x false y =
          let ended = leb-true (length us) i x in
          let there = leb-false (length vs) i y in
          subst (PartsAt us vs) (sym (p.is ∙ right_there i ended there)) (right_only i ended there)
      go true x true y = absurd (p.apart (entry-missing us i (leb-true (length us) i x) ∙ sym (entry-missing vs i (leb-true (length vs) i y))))

  -- the lists in each other's place
  pub all-turned : differences vs us ≡ swapped (differences us vs)
  all-turned = ap (λ (n : ℕ). differences_from n 0 vs us) (max_comm (length vs) (length us)) ∙ turned us vs (max (length us) (length vs)) 0
