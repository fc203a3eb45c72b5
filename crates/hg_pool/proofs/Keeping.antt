-- What a pool keeps, and what its changes leave of it.
use Rattle.std.proofs.Common.{◌≡◌, ◌≢◌, ℕ, ◌+◌, ◌<◌, ◌==◌, not, List, ◌∷◌, ◌++◌, length, map, filter, Option, Some, None, find, slice_set, refl, sym, ap, ◌∙◌, arith, subst, inl, inr, ⊎_elim, get_or-set_other, get_or-set_same}
use Rattle.std.specs.Prelude.{Contains}
use Rattle.std.specs.List.{AllByRecursion}
use Rattle.std.proofs.lemmas.Bool.{cases_eq, cases_lt}
use Rattle.std.proofs.lemmas.List.{length-set, length-append, get_or_past}
use Rattle.std.proofs.lemmas.List.Elements.{filter_map-append, filter-append}
use Rattle.hg_lists.specs.Repeats.{Lacks, IsIn, HasNoRepeats}
use Rattle.hg_lists.specs.Inserts.{Inserts}
use Rattle.hg_lists.specs.Lists.{without}
use Rattle.hg_lists.proofs.RepeatsLemmas.{Each-weaker, Each-left, Each-right, each_in, in_cases, Contains-in, lacks_contains, Contains-lacks}
use Rattle.hg_lists.proofs.InsertsLemmas.{inserted_cases, Contains-inserted, Contains-Inserts, HasNoRepeats-Inserts}
use Rattle.hg_lists.proofs.Listed.{contained_without, Contains-without}
use Rattle.hg_lists.proofs.Without.{Apart-without}
use Rattle.hg_segment.specs.Kept.{Kept}
use Rattle.hg_pool.specs.Pooled.{Pooled, IsRising, IsRight, IsPooled, segment_of, without_segment}
use Rattle.hg_pool.specs.Shown.{at_number, shown, IsKept}
use Rattle.hg_pool.proofs.Risings.{rising_without, few_below}
use Rattle.hg_pool.proofs.ShownLemmas.{IsThere, keys_shown, find_shown-lacks, find_shown-in, shown_without}

-- the pool that is seen
abbrev pub seen : {S : Type 0} → List (Option (Kept S)) → List ℕ → List ℕ → Pooled S
seen segments orphans fresh = record { orphans = shown segments orphans; fresh = shown segments fresh }

module _ {S : Type 0} (number : S → ℕ) where
  abbrev pub key : Kept S → ℕ
  key one = number one.slots

  pub all_there : (segments : List (Option (Kept S))) (orphans fresh : List ℕ) → IsKept number segments orphans fresh → AllByRecursion (IsThere key segments) (orphans ++ fresh)
  all_there segments orphans fresh h = Each-weaker (λ n. IsIn n (orphans ++ fresh)) (IsThere key segments) (orphans ++ fresh) (λ n i.
      (let t = h.there n (Contains-in n (orphans ++ fresh) i) in (t.0, t.1, h.numbered n t.0 t.1))) (each_in (orphans ++ fresh))

  pub both_shown : (segments : List (Option (Kept S))) (orphans fresh : List ℕ) → shown segments (orphans ++ fresh) ≡ shown segments orphans ++ shown segments fresh
  both_shown segments orphans fresh = filter_map-append (at_number segments) orphans fresh

  pub seen_right : (segments : List (Option (Kept S))) (orphans fresh : List ℕ) → IsKept number segments orphans fresh → IsRight number (seen segments orphans fresh)
  seen_right segments orphans fresh h =
      let there = all_there segments orphans fresh h in record {
        once = subst HasNoRepeats (sym (ap (map key) (sym (both_shown segments orphans fresh)) ∙ keys_shown key segments (orphans ++ fresh) there)) h.once;
        rising = subst IsRising (sym (keys_shown key segments fresh (Each-right (IsThere key segments) orphans fresh there))) h.rising;
      }

  none_at : (segments : List (Option (Kept S))) (orphans fresh : List ℕ) (n : ℕ) (o : Option (Kept S)) → at_number segments n ≡ o → IsKept number segments orphans fresh → Lacks n (orphans ++ fresh) → at_number segments n ≡ None
  none_at segments orphans fresh n None e h l = e
  none_at segments orphans fresh n (Some one) e h l = absurd (Contains-lacks n (orphans ++ fresh) l (h.listed n one e))

  -- the segment of a number is what stands where it says
  pub segment_at : (segments : List (Option (Kept S))) (orphans fresh : List ℕ) (n : ℕ) → IsKept number segments orphans fresh → segment_of number (seen segments orphans fresh) n ≡ at_number segments n
  segment_at segments orphans fresh n h =
      let there = all_there segments orphans fresh h in
      ap (find (λ one. key one == n)) (sym (both_shown segments orphans fresh)) ∙ (elim (in_cases n (orphans ++ fresh)) [
        | inl i ↦ find_shown-in key segments (orphans ++ fresh) n there i
        | inr l ↦ find_shown-lacks key segments (orphans ++ fresh) n there l ∙ sym (none_at segments orphans fresh n (at_number segments n) refl h l)
      ])

  some_past : (segments : List (Option (Kept S))) (n : ℕ) (one : Kept S) → at_number segments n ≡ Some one → n < length segments
  some_past segments n one e = elim (cases_lt n (length segments)) [
    | inl lt ↦ lt
    | inr ge ↦ absurd (let none : at_number segments n ≡ None = get_or_past segments n None ge in cc)
  ]

  pub listed_below : (segments : List (Option (Kept S))) (orphans fresh : List ℕ) (n : ℕ) → IsKept number segments orphans fresh → Contains (orphans ++ fresh) n → n < 64
  listed_below segments orphans fresh n h c = let t = h.there n c in omega (arith, h.all, some_past segments n t.0 t.1)

  pub pooled_below : (segments : List (Option (Kept S))) (orphans fresh : List ℕ) (n : ℕ) → IsKept number segments orphans fresh → IsPooled number (seen segments orphans fresh) n → n < 64
  pooled_below segments orphans fresh n h p = omega (arith, h.all, some_past segments n p.0 (sym (segment_at segments orphans fresh n h) ∙ p.1))

  pub not_listed : (segments : List (Option (Kept S))) (orphans fresh : List ℕ) (n : ℕ) → IsKept number segments orphans fresh → ¬ IsPooled number (seen segments orphans fresh) n → Lacks n (orphans ++ fresh)
  not_listed segments orphans fresh n h away = lacks_contains n (orphans ++ fresh) (λ c. (let t = h.there n c in away (t.0, segment_at segments orphans fresh n h ∙ t.1)))

  -- there is room for one that isn't there
  pub room_left : (segments : List (Option (Kept S))) (orphans fresh : List ℕ) (n : ℕ) → IsKept number segments orphans fresh → n < 64 → Lacks n (orphans ++ fresh) → length orphans + length fresh < 64
  room_left segments orphans fresh n h lt l =
      let below : AllByRecursion (λ x. x < 64) (orphans ++ fresh) = Each-weaker (λ x. IsIn x (orphans ++ fresh)) (λ x. x < 64) (orphans ++ fresh) (λ x i. listed_below segments orphans fresh x h (Contains-in x (orphans ++ fresh) i)) (each_in (orphans ++ fresh)) in
      omega (arith, few_below 64 (n ∷ (orphans ++ fresh)) (l, h.once) (lt, below), length-append orphans fresh)

  -- a segment is put where its number says, and the number on one of the lists
  pub put_kept : (segments : List (Option (Kept S))) (orphans fresh o f : List ℕ) (n : ℕ) (one : Kept S) → IsKept number segments orphans fresh → n < 64 → Lacks n (orphans ++ fresh) → key one ≡ n → Inserts n (orphans ++ fresh) (o ++ f) → IsRising f → IsKept number (slice_set segments n (Some one)) o f
  put_kept segments orphans fresh o f n one h lt l is added rising =
      let same : at_number (slice_set segments n (Some one)) n ≡ Some one = get_or-set_same segments n (Some one) None (omega (arith, h.all, lt)) in
      let other : (at : ℕ) → at ≢ n → at_number (slice_set segments n (Some one)) at ≡ at_number segments at = λ at ne. get_or-set_other segments n at (Some one) None ne in record {
        all = length-set segments n (Some one) ∙ h.all;
        numbered = λ at it e. elim (cases_eq at n) [
          | inl s ↦ (let here : it ≡ one = (let both : Some it ≡ Some one = sym e ∙ ap (at_number (slice_set segments n (Some one))) s ∙ same in cc) in ap key here ∙ is ∙ sym s)
          | inr ne ↦ h.numbered at it (sym (other at ne) ∙ e)
        ];
        there = λ at c. elim (cases_eq at n) [
          | inl s ↦ (one, ap (at_number (slice_set segments n (Some one))) s ∙ same)
          | inr ne ↦ (let t = h.there at (⊎_elim (λ e. absurd (ne e)) (λ d. d) (inserted_cases n at (orphans ++ fresh) (o ++ f) added c)) in (t.0, other at ne ∙ t.1))
        ];
        listed = λ at it e. elim (cases_eq at n) [
          | inl s ↦ subst (λ (x : ℕ). Contains (o ++ f) x) (sym s) (Contains-inserted n (orphans ++ fresh) (o ++ f) added)
          | inr ne ↦ Contains-Inserts n at (orphans ++ fresh) (o ++ f) added (h.listed at it (sym (other at ne) ∙ e))
        ];
        once = HasNoRepeats-Inserts n (orphans ++ fresh) (o ++ f) added l h.once;
        rising = rising;
      }

  -- the segment of a number is taken out
  pub taken_kept : (segments : List (Option (Kept S))) (orphans fresh : List ℕ) (n : ℕ) → IsKept number segments orphans fresh → IsKept number (slice_set segments n None) (without n orphans) (without n fresh)
  taken_kept segments orphans fresh n h =
      let both : without n orphans ++ without n fresh ≡ without n (orphans ++ fresh) = sym (filter-append (λ other. not (other == n)) orphans fresh) in
      let other : (at : ℕ) → at ≢ n → at_number (slice_set segments n None) at ≡ at_number segments at = λ at ne. get_or-set_other segments n at None None ne in
      let gone : (at : ℕ) (it : Kept S) → at_number (slice_set segments n None) at ≡ Some it → at ≢ n = λ at it e s. elim (cases_lt n (length segments)) [
        | inl lt ↦ (let none : at_number (slice_set segments n None) n ≡ None = get_or-set_same segments n None None lt in let some : at_number (slice_set segments n None) n ≡ Some it = ap (at_number (slice_set segments n None)) (sym s) ∙ e in cc)
        | inr ge ↦ (let none : at_number (slice_set segments n None) n ≡ None = get_or_past (slice_set segments n None) n None (omega (arith, ge, length-set segments n None)) in let some : at_number (slice_set segments n None) n ≡ Some it = ap (at_number (slice_set segments n None)) (sym s) ∙ e in cc)
      ] in record {
        all = length-set segments n None ∙ h.all;
        numbered = λ at it e. h.numbered at it (sym (other at (gone at it e)) ∙ e);
        there = λ at c. (let d = contained_without at n (orphans ++ fresh) (subst (λ (xs : List ℕ). Contains xs at) both c) in let t = h.there at d.1 in (t.0, other at d.0 ∙ t.1));
        listed = λ at it e. (let ne = gone at it e in subst (λ (xs : List ℕ). Contains xs at) (sym both) (Contains-without at n (orphans ++ fresh) ne (h.listed at it (sym (other at ne) ∙ e))));
        once = subst HasNoRepeats (sym both) (Apart-without n (orphans ++ fresh) h.once);
        rising = rising_without n fresh h.rising;
      }

  pub taken_seen : (segments : List (Option (Kept S))) (orphans fresh : List ℕ) (n : ℕ) → IsKept number segments orphans fresh → seen (slice_set segments n None) (without n orphans) (without n fresh) ≡ without_segment number (seen segments orphans fresh) n
  taken_seen segments orphans fresh n h =
      let there = all_there segments orphans fresh h in
      ap (λ (xs : List (Kept S)). let p : Pooled S = record { orphans = xs; fresh = shown (slice_set segments n None) (without n fresh) } in p) (shown_without key segments orphans n (Each-left (IsThere key segments) orphans fresh there))
      ∙ ap (λ (xs : List (Kept S)). let p : Pooled S = record { orphans = filter (λ one. not (key one == n)) (shown segments orphans); fresh = xs } in p) (shown_without key segments fresh n (Each-right (IsThere key segments) orphans fresh there))
