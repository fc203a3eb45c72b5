-- A segment of a pool comes in the place of the one of its number.
use Rattle.std.proofs.Common.{◌≡◌, ◌≢◌, ℕ, ◌<◌, ◌==◌, nat_eq, Bool, true, false, cond, List, [], ◌∷◌, ◌++◌}
use Rattle.std.proofs.Common.{length, Option, Some, None, slice_set, set, refl, sym, ap, ◌∙◌, subst}
use Rattle.std.proofs.Common.{inl, inr, get_or-set_other, get_or-set_same}
use Rattle.std.specs.Prelude.{Ok, Err, Result, OnOk, IfErr, Contains, slice_index}
use Rattle.std.specs.List.{AllByRecursion}
use Rattle.std.proofs.lemmas.Bool.{cases_eq, cases_lt}
use Rattle.std.proofs.lemmas.List.{length-set, get_or_past, set-get_or}
use Rattle.hg_place.specs.declared.Place.{Place}
use Rattle.hg_place.specs.declared.plain.PlainWords.{PlainWords}
use Rattle.hg_place.specs.Plain.{plain_words}
use Rattle.hg_place.specs.Standings.{slot_of}
use Rattle.hg_lists.proofs.RepeatsLemmas.{nat_eq-same, nat_eq-other, Each-left, Each-right}
use Rattle.hg_segment.specs.Kept.{Kept}
use Rattle.hg_segment.specs.Parted.{Parted, NotParted, plain_number}
use Rattle.hg_pool.specs.Pooled.{Pooled, IsOf, IsRight, segment_of, replaced, with_segment}
use Rattle.hg_pool.specs.Shown.{at_number, shown, IsKept}
use Rattle.hg_pool.specs.Parting.{PartedIn}
use Rattle.hg_pool.proofs.ShownLemmas.{IsThere, shown_some}
use Rattle.hg_pool.proofs.Keeping.{seen, all_there, seen_right}
use Rattle.hg_pool.proofs.Calls.{at_now}

module _ {S : Type 0} (number : S → ℕ) where
  abbrev key : Kept S → ℕ
  key one = number one.slots

  replaced_cons : (n : ℕ) (after one : Kept S) (rest : List (Kept S)) (b : Bool)
      → (key one == n) ≡ b
      → replaced number n after (one ∷ rest) ≡ cond b after one ∷ replaced number n after rest
  replaced_cons n after one rest b e =
      ap (λ (t : Bool). cond t after one ∷ replaced number n after rest) e

  -- what is shown then
  shown_replaced : (all : List (Option (Kept S))) (ns : List ℕ) (n : ℕ) (after : Kept S)
      → AllByRecursion (IsThere key all) ns → n < length all
      → shown (slice_set all n (Some after)) ns ≡ replaced number n after (shown all ns)
  shown_replaced all [] n after h lt = refl
  shown_replaced all (m ∷ ns) n after h lt = elim (cases_eq m n) [
    | inl e ↦
        shown_some (slice_set all n (Some after)) m ns after
        (ap (at_number (slice_set all n (Some after))) e
        ∙ get_or-set_same all n (Some after) None lt)
        ∙ ap (λ (xs : List (Kept S)). after ∷ xs) (shown_replaced all ns n after h.1 lt)
        ∙ sym (ap (replaced number n after) (shown_some all m ns h.0.0 h.0.1)
        ∙ replaced_cons n after h.0.0 (shown all ns) true
        (ap (λ (k : ℕ). nat_eq k n) (h.0.2 ∙ e) ∙ nat_eq-same n))
    | inr ne ↦
        shown_some (slice_set all n (Some after)) m ns h.0.0
        (get_or-set_other all n m (Some after) None ne ∙ h.0.1)
        ∙ ap (λ (xs : List (Kept S)). h.0.0 ∷ xs) (shown_replaced all ns n after h.1 lt)
        ∙ sym (ap (replaced number n after) (shown_some all m ns h.0.0 h.0.1)
        ∙ replaced_cons n after h.0.0 (shown all ns) false
        (nat_eq-other (key h.0.0) n (λ e. ne (sym h.0.2 ∙ e))))
  ]

  inside : (all : List (Option (Kept S))) (n : ℕ) (one : Kept S) → at_number all n ≡ Some one
      → n < length all
  inside all n one e = elim (cases_lt n (length all)) [
    | inl lt ↦ lt
    | inr ge ↦ absurd (let none : at_number all n ≡ None = get_or_past all n None ge in cc)
  ]

  module _ (all : List (Option (Kept S))) (orphans fresh : List ℕ) (now : Pooled S) (n : ℕ)
      (one after : Kept S) (kept : IsKept number all orphans fresh)
      (now_seen : seen all orphans fresh ≡ now) (at : at_number all n ≡ Some one)
      (own : key after ≡ key one) where
    abbrev changed : List (Option (Kept S))
    changed = slice_set all n (Some after)

    same : at_number changed n ≡ Some after
    same = get_or-set_same all n (Some after) None (inside all n one at)

    other : (m : ℕ) → m ≢ n → at_number changed m ≡ at_number all m
    other m ne = get_or-set_other all n m (Some after) None ne

    pub replaced_kept : IsKept number changed orphans fresh
    replaced_kept = record {
      all = length-set all n (Some after) ∙ kept.all;
      numbered = λ m it e. elim (cases_eq m n) [
        | inl s ↦ (
            let both : Some it ≡ Some after = sym e ∙ ap (at_number changed) s ∙ same in
            let here : it ≡ after = cc in
            ap key here ∙ own ∙ kept.numbered n one at ∙ sym s)
        | inr ne ↦ kept.numbered m it (sym (other m ne) ∙ e)
      ];
      there = λ m c. elim (cases_eq m n) [
        | inl s ↦ (after, ap (at_number changed) s ∙ same)
        | inr ne ↦ (let t = kept.there m c in (t.0, other m ne ∙ t.1))
      ];
      listed = λ m it e. elim (cases_eq m n) [
        | inl s ↦ subst (λ (x : ℕ). Contains (orphans ++ fresh) x) (sym s) (kept.listed n one at)
        | inr ne ↦ kept.listed m it (sym (other m ne) ∙ e)
      ];
      once = kept.once;
      rising = kept.rising;
    }

    pub replaced_right : IsRight number (seen changed orphans fresh)
    replaced_right = seen_right number changed orphans fresh replaced_kept

    pub replaced_seen : seen changed orphans fresh ≡ with_segment number now n after
    replaced_seen =
        let there = all_there number all orphans fresh kept in
        let lt = inside all n one at in
        ap (λ (xs : List (Kept S)).
        let p : Pooled S = record { orphans = xs; fresh = shown changed fresh } in p)
        (shown_replaced all orphans n after (Each-left (IsThere key all) orphans fresh there) lt)
        ∙ ap (λ (xs : List (Kept S)). let p : Pooled S = record {
          orphans = replaced number n after (shown all orphans);
          fresh = xs;
        } in p)
        (shown_replaced all fresh n after (Each-right (IsThere key all) orphans fresh there) lt)
        ∙ ap (λ (p : Pooled S). with_segment number p n after) now_seen

    pub there_now : segment_of number now n ≡ Some one
    there_now = at_now number all orphans fresh now n kept now_seen ∙ at

    -- and where it is the same one, nothing has changed
    pub same_seen : after ≡ one → seen changed orphans fresh ≡ now
    same_seen e =
        ap (λ (xs : List (Option (Kept S))). seen xs orphans fresh)
        (ap (set all n) (ap Some e ∙ sym at) ∙ set-get_or all n None)
        ∙ now_seen

pub own_number : {X : Type 0} (place : Place) (live : ℕ) (one after : Kept PlainWords)
    (r : Result X ℕ) → OnOk r (Parted place live one after)
    → IfErr r (λ word. NotParted place live word one after)
    → plain_number after.slots ≡ plain_number one.slots
own_number place live one after (Ok done) p o = p.number
own_number place live one after (Err word) p o =
    ap (λ (k : Kept PlainWords). plain_number k.slots) o.same

module _ (all : List (Option (Kept PlainWords))) (orphans fresh : List ℕ)
    (now : Pooled PlainWords) (place : Place) (live : ℕ) (one after : Kept PlainWords)
    (kept : IsKept plain_number all orphans fresh) (now_seen : seen all orphans fresh ≡ now)
    (at : at_number all place.segment ≡ Some one) where
  abbrev pub parted_seen : Pooled PlainWords
  parted_seen = seen (slice_set all place.segment (Some after)) orphans fresh

  pub part_parted : {X : Type 0} (r : Result X ℕ) → OnOk r (Parted place live one after)
      → OnOk r (PartedIn place live now parted_seen)
  part_parted (Ok done) p = record {
    before = one;
    after = after;
    there = there_now plain_number all orphans fresh now place.segment one after kept now_seen at
        p.number;
    parted = p;
    now = replaced_seen plain_number all orphans fresh now place.segment one after kept now_seen at
        p.number;
  }
  part_parted (Err word) p = tt

  pub part_other : {X : Type 0} (r : Result X ℕ) → IfErr r (λ word. NotParted place live word one after)
      → IfErr r (λ word. (word ≢ live) × IsOf plain_number now place.segment
      (λ k. slice_index (plain_words k.slots) (slot_of place) ≡ word))
  part_other (Ok done) o = tt
  part_other (Err word) o = (
    o.other,
    (one, at_now plain_number all orphans fresh now place.segment kept now_seen ∙ at, o.stood),
  )

  pub part_same : {X : Type 0} (r : Result X ℕ) → IfErr r (λ word. NotParted place live word one after)
      → IfErr r (λ word. parted_seen ≡ now)
  part_same (Ok done) o = tt
  part_same (Err word) o =
      same_seen plain_number all orphans fresh now place.segment one after kept now_seen at
      (ap (λ (k : Kept PlainWords). plain_number k.slots) o.same) o.same
