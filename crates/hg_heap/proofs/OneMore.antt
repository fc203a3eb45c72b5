-- A segment stands behind those that a heap has: which segment has a number, and the table.
use Rattle.std.proofs.Common.{◌≡◌, ◌≢◌, ℕ, ◌+◌, ◌<◌, ◌==◌, inl, inr, Bool}
use Rattle.std.proofs.Common.{false, not, cond, ◌∷◌, [], ◌++◌, List, length}
use Rattle.std.proofs.Common.{Option, Some, None, refl, sym, ap, subst, ◌∙◌, arith, slice_set}
use Rattle.std.proofs.Common.{slice_get, slice_index_or, get_or, find}
use Rattle.std.proofs.Common.{is_some, count_by, get_or-set_other, get_or-set_same, map}
use Rattle.std.specs.List.{position_or_len}
use Rattle.std.specs.Option.{option_or}
use Rattle.std.proofs.lemmas.Bool.{cases_Bool, cases_eq, cases_lt, true≢false, eq-eqb}
use Rattle.std.proofs.lemmas.Bool.{ne_eqb}
use Rattle.std.proofs.lemmas.List.{length-append, length-set, append-nil, map-append}
use Rattle.std.proofs.lemmas.List.Folds.{find-append, find_at, position_or_len_push}
use Rattle.std.proofs.lemmas.List.Sums.{sum_by-set, count_by-le-length, prefix_len-le-length}
use Rattle.std.proofs.lemmas.Option.{slice_get-get_or}
use Rattle.hg_lists.specs.Repeats.{Lacks, HasNoRepeats}
use Rattle.hg_lists.proofs.RepeatsLemmas.{HasNoRepeats-middle}
use Rattle.hg_place.specs.declared.standing.Standing.{Standing}
use Rattle.hg_segment.specs.Kept.{Kept}
use Rattle.hg_heap.specs.Held.{is_of, is_held, segment_in}
use Rattle.hg_heap.specs.Table.{IsAt, IsTabled}
use Rattle.hg_heap.proofs.Founds.{found_held}
use Rattle.hg_heap.proofs.Blanks.{unheld}

or_none : {X : Type 0} (o : Option X) → option_or o None ≡ o
or_none None = refl
or_none (Some x) = refl

once_more : (x : ℕ) (xs : List ℕ) → Lacks x xs → HasNoRepeats xs → HasNoRepeats (xs ++ x ∷ [])
once_more x xs l h =
    HasNoRepeats-middle x xs [] (subst (Lacks x) (sym (append-nil xs)) l)
    (subst HasNoRepeats (sym (append-nil xs)) h)

module _ {S : Type 0} (number : S → ℕ) (records : S → List Standing) where
  lacks_of : (xs : List (Kept S)) (n : ℕ) → segment_in number xs n ≡ None
      → Lacks n (map (λ (k : Kept S). number k.slots) xs)
  lacks_of [] n e = tt
  lacks_of (x ∷ xs) n e = elim (cases_Bool (number x.slots == n)) [
    | inl t ↦ absurd
        (let s : Some x ≡ None = sym (ap (λ (b : Bool). cond b (Some x) (segment_in number xs n))
        t) ∙ e in cc)
    | inr f ↦ (
      (λ s. true≢false (sym (eq-eqb (number x.slots) n (sym s)) ∙ f)),
      lacks_of xs n (sym (ap (λ (b : Bool). cond b (Some x) (segment_in number xs n)) f) ∙ e),
    )
  ]

  module _ (segments : List (Kept S)) (one : Kept S)
      (away : is_held number segments (number one.slots) ≡ false) where
    abbrev own : ℕ
    own = number one.slots

    abbrev pub with_one : List (Kept S)
    with_one = segments ++ one ∷ []

    pub none_yet : segment_in number segments own ≡ None
    none_yet = unheld number records segments own away

    -- which segment has a number
    pub in_old : (segment : ℕ) (k : Kept S) → segment_in number segments segment ≡ Some k
        → segment_in number with_one segment ≡ Some k
    in_old segment k e = find-append (is_of number segment) segments (one ∷ [])
        ∙ ap (λ (o : Option (Kept S)). option_or o (find (is_of number segment) (one ∷ []))) e

    pub in_own : (segment : ℕ) → segment ≡ own → segment_in number with_one segment ≡ Some one
    in_own segment same =
        ap (segment_in number with_one) same
        ∙ find-append (is_of number own) segments (one ∷ [])
        ∙ ap (λ (o : Option (Kept S)). option_or o (find (is_of number own) (one ∷ []))) none_yet
        ∙ ap (λ (b : Bool). cond b (Some one) None) (eq-eqb own own refl)

    pub in_other : (segment : ℕ) → segment ≢ own → segment_in number with_one segment
        ≡ segment_in number segments segment
    in_other segment ne =
        find-append (is_of number segment) segments (one ∷ [])
        ∙ ap (λ (b : Bool). option_or (segment_in number segments segment) (cond b (Some one) None))
        (ne_eqb own segment (λ s. ne (sym s)))
        ∙ or_none (segment_in number segments segment)

    -- the table
    module _ (table : List (Option ℕ)) (low : own < 64) (t : IsTabled number table segments) where
      abbrev tabled : List (Option ℕ)
      tabled = slice_set table own (Some (length segments))

      no_entry : (o : Option ℕ) → IsAt number segments own o → o ≡ None
      no_entry None h = refl
      no_entry (Some found) h =
          absurd (true≢false
          (sym (found_held number segments own found (record { inside = h.0; first = h.1 }))
          ∙ away))

      was_none : get_or table own None ≡ None
      was_none = no_entry (slice_index_or table own None) (t.each own low)

      last : position_or_len (is_of number own) segments ≡ length segments
      last = elim (cases_lt (position_or_len (is_of number own) segments) (length segments)) [
        | inl lt ↦ absurd (
            let there = slice_get-get_or segments (position_or_len (is_of number own) segments) one
            lt in
            let nothing : slice_get segments (position_or_len (is_of number own) segments) ≡ None =
            sym (find_at (is_of number own) segments) ∙ none_yet in
            cc)
        | inr ge ↦ omega (
          arith,
          ge,
          prefix_len-le-length (λ (k : Kept S). not (is_of number own k))
              segments,
        )
      ]

      at_own : IsAt number with_one own (Some (length segments))
      at_own = (
        omega (arith, length-append segments (one ∷ [])),
        sym (position_or_len_push (is_of number own) segments one
            ∙ ap (λ (n : ℕ). cond (n == length segments) (length segments + cond (own == own) 0 1)
            n) last
            ∙ ap (λ (b : Bool). cond b (length segments + cond (own == own) 0 1) (length segments))
            (eq-eqb (length segments) (length segments) refl)
            ∙ ap (λ (b : Bool). length segments + cond b 0 1) (eq-eqb own own refl)
            ∙ (let z : length segments + 0 ≡ length segments = omega arith in z)),
      )

      at_other : (segment : ℕ) (o : Option ℕ) → segment ≢ own → IsAt number segments segment o
          → IsAt number with_one segment o
      at_other segment None ne h = ap is_some (in_other segment ne) ∙ h
      at_other segment (Some found) ne h = (
        omega (arith, h.0, length-append segments (one ∷ [])),
        h.1 ∙ sym (position_or_len_push (is_of number segment) segments one
            ∙ ap (λ (b : Bool). cond b (length segments + cond (own == segment) 0 1)
            (position_or_len (is_of number segment) segments))
            (ne_eqb (position_or_len (is_of number segment) segments) (length segments)
            (λ s. let e = h.1 in let lt = h.0 in absurd (omega (arith, s, e, lt))))),
      )

      many_now : count_by is_some tabled ≡ length with_one
      many_now =
          let count : Option ℕ → ℕ = λ (o : Option ℕ). cond (is_some o) 1 0 in
          let more = sum_by-set count table own (Some (length segments)) None
          (omega (arith, low, t.all)) in
          let nothing : count (get_or table own None) ≡ 0 = ap count was_none in
          omega (arith, more, nothing, t.many, length-append segments (one ∷ []))

      pub tabled_now : IsTabled number tabled with_one
      tabled_now = record {
        all = length-set table own (Some (length segments)) ∙ t.all;
        each = λ segment below. elim (cases_eq segment own) [
          | inl s ↦ subst (λ (n : ℕ). IsAt number with_one n (slice_index_or tabled n None)) (sym s)
              (subst (IsAt number with_one own)
              (sym (get_or-set_same table own (Some (length segments)) None
              (omega (arith, low, t.all)))) at_own)
          | inr ne ↦ subst (IsAt number with_one segment)
              (sym (get_or-set_other table own segment (Some (length segments)) None ne))
              (at_other segment (slice_index_or table segment None) ne (t.each segment below))
        ];
        many = many_now;
        once = subst HasNoRepeats
            (sym (map-append (λ (k : Kept S). number k.slots) segments (one ∷ [])))
            (once_more own (map (λ (k : Kept S). number k.slots) segments)
            (lacks_of segments own none_yet) t.once);
      }

      -- there is room for one more
      pub fewer : length segments < 64
      fewer = omega (
        arith,
        many_now,
        length-append segments (one ∷ []),
        count_by-le-length is_some
            tabled,
        length-set table own (Some (length segments)),
        t.all,
      )
