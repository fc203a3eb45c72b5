-- Which records of places stay, and which places go home.
use Rattle.std.proofs.Common.{◌≡◌, ◌≢◌, ℕ, ◌%◌, inl, inr, true, false, List, []}
use Rattle.std.proofs.Common.{◌∷◌, ◌++◌, map, Some, None, is_some, find, refl, sym, ap, ◌∙◌}
use Rattle.std.proofs.Common.{arith, ⊎_elim}
use Rattle.std.specs.Prelude.{Option, option_map, Contains}
use Rattle.std.specs.Option.{option_or}
use Rattle.std.proofs.lemmas.Bool.{cases_eq, true≢false}
use Rattle.std.proofs.lemmas.List.Folds.{find-append}
use Rattle.std.proofs.lemmas.Option.{none-some, same_Some}
use Rattle.std.proofs.lemmas.Simd.{map-map}
use Rattle.hg_lists.specs.Repeats.{HasNoRepeats}
use Rattle.hg_lists.proofs.RepeatsLemmas.{in_cases, Contains-in, Contains-lacks}
use Rattle.hg_place.specs.declared.Handle.{Handle}
use Rattle.hg_place.specs.declared.Place.{Place}
use Rattle.hg_place.specs.declared.standing.Standing.{Standing}
use Rattle.hg_place.specs.declared.standing.Standing.TheVariants.{Open}
use Rattle.hg_place.specs.Places.{number_of, segment_of}
use Rattle.hg_place.specs.Standings.{standing_at, slot_of, is_home}
use Rattle.hg_segment.specs.Kept.{Kept}
use Rattle.hg_heap.specs.Allotted.{IsAllotted}
use Rattle.hg_heap.specs.Held.{is_of, is_held, segment_in}
use Rattle.hg_heap.specs.Homecoming.{HaveComeHome}
use Rattle.hg_heap.specs.Idle.{bare}
use Rattle.hg_heap.specs.Keeping.{Rest, rest_of, KeepsAll, Wrote}
use Rattle.hg_heap.specs.Records.{record_in, IsHomeAlone}
use Rattle.hg_heap.proofs.Founds.{map_same, numbers, pair, told_in}
use Rattle.hg_heap.proofs.Options.{is_some_map}
use Rattle.hg_heap.proofs.Options.{none_is}
use Rattle.hg_table.specs.declared.view.Part.{Part}
use Rattle.hg_worker.specs.Records.{GoHome}
use Rattle.hg_worker.proofs.Allocs.{slots_in}
use Rattle.hg_worker.proofs.Steps.{seat_shows, seat_steps, before_in, after_in, others_in}

-- a place that is recorded alike isn't home where it was open
stays : {before after : Standing} (o q : Option Standing) → q ≡ o → o ≡ Some before
    → is_home before ≡ false → q ≡ Some after → is_home after ≡ true → ⊥
stays {before} {after} o q same was opened now home =
    let one : after ≡ before = same_Some after before (sym now ∙ same ∙ was) in
    true≢false (sym home ∙ ap is_home one ∙ opened)

module _ {S : Type 0} (number : S → ℕ) (records : S → List Standing) where
  -- where each record stays no place goes home
  pub same_goes : (old new : List (Kept S))
      → ((place : ℕ) → record_in number records new place ≡ record_in number records old place)
      → GoHome number records (λ place. ⊥) old new
  same_goes old new same place before after was opened now home =
      stays (record_in number records old place) (record_in number records new place) (same place)
      was opened now home

  pub stay_goes : (segments : List (Kept S)) → GoHome number records (λ place. ⊥) segments segments
  stay_goes segments = same_goes segments segments (λ place. refl)

  -- of a segment that is as it was
  abbrev record_by : (place : ℕ) → Option (Kept S) → Option Standing
  record_by place o = option_map (λ (k : Kept S). standing_at (records k.slots) (place % 8192)) o

  pub all_goes : (old new : List (Kept S)) → KeepsAll number records old new
      → GoHome number records (λ place. ⊥) old new
  all_goes old new kept =
      same_goes old new
      (λ place.
      let at = place % 8192 in
      let told : Kept S → Standing = λ k. standing_at (records k.slots) at in
      let pick : Rest → ℕ × Standing = λ r. (r.number, standing_at r.standings at) in
      told_in number told old new
      (sym (map-map pick (rest_of number records) new) ∙ ap (map pick) kept
      ∙ map-map pick (rest_of number records) old)
      (segment_of place))

  -- and what is held
  pub all_held : (old new : List (Kept S)) → KeepsAll number records old new → (segment : ℕ)
      → is_held number new segment ≡ is_held number old segment
  all_held old new kept segment =
      let told : Kept S → ℕ = λ k. k.arena in
      let pick : Rest → ℕ × ℕ = λ r. (r.number, r.arena) in
      sym (is_some_map told (segment_in number new segment))
      ∙ ap is_some
      (told_in number told old new
      (sym (map-map pick (rest_of number records) new) ∙ ap (map pick) kept
      ∙ map-map pick (rest_of number records) old)
      segment)
      ∙ is_some_map told (segment_in number old segment)

  -- where classes and lists alone change
  pub bare_goes : (old new : List (Kept S)) → map bare new ≡ map bare old
      → GoHome number records (λ place. ⊥) old new
  bare_goes old new kept =
      same_goes old new
      (λ place.
      slots_in number (λ (s : S). standing_at (records s) (place % 8192)) old new kept
      (segment_of place))

  -- where one segment's words change
  pub wrote_goes : {place : Place} {index value : ℕ} {old new : List (Kept S)}
      → Wrote number records place index value old new → GoHome number records (λ place. ⊥) old new
  wrote_goes {place} {index} {value} {old} {new} w =
      same_goes old new
      (λ other.
      let at = other % 8192 in
      let told : Kept S → Standing = λ k. standing_at (records k.slots) at in
      told_in number told old new
      (ap (map (pair number told)) w.now
      ∙ map_same (pair number told) old w.found w.before w.after w.at
      (ap (λ n. (n, told w.after)) w.same_number
      ∙ ap (λ (rs : List Standing). (number w.before.slots, standing_at rs at)) w.same_records))
      (segment_of other))

  -- where others than these stay, and these are home
  pub taken_goes : {segment count : ℕ} {sent : List ℕ} {old new : List (Kept S)}
      → HaveComeHome number records segment sent old new count
      → GoHome number records
      (λ place. (segment_of place ≡ segment) × Contains sent (place % 8192)) old new
  taken_goes {segment} {count} {sent} {old} {new} t place before after was opened now home =
      elim (cases_eq (segment_of place) segment) [
        | inl is ↦ (
          is,
          ⊎_elim
              (λ inside.
              (t.home.each (place % 8192) (Contains-in (place % 8192) t.home.came inside)).was_sent)
              (λ lacks.
              absurd
              (stays (record_in number records old place) (record_in number records new place)
              (ap (record_by place) (ap (segment_in number new) is ∙ t.now)
              ∙ ap Some (t.home.others (place % 8192)
              (λ c. Contains-lacks (place % 8192) t.home.came lacks c))
              ∙ sym (ap (record_by place) (ap (segment_in number old) is ∙ t.was)))
              was opened now home))
              (in_cases (place % 8192) t.home.came),
        )
        | inr other ↦
            absurd
            (stays (record_in number records old place) (record_in number records new place)
            (ap (record_by place) (t.others (segment_of place) other)) was opened now home)
      ]

  -- a segment has gone
  pub left_goes : (segment : ℕ) (old new : List (Kept S)) → is_held number new segment ≡ false
      → ((other : ℕ) → other ≢ segment
      → segment_in number new other ≡ segment_in number old other)
      → GoHome number records (λ place. ⊥) old new
  left_goes segment old new gone others place before after was opened now home =
      elim (cases_eq (segment_of place) segment) [
        | inl is ↦
            none-some after
            (sym (ap (record_by place)
            (ap (segment_in number new) is ∙ none_is (segment_in number new segment) gone)) ∙ now)
        | inr other ↦
            stays (record_in number records old place) (record_in number records new place)
            (ap (record_by place) (others (segment_of place) other)) was opened now home
      ]

  first_stays : (one : Kept S → Standing) (o q : Option (Kept S)) (before : Standing)
      → option_map one o ≡ Some before → option_map one (option_or o q) ≡ Some before
  first_stays one None q before e = absurd (none-some before e)
  first_stays one (Some k) q before e = e

  -- one has come
  pub come_goes : (one : Kept S) (old new : List (Kept S)) → new ≡ old ++ one ∷ []
      → GoHome number records (λ place. ⊥) old new
  come_goes one old new is place before after was opened now home =
      let told : Kept S → Standing = λ k. standing_at (records k.slots) (place % 8192) in
      let p = is_of number (segment_of place) in
      let there : record_in number records new place ≡ Some before =
      ap (λ (xs : List (Kept S)). record_in number records xs place) is
      ∙ ap (option_map told) (find-append p old (one ∷ []))
      ∙ first_stays told (find p old) (find p (one ∷ [])) before was in
      stays (record_in number records old place) (record_in number records new place)
      (there ∙ sym was) was opened now home

  -- a place has been given out
  module _ (part : S → Part) {size owner : ℕ} {handle : Handle} {old new : List (Kept S)}
      (once : HasNoRepeats (numbers number old))
      (given : IsAllotted number records (seat_shows number part) (seat_steps number part) size
      owner handle old new) where
    abbrev at : Place
    at = handle.place

    before_is : segment_in number old at.segment ≡ Some given.stepped.before
    before_is = before_in number part at given.word _ old new once given.stepped

    after_is : segment_in number new at.segment ≡ Some given.stepped.after
    after_is = after_in number part at given.word _ old new once given.stepped

    pub given_goes : GoHome number records (λ place. ⊥) old new
    given_goes other before after was opened now home =
        elim (cases_eq (segment_of other) at.segment) [
          | inl is ↦
              let then : record_in number records old other
              ≡ Some (standing_at (records given.stepped.before.slots) (other % 8192)) =
              ap (record_by other) (ap (segment_in number old) is ∙ before_is) in
              let then' : record_in number records new other
              ≡ Some (standing_at (records given.stepped.after.slots) (other % 8192)) =
              ap (record_by other) (ap (segment_in number new) is ∙ after_is) in
              elim (cases_eq (other % 8192) (slot_of at)) [
                | inl here ↦
                    let is_open : after ≡ Open handle.generation owner =
                    same_Some after (Open handle.generation owner)
                    (sym now ∙ then'
                    ∙ ap (λ n. Some (standing_at (records given.stepped.after.slots) n)) here
                    ∙ ap Some given.given.standing) in
                    true≢false (sym home ∙ ap is_home is_open)
                | inr off ↦
                    stays (record_in number records old other) (record_in number records new other)
                    (then' ∙ ap Some (given.given.standings (other % 8192) (omega arith) off)
                    ∙ sym then) was opened now home
              ]
          | inr away ↦
              stays (record_in number records old other) (record_in number records new other)
              (ap (record_by other)
              (others_in number part at given.word _ old new once given.stepped
              (segment_of other) away)) was opened now home
        ]

  -- the place of a handle alone has gone home
  pub alone_goes : {handle : Handle} {old new : List (Kept S)} {G : Type 0} → G
      → IsHomeAlone number records handle old new
      → GoHome number records (λ place. G × (place ≡ number_of handle.place)) old new
  alone_goes {handle} {old} {new} g alone place before after was opened now home =
      elim (cases_eq place (number_of handle.place)) [
        | inl is ↦ (g, is)
        | inr other ↦
            absurd
            (stays (record_in number records old place) (record_in number records new place)
            (alone.others place other) was opened now home)
      ]

  -- of none, so of whichever
  pub none_goes : (These : ℕ → Type 0) (old new : List (Kept S))
      → GoHome number records (λ place. ⊥) old new → GoHome number records These old new
  none_goes These old new none place before after was opened now home =
      absurd (none place before after was opened now home)
