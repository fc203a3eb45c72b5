-- The witness state is sound.
use Rattle.std.proofs.Common.{◌≡◌, ℕ, ◌*◌, ◌<◌, ◌≤◌, inl, inr, Bool, true, false, not, ◌||◌}
use Rattle.std.proofs.Common.{if◌then◌else◌, length, replicate, Option, Some, None, refl, sym, ap}
use Rattle.std.proofs.Common.{subst, ◌∙◌, arith, Contains}
use Rattle.std.proofs.lemmas.Bool.{cases_lt, cases_Bool}
use Rattle.std.proofs.lemmas.List.{length-set, length-replicate}
use Rattle.std.proofs.lemmas.List.FromFn.{length-map-range_with_len}
use Rattle.std.proofs.lemmas.Option.{none-some, same_Some}
use Rattle.hg_size.specs.Runs.{AreRuns}
use Rattle.hg_size.proofs.Covers.{run_alike, run_small}
use Rattle.hg_size.specs.Sizes.{sizes, places_of}
use Rattle.hg_place.specs.Places.{page_of, segment_of, index_of, segment_of_page}
use Rattle.hg_place.specs.Slots.{slot_in}
use Rattle.hg_place.specs.Words.{bit_of}
use Rattle.hg_place.specs.Standings.{is_home as at_home}
use Rattle.hg_machine.specs.Life.{is_home, is_parted, contents_of}
use Rattle.hg_machine.specs.State.{State, record_at, class_at, hand_of}
use Rattle.hg_machine.specs.Holders.{is_number, is_orphan}
use Rattle.hg_machine.specs.Soundness.{IsSoundRecord, IsSound}
use Rattle.hg_machine.proofs.Plain.{inside, outside}
use Rattle.hg_machine.proofs.Suits.{number_some}
use Rattle.hg_agreement.specs.Views.{View, Shown, slot_shown}
use Rattle.hg_agreement.specs.Witness.{record_held, is_shown_at, is_on, is_shown_on, is_ended}
use Rattle.hg_agreement.specs.Witness.{record_in, class_in, holder_in, witness}
use Rattle.hg_agreement.proofs.HeldLives.{held_home, held_words, held_parted}
use Rattle.hg_agreement.proofs.OtherRecords.{alive_given, other_sound, other_parted}
use Rattle.hg_agreement.proofs.Observed.{number_is, shown_some}
use Rattle.hg_agreement.proofs.WitnessParts.{chosen_size, holder_worker, fresh_unheld}
use Rattle.hg_agreement.proofs.WitnessParts.{holder_orphan}
use Rattle.hg_agreement.proofs.WitnessAt.{IsTold, found_at, class_is, hand_of_one, holder_is_of}
use Rattle.hg_agreement.proofs.WitnessAt.{holder_past, held_is, elsewhere_is, class_held, held_page}
use Rattle.hg_agreement.proofs.WitnessAt.{class_told}

one_or_none : (b : Bool) (size : ℕ) → (if b then Some 1 else None) ≡ Some size → size ≡ 1
one_or_none true size e = sym (same_Some _ _ e)
one_or_none false size e = absurd (none-some size e)

module _ {view : View} {shown : Option Shown} (t : IsTold view shown) where
  abbrev segments : ℕ
  segments = length view.policy.segments

  abbrev state : State
  state = witness view shown

  told_generation : (q : ℕ) → is_shown_at shown q ≡ true
      → (slot_shown shown).generation ≤ view.policy.max_generation
  told_generation q at = let s = shown_some shown q at in rw s.1 (t.usual.word s.0 s.1)

  told_given : (q : ℕ) → is_shown_at shown q ≡ true → (slot_shown shown).live ≡ true
      → 1 ≤ (slot_shown shown).generation
  told_given q at alive =
      let s = shown_some shown q at in
      rw s.1 (alive_given s.0.word (sym (ap (λ o. (slot_shown o).live) s.1) ∙ alive))

  -- what is shown of the place in hand
  pub told_hand : (q : ℕ) → is_number q view.hand ≡ true → is_shown_at shown q ≡ true
      → ((slot_shown shown).generation ≡ view.hand_generation) × ((slot_shown shown).live ≡ false)
  told_hand q n at =
      let s = shown_some shown q at in
      let e = number_some q view.hand n in
      let most = t.usual.unpassed q s.0 e s.1 s.2 in
      let seen = (found_at t s.0 s.1).seen (e ∙ ap Some (sym s.2)) in
      let least = seen.0 in
      let same : (slot_in s.0.word).generation ≡ view.hand_generation = omega arith in (
        ap (λ o. (slot_shown o).generation) s.1 ∙ same,
        ap (λ o. (slot_shown o).live) s.1 ∙ seen.1 same,
      )

  pub is_used : (q : ℕ) → is_home (record_held view shown q).life ≡ false
      → at_home (view.standing q) ≡ false
  is_used q used = sym (held_home (is_ended view shown q) (view.standing q) (view.block q)) ∙ used

  pub words_are : (q : ℕ) → view.holds (segment_of q) ≡ true
      → contents_of (record_held view shown q).life ≡ view.block q
  words_are q h =
      held_words (is_ended view shown q) (view.standing q) (view.block q) (t.heap.empty q h)

  block_sound : (q : ℕ) → IsSoundRecord view.policy.max_generation
      (class_at state (page_of q)) (index_of q) (record_at state q)
  block_sound q = elim (cases_Bool (view.holds (segment_of q))) [
    | inl h ↦ rw (held_is t q h) (record {
      generation = t.heap.generations q h;
      given_out = λ used. t.heap.given_out q h (is_used q used);
      same_class = λ used. class_held t (page_of q) (held_page t q true h)
          ∙ t.heap.sized q h (is_used q used)
          ∙ ap (λ ws. Some (length ws)) (sym (words_are q h));
      below = λ used. subst (λ ws. index_of q < places_of (length ws)) (sym (words_are q h))
          (t.heap.below q h (is_used q used));
    })
    | inr f ↦ rw (elsewhere_is t q f) (other_sound view.policy.max_generation (index_of q)
        (class_at state (page_of q)) (is_number q view.hand) (is_shown_at shown q)
        (slot_shown shown) view.hand_generation (omega arith)
        (class_told t q f) (told_generation q) (told_given q)
        (λ n. let e = number_some q view.hand n in (t.hand.given_out q e, t.usual.hand q e))
        (λ n at. (told_hand q n at).0))
  ]

  in_hand_parted : (v q : ℕ) → hand_of state v ≡ Some q
      → is_parted (record_at state q).life ≡ true
  in_hand_parted v q e =
      let o = hand_of_one t v q e in
      let n : is_number q view.hand ≡ true = number_is q view.hand o.1 in
      elim (cases_Bool (view.holds (segment_of q))) [
        | inl h ↦
            ap (λ r. is_parted r.life) (held_is t q h)
            ∙ rw n (held_parted (view.standing q) (view.block q) (t.usual.recorded q o.1 h))
        | inr f ↦
            ap (λ r. is_parted r.life) (elsewhere_is t q f)
            ∙ rw n (other_parted (is_shown_at shown q) (slot_shown shown) view.hand_generation)
      ]

  run_here : AreRuns (class_at state)
  run_here page = elim (cases_Bool (view.holds (segment_of_page page))) [
    | inl h ↦ run_alike view.class (class_at state) page
        (λ q e. class_held t q (ap view.holds e ∙ h)) (t.heap.runs page h)
    | inr f ↦ run_small (class_at state) page
        (λ q size e is. one_or_none (is_on q view.hand || is_shown_on q shown) size
        (sym (ap (λ b. if b then view.class q else if is_on q view.hand || is_shown_on q shown
        then Some 1 else None) (ap view.holds e ∙ f)) ∙ sym (class_is t q) ∙ is))
  ]

  pub witness_sound : IsSound state
  witness_sound = record {
    policy = t.heap.policy;
    whole = record {
      records = length-map-range_with_len (record_in view shown) 0 (segments * 8192);
      classes = length-map-range_with_len (class_in view shown) 0 (segments * 16);
      holders = length-map-range_with_len (holder_in view) 0 segments;
      hands = length-set (replicate view.policy.workers None) view.worker view.hand
          ∙ length-replicate view.policy.workers None;
    };
    places = λ q. record {
      block = block_sound q;
      in_hand = λ v e. in_hand_parted v q e;
      one_hand = λ v u e f. (hand_of_one t v q e).0 ∙ sym (hand_of_one t u q f).0;
    };
    classes = λ page size e.
        chosen_size (view.holds (segment_of_page page))
        (is_on page view.hand || is_shown_on page shown) (view.class page) size (Contains sizes)
        (sym (class_is t page) ∙ e) (0, (omega arith), refl) (t.heap.classes page size);
    runs = run_here;
    workers = λ segment v e. elim (cases_lt segment segments) [
      | inl below ↦ subst (λ n. n < view.policy.workers)
          (sym (holder_worker (view.holds segment) view.worker v
          (sym (holder_is_of t segment below) ∙ e))) t.heap.worker
      | inr past ↦ absurd (fresh_unheld v (sym (holder_past t segment past) ∙ e))
    ];
    orphans = λ segment. elim (cases_lt segment segments) [
      | inl below ↦
          inside (λ n. not (view.holds n)) 0 segments segment (omega arith) (omega arith)
          ∙ sym (ap (λ h. bit_of (is_orphan h)) (holder_is_of t segment below)
          ∙ ap bit_of (holder_orphan (view.holds segment) view.worker))
      | inr past ↦
          outside (λ n. not (view.holds n)) 0 segments segment (inr (omega arith))
          ∙ sym (ap (λ h. bit_of (is_orphan h)) (holder_past t segment past))
    ];
  }
