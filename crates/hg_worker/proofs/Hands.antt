-- What a worker's seats know of the life in hand, as its segments come, change and go.
use Rattle.std.proofs.Common.{◌≡◌, ℕ, ◌-◌, ◌%◌, ◌==◌, ◌<◌, ◌≤◌, inl, inr}
use Rattle.std.proofs.Common.{false, cond, List, []}
use Rattle.std.proofs.Common.{◌∷◌, ◌++◌, map, length, get_or, Some, None, find, is_some, refl}
use Rattle.std.proofs.Common.{sym, ap, subst, ◌∙◌, arith, eq-eqb, append_assoc, ⊎_elim}
use Rattle.std.proofs.Common.{slice_get, slice_set}
use Rattle.std.specs.Prelude.{Option, Contains}
use Rattle.std.proofs.lemmas.Bool.{cases_Bool, true≢false, ne_eqb}
use Rattle.std.proofs.lemmas.List.{append-nil, length-map, get_or-map}
use Rattle.std.proofs.lemmas.List.Elements.{Contains-append_cases}
use Rattle.std.proofs.lemmas.Option.{same_Some, none-some, slice_get-get_or}
use mathlib.Core.Option.{some}
use lib.ListN.{get_elem?}
use Rattle.atomic_table.proofs.Lists.{at_last, at_longer}
use Rattle.hg_place.specs.declared.Handle.{Handle}
use Rattle.hg_place.specs.declared.Place.{Place}
use Rattle.hg_place.specs.Lives.{IsLiveWord, word_generation}
use Rattle.hg_place.specs.Places.{number_of}
use Rattle.hg_place.specs.Slots.{slot_in}
use Rattle.hg_place.specs.Standings.{slot_of}
use Rattle.hg_segment.specs.Kept.{Kept}
use Rattle.hg_agreement.proofs.FitWords.{slot_read}
use Rattle.hg_heap.specs.Held.{is_of, is_held, segment_in}
use Rattle.hg_heap.specs.Ties.{Stepped}
use Rattle.hg_heap.specs.Idle.{bare}
use Rattle.hg_heap.proofs.Founds.{contained_set, Contains-get, passes, segment_contained}
use Rattle.hg_table.specs.declared.view.Part.{Part}
use Rattle.hg_table.specs.LifeRule.{IsOver}
use Rattle.hg_table.specs.Seats.{word_at}
use Rattle.hg_table.specs.Told.{IsShown}
use Rattle.hg_table.proofs.Knowing.{over_after}
use Rattle.hg_worker.specs.Had.{Had, hand_place, hand_generation}
use Rattle.hg_worker.specs.Hands.{SawEnd, KnowsHand}
use Rattle.hg_worker.specs.Seen.{word_of, part_by}
use Rattle.hg_worker.proofs.Pools.{only}
use Rattle.hg_worker.proofs.Steps.{seat_shows, seat_steps}

-- what was seen is seen still
pub record SawMore (old new : Part) : Type 0 where
  pub more : List (ℕ × ℕ)
  pub seen : new.seen ≡ old.seen ++ more

pub the_same : (one : Part) → SawMore one one
the_same one = record { more = []; seen = sym (append-nil one.seen) }

pub saw_on : {one two three : Part} → SawMore one two → SawMore two three → SawMore one three
saw_on {one} {two} {three} a b = record {
  more = a.more ++ b.more;
  seen = b.seen ∙ ap (λ (s : List (ℕ × ℕ)). s ++ b.more) a.seen
      ∙ append_assoc one.seen a.more b.more;
}

pub saw_still : {handle : Handle} {old new : Part} → SawMore old new → SawEnd handle old
    → SawEnd handle new
saw_still {handle} {old} {new} grown saw = record {
  past = λ word after.
      saw.past word
      (λ k before e. after k before
      (subst (λ (s : List (ℕ × ℕ)). get_elem? s k ≡ some (word_of handle.place, before))
      (sym grown.seen) (at_longer old.seen grown.more k (word_of handle.place, before) e)));
}

-- a freed word that was seen is the end of its life
pub saw_freed : (handle : Handle) (word : ℕ) (old new : Part) → IsLiveWord word
    → word_generation word ≡ handle.generation
    → new.seen ≡ old.seen ++ (word_of handle.place, word - 1) ∷ [] → SawEnd handle new
saw_freed handle word old new live is seen = record {
  past = λ later after.
      over_after handle.generation (word - 1) later
      (after (length old.seen) (word - 1)
      (subst (λ (s : List (ℕ × ℕ)).
      get_elem? s (length old.seen) ≡ some (word_of handle.place, word - 1)) (sym seen)
      (at_last old.seen (word_of handle.place, word - 1) (length old.seen) refl))) (
        (let odd = live.1 in omega (arith, is, odd)),
        λ same. (let odd = live.1 in omega (arith, odd)),
      );
}

-- a word that is found at the place in hand isn't before the end of the life in hand
pub past_hand : (hand : Option Handle) (place : Place) (word : ℕ) (part : Part)
    → ((handle : Handle) → hand ≡ Some handle → handle.place.segment ≡ place.segment
    → SawEnd handle part)
    → IsShown (word_of place) word part → hand_place hand ≡ Some (number_of place)
    → (hand_generation hand ≤ (slot_in word).generation)
    × ((slot_in word).generation ≡ hand_generation hand → (slot_in word).live ≡ false)
past_hand None place word part saw shown e = absurd (none-some (number_of place) e)
past_hand (Some handle) place word part saw shown e =
    let same : number_of handle.place ≡ number_of place = same_Some _ _ e in
    let p = handle.place.page_below in
    let i = handle.place.index_below in
    let q = place.page_below in
    let j = place.index_below in
    let segment : handle.place.segment ≡ place.segment = omega (arith, same) in
    let at : word_of handle.place ≡ word_of place = omega (arith, same) in
    let over : IsOver handle.generation word =
    (saw handle refl segment).past word
    (λ k before e. shown.seen k before
    (subst (λ n. get_elem? part.seen k ≡ some (n, before)) at e)) in
    let read = slot_read word shown.slot_word in
    let generation : (slot_in word).generation ≡ word_generation word =
    ap (λ s. s.generation) read in (
      (let least = over.0 in omega (arith, generation, least)),
      λ is. ap (λ s. s.live) read
          ∙ (let dead = over.1 (sym generation ∙ is) in
          ne_eqb (word % 2) 1 (λ odd. omega (arith, odd, dead))),
    )

module _ {S : Type 0} (number : S → ℕ) (part : S → Part) where
  -- each of these segments was there, and its seat has seen no less
  pub record Grown (old new : List (Kept S)) : Type 0 where
    pub was :
        (k : Kept S) → Contains new k
        → (j : Kept S) × Contains old j × (number k.slots ≡ number j.slots)
        × SawMore (part j.slots) (part k.slots)

  pub knows_still : {hand : Option Handle} {own own' : Part} {old new : List (Kept S)}
      → SawMore own own' → Grown old new → KnowsHand number part hand own old
      → KnowsHand number part hand own' new
  knows_still mine theirs knows = record {
    by_own = λ handle e. saw_still mine (knows.by_own handle e);
    by_held = λ handle k e c is.
        let w = theirs.was k c in
        saw_still w.3 (knows.by_held handle w.0 e w.1 (sym w.2 ∙ is));
  }

  -- they are some of those that there were
  pub some_left : {old new : List (Kept S)}
      → ((k : Kept S) → Contains new k → Contains old k) → Grown old new
  some_left there =
      record { was = λ k c. (k, there k c, refl, the_same (part k.slots)) }

  -- the worker's own seat has seen more
  pub own_saw : {hand : Option Handle} {own own' : Part} {segments : List (Kept S)}
      (more : List (ℕ × ℕ)) → own'.seen ≡ own.seen ++ more
      → KnowsHand number part hand own segments → KnowsHand number part hand own' segments
  own_saw more seen knows =
      knows_still (record { more = more; seen = seen }) (some_left (λ k there. there)) knows

  -- one after the other
  pub grown_on : {one two three : List (Kept S)} → Grown one two → Grown two three
      → Grown one three
  grown_on a b = record {
    was = λ k c.
        let w = b.was k c in
        let v = a.was w.0 w.1 in
        (v.0, v.1, w.2 ∙ v.2, saw_on v.3 w.3);
  }

  -- the seat of one has seen more
  pub set_grown : (old new : List (Kept S)) (found : ℕ) (before after : Kept S)
      → slice_get old found ≡ Some before → new ≡ slice_set old found after
      → number after.slots ≡ number before.slots
      → SawMore (part before.slots) (part after.slots) → Grown old new
  set_grown old new found before after at now same more = record {
    was = λ k c. elim (contained_set old found after k
        (subst (λ (xs : List (Kept S)). Contains xs k) now c)) [
          | inl e ↦ (
            before,
            Contains-get old found before at,
            ap (λ (j : Kept S). number j.slots) e ∙ same,
            subst (λ (j : Kept S). SawMore (part before.slots) (part j.slots)) (sym e) more,
          )
          | inr there ↦ (k, there, refl, the_same (part k.slots))
        ];
  }

  -- it made a step
  pub stepped_grown : {place : Place} {found left : ℕ} {old new : List (Kept S)}
      → Stepped number (seat_shows number part) (seat_steps number part) place found left old new
      → Grown old new
  stepped_grown {place} {found} {left} {old} {new} st =
      set_grown old new st.found st.before st.after st.at st.now (ap (λ d. d.number) st.kind)
      (record {
        more = (word_at (number st.before.slots) (slot_of place), left) ∷ [];
        seen = st.stepped.1;
      })

  -- classes and lists alone have changed
  pub bare_grown : {old new : List (Kept S)} → map bare new ≡ map bare old → Grown old new
  bare_grown {old} {new} same = record {
    was = λ k c.
        let inside : c.0 < length old =
        omega
        (arith, c.1, length-map new (bare {S = S}), length-map old (bare {S = S}), ap length same)
        in
        let j = get_or old c.0 k in
        let is : bare k ≡ bare j =
        ap bare (sym c.2) ∙ sym (get_or-map bare new c.0 k (bare k) c.1)
        ∙ ap (λ (ks : List (Kept S)). get_or ks c.0 (bare k)) same
        ∙ get_or-map bare old c.0 k (bare k) inside in (
          j,
          Contains-get old c.0 j (slice_get-get_or old c.0 k inside),
          ap (λ (b : Kept S). number b.slots) is,
          subst (λ (q : S). SawMore (part j.slots) (part q)) (sym (ap (λ (b : Kept S). b.slots) is))
              (the_same (part j.slots)),
        );
  }

  -- the worker's seat for a place has seen the end of the life in hand, if that is of the place
  pub saw_for : (had : Had S) (place : Place) (o : Option (Kept S))
      → segment_in number had.heap.segments place.segment ≡ o
      → KnowsHand number part had.hand had.own had.heap.segments → (handle : Handle)
      → had.hand ≡ Some handle → handle.place.segment ≡ place.segment
      → SawEnd handle (part_by number part o had.own)
  saw_for had place None is knows handle e same = knows.by_own handle e
  saw_for had place (Some k) is knows handle e same =
      knows.by_held handle k e (segment_contained number had.heap.segments place.segment k is)
      (passes number had.heap.segments place.segment k is ∙ sym same)

  not_held : (xs : List (Kept S)) (segment : ℕ) → is_held number xs segment ≡ false
      → (k : Kept S) → Contains xs k → number k.slots ≡ segment → ⊥
  not_held [] segment away k c is = (let lt = c.1 in omega (arith, lt))
  not_held (x ∷ xs) segment away k c is = elim (cases_Bool (number x.slots == segment)) [
    | inl t ↦
        true≢false
        (sym (ap (λ b. is_some (cond b (Some x) (find (is_of number segment) xs))) t) ∙ away)
    | inr f ↦
        ⊎_elim
        (λ (l : Contains (x ∷ []) k).
        true≢false
        (sym (eq-eqb (number x.slots) segment
        (ap (λ (j : Kept S). number j.slots) (only x k l) ∙ is)) ∙ f))
        (λ (r : Contains xs k).
        not_held xs segment
        (sym (ap (λ b. is_some (cond b (Some x) (find (is_of number segment) xs))) f) ∙ away)
        k r is)
        (Contains-append_cases (x ∷ []) xs k c)
  ]

  -- a block of a segment that isn't held comes to the hand, once its end was seen
  pub knows_new : (handle : Handle) (own : Part) (segments : List (Kept S)) → SawEnd handle own
      → is_held number segments handle.place.segment ≡ false
      → KnowsHand number part (Some handle) own segments
  knows_new handle own segments saw away = record {
    by_own = λ other e. subst (λ h. SawEnd h own) (same_Some handle other e) saw;
    by_held = λ other k e c is.
        absurd (not_held segments handle.place.segment away k c
        (is ∙ ap (λ (h : Handle). h.place.segment) (sym (same_Some handle other e))));
  }

  -- a segment comes whose seat has seen the end of the life in hand, if that is of its places
  pub knows_more : {hand : Option Handle} {own : Part} {segments : List (Kept S)} (one : Kept S)
      → KnowsHand number part hand own segments
      → ((handle : Handle) → hand ≡ Some handle → number one.slots ≡ handle.place.segment
      → SawEnd handle (part one.slots))
      → KnowsHand number part hand own (segments ++ one ∷ [])
  knows_more {hand} {own} {segments} one knows saw = record {
    by_own = knows.by_own;
    by_held = λ handle k e c is.
        ⊎_elim (λ (l : Contains segments k). knows.by_held handle k e l is)
        (λ (r : Contains (one ∷ []) k).
        subst (λ (j : Kept S). SawEnd handle (part j.slots)) (only one k r)
        (saw handle e (ap (λ (j : Kept S). number j.slots) (only one k r) ∙ is)))
        (Contains-append_cases segments (one ∷ []) k c);
  }
