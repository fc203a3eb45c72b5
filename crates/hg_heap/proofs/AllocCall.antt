-- The exits of an allocation.
use Rattle.std.proofs.Common.{◌≡◌, ℕ, inl, inr, ◌+◌, ◌-◌, ◌*◌, ◌<◌, ◌≤◌, Bool, true, false}
use Rattle.std.proofs.Common.{cond, not, [], ◌∷◌, List, length, Option, Some, None, refl, sym}
use Rattle.std.proofs.Common.{ap, subst, ◌∙◌, arith}
use Rattle.std.proofs.Common.{Contains, nat_le}
use Rattle.std.specs.Prelude.{unwrap_or}
use Rattle.std.proofs.lemmas.Bool.{cases_Bool, ltb-true}
use Rattle.hg_place.specs.declared.Actor.{Actor}
use Rattle.hg_place.specs.declared.Handle.{Handle}
use Rattle.hg_place.specs.declared.standing.Standing.{Standing}
use Rattle.hg_place.specs.declared.standing.Standing.TheVariants.{Home}
use Rattle.hg_place.specs.Lives.{live_word}
use Rattle.hg_place.specs.Places.{number_of}
use Rattle.hg_place.specs.Slots.{Slot}
use Rattle.hg_size.specs.Sizes.{sizes, size_for}
use Rattle.hg_machine.specs.Policy.{Policy, is_tenant, limit_of, admits}
use Rattle.hg_machine.specs.Request.{size_of, words_for, alloc_verdict, verdict_on_size}
use Rattle.hg_machine.specs.First.{first_of}
use Rattle.hg_machine.specs.declared.Rule.TheVariants as rule
use Rattle.hg_machine.specs.declared.AllocVerdict.{AllocVerdict}
use Rattle.hg_machine.specs.declared.AllocVerdict.TheVariants as alloc
use Rattle.hg_machine.specs.declared.Event.TheVariants as event
use Rattle.hg_machine.specs.declared.Answer.{Answer}
use Rattle.hg_machine.specs.declared.Answer.TheVariants as answer
use Rattle.hg_segment.specs.Kept.{Kept}
use Rattle.hg_segment.specs.declared.charges.TheConstants.{TENANTS}
use Rattle.hg_agreement.specs.Views.{Shown, slot_shown}
use Rattle.hg_agreement.specs.Agreement.{Ties}
use Rattle.hg_agreement.specs.Seen.{refusal_in, alloc_in, is_room_in}
use Rattle.hg_agreement.specs.Seen as seen
use Rattle.hg_agreement.specs.Changed.{opened}
use Rattle.hg_agreement.proofs.Frames.{refused_is_tied}
use Rattle.hg_agreement.proofs.Allocs.{alloc_is_tied}
use Rattle.hg_heap.specs.Held.{Held}
use Rattle.hg_heap.specs.Charges.{charge_in}
use Rattle.hg_heap.specs.Choice.{front_page, blank_page, chosen_place}
use Rattle.hg_heap.specs.Policies.{AreOf}
use Rattle.hg_heap.specs.Allotted.{IsAllotted}
use Rattle.hg_heap.specs.Ties.{HeapTies, heap_view, shown_at}
use Rattle.hg_heap.specs.Right.{IsRight}
use Rattle.hg_heap.specs.Answers.{refused_answer}
use Rattle.hg_heap.specs.Refusals.{refused_by}
use Rattle.hg_heap.specs.declared.refused.Refused.{Refused}
use Rattle.hg_heap.specs.declared.refused.Refused.TheVariants as refused
use Rattle.hg_heap.proofs.Founds.{Found}
use Rattle.hg_heap.proofs.FoundHoldings.{standing_found}
use Rattle.hg_heap.proofs.AllocRooms.{chosen_room, unchosen_no_room}
use Rattle.hg_heap.proofs.Allotting.{found_first}
use Rattle.hg_heap.proofs.Given.{opened_ties}
use Rattle.hg_heap.proofs.ViewCharges.{view_charge}

-- the verdict looks at the charge of tenants alone
abbrev pub verdict_by : Policy → ℕ → ℕ → ℕ → ℕ → Bool → AllocVerdict
verdict_by policy actor arena words charge tenant =
    unwrap_or (first_of
    ((not tenant, alloc.Denied rule.Stranger) ∷ (
      not (admits policy arena actor),
      alloc.Denied
          rule.ForeignArena,
    ) ∷ []))
    (verdict_on_size policy actor charge (size_for words))

same_verdict_by : (policy : Policy) (actor arena words charge other : ℕ) (b : Bool)
    → (b ≡ true → charge ≡ other) → verdict_by policy actor arena words charge b ≡ verdict_by policy
    actor arena words other b
same_verdict_by policy actor arena words charge other true e =
    ap (λ (n : ℕ). verdict_by policy actor arena words n true) (e refl)
same_verdict_by policy actor arena words charge other false e = refl

pub same_verdict : (policy : Policy) (actor arena words charge other : ℕ)
    → (is_tenant policy actor ≡ true → charge ≡ other)
    → alloc_verdict policy actor arena words charge ≡ alloc_verdict policy actor arena words other
same_verdict policy actor arena words charge other e =
    same_verdict_by policy actor arena words charge other (is_tenant policy actor) e

-- what is known where the request fits
pub record Fits (policy : Policy) (actor arena words charge size : ℕ) : Type 0 where
  pub tenant : is_tenant policy actor ≡ true
  pub admitted : admits policy arena actor ≡ true
  pub size_is : size_for words ≡ Some size

fits_size : (policy : Policy) (actor charge size : ℕ) (o : Option ℕ)
    → verdict_on_size policy actor charge o ≡ alloc.Fits size → o ≡ Some size
fits_size policy actor charge size None e = absurd (cc)
fits_size policy actor charge size (Some n) e =
    elim (cases_Bool (nat_le (charge + 8 * n) (limit_of policy actor))) [
      | inl t ↦ (let s : alloc.Fits n ≡ alloc.Fits size = sym
          (ap (λ (b : Bool). cond b (alloc.Fits n) (alloc.Denied rule.OverLimit)) t)
          ∙ e in let same : n ≡ size = cc in ap Some same)
      | inr f ↦ absurd (let s : alloc.Denied rule.OverLimit ≡ alloc.Fits size = sym
          (ap (λ (b : Bool). cond b (alloc.Fits n) (alloc.Denied rule.OverLimit)) f) ∙ e in cc)
    ]

fits_by : (policy : Policy) (actor arena words charge size : ℕ) (t a : Bool)
    → is_tenant policy actor ≡ t → admits policy arena actor ≡ a
    → unwrap_or (first_of
    ((not t, alloc.Denied rule.Stranger) ∷ (not a, alloc.Denied rule.ForeignArena) ∷ []))
    (verdict_on_size policy actor charge (size_for words)) ≡ alloc.Fits size
    → Fits policy actor arena words charge size
fits_by policy actor arena words charge size false a it ia e = absurd (cc)
fits_by policy actor arena words charge size true false it ia e = absurd (cc)
fits_by policy actor arena words charge size true true it ia e =
    record {
      tenant = it;
      admitted = ia;
      size_is = fits_size policy actor charge size
          (size_for words) e;
    }

pub fits_is : (policy : Policy) (actor arena words charge : ℕ) {size : ℕ}
    → alloc_verdict policy actor arena words charge ≡ alloc.Fits size
    → Fits policy actor arena words charge size
fits_is policy actor arena words charge {size = size} e =
    fits_by policy actor arena words charge size (is_tenant policy actor)
    (admits policy arena actor) refl refl e

module _ {S : Type 0} (number : S → ℕ) (records : S → List Standing) (sized : (s : S)
    → length (records s) ≡ 8192) (small : (s : S) → number s < 64) {policy : Policy} {held : Held S}
    {table : List (Option ℕ)} {charges : List ℕ} {capacity : ℕ}
    (right : IsRight number records table charges capacity held)
    (of : AreOf number policy held.segments)
    (actor : Actor) (arena bytes : ℕ) {charge : ℕ} (few : length policy.tenants ≤ 64)
    (charged : actor.0 < TENANTS → charge ≡ charge_in records held.segments actor.0) where
  abbrev verdict : AllocVerdict
  verdict = alloc_verdict policy actor.0 arena (words_for bytes) charge

  -- the verdict of a view
  view_verdict : (worker : ℕ) (hand : Option ℕ) (generation : ℕ)
      → alloc_verdict policy actor.0 arena (words_for bytes)
      (seen.charge_in (heap_view number records policy worker hand generation held.segments)
      actor.0) ≡ alloc_verdict policy actor.0 arena (words_for bytes) charge
  view_verdict worker hand generation =
      same_verdict policy actor.0 arena (words_for bytes) _ charge (λ t.
      view_charge number records sized policy worker hand generation held.segments actor.0
      right.tabled.once right.settled of
      ∙ sym (charged (let lt = ltb-true actor.0 (length policy.tenants) t in omega
      (arith, few, lt))))

  refusal_is : (worker : ℕ) (hand : Option ℕ) (generation : ℕ) (slot : Slot) (v : AllocVerdict)
      → alloc_verdict policy actor.0 arena (words_for bytes) charge ≡ v
      → refusal_in (heap_view number records policy worker hand generation held.segments) slot
      (event.Alloc actor arena bytes) ≡ alloc_in
      (heap_view number records policy worker hand generation held.segments) arena v
  refusal_is worker hand generation slot v e =
      ap (alloc_in (heap_view number records policy worker hand generation held.segments) arena)
      (view_verdict worker hand generation ∙ e)

  -- a request that is denied
  pub refused_ends : (v : AllocVerdict) (refused : Answer) → alloc_verdict policy actor.0 arena
      (words_for bytes) charge ≡ v
      → ((worker : ℕ) (hand : Option ℕ) (generation : ℕ)
      → alloc_in (heap_view number records policy worker hand generation held.segments) arena v
      ≡ Some refused)
      → (shown : Option Shown) → HeapTies number records policy shown shown
      (event.Alloc actor arena bytes) refused held.segments held.segments
  refused_ends v refused e why shown worker hand generation below =
      refused_is_tied (heap_view number records policy worker hand generation held.segments) shown
      (event.Alloc actor arena bytes) refused below tt
      (refusal_is worker hand generation (slot_shown shown) v e ∙ why worker hand generation)

  -- one for which there is no room
  pub no_room_ends : {size : ℕ} → alloc_verdict policy actor.0 arena (words_for bytes) charge
      ≡ alloc.Fits size → Contains sizes size
      → front_page number records held arena size ≡ None → blank_page number records held arena size
      ≡ None
      → (shown : Option Shown) → HeapTies number records policy shown shown
      (event.Alloc actor arena bytes) answer.NoRoom held.segments held.segments
  no_room_ends {size = size} e in_sizes empty blank =
      refused_ends (alloc.Fits size) answer.NoRoom e (λ worker hand generation.
      ap (λ (b : Bool). cond b None (Some answer.NoRoom))
      (unchosen_no_room number records small policy worker hand generation held right.queued
      right.settled of arena size in_sizes empty blank))

  -- one that is served
  module _ {size : ℕ} (e : alloc_verdict policy actor.0 arena (words_for bytes) charge
      ≡ alloc.Fits size) (in_sizes : Contains sizes size) {handle : Handle} {new : List (Kept S)}
      {shows : S → ℕ → ℕ → Type 0} {steps : S → ℕ → ℕ → ℕ → S → Type 0}
      (a : IsAllotted number records shows steps size actor.0 handle held.segments new)
      (chosen : chosen_place number records held arena size ≡ Some (number_of handle.place)) where
    size_same : size_of bytes ≡ size
    size_same = ap (λ (o : Option ℕ). unwrap_or o 0)
        (fits_is policy actor.0 arena (words_for bytes) charge e).size_is

    in_heap : Found number held.segments handle.place.segment a.stepped.found a.stepped.before
    in_heap = record {
      at = a.stepped.at;
      first = found_first number records held.segments a.stepped.found a.stepped.before
          handle.place.segment right.tabled.once a.stepped.at a.stepped.segment;
    }

    pub given_ties : HeapTies number records policy (shown_at handle.place a.word)
        (shown_at handle.place (live_word handle.generation actor.0))
        (event.Alloc actor arena bytes) (answer.Block handle) held.segments new
    given_ties worker hand generation below =
        let view = heap_view number records policy worker hand generation held.segments in
        let room = chosen_room number records small policy worker hand generation held right.queued
        right.settled of arena size in_sizes (number_of handle.place) chosen in
        let none : refusal_in view (slot_shown (shown_at handle.place a.word))
        (event.Alloc actor arena bytes) ≡ None =
        refusal_is worker hand generation (slot_shown (shown_at handle.place a.word))
        (alloc.Fits size) e ∙ ap (λ (b : Bool). cond b None (Some answer.NoRoom)) room.some in
        let there : is_room_in view arena (size_of bytes) (number_of handle.place) ≡ true =
        ap (λ (n : ℕ). is_room_in view arena n (number_of handle.place)) size_same
        ∙ room.room in
        let standing : view.standing (number_of handle.place) ≡ Home (handle.generation - 1) =
        standing_found number records held.segments handle.place a.stepped.found
        a.stepped.before in_heap ∙ a.home in
        let ties = alloc_is_tied view (shown_at handle.place a.word) actor arena bytes handle below
        none there standing in
        subst (λ (segments : List (Kept S)). Ties view (shown_at handle.place a.word)
        (event.Alloc actor arena bytes) (answer.Block handle)
        (heap_view number records policy worker hand generation segments)
        (shown_at handle.place (live_word handle.generation actor.0))) (sym a.stepped.now)
        (opened_ties number records held.segments a.stepped.found handle.place a.stepped.before
        a.stepped.after size handle.generation actor.0 in_heap a.given policy worker hand generation
        (shown_at handle.place a.word) (shown_at handle.place (live_word handle.generation actor.0))
        (event.Alloc actor arena bytes) (answer.Block handle)
        (subst (λ (n : ℕ). Ties view (shown_at handle.place a.word) (event.Alloc actor arena bytes)
        (answer.Block handle) (opened view (number_of handle.place) handle.generation actor.0 n)
        (shown_at handle.place (live_word handle.generation actor.0))) size_same ties))

-- a request that the verdict refuses
pub refusal_ends : {S : Type 0} (number : S → ℕ) (records : S → List Standing)
    (sized : (s : S) → length (records s) ≡ 8192) (small : (s : S) → number s < 64) {policy : Policy}
    {held : Held S} {table : List (Option ℕ)} {charges : List ℕ} {capacity : ℕ}
    (right : IsRight number records table charges capacity held) (of : AreOf number policy held.segments)
    (actor : Actor) (arena bytes : ℕ) (few : length policy.tenants ≤ 64) (v : AllocVerdict)
    (why : Refused)
    → alloc_verdict policy actor.0 arena (words_for bytes) (charge_in records held.segments actor.0) ≡ v
    → refused_by v ≡ Some why → (shown : Option Shown)
    → HeapTies number records policy shown shown (event.Alloc actor arena bytes) (refused_answer why)
    held.segments held.segments
refusal_ends number records sized small {policy} {held} right of actor arena bytes few (alloc.Denied rule)
    why e is =
    let same : refused.Denied rule ≡ why = cc in
    subst
    (λ (w : Refused).
    (shown : Option Shown)
    → HeapTies number records policy shown shown (event.Alloc actor arena bytes) (refused_answer w)
    held.segments held.segments)
    same
    (refused_ends number records sized small right of actor arena bytes few (λ lt. refl)
    (alloc.Denied rule) (answer.Denied rule) e (λ worker hand generation. refl))
refusal_ends number records sized small {policy} {held} right of actor arena bytes few alloc.TooLarge why e
    is =
    let same : refused.TooLarge ≡ why = cc in
    subst
    (λ (w : Refused).
    (shown : Option Shown)
    → HeapTies number records policy shown shown (event.Alloc actor arena bytes) (refused_answer w)
    held.segments held.segments)
    same
    (refused_ends number records sized small right of actor arena bytes few (λ lt. refl) alloc.TooLarge
    answer.TooLarge e (λ worker hand generation. refl))
refusal_ends number records sized small right of actor arena bytes few (alloc.Fits size) why e is =
    absurd (cc)
