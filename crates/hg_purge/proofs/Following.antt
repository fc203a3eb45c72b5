-- Two states that agree on a side refuse and serve its workers alike.
use Rattle.std.proofs.Common.{◌≡◌, ℕ, ◌*◌, ◌<◌, ◌==◌, ◌&&◌, inl, inr, Bool, true, false, not}
use Rattle.std.proofs.Common.{[], ◌∷◌, length, find, nat_lt}
use Rattle.std.proofs.Common.{is_some, Some, None, refl, sym, ap, ◌∙◌, arith}
use Rattle.std.proofs.Math.Path.{fun_ext}
use Rattle.std.specs.List.{list_any, range_with_len}
use Rattle.std.specs.Option.{option_or}
use Rattle.std.proofs.lemmas.Bool.{cases_Bool, eqb-true, true≢false}
use Rattle.std.proofs.lemmas.Bool.{false_from_ne_true, not-false}
use Rattle.hg_machine.specs.First.{first_of}
use Rattle.hg_machine.proofs.Allowed.{step}
use Rattle.std.proofs.lemmas.List.{get_or_default}
use Rattle.std.proofs.lemmas.List.Folds.{Any-from_list_any}
use Rattle.hg_size.proofs.Covers.{same_test}
use Rattle.hg_place.specs.declared.Place.{Place}
use Rattle.hg_place.specs.declared.Right.{Right}
use Rattle.hg_place.specs.Slots.{Slot}
use Rattle.hg_place.specs.Places.{number_of, page_of, index_of, segment_of, segment_of_page}
use Rattle.hg_size.specs.Sizes.{places_of}
use Rattle.hg_machine.specs.declared.Answer.TheVariants as answer
use Rattle.hg_machine.specs.Policy.{arena_of}
use Rattle.hg_machine.specs.Life.{Record, is_home, is_live, is_parted, owner_of, contents_of}
use Rattle.hg_machine.specs.State.{State, record_at, class_at, holder_at, hand_of, places_in}
use Rattle.hg_machine.specs.State.{pages_in}
use Rattle.hg_machine.specs.Holders.{holds, is_held_by, is_number, is_in_arena, is_fresh, next_of}
use Rattle.hg_machine.specs.Room.{suits, is_usable, is_open_to}
use Rattle.hg_machine.specs.Denial.{denial, denial_on}
use Rattle.hg_machine.specs.Held.{IsAlike, IsSameHeld, HeldDecides}
use Rattle.hg_machine.specs.Sweeps.{is_sent, is_sent_to, is_idle}
use Rattle.hg_machine.proofs.Enough.{held_is_enough}
use Rattle.hg_machine.proofs.Keeps.{hand_any}
use Rattle.hg_machine.proofs.Suits.{number_some, suits_alike}
use Rattle.hg_laws.proofs.MachineFacts.{segment_is}
use Rattle.hg_choice.specs.ListsAfter.{is_collected}
use Rattle.hg_purge.proofs.Agreeing.{StateOn, IsParted, Beside}
use Rattle.hg_purge.proofs.Filters.{find_on}
use Rattle.hg_purge.proofs.Facts.{all_in_range}

alike : (r q : Record) → r ≡ q → IsAlike r q
alike r q e = record {
  generation = ap (λ x. x.generation) e;
  free = ap (λ x. is_home x.life) e;
  owner = ap (λ x. owner_of x.life) e;
  words = ap (λ x. contents_of x.life) e;
}

abbrev usable_by : ℕ → ℕ → Record → ℕ → Bool
usable_by size place r greatest =
    nat_lt (index_of place) (places_of size)
    && (is_home r.life && not (is_home r.life && r.generation == greatest))

abbrev shown : Record → Slot
shown r = record { generation = r.generation; owner = owner_of r.life; live = is_live r.life }

-- two tests of which the second part counts where the first passes
held_test : (g h b c : Bool) → g ≡ h → (h ≡ true → b ≡ c) → (g && b) ≡ (h && c)
held_test g true b c e same = ap (λ x. x && b) e ∙ same refl
held_test g false b c e same = ap (λ x. x && b) e

module _ {on own : ℕ → Bool} where
  -- what a worker of the side doesn't hold
  unheld_off : (s : State) (w segment : ℕ) → IsParted on own s → own w ≡ true
      → on segment ≡ false → holds s w segment ≡ false
  unheld_off s w segment parted mine off =
      false_from_ne_true _ (λ h. true≢false (sym mine ∙ sym (parted.holding w segment h) ∙ off))

  -- what a worker takes in or abandons it holds
  pub held_named : {s : State} → IsParted on own s → (w segment : ℕ)
      → first_of ((not (holds s w segment), answer.NotHeld) ∷ []) ≡ None → on segment ≡ own w
  held_named parted w segment none =
      parted.holding w segment (not-false _ ((step _ answer.NotHeld None none).0))

  -- a place in a hand of a worker of the side
  carried : (s t : State) (place : ℕ) → IsParted on own s
      → ((w : ℕ) → own w ≡ true → hand_of t w ≡ hand_of s w)
      → on (segment_of place) ≡ true → list_any (is_number place) s.hands ≡ true
      → list_any (is_number place) t.hands ≡ true
  carried s t place parted same o e =
      let a = Any-from_list_any (is_number place) s.hands e in
      let below : a.0 < length s.hands = a.2 in
      let is : hand_of s a.0 ≡ Some place =
      get_or_default s.hands a.0 None a.1 below ∙ a.3 ∙ number_some place a.1 a.4 in
      hand_any t a.0 place (same a.0 (sym (parted.hands a.0 place is) ∙ o) ∙ is)

  pub usable_same : {s t : State} → StateOn on own s t → (size place : ℕ)
      → on (segment_of place) ≡ true → is_usable t size place ≡ is_usable s size place
  usable_same {s} {t} same size place o =
      ap (λ r. usable_by size place r t.policy.max_generation) (same.records.at place o)
      ∙ ap (λ p. usable_by size place (record_at s place) p.max_generation) same.policy

  module _ {s t : State} (b : Beside on own s t) where
    pub place_same : (place : Place) → on place.segment ≡ true
        → record_at t (number_of place) ≡ record_at s (number_of place)
    place_same place o = b.same.records.at (number_of place) (ap on (segment_is place) ∙ o)

    pub places_same : places_in t ≡ places_in s
    places_same = ap (range_with_len 0) b.same.records.long

    pub pages_same : pages_in t ≡ pages_in s
    pages_same = ap (range_with_len 0) b.same.classes.long

    -- what a worker of the side holds
    module _ (w : ℕ) (mine : own w ≡ true) where
      pub holding_same : (segment : ℕ) → holds t w segment ≡ holds s w segment
      holding_same segment =
          elim (cases_Bool (on segment)) as (λ _. holds t w segment ≡ holds s w segment) [
            | inl o ↦ ap (is_held_by w) (b.same.holders.at segment o)
            | inr off ↦
                unheld_off t w segment b.there mine off
                ∙ sym (unheld_off s w segment b.here mine off)
          ]

      held_is_on : (segment : ℕ) → holds s w segment ≡ true → on segment ≡ true
      held_is_on segment h = b.here.holding w segment h ∙ mine

      held : IsSameHeld s t w
      held = record {
        policy = b.same.policy;
        places = places_same;
        holding = holding_same;
        records = λ place h.
            alike _ _ (b.same.records.at place (held_is_on (segment_of place) h));
        classes = λ page h. b.same.classes.at page (held_is_on (segment_of_page page) h);
      }

      pub decides : HeldDecides s t w
      decides = held_is_enough s t w held

      pub open_same : (arena size place : ℕ)
          → is_open_to t w arena size None place ≡ is_open_to s w arena size None place
      open_same arena size place =
          let page = page_of place in
          let paged : segment_of_page page ≡ segment_of place = omega arith in
          held_test _ _ _ _ (holding_same (segment_of place)) (λ h.
          let o = held_is_on (segment_of place) h in
          let suit = suits_alike (class_at s) (class_at t) size None page
          (λ q e. b.same.classes.at q (ap on (e ∙ paged) ∙ o)) in
          ap (λ p. is_number arena (arena_of p (segment_of place))
          && (suits (class_at t) size None page && is_usable t size place)) b.same.policy
          ∙ ap (λ x. is_in_arena s arena (segment_of place) && (x && is_usable t size place)) suit
          ∙ ap (λ x. is_in_arena s arena (segment_of place)
          && (suits (class_at s) size None page && x))
          (usable_same b.same size place o))

    -- in hands, and sent
    in_hand_same : (place : ℕ) → on (segment_of place) ≡ true
        → list_any (is_number place) t.hands ≡ list_any (is_number place) s.hands
    in_hand_same place o =
        same_test (list_any (is_number place) s.hands) (list_any (is_number place) t.hands)
        (carried s t place b.here (λ w mine. b.same.hands.at w mine) o)
        (carried t s place b.there (λ w mine. sym (b.same.hands.at w mine)) o)

    pub sent_same : (segment place : ℕ) → on segment ≡ true
        → is_sent_to t segment place ≡ is_sent_to s segment place
    sent_same segment place o =
        held_test (segment_of place == segment) (segment_of place == segment) (is_sent t place)
        (is_sent s place) refl (λ e.
        let is = ap on (eqb-true _ _ e) ∙ o in
        ap (λ r. is_parted r.life && not (list_any (is_number place) t.hands))
        (b.same.records.at place is)
        ∙ ap (λ x. is_parted (record_at s place).life && not x) (in_hand_same place is))

    pub idle_same : (page : ℕ) → on (segment_of_page page) ≡ true → is_idle t page ≡ is_idle s page
    idle_same page o =
        all_in_range (λ p. is_home (record_at s p).life) (λ p. is_home (record_at t p).life)
        (page * 512) 512
        (λ p low high.
        let at : segment_of p ≡ segment_of_page page = omega arith in
        ap (λ r. is_home r.life) (b.same.records.at p (ap on at ∙ o)))

    -- the pages that a worker's Collect clears
    pub collected_same : (w : ℕ) → own w ≡ true → is_collected t w ≡ is_collected s w
    collected_same w mine = fun_ext λ page.
        held_test _ _ _ _ (holding_same w mine (segment_of_page page)) (λ h.
        let o = held_is_on w mine (segment_of_page page) h in
        ap (λ i. i && is_some (class_at t page)) (idle_same page o)
        ∙ ap (λ c. is_idle s page && is_some c) (b.same.classes.at page o))

    lowest_same : (f : ℕ → Bool) → ((g : ℕ) → f g ≡ true → on g ≡ true) → (g : ℕ)
        → (f g && is_fresh (holder_at t g)) ≡ (f g && is_fresh (holder_at s g))
    lowest_same f each g =
        held_test (f g) (f g) (is_fresh (holder_at t g)) (is_fresh (holder_at s g)) refl
        (λ i. ap is_fresh (b.same.holders.at g (each g i)))

    -- what a refill of an arena of the side takes
    pub next_same : (arena : ℕ) → ((g : ℕ) → is_in_arena s arena g ≡ true → on g ≡ true)
        → next_of t arena ≡ next_of s arena
    next_same arena each =
        let f = is_in_arena s arena in
        let all = range_with_len 0 (length t.holders) in
        let arenas : is_in_arena t arena ≡ f =
        ap (λ p. λ g. is_number arena (arena_of p g)) b.same.policy in
        let oldest : find f t.orphans ≡ find f s.orphans =
        sym (find_on f on t.orphans each) ∙ ap (find f) b.same.orphans
        ∙ find_on f on s.orphans each in
        let lowest : (λ g. f g && is_fresh (holder_at t g))
        ≡ (λ g. f g && is_fresh (holder_at s g)) = fun_ext λ g. lowest_same f each g in
        ap (λ h. option_or (find h t.orphans) (find (λ g. h g && is_fresh (holder_at t g)) all))
        arenas
        ∙ ap (λ x. option_or x (find (λ g. f g && is_fresh (holder_at t g)) all)) oldest
        ∙ ap (λ h. option_or (find f s.orphans) (find h all)) lowest
        ∙ ap (λ n. option_or (find f s.orphans)
        (find (λ g. f g && is_fresh (holder_at s g)) (range_with_len 0 n))) b.same.holders.long

    -- verdicts on blocks of the side
    pub denial_same : (actor : ℕ) (right : Right) (place : Place) (expected : ℕ)
        → on place.segment ≡ true
        → denial t actor right place expected ≡ denial s actor right place expected
    denial_same actor right place expected o =
        let now = shown (record_at t (number_of place)) in
        ap (λ p. denial_on p actor right place.segment expected now) b.same.policy
        ∙ ap (λ r. denial_on s.policy actor right place.segment expected (shown r))
        (place_same place o)
