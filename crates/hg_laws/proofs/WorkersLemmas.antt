-- A step changes what its worker holds, its own hand, and a block that it parts.
use Rattle.std.proofs.Common.{◌≡◌, ◌≢◌, ◌⊎◌, inl, inr, ℕ, ◌+◌, ◌==◌, ◌&&◌, ◌<◌, ◌≤◌, Bool, true}
use Rattle.std.proofs.Common.{false, not, cond, if◌then◌else◌, List, [], ◌∷◌, length, get_or, set}
use Rattle.std.proofs.Common.{map, Option, Some, None, refl, sym, ap, subst, ◌∙◌, arith}
use Rattle.std.specs.List.{find, count_by, range_with_len}
use Rattle.std.proofs.lemmas.Bool.{cases_Bool, cases_eq, cases_lt, and_left, and_parts}
use Rattle.std.proofs.lemmas.Bool.{or_cases, eq-eqb, eqb-true, ne_eqb, true≢false, not-false}
use Rattle.std.proofs.lemmas.Bool.{not-true, false_from_ne_true}
use Rattle.std.proofs.lemmas.List.{get_or-set_other, get_or_past}
use Rattle.std.proofs.lemmas.List.Folds.{list_any_at}
use Rattle.std.proofs.lemmas.List.FromFn.{length-range_with_len, get_or-range_with_len}
use Rattle.std.proofs.lemmas.List.FromFn.{length-map-range_with_len}
use Rattle.std.proofs.lemmas.Grind.{get_or-set_at}
use Rattle.std.proofs.lemmas.List.Sums.{sum_by-cons}
use Rattle.std.proofs.lemmas.Option.{none-some, same_Some}
use Rattle.hg_place.specs.declared.Actor.{Actor}
use Rattle.hg_place.specs.declared.Handle.{Handle}
use Rattle.hg_place.specs.declared.Place.{Place}
use Rattle.hg_place.specs.declared.Right.TheVariants as right
use Rattle.hg_place.specs.Places.{number_of, page_of, page_number, segment_of, segment_of_page}
use Rattle.hg_place.specs.Words.{bit_of}
use Rattle.hg_machine.specs.declared.Event.{Event}
use Rattle.hg_machine.specs.declared.Event.TheVariants as event
use Rattle.hg_machine.specs.declared.Answer.{Answer}
use Rattle.hg_machine.specs.declared.Answer.TheVariants as answer
use Rattle.hg_machine.specs.First.{first_of}
use Rattle.hg_machine.specs.Life.{Life, home, Record, never_used}
use Rattle.hg_machine.specs.State.{State, Holder, fresh, orphan, held, record_at, class_at}
use Rattle.hg_machine.specs.State.{holder_at, hand_of, pages_in}
use Rattle.hg_machine.specs.Soundness.{IsSound}
use Rattle.hg_machine.specs.Holders.{holds, is_held_by, is_orphan, is_fresh, is_in_arena}
use Rattle.std.specs.Option.{option_or}
use Rattle.hg_machine.specs.Holders.{next_of}
use Rattle.hg_machine.specs.Changes.{given_out, part, write, with_life}
use Rattle.hg_machine.specs.Denial.{denial}
use Rattle.hg_machine.specs.Request.{size_of}
use Rattle.hg_machine.specs.Holders.{is_number}
use Rattle.hg_machine.proofs.Suits.{number_some}
use Rattle.hg_machine.specs.Room.{is_open_to, has_open, is_room}
use Rattle.hg_machine.specs.Refusal.{refusal, denial_or}
use Rattle.hg_machine.specs.Served.{IsServed}
use Rattle.hg_machine.specs.Steps.{successor}
use Rattle.hg_machine.specs.Sweeps.{is_sent, is_idle, cleared}
use Rattle.hg_machine.proofs.Allowed.{step, allowed, no_denial}
use Rattle.hg_machine.proofs.Cases.{step_cases}
use Rattle.hg_machine.proofs.Gives.{page_is}
use Rattle.hg_machine.proofs.Keeps.{set_cases}
use Rattle.hg_machine.proofs.Preserves.{held_is, live_within}
use Rattle.hg_machine.proofs.Takes.{settled_at, cleared_at}
use Rattle.std.proofs.Common.{nat_lt}
use Rattle.hg_machine.specs.Life.{contents_of}
use Rattle.hg_machine.specs.declared.Rule.{Rule}
use Rattle.hg_laws.specs.Workers.{IsParting, LeavesOthers, WorkersKeepApart, NewPagesComeLast}
use Rattle.hg_laws.proofs.MachineFacts.{segment_is}
use Rattle.hg_laws.proofs.Refusals.{was_served}

-- what is found passes, and is there
found_passes : (p : ℕ → Bool) (xs : List ℕ) (n : ℕ) → find p xs ≡ Some n → p n ≡ true
found_passes p [] n e = absurd (none-some n e)
found_passes p (x ∷ xs) n e = elim (cases_Bool (p x)) as (λ _. p n ≡ true) [
  | inl t ↦ let same : x ≡ n = same_Some _ _ (sym (ap (λ b. cond b (Some x) (find p xs)) t) ∙ e) in ap p (sym same) ∙ t
  | inr f ↦ found_passes p xs n (sym (ap (λ b. cond b (Some x) (find p xs)) f) ∙ e)
]

abbrev once : Bool → ℕ
once b = cond b 1 0

found_counts : (p : ℕ → Bool) (xs : List ℕ) (n : ℕ) → find p xs ≡ Some n → 1 ≤ count_by (λ y. y == n) xs
found_counts p [] n e = absurd (none-some n e)
found_counts p (x ∷ xs) n e =
    let all : count_by (λ y. y == n) (x ∷ xs) ≡ once (x == n) + count_by (λ y. y == n) xs = sum_by-cons (λ y. cond (y == n) 1 0) x xs in
    elim (cases_Bool (p x)) as (λ _. 1 ≤ count_by (λ y. y == n) (x ∷ xs)) [
      | inl t ↦
          let same : x ≡ n = same_Some _ _ (sym (ap (λ b. cond b (Some x) (find p xs)) t) ∙ e) in
          let one : once (x == n) ≡ 1 = ap once (eq-eqb x n same) in
          omega arith
      | inr f ↦
          let rest = found_counts p xs n (sym (ap (λ b. cond b (Some x) (find p xs)) f) ∙ e) in
          omega arith
    ]

first_or : (o q : Option ℕ) (n : ℕ) → option_or o q ≡ Some n → (o ≡ Some n) ⊎ (q ≡ Some n)
first_or None q n e = inr e
first_or (Some m) q n e = inl e

orphan_free : (v : ℕ) (h : Holder) → is_orphan h ≡ true → is_held_by v h ≡ false
orphan_free v fresh e = refl
orphan_free v orphan e = refl
orphan_free v (held w) e = absurd (cc)

fresh_free : (v : ℕ) (h : Holder) → is_fresh h ≡ true → is_held_by v h ≡ false
fresh_free v fresh e = refl
fresh_free v orphan e = refl
fresh_free v (held w) e = absurd (cc)

some_bit : (b : Bool) → 1 ≤ bit_of b → b ≡ true
some_bit true h = refl
some_bit false h = absurd (omega arith)

-- what a Refill takes nobody holds
next_free : (s : State) (arena g v : ℕ) → IsSound s → next_of s arena ≡ Some g → holds s v g ≡ false
next_free s arena g v sound e =
    elim (first_or (find (is_in_arena s arena) s.orphans) _ g e) as (λ _. holds s v g ≡ false) [
      | inl old ↦
          let there = found_counts (is_in_arena s arena) s.orphans g old in
          let bit = sound.orphans g in
          orphan_free v (holder_at s g) (some_bit _ (omega arith))
      | inr new ↦ fresh_free v (holder_at s g) (and_parts (is_in_arena s arena g) _ (found_passes (λ n. is_in_arena s arena n && is_fresh (holder_at s n)) _ g new)).1
    ]

-- a segment that two numbers are of
not_both : (s : State) (w a b : ℕ) → a ≡ b → holds s w a ≡ true → holds s w b ≡ false → ⊥
not_both s w a b e t f = true≢false (sym t ∙ ap (holds s w) e ∙ f)

other_hand : (s : State) (w v : ℕ) (x : Option ℕ) → v ≢ w → get_or (set s.hands w x) v None ≡ hand_of s v
other_hand s w v x ne = get_or-set_other s.hands w v x None ne

other_segment : (s : State) (g segment v : ℕ) (h : Holder) → is_held_by v h ≡ false → holds s v g ≡ false → is_held_by v (get_or (set s.holders g h) segment fresh) ≡ holds s v segment
other_segment s g segment v h none was = elim (set_cases s.holders g segment h fresh) as (λ _. is_held_by v (get_or (set s.holders g h) segment fresh) ≡ holds s v segment) [
  | inl here ↦ ap (is_held_by v) here.1 ∙ none ∙ sym was ∙ ap (holds s v) (sym here.0)
  | inr other ↦ ap (is_held_by v) other
]

-- a change at a place of a held segment leaves records elsewhere
held_place : (s : State) (w place : ℕ) (at : Place) (r : Record) → holds s w at.segment ≡ true → holds s w (segment_of place) ≡ false → get_or (set s.records (number_of at) r) place never_used ≡ record_at s place
held_place s w place at r held_there away =
    get_or-set_other s.records (number_of at) place r never_used (λ e. not_both s w at.segment (segment_of place) (sym (segment_is at) ∙ ap segment_of (sym e)) held_there away)

-- a step that leaves the whole state leaves the others
same_leaves : (s : State) (w : ℕ) (e : Event) (a : Answer) (new : State) → new ≡ s → LeavesOthers s w e a new
same_leaves s w e a new same = record {
  hands = λ other ne. ap (λ t. hand_of t other) same;
  holding = λ other segment ne. ap (λ t. holds t other segment) same;
  classes = λ page away. ap (λ t. class_at t page) same;
  records = λ place away. inl (ap (λ t. record_at t place) same);
}

open_held : (s : State) (worker arena size : ℕ) (wanted : Option ℕ) (p : ℕ) → is_open_to s worker arena size wanted p ≡ true → holds s worker (segment_of p) ≡ true
open_held s worker arena size wanted p e = (and_parts (holds s worker (segment_of p)) _ e).0

room_held : (s : State) (worker arena size p : ℕ) → is_room s worker arena size p ≡ true → holds s worker (segment_of p) ≡ true
room_held s worker arena size p e = elim (or_cases (is_open_to s worker arena size (Some size) p) _ e) as (λ _. holds s worker (segment_of p) ≡ true) [
  | inl o ↦ open_held s worker arena size (Some size) p o
  | inr o ↦ open_held s worker arena size None p ((and_parts (not (has_open s worker arena size (Some size))) _ o).1)
]

given_leaves : (s : State) (w actor size : ℕ) (e : Event) (a : Answer) (handle : Handle) → holds s w handle.place.segment ≡ true → LeavesOthers s w e a (given_out s actor handle size)
given_leaves s w actor size e a handle held_there = record {
  hands = λ other ne. refl;
  holding = λ other segment ne. refl;
  classes = λ page away.
      get_or-set_other s.classes (page_number handle.place) page (Some size) None
      (λ k. not_both s w handle.place.segment (segment_of_page page) (let b = handle.place.page_below in omega arith) held_there away);
  records = λ place away. inl (held_place s w place handle.place _ held_there away);
}

life_leaves : (s : State) (w : ℕ) (e : Event) (a : Answer) (at : Place) (l : Life) → holds s w at.segment ≡ true → LeavesOthers s w e a (with_life s (number_of at) l)
life_leaves s w e a at l held_there = record {
  hands = λ other ne. refl;
  holding = λ other segment ne. refl;
  classes = λ page away. refl;
  records = λ place away. inl (held_place s w place at _ held_there away);
}

parting_leaves : (s : State) (w : ℕ) (actor : Actor) (handle : Handle) → number_of handle.place < length s.records
    → LeavesOthers s w (event.Free actor handle) answer.Parted (successor s w (event.Free actor handle) answer.Parted)
parting_leaves s w actor handle inside =
    let p = number_of handle.place in
    let r : Record = record { generation = (record_at s p).generation; life = part (record_at s p).life } in
    record {
      hands = λ other ne. other_hand s w other (Some p) ne;
      holding = λ other segment ne. refl;
      classes = λ page away. refl;
      records = λ place away. elim (cases_eq place p) as (λ _. (get_or (set s.records p r) place never_used ≡ record_at s place) ⊎ IsParting s place (event.Free actor handle) answer.Parted (successor s w (event.Free actor handle) answer.Parted)) [
        | inr ne ↦ inl (get_or-set_other s.records p place r never_used ne)
        | inl here ↦
            let now : get_or (set s.records p r) place never_used ≡ r = get_or-set_at s.records p place r never_used here inside in
            inr (sym here, refl, ap (λ x. x.generation) now ∙ ap (λ n. (record_at s n).generation) (sym here), ap (λ x. x.life) now ∙ ap (λ n. part (record_at s n).life) (sym here))
      ];
    }

-- what is in reach is held
reached : (o : Option Rule) (b c : Bool) → denial_or o ((not b, answer.Elsewhere) ∷ (c, answer.OutOfBlock) ∷ []) ≡ None → b ≡ true
reached o b c e = not-false _ (step (not b) answer.Elsewhere (first_of ((c, answer.OutOfBlock) ∷ [])) (no_denial o _ e).1).0

served_leaves : (s : State) (w : ℕ) (e : Event) (a : Answer) → IsSound s → refusal s w e ≡ None → IsServed s w e a → LeavesOthers s w e a (successor s w e a)
served_leaves s w (event.Alloc actor arena bytes) a sound none k =
    let handle = k.0 in
    let there : holds s w handle.place.segment ≡ true = ap (holds s w) (sym (segment_is handle.place)) ∙ room_held s w arena (size_of bytes) (number_of handle.place) k.2.room in
    subst (λ z. LeavesOthers s w (event.Alloc actor arena bytes) z (successor s w (event.Alloc actor arena bytes) z)) (sym k.1)
    (given_leaves s w actor.0 (size_of bytes) (event.Alloc actor arena bytes) (answer.Block handle) handle there)
served_leaves s w (event.Free actor handle) a sound none is =
    let alive = (allowed s actor.0 right.Free handle.place handle.generation (no_denial _ _ none).0).alive in
    elim (cases_Bool (holds s w handle.place.segment)) as (λ _. LeavesOthers s w (event.Free actor handle) a (successor s w (event.Free actor handle) a)) [
      | inl there ↦
          let done : a ≡ answer.Done = is ∙ ap (λ b. if b then answer.Done else answer.Parted) there in
          subst (λ z. LeavesOthers s w (event.Free actor handle) z (successor s w (event.Free actor handle) z)) (sym done)
          (life_leaves s w (event.Free actor handle) answer.Done handle.place home there)
      | inr away ↦
          let gone : a ≡ answer.Parted = is ∙ ap (λ b. if b then answer.Done else answer.Parted) away in
          subst (λ z. LeavesOthers s w (event.Free actor handle) z (successor s w (event.Free actor handle) z)) (sym gone)
          (parting_leaves s w actor handle (live_within s (number_of handle.place) alive))
    ]
served_leaves s w event.Deliver a sound none is =
    subst (λ z. LeavesOthers s w event.Deliver z (successor s w event.Deliver z)) (sym is)
    (record { hands = λ other ne. other_hand s w other None ne; holding = λ other segment ne. refl; classes = λ page away. refl; records = λ place away. inl refl })
served_leaves s w (event.Take segment) a sound none is =
    let there : holds s w segment ≡ true = not-false _ ((step (not (holds s w segment)) answer.NotHeld None none).0) in
    subst (λ z. LeavesOthers s w (event.Take segment) z (successor s w (event.Take segment) z)) (sym is)
    (record {
      hands = λ other ne. refl;
      holding = λ other g ne. refl;
      classes = λ page away. refl;
      records = λ place away. inl (
          settled_at s segment place
          ∙ ap (λ b. if b then record { generation = (record_at s place).generation; life = home } else record_at s place)
          (and_left _ (is_sent s place) (ne_eqb (segment_of place) segment (λ e. not_both s w segment (segment_of place) (sym e) there away))));
    })
served_leaves s w event.Collect a sound none is =
    subst (λ z. LeavesOthers s w event.Collect z (successor s w event.Collect z)) (sym is)
    (record {
      hands = λ other ne. refl;
      holding = λ other g ne. refl;
      classes = λ page away. elim (cases_lt page (length s.classes)) as (λ _. get_or (map (cleared s w) (pages_in s)) page None ≡ class_at s page) [
        | inl below ↦ cleared_at s w page below ∙ ap (λ b. if b then None else class_at s page) (and_left _ (is_idle s page) away)
        | inr past ↦ get_or_past (map (cleared s w) (pages_in s)) page None (let l = length-map-range_with_len (cleared s w) 0 (length s.classes) in omega arith) ∙ sym (get_or_past s.classes page None past)
      ];
      records = λ place away. inl refl;
    })
served_leaves s w (event.Read actor handle index) a sound none is = same_leaves s w (event.Read actor handle index) a _ (ap (successor s w (event.Read actor handle index)) is)
served_leaves s w (event.Write actor handle index value) a sound none is =
    let past = not (nat_lt index (length (contents_of (record_at s (number_of handle.place)).life))) in
    let there : holds s w handle.place.segment ≡ true = reached (denial s actor.0 right.Write handle.place handle.generation) (holds s w handle.place.segment) past none in
    subst (λ z. LeavesOthers s w (event.Write actor handle index value) z (successor s w (event.Write actor handle index value) z)) (sym is)
    (life_leaves s w (event.Write actor handle index value) answer.Done handle.place (write (record_at s (number_of handle.place)).life index value) there)
served_leaves s w (event.Look actor at) a sound none k = same_leaves s w (event.Look actor at) a _ (ap (successor s w (event.Look actor at)) k.1)
served_leaves s w (event.Abandon segment) a sound none is =
    let there : holds s w segment ≡ true = not-false _ ((step (not (holds s w segment)) answer.NotHeld None none).0) in
    subst (λ z. LeavesOthers s w (event.Abandon segment) z (successor s w (event.Abandon segment) z)) (sym is)
    (record {
      hands = λ other ne. refl;
      holding = λ other g ne. other_segment s segment g other orphan refl (ap (is_held_by other) (held_is w (holder_at s segment) there) ∙ ne_eqb w other (λ k. ne (sym k)));
      classes = λ page away. refl;
      records = λ place away. inl refl;
    })
served_leaves s w (event.Refill arena) a sound none k =
    subst (λ z. LeavesOthers s w (event.Refill arena) z (successor s w (event.Refill arena) z)) (sym k.1)
    (record {
      hands = λ other ne. refl;
      holding = λ other g ne. other_segment s k.0 g other (held w) (ne_eqb w other (λ e. ne (sym e))) (next_free s arena k.0 other sound k.2);
      classes = λ page away. refl;
      records = λ place away. inl refl;
    })

pub workers_keep_apart : WorkersKeepApart
workers_keep_apart s w e a new sound h = elim (step_cases s w e a new h) as (λ _. LeavesOthers s w e a new) [
  | inl is ↦ subst (LeavesOthers s w e a) (sym is.after) (served_leaves s w e a sound is.none is.serves)
  | inr is ↦ same_leaves s w e a new is.same
]

open_class : (s : State) (worker arena size p : ℕ) → is_open_to s worker arena size (Some size) p ≡ true → class_at s (page_of p) ≡ Some size
open_class s worker arena size p e =
    let a = and_parts (holds s worker (segment_of p)) _ e in
    let b = and_parts (is_in_arena s arena (segment_of p)) _ a.1 in
    number_some size _ (and_parts (is_number size (class_at s (page_of p))) _ b.1).0

none_open : (s : State) (worker arena size : ℕ) (place : ℕ) → has_open s worker arena size (Some size) ≡ false → place < length s.records → is_open_to s worker arena size (Some size) place ≡ false
none_open s worker arena size place none below = false_from_ne_true _ (λ t.
    let len = length-range_with_len 0 (length s.records) in
    let at : get_or (range_with_len 0 (length s.records)) place 0 ≡ place = get_or-range_with_len 0 (length s.records) place 0 below ∙ (omega arith) in
    true≢false (sym (list_any_at (is_open_to s worker arena size (Some size)) (range_with_len 0 (length s.records)) place 0 (omega arith) (ap (is_open_to s worker arena size (Some size)) at ∙ t)) ∙ none))

block_same : (h k : Handle) → answer.Block h ≡ answer.Block k → h ≡ k
block_same h k e = cc

pub new_pages_come_last : NewPagesComeLast
new_pages_come_last s w actor arena bytes handle new place h other below =
    let is = was_served s w (event.Alloc actor arena bytes) (answer.Block handle) new h refl in
    let same : handle ≡ is.serves.0 = block_same _ _ is.serves.1 in
    let size = size_of bytes in
    let room : is_room s w arena size (number_of handle.place) ≡ true = ap (λ k. is_room s w arena size (number_of k.place)) same ∙ is.serves.2.room in
    elim (or_cases (is_open_to s w arena size (Some size) (number_of handle.place)) _ room) as (λ _. is_open_to s w arena size (Some size) place ≡ false) [
      | inl o ↦ absurd (other (ap (class_at s) (sym (page_is handle.place)) ∙ open_class s w arena size (number_of handle.place) o))
      | inr o ↦ none_open s w arena size place (not-true _ (and_parts (not (has_open s w arena size (Some size))) _ o).0) below
    ]
