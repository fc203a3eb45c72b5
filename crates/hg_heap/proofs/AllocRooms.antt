-- Where the view has room, by the order of choice.
use Rattle.std.proofs.Common.{◌≡◌, ℕ, zero, suc, inl, inr, ◌+◌, ◌*◌, ◌%◌, ◌<◌, Bool, true}
use Rattle.std.proofs.Common.{false, cond, [], ◌∷◌, List, Option, Some, None, refl, sym, ap}
use Rattle.std.proofs.Common.{subst, ◌∙◌, arith, find, Contains}
use Rattle.std.specs.List.{range_with_len}
use Rattle.std.proofs.lemmas.Bool.{cases_Bool, true≢false}
use Rattle.hg_place.specs.declared.standing.Standing.{Standing}
use Rattle.hg_place.specs.Places.{segment_of_page}
use Rattle.hg_size.specs.Sizes.{sizes}
use Rattle.hg_machine.specs.Policy.{Policy}
use Rattle.hg_segment.specs.Kept.{Kept}
use Rattle.hg_agreement.specs.Views.{View}
use Rattle.hg_agreement.specs.Seen.{is_room_in, has_room_in}
use Rattle.hg_heap.specs.Held.{Held, segment_in, is_some_place, all_pages}
use Rattle.hg_heap.specs.Queues.{AreQueued}
use Rattle.hg_heap.specs.Policies.{AreOf}
use Rattle.hg_heap.specs.Settled.{IsSettled}
use Rattle.hg_heap.specs.Ties.{heap_view}
use Rattle.hg_heap.specs.Choice.{blank_on, front_page, blank_page, chosen_place}
use Rattle.hg_heap.proofs.Chosen.{IsOpenOn, front_there, blank_there, chosen_front, chosen_blank}
use Rattle.hg_heap.proofs.Chosen.{chosen_none}
use Rattle.hg_heap.proofs.Blanks.{blank_vacant, vacant_some}
use Rattle.hg_heap.proofs.Rooms.{HasRoomAt, room_at_front, room_on_blank, no_room}

-- what a search finds passes, and where it finds nothing nothing does
find_passes : (p : ℕ → Bool) (xs : List ℕ) (x : ℕ) → find p xs ≡ Some x → p x ≡ true
find_passes p [] x e = absurd (cc)
find_passes p (y ∷ ys) x e = elim (cases_Bool (p y)) [
  | inl t ↦ (let s : Some y ≡ Some x = sym (ap (λ (b : Bool). cond b (Some y) (find p ys)) t)
      ∙ e in let same : y ≡ x = cc in ap p (sym same) ∙ t)
  | inr f ↦ find_passes p ys x (sym (ap (λ (b : Bool). cond b (Some y) (find p ys)) f) ∙ e)
]

find_fails : (p : ℕ → Bool) (from count x : ℕ) → find p (range_with_len from count) ≡ None
    → x < count → p (from + x) ≡ true → None ≡ Some x
find_fails p from zero x e lt t = absurd (omega (arith, lt))
find_fails p from (suc n) zero e lt t =
    absurd (let z : from + 0 ≡ from = omega arith in let s : Some from ≡ None = sym
    (ap (λ (b : Bool). cond b (Some from) (find p (range_with_len (from + 1) n))) (ap p (sym z)
    ∙ t)) ∙ e in cc)
find_fails p from (suc n) (suc x) e lt t = elim (cases_Bool (p from)) [
  | inl y ↦ absurd
      (let s : Some from ≡ None = sym
      (ap (λ (b : Bool). cond b (Some from) (find p (range_with_len (from + 1) n))) y) ∙ e in cc)
  | inr f ↦ absurd (let next : from + 1 + x ≡ from + suc x = omega arith in
      let s = find_fails p (from + 1) n x
      (sym (ap (λ (b : Bool). cond b (Some from) (find p (range_with_len (from + 1) n))) f) ∙ e)
      (omega (arith, lt)) (ap p next ∙ t) in cc)
]

all_fail : (p : ℕ → Bool) (x : ℕ) → find p all_pages ≡ None → x < 1024 → p x ≡ true → None ≡ Some x
unfolding all_pages
all_fail p x e lt t = find_fails p 0 1024 x e lt (let z : 0 + x ≡ x = omega arith in ap p z ∙ t)

pub some_of : (xs : List ℕ) → is_some_place xs ≡ true → (x : ℕ) × (ys : List ℕ) × (xs ≡ x ∷ ys)
some_of [] e = absurd (true≢false (sym e))
some_of (x ∷ ys) e = (x, ys, refl)

module _ {S : Type 0} (number : S → ℕ) (records : S → List Standing) (small : (s : S)
    → number s < 64) (policy : Policy) (worker : ℕ) (hand : Option ℕ) (generation : ℕ)
    (held : Held S)
    (queued : AreQueued number held) (settled : (k : Kept S) → Contains held.segments k
    → IsSettled records k) (of : AreOf number policy held.segments) (arena size : ℕ)
    (sized : Contains sizes size) where
  abbrev view : View
  view = heap_view number records policy worker hand generation held.segments

  -- the view has room at this place, and so some room
  pub record HasRoom (p : ℕ) : Type 0 where
    pub room : is_room_in (heap_view number records policy worker hand generation held.segments)
        arena size p ≡ true
    pub some : has_room_in (heap_view number records policy worker hand generation held.segments)
        arena size ≡ true

  has_room : (p page index : ℕ) → chosen_place number records held arena size ≡ Some
      (page * 512 + index) → chosen_place number records held arena size ≡ Some p
      → HasRoomAt number records small policy worker hand generation held queued settled of arena
      size sized page index → HasRoom p
  has_room p page index one two r =
      let s : Some (page * 512 + index) ≡ Some p = sym one ∙ two in
      let same : page * 512 + index ≡ p = cc in
      record {
        room = ap (is_room_in (heap_view number records policy worker hand generation held.segments)
            arena size) (sym same) ∙ r.room;
        some = r.some;
      }

  pub chosen_room : (p : ℕ) → chosen_place number records held arena size ≡ Some p → HasRoom p
  chosen_room p chosen = go (front_page number records held arena size) refl
    where
      blank : (b : Option ℕ) → blank_page number records held arena size ≡ b
          → front_page number records held arena size ≡ None → HasRoom p
      blank None e empty =
          absurd (let s : None ≡ Some p = sym (chosen_none number records held queued settled arena
          size empty e) ∙ chosen in cc)
      blank (Some page) e empty =
          let t = find_passes
          (λ (q : ℕ). is_some_place (blank_on number records held.segments arena size q))
          all_pages page e in
          let x = some_of (blank_on number records held.segments arena size page) t in
          let on = blank_there number records held queued settled arena size (page % 16) x.0
          (segment_in number held.segments (segment_of_page page))
          (subst (λ (xs : List ℕ). Contains xs x.0) (sym x.2) (0, omega arith, refl)) in
          has_room p page x.0 (chosen_blank number records held queued settled arena size page x.0
          x.1 empty e x.2) chosen
          (room_on_blank number records small policy worker hand generation held queued settled of
          arena size sized page x.0 empty on)

      go : (o : Option ℕ) → front_page number records held arena size ≡ o → HasRoom p
      go None e = blank (blank_page number records held arena size) refl e
      go (Some page) e =
          let f = front_there number records held queued settled arena size page sized e in
          has_room p page f.index (chosen_front number records held queued settled arena size page e
          f) chosen
          (room_at_front number records small policy worker hand generation held queued settled of
          arena size sized page f.index f.class_there)

  open_blank : (page index : ℕ) → IsOpenOn number records arena size None
      (segment_in number held.segments (segment_of_page page)) (page % 16) index
      → is_some_place (blank_on number records held.segments arena size page) ≡ true
  open_blank page index on =
      blank_vacant number records held.segments arena size page on.k on.is on.arena_is
      on.class
      ∙ vacant_some number records on.k (page % 16) size index on.below on.vacant

  pub unchosen_no_room : front_page number records held arena size ≡ None
      → blank_page number records held arena size ≡ None
      → has_room_in (heap_view number records policy worker hand generation held.segments) arena
      size ≡ false
  unchosen_no_room empty blank =
      no_room number records small policy worker hand generation held queued settled of arena size
      sized empty
      (λ page index below on. absurd
      (let s = all_fail
      (λ (q : ℕ). is_some_place (blank_on number records held.segments arena size q)) page blank
      below (open_blank page index on) in cc))
