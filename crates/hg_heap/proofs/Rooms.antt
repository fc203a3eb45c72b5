-- The place of the order of choice is one where the view has room, and without one there is none.
use Rattle.std.proofs.Common.{◌≡◌, ℕ, zero, suc, ◌+◌, ◌*◌, ◌%◌, ◌<◌, ◌==◌}
use Rattle.std.proofs.Common.{true, false, not, ◌∷◌, [], List}
use Rattle.std.proofs.Common.{length, Option, Some, None, refl, sym, ap, subst, ◌∙◌, arith}
use Rattle.std.proofs.Common.{slice_get, slice_index_or, Contains}
use Rattle.std.proofs.lemmas.Bool.{lt-ltb, eq-eqb}
use Rattle.std.proofs.lemmas.Bool.{and_from, false_from_ne_true, or_from, or_left}
use Rattle.std.proofs.lemmas.Bool.{or_right}
use Rattle.std.proofs.lemmas.List.Folds.{list_any_none, list_any_at}
use Rattle.std.proofs.lemmas.List.FromFn.{length-range_with_len, get_or-range_with_len}
use Rattle.hg_place.specs.declared.standing.Standing.{Standing}
use Rattle.hg_place.specs.Places.{segment_of, segment_of_page, page_of, index_of}
use Rattle.hg_size.specs.Sizes.{sizes, places_of}
use Rattle.hg_machine.specs.Policy.{Policy, arena_of}
use Rattle.hg_segment.specs.Kept.{Kept}
use Rattle.hg_size.proofs.Table.{places_small}
use Rattle.hg_agreement.specs.Views.{View}
use Rattle.hg_agreement.specs.Seen.{is_open_to_in, has_open_in, is_room_in, has_room_in}
use Rattle.hg_agreement.specs.Seen.{places_of_view}
use Rattle.hg_heap.specs.Held.{Held, segment_in}
use Rattle.hg_heap.specs.Queues.{AreQueued}
use Rattle.hg_heap.specs.Policies.{AreOf}
use Rattle.hg_heap.specs.Choice.{front_page}
use Rattle.hg_heap.specs.Settled.{IsSettled}
use Rattle.hg_heap.specs.Ties.{heap_view}
use Rattle.hg_heap.proofs.ViewRoom.{open_by, open_is, found_one}
use Rattle.hg_heap.proofs.Chosen.{IsOpenOn, opened_on, none_of_class}

module _ {S : Type 0} (number : S → ℕ) (records : S → List Standing) (small : (s : S)
    → number s < 64) (policy : Policy) (worker : ℕ) (hand : Option ℕ) (generation : ℕ)
    (held : Held S)
    (queued : AreQueued number held) (settled : (k : Kept S) → Contains held.segments k
    → IsSettled records k) (of : AreOf number policy held.segments) (arena size : ℕ)
    (sized : Contains sizes size) where
  abbrev pub view : View
  view = heap_view number records policy worker hand generation held.segments

  open_true : (wanted : Option ℕ) (o : Option (Kept S)) (page index : ℕ)
      → IsOpenOn number records arena size wanted o page index
      → open_by number records arena size wanted o page index ≡ true
  open_true wanted o page index on =
      subst (λ (p : Option (Kept S)). open_by number records arena size wanted p page index ≡ true)
      (sym on.is)
      (and_from _ _ (ap (λ (n : ℕ). n == arena) on.arena_is ∙ eq-eqb arena arena refl)
      (and_from _ _ on.class
      (and_from _ _ (lt-ltb index (places_of size) on.below) on.vacant)))

  -- a place is open as its page says
  place_open : (wanted : Option ℕ) (page index : ℕ) → index < 512
      → IsOpenOn number records arena size wanted
      (segment_in number held.segments (segment_of_page page)) (page % 16) index
      → is_open_to_in view arena size wanted (page * 512 + index) ≡ true
  place_open wanted page index low on =
      let place = page * 512 + index in
      let s : segment_of place ≡ segment_of_page page = omega (arith, low) in
      let p : page_of place % 16 ≡ page % 16 = omega (arith, low) in
      let i : index_of place ≡ index = omega (arith, low) in
      open_is number records policy worker hand generation held.segments arena size wanted place of
      ∙ ap (λ (n : ℕ). open_by number records arena size wanted (segment_in number held.segments n)
      (page_of place % 16) (index_of place)) s
      ∙ ap (λ (n : ℕ). open_by number records arena size wanted
      (segment_in number held.segments (segment_of_page page)) n (index_of place)) p
      ∙ ap (λ (n : ℕ). open_by number records arena size wanted
      (segment_in number held.segments (segment_of_page page)) (page % 16) n) i
      ∙ open_true wanted _ (page % 16) index on

  -- and its page says what a place that is open is
  place_shut : (wanted : Option ℕ)
      → ((page index : ℕ) → page < 1024 → IsOpenOn number records arena size wanted
      (segment_in number held.segments (segment_of_page page)) (page % 16) index → ⊥)
      → has_open_in view arena size wanted ≡ false
  place_shut wanted none =
      list_any_none (is_open_to_in view arena size wanted) (places_of_view view)
      (λ n d lt. shut (slice_index_or (places_of_view view) n d))
    where
      shut : (place : ℕ) → is_open_to_in view arena size wanted place ≡ false
      shut place = false_from_ne_true _ (λ e.
          let same : segment_of place ≡ segment_of_page (page_of place) = omega arith in
          let t = sym (ap (λ (n : ℕ). open_by number records arena size wanted
          (segment_in number held.segments n) (page_of place % 16) (index_of place)) same)
          ∙ sym (open_is number records policy worker hand generation held.segments arena size
          wanted place of) ∙ e in
          let on = opened_on number records arena size wanted
          (segment_in number held.segments (segment_of_page (page_of place)))
          (page_of place % 16) (index_of place) t in
          let f = found_one number records held.segments (segment_of_page (page_of place)) on.k
          on.is in
          let b = small on.k.slots in
          let n = f.1 in
          none (page_of place) (index_of place) (omega (arith, b, n)) on)

  -- a place that is open is one of the policy's
  below_all : (wanted : Option ℕ) (page index : ℕ) → index < 512
      → IsOpenOn number records arena size wanted
      (segment_in number held.segments (segment_of_page page)) (page % 16) index
      → page * 512 + index < length policy.segments * 8192
  below_all wanted page index low on =
      let f = found_one number records held.segments (segment_of_page page) on.k on.is in
      let a : slice_get policy.segments (segment_of_page page) ≡ Some on.k.arena =
      ap (arena_of policy) (sym f.1) ∙ of.arena on.k f.0 in
      let b = get_below policy.segments (segment_of_page page) on.k.arena a in
      omega (arith, b, low)
    where
      get_below : (xs : List ℕ) (n x : ℕ) → slice_get xs n ≡ Some x → n < length xs
      get_below [] n x e = absurd (cc)
      get_below (y ∷ ys) zero x e = omega arith
      get_below (y ∷ ys) (suc n) x e = let r = get_below ys n x e in omega (arith, r)

  any_open : (wanted : Option ℕ) (page index : ℕ) → index < 512
      → IsOpenOn number records arena size wanted
      (segment_in number held.segments (segment_of_page page)) (page % 16) index
      → has_open_in view arena size wanted ≡ true
  any_open wanted page index low on =
      let b = below_all wanted page index low on in
      let n = page * 512 + index in
      let z : 0 + n ≡ n = omega arith in
      list_any_at (is_open_to_in view arena size wanted) (places_of_view view) n 0
      (omega (arith, b, length-range_with_len 0 (length policy.segments * 8192)))
      (ap (is_open_to_in view arena size wanted)
      (get_or-range_with_len 0 (length policy.segments * 8192) n 0 b ∙ z)
      ∙ place_open wanted page index low on)

  -- the order of choice has found this page and index
  pub record HasRoomAt (page index : ℕ) : Type 0 where
    pub low : index < 512
    pub room : is_room_in view arena size (page * 512 + index) ≡ true
    pub some : has_room_in view arena size ≡ true

  pub room_at_front : (page index : ℕ) → IsOpenOn number records arena size (Some size)
      (segment_in number held.segments (segment_of_page page)) (page % 16) index
      → HasRoomAt page index
  room_at_front page index on =
      let low : index < 512 = let a = on.below in let b =
      places_small size in omega (arith, a, b) in
      record {
        low = low;
        room = or_left _ _ (place_open (Some size) page index low on);
        some = or_left _ _ (any_open (Some size) page index low on);
      }

  pub room_on_blank : (page index : ℕ) → front_page number records held arena size ≡ None
      → IsOpenOn number records arena size None
      (segment_in number held.segments (segment_of_page page)) (page % 16) index
      → HasRoomAt page index
  room_on_blank page index empty on =
      let low : index < 512 = let a = on.below in let b =
      places_small size in omega (arith, a, b) in
      let shut = place_shut (Some size) (none_of_class number records held queued settled arena size
      empty) in
      record {
        low = low;
        room = or_right _ _ (and_from _ _ (ap not shut) (place_open None page index low on));
        some = or_right _ _ (any_open None page index low on);
      }

  -- without a page in the queue and without a blank one there is no room
  pub no_room : front_page number records held arena size ≡ None
      → ((page index : ℕ) → page < 1024 → IsOpenOn number records arena size None
      (segment_in number held.segments (segment_of_page page)) (page % 16) index → ⊥)
      → has_room_in view arena size ≡ false
  no_room empty none =
      or_from _ _ (place_shut (Some size) (none_of_class number records held queued settled arena
      size empty)) (place_shut None none)
