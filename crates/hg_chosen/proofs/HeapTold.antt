-- What a core is seen as tells of a worker's heap.
use Rattle.std.proofs.Common.{◌≡◌, ℕ, zero, suc, ◌*◌, ◌%◌, ◌<◌, [], ◌∷◌, List, map, length, Option}
use Rattle.std.proofs.Common.{Some, None, refl, ap, subst, ◌∙◌, arith, slice_get, slice_index_or}
use Rattle.std.proofs.Common.{Contains}
use Rattle.std.specs.List.{range_with_len}
use Rattle.std.proofs.lemmas.List.{length-map}
use Rattle.std.proofs.lemmas.Option.{slice_get-get_or}
use Rattle.std.proofs.lemmas.Simd.{map-map}
use Rattle.hg_place.specs.declared.plain.PlainWords.{PlainWords}
use Rattle.hg_place.specs.Plain.{plain_records}
use Rattle.hg_place.specs.Places.{segment_of, page_of, index_of}
use Rattle.hg_segment.specs.Kept.{Kept}
use Rattle.hg_segment.specs.Parted.{plain_number}
use Rattle.hg_machine.specs.State.{places_in}
use Rattle.hg_machine.specs.SoundPolicy.{IsSoundPolicy}
use Rattle.hg_machine.specs.Room.{is_open_to}
use Rattle.hg_heap.specs.Held.{Held, segment_in}
use Rattle.hg_heap.specs.Policies.{AreOf}
use Rattle.hg_heap.specs.Ties.{holding, heap_view}
use Rattle.hg_heap.proofs.ViewRoom.{open_by, open_is}
use Rattle.hg_agreement.specs.Agreement.{Agrees}
use Rattle.hg_agreement.specs.Holdings.{view_of}
use Rattle.hg_agreement.specs.Parts.{Plain, Parts, heap_at, holdings, plain_from, state_of, kept_of}
use Rattle.hg_agreement.specs.PartsLaws.{AreTold}
use Rattle.hg_agreement.proofs.Bridge.{heaps_agree}
use Rattle.hg_agreement.proofs.Rooms.{opens, same_places}
use Rattle.hg_agreement.proofs.Told.{segments_are_told}
use Rattle.hg_parts.specs.Tidy.{IsTidy}
use Rattle.hg_parts.proofs.Sorted.{tidy_sorted}
use Rattle.hg_parts.proofs.Sound.{tidy_sound}
use Rattle.hg_choice.specs.Choice.{queues_of}
use Rattle.hg_events.specs.Core.{Core, parts_of, heap_of, nothing_held}
use Rattle.hg_events.proofs.CoreHeaps.{heap_is, one_right, plain_is, inside}

queues_at : (hs : List (Held PlainWords)) (w : ℕ)
    → slice_index_or (map (λ held. held.queues) hs) w [] ≡ (slice_index_or hs w nothing_held).queues
queues_at [] w = refl
queues_at (x ∷ xs) zero = refl
queues_at (x ∷ xs) (suc w) = queues_at xs w

pub queues_told : (core : Core) (worker : ℕ)
    → queues_of (kept_of (parts_of core)) worker ≡ (heap_of core worker).queues
queues_told core worker = queues_at core.heaps worker

pub stood : (ks : List (Kept PlainWords)) (k : Kept PlainWords) (c : Contains ks k)
    → slice_get ks c.0 ≡ Some k
stood ks k c = slice_get-get_or ks c.0 k c.1 ∙ ap Some c.2

module _ (core : Core) (worker : ℕ) (policy : IsSoundPolicy core.policy)
    (t : IsTidy (parts_of core)) (below : worker < length core.heaps) where
  abbrev parts : Parts
  parts = parts_of core

  abbrev segments : List (Kept PlainWords)
  segments = (heap_of core worker).segments

  pub policed : AreOf plain_number core.policy segments
  policed = record {
    arena = λ k c. (one_right core worker t below c.0 k (stood segments k c)).arena;
    greatest = λ k c. (one_right core worker t below c.0 k (stood segments k c)).greatest;
  }

  abbrev hand : Option ℕ
  hand = slice_index_or core.hands worker None

  kept : holdings (heap_at parts worker) ≡ map (holding plain_number plain_records) segments
  kept = ap holdings (heap_is core worker below)
      ∙ map-map (λ (one : Plain). one.holding) plain_from segments

  pub agrees : Agrees (state_of parts) (heap_view plain_number plain_records core.policy worker hand
      0 segments) None
  agrees =
      subst (λ hs. Agrees (state_of parts) (view_of core.policy worker hand 0 hs) None) kept
      (heaps_agree parts worker 0 None (tidy_sound parts policy t).0 (tidy_sorted parts t)
      (omega (
        arith,
        below,
        length-map core.heaps (λ (held : Held PlainWords). map plain_from held.segments),
      )) tt)

  -- the places of the core
  pub places_told : places_in (state_of parts)
      ≡ range_with_len 0 (length core.policy.segments * 8192)
  places_told =
      same_places (state_of parts) (heap_view plain_number plain_records core.policy worker hand 0
      segments) None agrees

  -- which of them a block may be given out at
  pub open_told : (arena size : ℕ) (wanted : Option ℕ) (p : ℕ)
      → is_open_to (state_of parts) worker arena size wanted p
      ≡ open_by plain_number plain_records arena size wanted
      (segment_in plain_number segments (segment_of p)) (page_of p % 16) (index_of p)
  open_told arena size wanted p =
      opens (state_of parts) (heap_view plain_number plain_records core.policy worker hand 0
      segments) None arena size wanted p agrees
      ∙ open_is plain_number plain_records core.policy worker hand 0 segments arena size wanted p
      policed

  -- a segment of the heap is one of the policy's, and the lists of its pages are told
  pub within : (k : Kept PlainWords) → Contains segments k
      → plain_number k.slots < length core.policy.segments
  within k c = inside core worker t below c.0 k (stood segments k c)

  pub told : (k : Kept PlainWords) → Contains segments k
      → AreTold parts (plain_number k.slots) (plain_from k)
  told k c = segments_are_told parts (plain_number k.slots) (plain_from k) (within k c)
      (plain_is core worker t below c.0 k (stood segments k c))
