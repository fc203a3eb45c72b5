-- A Free of a live block of a segment of the pool.
use Rattle.std.proofs.Common.{◌≡◌, ℕ, ◌≤◌, List, map, slice_get, slice_set, sym, ap, ◌∙◌, subst}
use Rattle.std.proofs.Common.{inl, inr}
use Rattle.std.specs.Prelude.{Some}
use Rattle.std.proofs.lemmas.List.{map-set}
use Rattle.hg_place.specs.declared.Actor.{Actor}
use Rattle.hg_place.specs.declared.Handle.{Handle}
use Rattle.hg_place.specs.declared.plain.PlainWords.{PlainWords}
use Rattle.hg_place.specs.Standings.{slot_of}
use Rattle.hg_segment.specs.Parted.{plain_number}
use Rattle.hg_pool.specs.Parting.{PartedIn}
use Rattle.hg_pool.specs.Pooled.{Pooled, replaced}
use Rattle.hg_heap.proofs.Founds.{get-map}
use Rattle.hg_machine.specs.SoundPolicy.{IsSoundPolicy}
use Rattle.hg_machine.specs.Steps.{Step}
use Rattle.hg_agreement.specs.Parts.{Plain, Parts, plain_from, state_of}
use Rattle.hg_parts.specs.Spots.{Spot, in_orphans, in_fresh, segment_at}
use Rattle.hg_parts.specs.Tidy.{IsTidy}
use Rattle.hg_events.specs.Core.{Core, parts_of}
use Rattle.hg_events.specs.Own.{IsServedBy}
use Rattle.hg_events.specs.PartedAway.{MayPart, with_in_hand, with_pool, FreeIsPartedInPool}
use Rattle.hg_events.proofs.PartedAway.{now_is, away, away_step, away_tidy}
use Rattle.hg_events.proofs.PartedPlain.{parted_at}
use Rattle.hg_events.proofs.PlainLists.{K}
use Rattle.hg_events.proofs.PoolSpots.{count, own_number, stands_pooled, replaced_none}
use Rattle.hg_events.proofs.PoolSpots.{replaced_one}
use Rattle.hg_machine.specs.declared.Answer.TheVariants as answer
use Rattle.hg_machine.specs.declared.Event.TheVariants as event

module _ (core : Core) (worker : ℕ) (actor : Actor) (handle : Handle) (word : ℕ)
    (pool : Pooled PlainWords) (policy : IsSoundPolicy core.policy) (t : IsTidy (parts_of core))
    (may : MayPart core worker actor handle word)
    (is : PartedIn handle.place word core.pool pool) where
  abbrev n : ℕ
  n = handle.place.segment

  abbrev os : List K
  os = core.pool.orphans

  abbrev fs : List K
  fs = core.pool.fresh

  abbrev now : Plain
  now = parted_at (plain_from is.before) (slot_of handle.place)

  own : plain_number is.before.slots ≡ n
  own = own_number core n is.before t is.there

  -- the core afterwards, by the lists of its pool
  abbrev new : Core
  new = with_in_hand (with_pool core pool) worker handle.place

  abbrev pooled : List Plain → List Plain → Parts
  pooled orphans unused = record (parts_of new) { orphans = orphans; fresh = unused }

  new_by : parts_of new
      ≡ pooled (map plain_from (replaced plain_number n is.after os))
      (map plain_from (replaced plain_number n is.after fs))
  new_by =
      ap (λ (p : Pooled PlainWords). pooled (map plain_from p.orphans) (map plain_from p.fresh))
      is.now

  -- the list where it stands, and the other
  one_is : (own_list : List K) (at : ℕ) → slice_get own_list at ≡ Some is.before
      → count n own_list ≤ 1
      → map plain_from (replaced plain_number n is.after own_list)
      ≡ slice_set (map plain_from own_list) at now
  one_is own_list at there few =
      ap (map plain_from) (replaced_one n is.before is.after own_list at there own few)
      ∙ map-set plain_from own_list at is.after
      ∙ ap (slice_set (map plain_from own_list) at)
      (now_is handle.place word is.before is.after is.parted)

  other_is : (others : List K) → count n others ≡ 0
      → map plain_from (replaced plain_number n is.after others) ≡ map plain_from others
  other_is others none = ap (map plain_from) (replaced_none n is.after others none)

  served_at : (spot : Spot) (there : segment_at (parts_of core) spot ≡ Some (plain_from is.before))
      → parts_of new
      ≡ away core worker actor handle word policy t may spot is.before is.after there own is.parted
      → IsServedBy core worker (event.Free actor handle) answer.Parted new
  served_at spot there new_is = (
    subst (λ (p : Parts). Step (state_of (parts_of core)) worker (event.Free actor handle)
        answer.Parted (state_of p)) (sym new_is)
        (away_step core worker actor handle word policy t may spot is.before is.after there own
        is.parted),
    subst (λ (p : Parts). IsTidy p) (sym new_is)
        (away_tidy core worker actor handle word policy t may spot is.before is.after there own
        is.parted),
  )

  served : IsServedBy core worker (event.Free actor handle) answer.Parted new
  served = elim (stands_pooled core n is.before t is.there) [
    | inl among ↦
        served_at (in_orphans among.at) (get-map plain_from os among.at is.before among.there)
        (new_by
        ∙ ap (λ xs. pooled xs (map plain_from (replaced plain_number n is.after fs)))
        (one_is os among.at among.there among.few)
        ∙ ap (pooled (slice_set (map plain_from os) among.at now)) (other_is fs among.none))
    | inr among ↦
        served_at (in_fresh among.at) (get-map plain_from fs among.at is.before among.there)
        (new_by
        ∙ ap (λ xs. pooled xs (map plain_from (replaced plain_number n is.after fs)))
        (other_is os among.none)
        ∙ ap (pooled (map plain_from os)) (one_is fs among.at among.there among.few))
  ]

pub free_is_parted_in_pool : FreeIsPartedInPool
free_is_parted_in_pool core worker actor handle word pool policy t may is =
    served core worker actor handle word pool policy t may is
