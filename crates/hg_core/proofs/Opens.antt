-- The stores of a core that opens.
use Rattle.std.proofs.Common.{◌≡◌, ℕ, ◌<◌, [], ◌∷◌, Bool, true, false, cond, List, map, length}
use Rattle.std.proofs.Common.{find, Some, None, replicate, slice_index_or, refl, sym, ap, subst}
use Rattle.std.proofs.Common.{◌∙◌, not, ◌/◌, ◌%◌, arith}
use Rattle.std.specs.Option.{option_map}
use Rattle.std.specs.Box.{boxed_slice_items}
use Rattle.std.specs.List.{AllByRecursion}
use Rattle.std.proofs.lemmas.List.{length-map, length-replicate, get_or-map, ext_get_or}
use Rattle.std.proofs.lemmas.List.Elements.{All-from_recursion}
use Rattle.std.proofs.lemmas.Option.{same_Some}
use Rattle.hg_place.specs.declared.plain.PlainWords.{PlainWords}
use Rattle.hg_place.specs.Places.{number_of}
use Rattle.hg_place.specs.Slots.{slot_in}
use Rattle.hg_place.specs.Standings.{standing_generation}
use Rattle.hg_remote.specs.Remote.{nothing_sent}
use Rattle.hg_segment.specs.Kept.{Kept}
use Rattle.hg_segment.specs.Blocks.{block_at}
use Rattle.hg_machine.specs.Life.{never_used}
use Rattle.hg_machine.specs.Policy.{Policy}
use Rattle.hg_machine.specs.SoundPolicy.{IsSoundPolicy}
use Rattle.hg_machine.specs.State.{opening, fresh, holder_at}
use Rattle.hg_machine.proofs.Opening.{all_same}
use Rattle.hg_agreement.specs.Holdings.{class_of, block_by}
use Rattle.hg_agreement.specs.Parts.{Plain, Parts, plain_from, is_of, record_by}
use Rattle.hg_agreement.specs.Unused.{IsUnused}
use Rattle.hg_agreement.specs.Witness.{held_life}
use Rattle.hg_agreement.proofs.Openings.{unused_is_opening}
use Rattle.hg_parts.specs.Rights.{IsSegmentRight, remote_from}
use Rattle.hg_parts.proofs.Starts.{start_tidy}
use Rattle.hg_events.specs.Core.{Core, parts_of, nothing_held}
use Rattle.hg_events.proofs.Told.{heap_told, numbers_told}
use Rattle.hg_core.specs.declared.stores.Stores.TheInside.{Inside}
use Rattle.hg_core.specs.Keeping.{state_in}
use Rattle.hg_core.specs.Opened.{IsUnusedOne, IsFreshPool}
use Rattle.hg_core.specs.Opening.{empty_queues}
use Rattle.hg_core.specs.Held.{worker_in}
use Rattle.hg_core.specs.Stored.{core_of, IsStored}
use Rattle.hg_core.proofs.Opened.{heap_none}

-- a list of so many of one value
pub all_alike : {X : Type 0} (xs : List X) (n : ℕ) (x : X) → length xs ≡ n
    → ((k : ℕ) → k < n → slice_index_or xs k x ≡ x) → xs ≡ replicate n x
all_alike xs n x long each =
    ext_get_or x xs (replicate n x) (long ∙ sym (length-replicate n x))
    (λ k below. each k (omega (arith, below, long)) ∙ sym (all_same n k x))

-- what is found in a list is as all of it are
found_is : {X : Type 0} (P : X → Type 0) (p : X → Bool) (xs : List X) (x : X)
    → AllByRecursion P xs → find p xs ≡ Some x → P x
found_is P p [] x all is = absurd (cc)
found_is P p (y ∷ ys) x all is =
    elim (p y) as (λ b. cond b (Some y) (find p ys) ≡ Some x → P x) [
      | true ↦ λ e. subst P (same_Some y x e) all.0
      | false ↦ λ e. found_is P p ys x all.1 e
    ] is

-- a segment of whose places none was ever given out, as the parts have it
pub record IsUnusedPlain (policy : Policy) (one : Plain) : Type 0 where
  pub right : IsSegmentRight policy one
  pub records : (at : ℕ) → record_by (Some one) at ≡ never_used
  pub classes : (page : ℕ) → class_of one.holding page ≡ None

unused_plain : (policy : Policy) (k : Kept PlainWords) → IsUnusedOne policy k
    → IsUnusedPlain policy (plain_from k)
unused_plain policy k is = record {
  right = is.right;
  records = λ at.
      let one : Plain = plain_from k in
      ap (λ st. record {
        generation = standing_generation st;
        life = held_life (not (slot_in (slice_index_or one.slots at 0)).live) st
            (block_by st (block_at k.words k.classes (at / 512) (at % 512)));
      }) (is.home at);
  classes = is.classes;
}

unused_plains : (policy : Policy) (ks : List (Kept PlainWords))
    → AllByRecursion (IsUnusedOne policy) ks
    → AllByRecursion (IsUnusedPlain policy) (map plain_from ks)
unused_plains policy [] all = tt
unused_plains policy (k ∷ ks) all =
    (unused_plain policy k all.0, unused_plains policy ks all.1)

all_right : (policy : Policy) (ones : List Plain) → AllByRecursion (IsUnusedPlain policy) ones
    → AllByRecursion (IsSegmentRight policy) ones
all_right policy [] all = tt
all_right policy (x ∷ xs) all = (all.0.right, all_right policy xs all.1)

-- the fields of such stores
pub record OpensWith (a : Inside) (workers segments : ℕ) : Type 0 where
  pub sound : IsSoundPolicy a.policy
  pub workers_are : workers ≡ a.policy.workers
  pub segments_are : segments ≡ length a.policy.segments
  pub heaps : length (boxed_slice_items a.heaps) ≡ workers
  pub none : AllByRecursion (λ h. h.segments ≡ []) (boxed_slice_items a.heaps)
  pub queues :
      AllByRecursion (λ h. h.queues ≡ empty_queues) (boxed_slice_items a.heaps)
  pub remotes : boxed_slice_items a.remotes ≡ replicate segments nothing_sent
  pub pool : IsFreshPool a.policy (length a.policy.segments) a.pool
  pub hands : length (boxed_slice_items a.hands) ≡ workers
  pub empty : (at : ℕ) → slice_index_or (boxed_slice_items a.hands) at None ≡ None
  pub holders : a.holders ≡ replicate 64 None

module _ (a : Inside) (workers segments : ℕ) (is : OpensWith a workers segments) where
  abbrev core : Core
  core = core_of a

  abbrev parts : Parts
  parts = parts_of core

  plains : AllByRecursion (IsUnusedPlain a.policy) parts.fresh
  plains = unused_plains a.policy a.pool.fresh is.pool.each

  unused : IsUnused parts
  unused = record {
    heaps = λ w. heap_told core w
        ∙ ap (map plain_from) (heap_none core.heaps is.none nothing_held refl w);
    orphans = ap (map plain_from) is.pool.orphans;
    fresh = numbers_told a.pool.fresh ∙ is.pool.numbers;
    records = λ segment at one there below.
        (found_is (IsUnusedPlain a.policy) (is_of segment) parts.fresh one plains there).records at;
    classes = λ segment page one there below.
        (found_is (IsUnusedPlain a.policy) (is_of segment) parts.fresh one plains there).classes
        page;
    hands = all_alike core.hands a.policy.workers None
        (length-map (boxed_slice_items a.hands) (option_map number_of)
        ∙ is.hands ∙ is.workers_are)
        (λ k below. get_or-map (option_map number_of) (boxed_slice_items a.hands) k None None
        (omega (
          arith,
          below,
          is.hands,
          is.workers_are,
        )) ∙ ap (option_map number_of) (is.empty k));
  }

  pub is_opening : state_in core ≡ opening a.policy
  is_opening = (unused_is_opening parts unused).0

  pub opens : IsStored a
  opens = record {
    kept = record {
      policy = is.sound;
      tidy = start_tidy parts unused
          (length-map core.heaps (λ held. map plain_from held.segments)
          ∙ is.heaps ∙ is.workers_are)
          (all_alike parts.remotes (length a.policy.segments) (remote_from nothing_sent)
          (length-map core.remotes remote_from ∙ ap length is.remotes
          ∙ length-replicate segments nothing_sent ∙ is.segments_are)
          (λ k below. ap (λ rs. slice_index_or (map remote_from rs) k (remote_from nothing_sent))
          is.remotes
          ∙ get_or-map remote_from (replicate segments nothing_sent) k nothing_sent
          (remote_from nothing_sent)
          (omega (arith, below, is.segments_are, length-replicate segments nothing_sent))
          ∙ ap remote_from (all_same segments k nothing_sent)))
          (All-from_recursion (IsSegmentRight a.policy) parts.fresh
          (all_right a.policy parts.fresh plains));
    };
    all = ap length is.holders;
    holders = λ segment.
        ap (λ hs. slice_index_or hs segment None) is.holders ∙ all_same 64 segment None
        ∙ sym (ap worker_in (all_same (length a.policy.segments) segment fresh))
        ∙ sym (ap (λ s. worker_in (holder_at s segment)) is_opening);
  }
