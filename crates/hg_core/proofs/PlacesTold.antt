-- How many places the blocks of a page have is what the holder's heap tells, and the others are
-- home.
use Rattle.std.proofs.Common.{◌≡◌, ℕ, ◌+◌, ◌*◌, ◌<◌, ◌≤◌, true, false, length}
use Rattle.std.proofs.Common.{Option, Some, None, slice_index_or, refl, sym, ap, subst}
use Rattle.std.proofs.Common.{◌∙◌, arith}
use Rattle.std.specs.Box.{boxed_slice_items}
use Rattle.std.specs.Option.{option_map}
use Rattle.std.proofs.lemmas.Bool.{lt-ltb}
use Rattle.std.proofs.lemmas.Option.{same_Some, none-some}
use Rattle.hg_place.specs.declared.plain.PlainWords.{PlainWords}
use Rattle.hg_place.specs.Places.{page_of, index_of}
use Rattle.hg_segment.specs.Kept.{Kept}
use Rattle.hg_segment.specs.Kept.{class_at as class_in}
use Rattle.hg_segment.specs.Parted.{plain_number}
use Rattle.hg_heap.specs.BlockPlaces.{places_by}
use Rattle.hg_heap.specs.Held.{Held, segment_in, is_held}
use Rattle.hg_size.specs.Sizes.{places_of}
use Rattle.hg_machine.specs.Holders.{is_held_by, holds}
use Rattle.hg_machine.specs.Life.{Life, home, live, parted, is_home, contents_of}
use Rattle.hg_machine.specs.Soundness.{IsSound}
use Rattle.hg_machine.specs.State.{State, Holder, fresh, orphan, held, record_at, class_at}
use Rattle.hg_machine.specs.State.{holder_at}
use Rattle.hg_agreement.specs.Parts.{Parts, state_of, plain_of, plain_from}
use Rattle.hg_agreement.proofs.Told.{segments_are_told}
use Rattle.hg_events.specs.Core.{Core, parts_of, heap_of}
use Rattle.hg_core.specs.declared.stores.Stores.TheInside.{Inside}
use Rattle.hg_core.specs.BlockPlaces.{places_held, block_places, AreHomeFrom}
use Rattle.hg_core.specs.Held.{worker_in}
use Rattle.hg_core.specs.Keeping.{state_in, IsKept}
use Rattle.hg_core.specs.Stored.{core_of, IsStored}
use Rattle.hg_core.proofs.After.{heap_read, heap_below, held_inside}
use Rattle.hg_core.proofs.Recorded.{plain_held, worker_is}
use Rattle.hg_core.proofs.Words.{holder_below, holder_holds}

-- a page that there is
on_page : (s : State) (segment page : ℕ) → page < 16
    → block_places s segment page
    ≡ places_held (worker_in (holder_at s segment)) (class_at s (segment * 16 + page))
on_page s segment page inside = rw (lt-ltb page 16 inside) refl

-- what a heap tells of a page, where its segment stands
pub class_told : {X : Type 0} (f : Option ℕ → X) (parts : Parts) (segment page : ℕ) (told : X)
    (o : Option (Kept PlainWords)) → segment < length parts.policy.segments → page < 16
    → plain_of parts segment ≡ option_map plain_from o
    → option_map (λ (k : Kept PlainWords). f (class_in k.classes page)) o ≡ Some told
    → f (class_at (state_of parts) (segment * 16 + page)) ≡ told
class_told f parts segment page told None below inside there tells = absurd (none-some told tells)
class_told f parts segment page told (Some k) below inside there tells =
    ap f ((segments_are_told parts segment (plain_from k) below there).classes page inside)
    ∙ same_Some (f (class_in k.classes page)) told tells

-- the holder's heap, as it is read, has the segment, and tells the machine's number
module _ (a : Inside) (s : Core) (segment holder : ℕ) (view : core_of a ≡ s) (stored : IsStored a)
    (is : worker_in (holder_at (state_in s) segment) ≡ Some holder) where
  kept : IsKept s
  kept = subst IsKept view stored.kept

  known : holder < (core_of a).policy.workers
  known = subst (λ x. holder < x.policy.workers) (sym view) (holder_below s kept holder segment is)

  pub heap_inside : holder < length (boxed_slice_items a.heaps)
  heap_inside = heap_below (core_of a) holder stored.kept.tidy known

  module _ (at : ℕ) (heap : Held PlainWords) (same : at ≡ holder)
      (there : heap ≡ slice_index_or (boxed_slice_items a.heaps) at heap) where
    heap_is : heap_of s holder ≡ heap
    heap_is =
        ap (λ x. heap_of x holder) (sym view)
        ∙ heap_read (core_of a) at holder heap stored.kept.tidy known same there

    pub has_segment : is_held plain_number heap.segments segment ≡ true
    has_segment =
        ap (λ h. is_held plain_number h.segments segment) (sym heap_is)
        ∙ holder_holds s kept holder segment is

    pub holder_told : {X : Type 0} (f : Option ℕ → X) (page : ℕ) (told : X) → page < 16
        → option_map (λ (k : Kept PlainWords). f (class_in k.classes page))
        (segment_in plain_number heap.segments segment) ≡ Some told
        → f (class_at (state_in s) (segment * 16 + page)) ≡ told
    holder_told f page told inside tells =
        let below : segment < length s.policy.segments =
        held_inside s holder segment kept.tidy (holder_holds s kept holder segment is) in
        class_told f (parts_of s) segment page told
        (segment_in plain_number heap.segments segment) below inside
        (plain_held s segment holder (sym (worker_is s segment below) ∙ is)
        ∙ ap (λ (h : Held PlainWords). option_map plain_from
        (segment_in plain_number h.segments segment)) heap_is)
        tells

    pub places_told : (page told : ℕ) → page < 16
        → option_map (λ (k : Kept PlainWords). places_by (class_in k.classes page))
        (segment_in plain_number heap.segments segment) ≡ Some told
        → told ≡ block_places (state_in s) segment page
    places_told page told inside tells =
        sym (on_page (state_in s) segment page inside
        ∙ ap (λ o. places_held o (class_at (state_in s) (segment * 16 + page))) is
        ∙ holder_told places_by page told inside tells)

-- a place that isn't home is one of the class's
home_by : (l : Life) → (is_home l ≡ false → ⊥) → l ≡ home
home_by home used = refl
home_by (live owner words) used = absurd (used refl)
home_by (parted owner words) used = absurd (used refl)

behind_home : (s : State) → IsSound s → (page index : ℕ) → index < 512
    → places_by (class_at s page) ≤ index → (record_at s (page * 512 + index)).life ≡ home
behind_home s sound page index inside behind =
    let place = page * 512 + index in
    let on : page_of place ≡ page = omega (arith, inside) in
    let at : index_of place ≡ index = omega (arith, inside) in
    let block = (sound.places place).block in
    home_by (record_at s place).life
    (λ used.
    let size = length (contents_of (record_at s place).life) in
    let many : places_by (class_at s page) ≡ places_of size =
    ap (λ p. places_by (class_at s p)) (sym on) ∙ ap places_by (block.same_class used) in
    let low = block.below used in
    omega (arith, many, low, at, behind))

is_held_some : (h : Holder) (worker : ℕ) (class : Option ℕ) → is_held_by worker h ≡ true
    → places_held (worker_in h) class ≡ places_by class
is_held_some fresh worker class is = absurd (cc)
is_held_some orphan worker class is = absurd (cc)
is_held_some (held w) worker class is = refl

pub others_home : (s : State) (segment page many worker : ℕ) → IsSound s
    → many ≡ block_places s segment page → holds s worker segment ≡ true → page < 16
    → AreHomeFrom s segment page many
others_home s segment page many worker sound is own inside index behind low =
    let class = class_at s (segment * 16 + page) in
    let told : many ≡ places_by class =
    is ∙ on_page s segment page inside ∙ is_held_some (holder_at s segment) worker class own in
    behind_home s sound (segment * 16 + page) index low (subst (λ n. n ≤ index) told behind)
