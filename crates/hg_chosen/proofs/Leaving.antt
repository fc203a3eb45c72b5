-- An Abandon leaves the lists, and takes the segment's pages out of the worker's queues.
use Rattle.std.proofs.Common.{◌≡◌, ℕ, ◌<◌, ◌∷◌, [], ◌++◌, List, length, map, refl, ap, ◌∙◌}
use Rattle.std.proofs.Common.{slice_set}
use Rattle.hg_place.specs.declared.plain.PlainWords.{PlainWords}
use Rattle.hg_segment.specs.Kept.{Kept}
use Rattle.hg_segment.specs.Parted.{plain_number}
use Rattle.hg_heap.specs.Releasing.{without_segment, without_pages}
use Rattle.hg_agreement.specs.Parts.{Plain, Parts, plain_from, lists_of}
use Rattle.hg_agreement.proofs.Leaves.{go_plain}
use Rattle.hg_parts.specs.Tidy.{IsTidy}
use Rattle.hg_parts.proofs.Sorted.{tidy_sorted}
use Rattle.hg_events.specs.Core.{Core, parts_of, heap_of}
use Rattle.hg_events.specs.LetGo.{without, let_go, IsHeldBy}
use Rattle.hg_events.proofs.LetGo.{abandon_is_served, go, new_is}
use Rattle.hg_chosen.specs.LetGo.{AbandonIsChosen}
use Rattle.hg_chosen.proofs.MovedLists.{moved_lists, queues_with}

module _ (core : Core) (worker segment : ℕ) (one : Kept PlainWords) (t : IsTidy (parts_of core))
    (below : worker < length core.heaps) (held : IsHeldBy core worker segment one) where
  abbrev parts : Parts
  parts = parts_of core

  abbrev new : Parts
  new = parts_of (let_go core worker segment one)

  abbrev left : List Plain
  left = map plain_from (without_segment plain_number (heap_of core worker).segments segment)

  same_lists : lists_of new ≡ lists_of parts
  same_lists =
      ap lists_of (new_is core worker segment one t held)
      ∙ moved_lists parts (slice_set parts.heaps worker left) (parts.orphans ++ plain_from one ∷ [])
      parts.fresh new.queues
      (go_plain parts worker left (plain_from one) (tidy_sorted parts t)
      (go core worker segment one t held below))

pub abandon_is_chosen : AbandonIsChosen
abandon_is_chosen core worker segment one t below held = record {
  step = (abandon_is_served core worker segment one t below held).0;
  chosen = tt;
  lists = same_lists core worker segment one t below held;
  queues =
      queues_with core worker (without (heap_of core worker) segment) (without_pages segment) refl;
}
