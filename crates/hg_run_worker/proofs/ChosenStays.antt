-- Where slot words become others with the same records, the same place is chosen, and the same is refused.
use Rattle.std.specs.Prelude.{option_map, option_and_then, find}
use Rattle.std.specs.Option.{option_or}
use Rattle.std.proofs.Common.{◌≡◌, ℕ, ◌+◌, ◌*◌, ◌%◌, ◌==◌, Bool, true, false, List, [], map, Option, Some, None}
use Rattle.std.proofs.Common.{refl, sym, ap, ◌∙◌, if◌then◌else◌}
use Rattle.hg_lists.specs.Repeats.{HasNoRepeats}
use Rattle.hg_place.specs.Places.{segment_of_page}
use Rattle.hg_size.specs.Sizes.{places_of}
use Rattle.hg_size.specs.Runs.{may_begin}
use Rattle.hg_segment.specs.Kept.{Kept, class_at}
use Rattle.hg_segment.specs.Right.{vacant_in}
use Rattle.hg_machine.specs.Policy.{Policy}
use Rattle.hg_machine.specs.Request.{alloc_verdict, size_of, words_for}
use Rattle.hg_segment.specs.Charges.{charge_of}
use Rattle.hg_heap.specs.Charges.{charge_in}
use Rattle.hg_heap.specs.Refusals.{refusal_of, refused_at, refused_by}
use Rattle.hg_heap.proofs.ChargeChanged.{charge_same}
use Rattle.hg_heap.specs.Choice.{begun_or, blank_by, blank_of, blank_on, chosen_place, front_page, next_index}
use Rattle.hg_heap.specs.Held.{all_pages, is_some_place, KeepsLists, segment_in}
use Rattle.hg_heap.specs.Keeping.{Rest, rest_of}
use Rattle.hg_heap.specs.SlotsChanged.{SlotsChanged}
use Rattle.hg_heap.proofs.Founds.{map_same, pair, told_in}
use Rattle.hg_heap.proofs.Judging.{rest_same}
use Rattle.hg_run_table.specs.declared.segment.RunSegment.{RunSegment}
use Rattle.hg_run_worker.specs.AtWork.{number_in, records_in, shows_in, numbers_in}
use Rattle.hg_run_worker.proofs.SlotsLent.{changed_one}

-- the places of a page that may get a class, by all that is told of its segment
abbrev room_told : ℕ → ℕ → ℕ → Rest → Bool → List ℕ
room_told arena size page r true =
    if r.arena == arena then vacant_in r.greatest r.standings page (places_of size) else []
room_told arena size page r false = []

abbrev blank_told : ℕ → ℕ → ℕ → Option Rest → List ℕ
blank_told arena size page None = []
blank_told arena size page (Some r) =
    room_told arena size page r (may_begin (class_at r.classes) size page)

is_told : (arena size page : ℕ) (o : Option (Kept RunSegment))
    → blank_by number_in records_in arena size o page
    ≡ blank_told arena size page (option_map (rest_of number_in records_in) o)
is_told arena size page None = refl
is_told arena size page (Some k) = go (may_begin (class_at k.classes) size page)
  where
    go : (b : Bool) → blank_of number_in records_in arena size page k b
        ≡ room_told arena size page (rest_of number_in records_in k) b
    go true = refl
    go false = refl

module _ {xs ys : List (Kept RunSegment)} {segment : ℕ} {change : RunSegment → RunSegment → Type 0}
    (once : HasNoRepeats (numbers_in xs))
    (c : SlotsChanged number_in records_in shows_in segment change xs ys)
    (lists : KeepsLists number_in xs ys) where
  told_same : (other : ℕ)
      → option_map (rest_of number_in records_in) (segment_in number_in ys other)
      ≡ option_map (rest_of number_in records_in) (segment_in number_in xs other)
  told_same =
      told_in number_in (rest_of number_in records_in) xs ys
      (ap (map (pair number_in (rest_of number_in records_in))) c.now
      ∙ map_same (pair number_in (rest_of number_in records_in)) xs c.found c.one (changed_one once c) c.at
      (λ i. (
        c.same_number i,
        rest_same number_in records_in c.one (changed_one once c) c.same_number c.same_records refl refl i,
      )))

  blank_same : (arena size page : ℕ)
      → blank_on number_in records_in ys arena size page ≡ blank_on number_in records_in xs arena size page
  blank_same arena size page =
      is_told arena size (page % 16) (segment_in number_in ys (segment_of_page page))
      ∙ ap (blank_told arena size (page % 16)) (told_same (segment_of_page page))
      ∙ sym (is_told arena size (page % 16) (segment_in number_in xs (segment_of_page page)))

  pub chosen_stays : (queues : List (List ℕ)) (arena size : ℕ)
      → chosen_place number_in records_in (record { segments = ys; queues = queues }) arena size
      ≡ chosen_place number_in records_in (record { segments = xs; queues = queues }) arena size
  chosen_stays queues arena size = λ i.
      option_and_then
      (λ (page : ℕ).
      option_map (λ (index : ℕ). page * 512 + index)
      (next_index (begun_or (blank_same arena size page i) (lists page i))))
      (option_or
      (front_page number_in records_in (record { segments = xs; queues = queues }) arena size)
      (find (λ (page : ℕ). is_some_place (blank_same arena size page i)) all_pages))

  -- so it is refused as it was, or served
  pub refusal_stays : (policy : Policy) (queues : List (List ℕ)) (actor arena bytes : ℕ)
      → refusal_of number_in records_in policy actor arena bytes
      (record { segments = ys; queues = queues })
      ≡ refusal_of number_in records_in policy actor arena bytes
      (record { segments = xs; queues = queues })
  refusal_stays policy queues actor arena bytes = λ i.
      refused_at
      (refused_by
      (alloc_verdict policy actor arena (words_for bytes)
      ((ap (λ (s : List (Kept RunSegment)). charge_in records_in s actor) c.now
      ∙ charge_same records_in xs c.found c.one (changed_one once c) actor c.at
      (ap (λ rs. charge_of rs c.one.classes actor) c.same_records)) i)))
      (chosen_stays queues arena (size_of bytes) i)
