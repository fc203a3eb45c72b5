-- Segments of a worker whose slot words have become others, and the worker's part that comes back from one.
use Rattle.std.proofs.Common.{◌≡◌, ◌≢◌, ◌⊎◌, ℕ, ◌-◌, ◌<◌, inl, inr, true, List, [], ◌∷◌}
use Rattle.std.proofs.Common.{map, length, get_or, Option, Some, refl, sym, ap, subst, ◌∙◌, arith}
use Rattle.std.proofs.Common.{slice_get, slice_set, is_some}
use Rattle.std.specs.List.{position_or_len}
use Rattle.std.proofs.lemmas.Bool.{cases_eq}
use Rattle.std.proofs.lemmas.Grind.{get_or-set_at}
use Rattle.std.proofs.lemmas.List.{length-set, get_or-set_other}
use Rattle.std.proofs.lemmas.Option.{get_or_from_slice_get, slice_get-get_or}
use Rattle.atomic_table.specs.Seated.{TableId}
use Rattle.hg_lists.specs.Repeats.{HasNoRepeats}
use Rattle.hg_place.specs.declared.Handle.{Handle}
use Rattle.hg_machine.specs.Policy.{Policy}
use Rattle.hg_segment.specs.Kept.{Kept}
use Rattle.hg_agreement.specs.Views.{View}
use Rattle.hg_agreement.specs.Holdings.{Holding, view_of}
use Rattle.hg_heap.specs.Held.{kind_of, kinds, is_of, segment_in, is_held}
use Rattle.hg_heap.specs.Keeping.{KeepsAll, rest_of}
use Rattle.hg_heap.specs.SlotsChanged.{SlotsChanged}
use Rattle.hg_heap.specs.Ties.{holding, heap_view}
use Rattle.std.proofs.lemmas.List.Folds.{find_at}
use Rattle.hg_heap.proofs.Allotting.{found_first}
use Rattle.hg_heap.proofs.Judging.{rest_same}
use Rattle.hg_heap.proofs.Founds.{Found, found_is, found_after, inside_of, map_same, numbers_same}
use Rattle.hg_roles.specs.Roles.{Call, of_worker, of_segment}
use Rattle.hg_run_table.specs.declared.part.Part.{Part}
use Rattle.hg_run_table.specs.declared.segment.RunSegment.{RunSegment}
use Rattle.hg_run_table.specs.declared.table.RunSeat.{RunSeat}
use Rattle.hg_run_table.specs.Calls.{log_in}
use Rattle.hg_run_table.specs.Seated.{HaveRoles}
use Rattle.hg_run_table.proofs.RolesOfViews.{cut_have}
use Rattle.hg_run_table.proofs.WorkerSteps.{log_is, own_log}
use Rattle.hg_run_worker.specs.AtWork.{IsAtWork, IsSeated, number_in, records_in, worker_view, hand_place, hand_generation}
use Rattle.hg_run_worker.specs.AtWork.{shows_in, numbers_in}
use Rattle.hg_run_worker.specs.Lent.{HasComeBack}

-- an entry of a list of which one is another
pub get_set : {X : Type 0} (xs : List X) (n i : ℕ) (y k : X) → slice_get (slice_set xs n y) i ≡ Some k
    → ((i ≡ n) × (k ≡ y)) ⊎ ((i ≢ n) × (slice_get xs i ≡ Some k))
get_set xs n i y k e =
    let below : i < length xs =
    subst (λ m. i < m) (length-set xs n y) (inside_of (slice_set xs n y) i k e) in
    let value : get_or (slice_set xs n y) i k ≡ k = get_or_from_slice_get (slice_set xs n y) i k k e in
    elim (cases_eq i n) [
      | inl is ↦ inl (is, sym value ∙ get_or-set_at xs n i y k is (subst (λ m. m < length xs) is below))
      | inr ne ↦ inr (ne, slice_get-get_or xs i k below ∙ ap Some (sym (get_or-set_other xs n i y k ne) ∙ value))
    ]

-- the slot words of a segment have become others
module _ {xs ys : List (Kept RunSegment)} {segment : ℕ} {change : RunSegment → RunSegment → Type 0}
    (once : HasNoRepeats (numbers_in xs))
    (c : SlotsChanged number_in records_in shows_in segment change xs ys) where
  abbrev pub changed_one : Kept RunSegment
  changed_one = record c.one { slots = c.slots }

  pub numbers_stay : numbers_in ys ≡ numbers_in xs
  numbers_stay = ap numbers_in c.now ∙ numbers_same number_in xs c.found c.one changed_one c.at c.same_number

  pub found_before : Found number_in xs segment c.found c.one
  found_before = record {
    at = c.at;
    first = found_first number_in records_in xs c.found c.one segment once c.at c.numbered;
  }

  pub found_there : Found number_in ys segment c.found changed_one
  found_there =
      subst (λ (zs : List (Kept RunSegment)). Found number_in zs segment c.found changed_one) (sym c.now)
      (found_after number_in xs segment c.found c.one changed_one found_before c.same_number)

  -- what a worker has stays
  pub view_stays : (policy : Policy) (worker : ℕ) (hand : Option ℕ) (generation : ℕ)
      → heap_view number_in records_in policy worker hand generation ys
      ≡ heap_view number_in records_in policy worker hand generation xs
  view_stays policy worker hand generation =
      ap (λ (hs : List Holding). view_of policy worker hand generation hs)
      (ap (map (holding number_in records_in)) c.now
      ∙ map_same (holding number_in records_in) xs c.found c.one changed_one c.at
      (ap
      (λ n. record { number = n; standings = records_in c.slots; classes = c.one.classes; words = c.one.words })
      c.same_number
      ∙ ap
      (λ rs. record { number = number_in c.one.slots; standings = rs; classes = c.one.classes; words = c.one.words })
      c.same_records))

  -- and so does all else of each segment
  pub all_stays : KeepsAll number_in records_in xs ys
  all_stays =
      ap (map (rest_of number_in records_in)) c.now
      ∙ map_same (rest_of number_in records_in) xs c.found c.one changed_one c.at
      (rest_same number_in records_in c.one changed_one c.same_number c.same_records refl refl)

  pub kinds_stay : kinds number_in ys ≡ kinds number_in xs
  kinds_stay =
      ap (kinds number_in) c.now
      ∙ map_same (kind_of number_in) xs c.found c.one changed_one c.at
      (ap (λ n. record { number = n; arena = c.one.arena; greatest = c.one.greatest }) c.same_number)

  pub held_there : is_held number_in ys segment ≡ true
  held_there = ap is_some (found_is number_in ys segment c.found changed_one found_there)

-- the segment of a number stands somewhere
pub at_position : (xs : List (Kept RunSegment)) (segment : ℕ) (one : Kept RunSegment)
    → segment_in number_in xs segment ≡ Some one
    → slice_get xs (position_or_len (is_of number_in segment) xs) ≡ Some one
at_position xs segment one e = sym (find_at (is_of number_in segment) xs) ∙ e

-- of a number one segment is held
pub one_held : (xs : List (Kept RunSegment)) (segment : ℕ) (one other : Kept RunSegment)
    → segment_in number_in xs segment ≡ Some one → segment_in number_in xs segment ≡ Some other
    → one ≡ other
one_held xs segment one other e f = let both : Some one ≡ Some other = sym e ∙ f in cc

-- The segment of the number has the worker's part behind its own, and each other's seat has its part alone; the
-- worker's comes back
module _ (policy : Policy) (number : ℕ) (hand : Option Handle) {id : TableId}
    {zs ws : List (Kept RunSegment)} {segment found : ℕ} {one : Kept RunSegment} {log : List Call}
    {back : RunSeat} (once : HasNoRepeats (numbers_in zs)) (there : Found number_in zs segment found one)
    (same : one.slots.seat.seat.table_id ≡ id)
    (has : HaveRoles one.slots.seat.seat.me.0.run
    (of_segment segment ∷ of_worker (worker_view policy number hand zs) log ∷ []))
    (others : (at : ℕ) (k : Kept RunSegment) → at ≢ found → slice_get zs at ≡ Some k
    → IsSeated id k.slots)
    (given : HasComeBack segment zs back ws) where
  given_is : given.one ≡ one
  given_is =
      one_held zs segment given.one one
      (found_is number_in zs segment given.found given.one (found_before once given))
      (found_is number_in zs segment found one there)

  cut_parts : HaveRoles given.slots.seat.seat.me.0.run (of_segment segment ∷ [])
      × HaveRoles back.seat.me.0.run (of_worker (worker_view policy number hand zs) log ∷ [])
  cut_parts =
      let has_given =
      subst
      (λ (k : Kept RunSegment).
      HaveRoles k.slots.seat.seat.me.0.run
      (of_segment segment ∷ of_worker (worker_view policy number hand zs) log ∷ []))
      (sym given_is) has in
      let count = has_given.count in
      let both =
      cut_have given.one.slots.seat.seat.me.0.run (length given.one.slots.seat.seat.me.0.run - 1)
      (of_segment segment ∷ []) (of_worker (worker_view policy number hand zs) log ∷ [])
      (omega (arith, count)) has_given in (
        subst (λ (r : List Part). HaveRoles r (of_segment segment ∷ [])) (sym given.changed.run) both.0,
        subst
            (λ (r : List Part).
            HaveRoles r (of_worker (worker_view policy number hand zs) log ∷ []))
            (sym given.changed.given) both.1,
      )

  pub came_logged : log_in back ≡ log
  came_logged = log_is back.seat.me.0.run (worker_view policy number hand zs) log [] cut_parts.1

  given_same : given.one.slots.seat.seat.table_id ≡ id
  given_same = ap (λ (k : Kept RunSegment). k.slots.seat.seat.table_id) given_is ∙ same

  each_seated : (at : ℕ) (k : Kept RunSegment) → slice_get ws at ≡ Some k → IsSeated id k.slots
  each_seated at k here =
      elim
      (get_set zs given.found at (changed_one once given) k
      (subst (λ (z : List (Kept RunSegment)). slice_get z at ≡ Some k) given.now here)) [
        | inl is ↦
            subst (λ (m : Kept RunSegment). IsSeated id m.slots) (sym is.1)
            (record {
              same = given.changed.same ∙ given_same;
              part =
                  subst (λ n. HaveRoles given.slots.seat.seat.me.0.run (of_segment n ∷ []))
                  (sym (given.same_number ∙ given.numbered)) cut_parts.0;
            })
        | inr out ↦
            others at k
            (λ here. out.0 (here ∙ there.first ∙ sym (found_before once given).first)) out.1
      ]

  pub came_back : IsAtWork id policy number hand ws back
  came_back = record {
    same = given.changed.same_other ∙ given_same;
    bare = given.changed.bare;
    worker =
        own_log back.seat.me.0.run (worker_view policy number hand ws) log
        (subst (λ (v : View). HaveRoles back.seat.me.0.run (of_worker v log ∷ []))
        (sym (view_stays once given policy number (hand_place hand) (hand_generation hand)))
        cut_parts.1);
    seated = each_seated;
  }
