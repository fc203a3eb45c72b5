-- Choice, lists and queues don't depend on hidden words.
use Rattle.std.proofs.Common.{◌≡◌, ℕ, ◌*◌, ◌==◌, ◌&&◌, Bool, true, false, not, is_some}
use Rattle.std.proofs.Common.{if◌then◌else◌, ◌∷◌, [], List, map, filter, find, Option, Some, None}
use Rattle.std.proofs.Common.{refl, sym, ap, subst, ◌∙◌}
use Rattle.std.proofs.Math.Path.{fun_ext}
use Rattle.std.specs.List.{range_with_len}
use Rattle.hg_place.specs.Places.{number_of, page_of, page_number, segment_of_page}
use Rattle.hg_size.specs.Sizes.{number_of_size}
use Rattle.hg_size.specs.SizeLaws.{key_of}
use Rattle.hg_page.specs.PageLists.{fresh}
use Rattle.hg_segment.specs.Kept.{refilled, returned}
use Rattle.hg_remote.specs.Order.{drained}
use Rattle.hg_machine.specs.declared.Event.{Event}
use Rattle.hg_machine.specs.declared.Event.TheVariants as event
use Rattle.hg_machine.specs.declared.Answer.{Answer}
use Rattle.hg_machine.specs.declared.Answer.TheVariants as answer
use Rattle.hg_machine.specs.State.{State, class_at, places_in, pages_in}
use Rattle.hg_machine.specs.Holders.{holds}
use Rattle.hg_machine.specs.Request.{size_of}
use Rattle.hg_machine.specs.Room.{is_open_to}
use Rattle.hg_machine.specs.Served.{IsServed}
use Rattle.hg_machine.specs.Lists.{Lists, Kept, list_at}
use Rattle.hg_choice.specs.PageLists.{lists_on, with_page, popped}
use Rattle.hg_choice.specs.Choice.{queues_of, front_page, chosen_by, chosen_place}
use Rattle.hg_choice.specs.ListsAfter.{lists_for, given_from, came_home, all_home, remote_of}
use Rattle.hg_choice.specs.ListsAfter.{nothing_sent_to, is_collected, lists_after}
use Rattle.hg_choice.specs.QueuesAfter.{key_on, placed, all_placed, with_queues, queues_after}
use Rattle.hg_choice.specs.Masks.{masked, masked_kept, is_hidden}
use Rattle.hg_choice.proofs.MaskedFacts.{same_generation, same_usable, same_open, same_places}
use Rattle.hg_choice.proofs.MaskedFacts.{same_idle}
use Rattle.hg_choice.proofs.MaskedServes.{masked_event, masked_answer}

module _ (hides : ℕ → ℕ → Bool) where
  chosen_same : (k : Kept) (w arena size : ℕ) (front : Option ℕ)
      → chosen_by (masked_kept hides k) w arena size front ≡ chosen_by k w arena size front
  chosen_same k w arena size (Some page) = refl
  chosen_same k w arena size None =
      ap (λ f. find f (places_in (masked hides k.state)))
      (same_open hides k.state w arena size None)
      ∙ ap (find (is_open_to k.state w arena size None)) (same_places hides k.state)

  pub same_choice : (k : Kept) (w arena size : ℕ)
      → chosen_place (masked_kept hides k) w arena size ≡ chosen_place k w arena size
  same_choice k w arena size = chosen_same k w arena size (front_page k w arena size)

  same_for : (s : State) (l : Lists) (size page : ℕ) (class : Option ℕ)
      → lists_for (masked hides s) l size page class ≡ lists_for s l size page class
  same_for s l size page (Some class) = refl
  same_for s l size page None =
      ap (λ f. fresh (filter f (range_with_len (page * 512) 512))) (same_usable hides s size)

  same_given : (s : State) (l : Lists) (size page : ℕ)
      → given_from (masked hides s) l size page ≡ given_from s l size page
  same_given s l size page =
      ap (λ ls. with_page l page (popped (refilled ls))) (same_for s l size page (class_at s page))

  same_came : (s : State) (l : Lists) (p : ℕ) → came_home (masked hides s) l p ≡ came_home s l p
  same_came s l p =
      ap (λ g. with_page l (page_of p) (returned (g == s.policy.max_generation)
      (lists_on l (page_of p)) p)) (same_generation hides s p)

  same_all_home : (s : State) (l : Lists) (ps : List ℕ)
      → all_home (masked hides s) l ps ≡ all_home s l ps
  same_all_home s l [] = refl
  same_all_home s l (p ∷ ps) = ap (λ m. all_home (masked hides s) m ps) (same_came s l p)
      ∙ same_all_home s (came_home s l p) ps

  same_all_placed : (s : State) (l : Lists) (ps : List ℕ) (queues : List (List ℕ))
      → all_placed (masked hides s) l ps queues ≡ all_placed s l ps queues
  same_all_placed s l [] queues = refl
  same_all_placed s l (p ∷ ps) queues =
      ap (λ m. all_placed (masked hides s) m ps
      (placed m (page_of p) (key_on s (page_of p)) queues)) (same_came s l p)
      ∙ same_all_placed s (came_home s l p) ps
      (placed (came_home s l p) (page_of p) (key_on s (page_of p)) queues)

  same_collected : (s : State) (w : ℕ) → is_collected (masked hides s) w ≡ is_collected s w
  same_collected s w =
      fun_ext λ page. ap (λ f. holds s w (segment_of_page page)
      && (f page && is_some (class_at s page))) (same_idle hides s)

  -- a served event leaves the same lists, and the same queues
  abbrev AreSame : Kept → ℕ → Event → Answer → Type 0
  AreSame k w e a =
      (lists_after (masked_kept hides k) w (masked_event (is_hidden hides k.state) e)
      (masked_answer (is_hidden hides k.state) e a) ≡ lists_after k w e a)
      × (queues_after (masked_kept hides k) w (masked_event (is_hidden hides k.state) e)
      (masked_answer (is_hidden hides k.state) e a) ≡ queues_after k w e a)

  either : (k : Kept) (w : ℕ) (e : Event) (b : Bool) (a : Answer)
      → a ≡ (if b then answer.Done else answer.Parted) → AreSame k w e answer.Done
      → AreSame k w e answer.Parted → AreSame k w e a
  either k w e true a is done away = subst (AreSame k w e) (sym is) done
  either k w e false a is done away = subst (AreSame k w e) (sym is) away

  pub same_lists_after : (k : Kept) (w : ℕ) (e : Event) (a : Answer) → IsServed k.state w e a
      → AreSame k w e a
  same_lists_after k w (event.Alloc actor arena bytes) a g =
      let page = page_number g.0.place in
      let size = size_of bytes in
      let same = same_given k.state k.lists size page in
      subst (AreSame k w (event.Alloc actor arena bytes)) (sym g.1) (
        same,
        ap (λ m. with_queues k w (placed m page (Some (key_of arena (number_of_size size)))
            (queues_of k w))) same,
      )
  same_lists_after k w (event.Free actor handle) a is =
      let p = number_of handle.place in
      either k w (event.Free actor handle) (holds k.state w handle.place.segment) a is (
        same_came k.state k.lists p,
        ap (with_queues k w)
            (same_all_placed k.state k.lists (p ∷ []) (queues_of k w)),
      )
      (refl, refl)
  same_lists_after k w event.Deliver a is = subst (AreSame k w event.Deliver) (sym is) (refl, refl)
  same_lists_after k w (event.Take segment) a is =
      let ps = drained (remote_of k.lists segment) in
      subst (AreSame k w (event.Take segment)) (sym is) (
        ap (λ l. nothing_sent_to k.state l segment) (same_all_home k.state k.lists ps),
        ap (with_queues k w) (same_all_placed k.state k.lists ps (queues_of k w)),
      )
  same_lists_after k w event.Collect a is =
      let l = k.lists in
      subst (AreSame k w event.Collect) (sym is) (
        ap (λ f. record l {
          free = map (λ page. if f page then [] else list_at l.free page) (pages_in k.state);
          local_free =
              map (λ page. if f page then [] else list_at l.local_free page) (pages_in k.state);
        }) (same_collected k.state w),
        ap (λ f. with_queues k w (map (filter (λ page. not (f page))) (queues_of k w)))
            (same_collected k.state w),
      )
  same_lists_after k w (event.Read actor handle index) a is =
      subst (AreSame k w (event.Read actor handle index)) (sym is) (refl, refl)
  same_lists_after k w (event.Write actor handle index value) a is =
      subst (AreSame k w (event.Write actor handle index value)) (sym is) (refl, refl)
  same_lists_after k w (event.Look actor place) a g =
      subst (AreSame k w (event.Look actor place)) (sym g.1) (refl, refl)
  same_lists_after k w (event.Abandon segment) a is =
      subst (AreSame k w (event.Abandon segment)) (sym is) (refl, refl)
  same_lists_after k w (event.Refill arena) a g =
      subst (AreSame k w (event.Refill arena)) (sym g.1) (refl, refl)
