-- The same place is chosen in two keeps that agree on a side.
use Rattle.std.proofs.Common.{◌≡◌, ℕ, Bool, true}
use Rattle.std.proofs.Common.{find}
use Rattle.std.proofs.Common.{Option, Some, None, sym, ap, subst, ◌∙◌, slice_get}
use Rattle.std.proofs.Math.Path.{fun_ext}
use Rattle.hg_place.specs.Places.{number_of, page_of, segment_of, segment_of_page}
use Rattle.hg_size.specs.Sizes.{number_of_size}
use Rattle.hg_size.specs.SizeLaws.{key_of}
use Rattle.hg_queue.specs.Queues.{queue_of}
use Rattle.hg_heap.specs.Choice.{next_index}
use Rattle.hg_machine.specs.declared.Event.{Event}
use Rattle.hg_machine.specs.declared.Event.TheVariants as event
use Rattle.hg_machine.specs.declared.Answer.{Answer}
use Rattle.hg_machine.specs.State.{places_in}
use Rattle.hg_machine.specs.Room.{is_open_to}
use Rattle.hg_machine.specs.Request.{size_of}
use Rattle.hg_machine.specs.Served.{IsServed}
use Rattle.hg_machine.specs.Lists.{Kept}
use Rattle.hg_choice.specs.PageLists.{lists_on}
use Rattle.hg_choice.specs.Choice.{front_page, chosen_by}
use Rattle.hg_choice.specs.ChosenSteps.{IsChosen}
use Rattle.hg_purge.proofs.Agreeing.{AgreeOn, IsApart, Beside}
use Rattle.hg_purge.proofs.Facts.{segment_of_paged}
use Rattle.hg_purge.proofs.Filing.{next_filed}
use Rattle.hg_purge.proofs.Following.{open_same}
use Rattle.hg_purge.proofs.Following.{places_same}
use Rattle.hg_purge.proofs.Listing.{page_same}
use Rattle.hg_purge.proofs.Changing.{block_on}

module _ {on own : ℕ → Bool} {k m : Kept} (agree : AgreeOn on own k m) (here : IsApart on own k)
    (there : IsApart on own m) (w : ℕ) (mine : own w ≡ true) where
  beside : Beside on own k.state m.state
  beside = record { same = agree.state; here = here.parted; there = there.parted }

  choice_same : (arena size place : ℕ) (front : Option ℕ)
      → chosen_by k w arena size front ≡ Some place → on (segment_of place) ≡ true
      → chosen_by m w arena size front ≡ Some place
  choice_same arena size place (Some page) is o =
      let of_page : page_of place ≡ page =
      next_filed (lists_on k.lists page) page place (here.filed.free page)
      (here.filed.local_free page) is in
      let at : on (segment_of_page page) ≡ true =
      ap on (sym (ap segment_of_page of_page) ∙ segment_of_paged place) ∙ o in
      ap next_index (page_same page agree.lists at) ∙ is
  choice_same arena size place None is o =
      ap (λ f. find f (places_in m.state))
      (fun_ext λ p. open_same beside w mine arena size p)
      ∙ ap (find (is_open_to k.state w arena size None))
      (places_same beside)
      ∙ is

  pub same_chosen : (e : Event) (a : Answer) → IsServed k.state w e a → IsChosen k w e a
      → IsChosen m w e a
  same_chosen (event.Alloc actor arena bytes) a g is =
      let size = size_of bytes in
      let p = number_of g.0.place in
      subst (IsChosen m w (event.Alloc actor arena bytes)) (sym g.1)
      (ap (λ qs. chosen_by m w arena size
      (slice_get (queue_of qs (key_of arena (number_of_size size))) 0)) (agree.queues.at w mine)
      ∙ choice_same arena size p (front_page k w arena size)
      (subst (IsChosen k w (event.Alloc actor arena bytes)) g.1 is)
      (block_on here w mine arena size p g.2.room))
  same_chosen (event.Free actor handle) a g is = is
  same_chosen event.Deliver a g is = is
  same_chosen (event.Take segment) a g is = is
  same_chosen event.Collect a g is = is
  same_chosen (event.Read actor handle index) a g is = is
  same_chosen (event.Write actor handle index value) a g is = is
  same_chosen (event.Look actor place) a g is = is
  same_chosen (event.Abandon segment) a g is = is
  same_chosen (event.Refill arena) a g is = is
