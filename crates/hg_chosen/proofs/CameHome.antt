-- A place that comes home where its segment stands, in the lists and queues of the core.
use Rattle.std.proofs.Common.{◌≡◌, ◌≢◌, ℕ, ◌+◌, ◌*◌, ◌==◌, ◌<◌, Bool, List, sym, ap, ◌∙◌, arith}
use Rattle.std.specs.Prelude.{Option, Some, option_map, option_and_then}
use Rattle.hg_place.specs.Places.{page_of, segment_of_page}
use Rattle.hg_page.specs.PageLists.{PageLists}
use Rattle.hg_segment.specs.Kept.{lists_at, returned}
use Rattle.hg_size.specs.Sizes.{number_of_size}
use Rattle.hg_size.specs.SizeLaws.{key_of}
use Rattle.hg_heap.specs.Held.{has_place}
use Rattle.hg_heap.specs.Requeued.{requeued}
use Rattle.hg_machine.specs.Lists.{Lists}
use Rattle.hg_machine.specs.Policy.{arena_of}
use Rattle.hg_machine.specs.State.{State, record_at, class_at}
use Rattle.hg_agreement.specs.Holdings.{class_of}
use Rattle.hg_agreement.specs.Parts.{Plain, Parts, lists_of, state_of}
use Rattle.hg_agreement.proofs.Told.{segments_are_told}
use Rattle.hg_parts.specs.Spots.{Spot, segment_at}
use Rattle.hg_parts.specs.Tidy.{IsTidy}
use Rattle.hg_choice.specs.ListsAfter.{came_home}
use Rattle.hg_choice.specs.PageLists.{lists_on, with_page}
use Rattle.hg_choice.specs.QueuesAfter.{key_on, placed}
use Rattle.hg_chosen.proofs.ListedSwaps.{as_places, returned_place, has_as_places, with_one}
use Rattle.hg_chosen.proofs.ListedSwaps.{page_seen, page_put, before, inside}

module _ (parts : Parts) (spot : Spot) (one : Plain) (hands : List (Option ℕ)) (t : IsTidy parts)
    (there : segment_at parts spot ≡ Some one) where
  abbrev n : ℕ
  n = one.holding.number

  abbrev at_spot : Plain → Parts
  at_spot now = with_one parts spot one hands t there now

  -- one that has the place home, after another that was there
  module _ (mid now : Plain) (mid_number : mid.holding.number ≡ n)
      (number : now.holding.number ≡ n) (page index : ℕ) (low : page < 16) (small : index < 512)
      (worn : Bool)
      (home : lists_at now.lists page ≡ returned worn (lists_at mid.lists page) index)
      (keeps :
      (p : ℕ) → p < 16 → p ≢ page → lists_at now.lists p ≡ lists_at mid.lists p) where
    abbrev q : ℕ
    q = n * 16 + page

    abbrev place : ℕ
    place = q * 512 + index

    pub page_is : page_of place ≡ q
    page_is = omega (arith, small)

    abbrev old : Lists
    old = lists_of (at_spot mid)

    abbrev new : Lists
    new = lists_of (at_spot now)

    -- in a state by which it is worn so, the lists are those with the place home
    pub home_lists : (s : State)
        → ((record_at s place).generation == s.policy.max_generation) ≡ worn
        → new ≡ came_home s old place
    home_lists s is =
        page_put parts spot one hands t there mid now mid_number number page low keeps
        ∙ ap (λ (l : PageLists). with_page old q (as_places q l)) home
        ∙ ap (with_page old q) (returned_place worn q index (lists_at mid.lists page))
        ∙ ap (λ (l : PageLists). with_page old q (returned worn l place))
        (sym (page_seen parts spot one hands t there mid mid_number page low))
        ∙ ap (λ (b : Bool). with_page old q (returned b (lists_on old q) place)) (sym is)
        ∙ ap (λ (p : ℕ). with_page old p
        (returned ((record_at s place).generation == s.policy.max_generation) (lists_on old p)
        place)) (sym page_is)

    -- and its page stands where it belongs by them
    pub home_placed : (s : State) (key : ℕ) (queues : List (List ℕ))
        → key_on s q ≡ Some key
        → placed new (page_of place) (key_on s (page_of place)) queues
        ≡ requeued key q (has_place (lists_at now.lists page)) queues
    home_placed s key queues keyed =
        ap (λ (p : ℕ). placed new p (key_on s p) queues) page_is
        ∙ ap (λ (o : Option ℕ). placed new q o queues) keyed
        ∙ ap (λ (l : PageLists). requeued key q (has_place l) queues)
        (page_seen parts spot one hands t there now number page low)
        ∙ ap (λ (b : Bool). requeued key q b queues) (has_as_places q (lists_at now.lists page))

  -- the key of a page of the segment
  pub key_told : (page : ℕ) → page < 16 → arena_of parts.policy n ≡ Some one.arena
      → key_on (state_of parts) (n * 16 + page)
      ≡ option_map (λ size. key_of one.arena (number_of_size size)) (class_of one.holding page)
  key_told page low arena =
      let s : segment_of_page (n * 16 + page) ≡ n = omega (arith, low) in
      let by : Option ℕ → Option ℕ → Option ℕ = λ a c.
      option_and_then (λ arena. option_map (λ size. key_of arena (number_of_size size)) c) a in
      ap (λ k. by (arena_of parts.policy k) (class_at (state_of parts) (n * 16 + page))) s
      ∙ ap (λ a. by a (class_at (state_of parts) (n * 16 + page))) arena
      ∙ ap (by (Some one.arena))
      ((segments_are_told parts n one (inside parts spot one hands t there)
      (before parts spot one hands t there)).classes page low)
