-- A Collect of a heap, tied.
use Rattle.std.proofs.Common.{◌≡◌, ℕ, ◌+◌, ◌*◌, ◌/◌, ◌%◌, ◌<◌, ◌≤◌, ◌&&◌, inl, inr, Bool, true}
use Rattle.std.proofs.Common.{false, cond, [], List, map, length, Option, Some, None, refl, sym, ap}
use Rattle.std.proofs.Common.{subst, ◌∙◌, arith, is_some, option_map, slice_get}
use Rattle.std.specs.List.{list_all, range_with_len}
use Rattle.std.proofs.lemmas.Bool.{cases_Bool, and_parts, and_right}
use Rattle.hg_place.specs.declared.standing.Standing.{Standing}
use Rattle.hg_place.specs.declared.standing.Standing.TheVariants.{Home}
use Rattle.hg_place.specs.Places.{segment_of, segment_of_page, page_of}
use Rattle.hg_place.specs.Standings.{standing_at, is_home}
use Rattle.hg_machine.specs.Policy.{Policy, arena_of}
use Rattle.hg_machine.proofs.Enough.{sums}
use Rattle.hg_segment.specs.Kept.{Kept, slot}
use Rattle.hg_segment.specs.Blocks.{block_of_class}
use Rattle.hg_agreement.specs.Agreement.{Ties}
use Rattle.hg_agreement.specs.Changed.{IsLike, collected}
use Rattle.hg_agreement.specs.Holdings.{Holding, holding_of, class_told, standing_told, block_told}
use Rattle.hg_agreement.specs.Holdings.{block_by, has}
use Rattle.hg_agreement.specs.Seen.{is_idle_in, is_given_up, idle_pages_in}
use Rattle.hg_agreement.specs.Views.{View, Shown}
use Rattle.hg_agreement.proofs.Collects.{collect_is_tied}
use Rattle.hg_agreement.proofs.Frames.{ties_are_like}
use Rattle.hg_heap.specs.Held.{Held, segment_in, class_by, class_on, all_pages}
use Rattle.hg_heap.specs.Idle.{is_idle, idle_pages, Collected, bare}
use Rattle.hg_heap.specs.Policies.{AreOf}
use Rattle.hg_heap.specs.Ties.{holding, heap_view, HeapTies}
use Rattle.hg_heap.proofs.CollectLoop.{idle_low}
use Rattle.hg_heap.proofs.Founds.{inside_of}
use Rattle.hg_heap.proofs.Options.{is_some_map}
use Rattle.hg_heap.proofs.Idles.{all_shift, home_at, home_by, idle_is, rest_in}
use Rattle.hg_heap.proofs.ViewRoom.{holding_in, view_holds, found_one}
use Rattle.hg_heap.proofs.Sums.{home_blocks, none_lost, sum_ends, three}
use Rattle.hg_machine.specs.declared.Event.TheVariants as event
use Rattle.hg_machine.specs.declared.Answer.TheVariants as answer

module _ {S : Type 0} (number : S → ℕ) (records : S → List Standing) where
  -- what is told of a page or a place, by the segment
  class_is : (o : Option (Kept S)) (page : ℕ)
      → class_told (option_map (holding number records) o) page ≡ class_by number o page
  class_is None page = refl
  class_is (Some k) page = refl

  abbrev standing_in : Option (Kept S) → ℕ → Standing
  standing_in None at = Home 0
  standing_in (Some k) at = standing_at (records k.slots) at

  standing_is : (o : Option (Kept S)) (at : ℕ)
      → standing_told (option_map (holding number records) o) at
      ≡ standing_in (option_map bare o) at
  standing_is None at = refl
  standing_is (Some k) at = refl

  abbrev block_in : Option (Kept S) → ℕ → Option ℕ → List ℕ
  block_in None at class = []
  block_in (Some k) at class =
      block_by (standing_at (records k.slots) at)
      (block_of_class k.words (at / 512) (at % 512) class)

  block_is : (o : Option (Kept S)) (at : ℕ)
      → block_told (option_map (holding number records) o) at
      ≡ block_in (option_map bare o) at (class_by number o (at / 512))
  block_is None at = refl
  block_is (Some k) at = refl

  -- on a page whose places are home no block has words
  home_told : (o : Option (Kept S)) (page at : ℕ) → at / 512 ≡ page
      → home_by number records o page ≡ true
      → (class other : Option ℕ) → block_in (option_map bare o) at class
      ≡ block_in (option_map bare o) at other
  home_told None page at there home class other = refl
  home_told (Some k) page at there home class other =
      let small : at % 512 < 512 = omega arith in
      let same : slot page (at % 512) ≡ at = omega (arith, there) in
      home_blocks (standing_at (records k.slots) at)
      (block_of_class k.words (at / 512) (at % 512) class)
      (block_of_class k.words (at / 512) (at % 512) other)
      (ap (λ (n : ℕ). is_home (standing_at (records k.slots) n)) (sym same)
      ∙ home_at (records k.slots) page home (at % 512) small)

  abbrev all_home : Option Holding → ℕ → Bool
  all_home o page =
      list_all (λ index. is_home (standing_told o (slot page index))) (range_with_len 0 512)

  given_by : (o : Option (Kept S)) (page : ℕ) → (is_some (option_map (holding number records) o)
      && all_home (option_map (holding number records) o) page) ≡ home_by number records o page
  given_by None page = refl
  given_by (Some k) page = refl

  module _ (policy : Policy) (worker : ℕ) (hand : Option ℕ) (generation : ℕ)
      (old : List (Kept S)) where
    abbrev view : View
    view = heap_view number records policy worker hand generation old

    abbrev hs : List Holding
    hs = map (holding number records) old

    -- the places of a page in the view
    idle_seen : (page : ℕ) → is_idle_in view page
        ≡ all_home (holding_of hs (segment_of_page page)) (page % 16)
    idle_seen page =
        all_shift (λ place. is_home (standing_told (holding_of hs (segment_of place))
        (place % 8192)))
        (λ index. is_home (standing_told (holding_of hs (segment_of_page page))
        (slot (page % 16) index)))
        (page * 512) 0 512 (λ k lt.
        let s : segment_of (page * 512 + k) ≡ segment_of_page page = omega (arith, lt) in
        let r : (page * 512 + k) % 8192 ≡ slot (page % 16) (0 + k) = omega (arith, lt) in
        ap (λ (n : ℕ). is_home (standing_told (holding_of hs n) ((page * 512 + k) % 8192))) s
        ∙ ap (λ (n : ℕ). is_home (standing_told (holding_of hs (segment_of_page page)) n)) r)

    given_is : (page : ℕ) → is_given_up view page
        ≡ home_by number records (segment_in number old (segment_of_page page)) (page % 16)
    given_is page =
        ap (λ (b : Bool). has hs (segment_of_page page) && b) (idle_seen page)
        ∙ ap (λ (o : Option Holding). is_some o && all_home o (page % 16))
        (holding_in number records old (segment_of_page page))
        ∙ given_by (segment_in number old (segment_of_page page)) (page % 16)

    class_seen : (page : ℕ) → view.class page ≡ class_on number old page
    class_seen page =
        ap (λ (o : Option Holding). class_told o (page % 16))
        (holding_in number records old (segment_of_page page))
        ∙ class_is (segment_in number old (segment_of_page page)) (page % 16)

    idle_page : (page : ℕ) → (view.holds (segment_of_page page)
        && (is_idle_in view page && is_some (view.class page)))
        ≡ is_idle number records old page
    idle_page page =
        three (view.holds (segment_of_page page)) (is_idle_in view page)
        (is_some (view.class page))
        ∙ ap (λ (c : Option ℕ). is_some c && is_given_up view page) (class_seen page)
        ∙ ap (λ (b : Bool). is_some (class_on number old page) && b) (given_is page)
        ∙ sym (idle_is number records old page)

    -- beyond the pages of the policy none is idle
    idle_beyond : AreOf number policy old → (page : ℕ) → length policy.segments * 16 ≤ page
        → is_idle number records old page ≡ false
    idle_beyond of page far =
        idle_is number records old page
        ∙ and_right (is_some (class_on number old page))
        (home_by number records (segment_in number old (segment_of_page page)) (page % 16))
        (none (segment_in number old (segment_of_page page)) refl)
      where
        none : (o : Option (Kept S)) → segment_in number old (segment_of_page page) ≡ o
            → home_by number records o (page % 16) ≡ false
        none None e = refl
        none (Some k) e =
            let f = found_one number records old (segment_of_page page) k e in
            let a : slice_get policy.segments (segment_of_page page) ≡ Some k.arena =
            ap (arena_of policy) (sym f.1) ∙ of.arena k f.0 in
            let b = inside_of policy.segments (segment_of_page page) k.arena a in
            absurd (omega (arith, b, far))

    -- the view has as many idle pages as the heap
    idle_count : ((s : S) → number s < 64) → AreOf number policy old
        → idle_pages_in view ≡ idle_pages number records old
    unfolding all_pages
    idle_count small of =
        let idle = is_idle number records old in
        sums (λ page. cond (view.holds (segment_of_page page)
        && (is_idle_in view page && is_some (view.class page))) 1 0)
        (λ page. cond (idle page) 1 0)
        (range_with_len 0 (length policy.segments * 16))
        (λ page. ap (λ (b : Bool). cond b 1 0) (idle_page page))
        ∙ sum_ends (λ page. cond (idle page) 1 0) (length policy.segments * 16) 1024
        (λ page far. ap (λ (b : Bool). cond b 1 0) (idle_beyond of page far))
        (λ page far. ap (λ (b : Bool). cond b 1 0) (idle_low number records small old page far))

    module _ (new : List (Kept S)) (rest : map bare new ≡ map bare old)
        (classes : (page : ℕ) → class_on number new page
        ≡ cond (is_idle number records old page) None (class_on number old page)) where
      abbrev after : View
      after = heap_view number records policy worker hand generation new

      same_at : (segment : ℕ) → option_map bare (segment_in number new segment)
          ≡ option_map bare (segment_in number old segment)
      same_at segment = rest_in number records new old segment rest

      held_same : (segment : ℕ) → after.holds segment ≡ view.holds segment
      held_same segment =
          view_holds number records new segment
          ∙ sym (is_some_map bare (segment_in number new segment))
          ∙ ap is_some (same_at segment)
          ∙ is_some_map bare (segment_in number old segment)
          ∙ sym (view_holds number records old segment)

      class_same : (page : ℕ) → after.class page
          ≡ cond (is_given_up view page) None (view.class page)
      class_same page =
          ap (λ (o : Option Holding). class_told o (page % 16))
          (holding_in number records new (segment_of_page page))
          ∙ class_is (segment_in number new (segment_of_page page)) (page % 16)
          ∙ classes page
          ∙ ap (λ (b : Bool). cond b None (class_on number old page))
          (idle_is number records old page)
          ∙ none_lost (class_on number old page)
          (home_by number records (segment_in number old (segment_of_page page)) (page % 16))
          ∙ ap (λ (b : Bool). cond b None (class_on number old page)) (sym (given_is page))
          ∙ ap (λ (c : Option ℕ). cond (is_given_up view page) None c) (sym (class_seen page))

      standing_same : (place : ℕ) → after.standing place ≡ view.standing place
      standing_same place =
          let s = segment_of place in
          let at = place % 8192 in
          ap (λ (o : Option Holding). standing_told o at) (holding_in number records new s)
          ∙ standing_is (segment_in number new s) at
          ∙ ap (λ (o : Option (Kept S)). standing_in o at) (same_at s)
          ∙ sym (standing_is (segment_in number old s) at)
          ∙ sym (ap (λ (o : Option Holding). standing_told o at)
          (holding_in number records old s))

      block_same : (place : ℕ) → after.block place ≡ view.block place
      block_same place =
          let s = segment_of place in
          let at = place % 8192 in
          let page = page_of place in
          let own : s ≡ segment_of_page page = omega arith in
          let low : at / 512 ≡ page % 16 = omega arith in
          let there : (segments : List (Kept S))
          → class_by number (segment_in number segments s) (at / 512)
          ≡ class_on number segments page =
          λ segments. ap (λ (n : ℕ). class_by number (segment_in number segments n) (at / 512))
          own
          ∙ ap (class_by number (segment_in number segments (segment_of_page page))) low in
          let now = block_in (option_map bare (segment_in number old s)) at in
          ap (λ (o : Option Holding). block_told o at) (holding_in number records new s)
          ∙ block_is (segment_in number new s) at
          ∙ ap (λ (o : Option (Kept S)). block_in o at
          (class_by number (segment_in number new s) (at / 512))) (same_at s)
          ∙ ap now (there new ∙ classes page)
          ∙ elim (cases_Bool (is_idle number records old page))
          as (λ _. now (cond (is_idle number records old page) None (class_on number old page))
          ≡ now (class_on number old page)) [
            | inl t ↦ home_told (segment_in number old s) (page % 16) at low
                (ap (λ (n : ℕ). home_by number records (segment_in number old n) (page % 16)) own
                ∙ (and_parts (is_some (class_on number old page))
                (home_by number records (segment_in number old (segment_of_page page))
                (page % 16)) (sym (idle_is number records old page) ∙ t)).1)
                (cond (is_idle number records old page) None (class_on number old page))
                (class_on number old page)
            | inr f ↦ ap (λ (b : Bool). now (cond b None (class_on number old page))) f
          ]
          ∙ ap now (sym (there old))
          ∙ sym (block_is (segment_in number old s) at)
          ∙ sym (ap (λ (o : Option Holding). block_told o at) (holding_in number records old s))

      like : IsLike (collected view) after
      like = record {
        policy = refl;
        worker = refl;
        holding = held_same;
        classes = λ page held. class_same page;
        standings = λ place held. standing_same place;
        blocks = λ place held. block_same place;
        hand = refl;
      }

  -- what a Collect left and answered is tied
  pub collect_ties : ((s : S) → number s < 64) → (policy : Policy) (old new : Held S)
      → AreOf number policy old.segments → Collected number records old new
      → (count : ℕ) → count ≡ idle_pages number records old.segments → (shown : Option Shown)
      → HeapTies number records policy shown shown event.Collect (answer.Pages count)
      old.segments new.segments
  collect_ties small policy old new of after count is shown worker hand generation below =
      let before = heap_view number records policy worker hand generation old.segments in
      let now = heap_view number records policy worker hand generation new.segments in
      ties_are_like before (collected before) now shown shown event.Collect (answer.Pages count)
      (like policy worker hand generation old.segments new.segments after.rest after.classes)
      (subst (λ (n : ℕ). Ties before shown event.Collect (answer.Pages n) (collected before) shown)
      (idle_count policy worker hand generation old.segments small of ∙ sym is)
      (collect_is_tied before shown below))
