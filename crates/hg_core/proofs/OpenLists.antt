-- A core that opens has nothing on a list or in a queue.
use Rattle.std.proofs.Common.{◌≡◌, ℕ, ◌*◌, ◌%◌, ◌<◌, ◌==◌, ◌&&◌, Bool, true, false, [], ◌∷◌, ◌++◌}
use Rattle.std.proofs.Common.{List, length, map, None, replicate, slice_index_or, refl, ap, ◌∙◌}
use Rattle.std.proofs.Common.{arith}
use Rattle.std.specs.List.{AllByRecursion}
use Rattle.std.proofs.lemmas.Bool.{eq-eqb}
use Rattle.std.proofs.lemmas.List.{length-replicate, get_or-map}
use Rattle.std.proofs.lemmas.List.FromFn.{length-map-range_with_len, get_or-map-range_with_len}
use Rattle.hg_place.specs.declared.plain.PlainWords.{PlainWords}
use Rattle.hg_place.specs.Places.{page_of, segment_of_page}
use Rattle.hg_place.specs.Words.{bit_of}
use Rattle.hg_queue.specs.Queues.{queue_of, AreQueues}
use Rattle.hg_remote.specs.Remote.{nothing_sent}
use Rattle.hg_heap.specs.Held.{Held}
use Rattle.hg_machine.specs.State.{State, opening}
use Rattle.hg_machine.specs.Lists.{Lists, IsPartition, list_at, free_in, is_free, is_free_as, times}
use Rattle.hg_machine.proofs.Opening.{all_same}
use Rattle.hg_agreement.specs.Parts.{Parts, state_of, lists_of, kept_of, free_of, local_of}
use Rattle.hg_agreement.specs.Parts.{thread_of, delayed_of, places_from, remote_at, thread_at}
use Rattle.hg_agreement.specs.Parts.{no_remote}
use Rattle.hg_agreement.proofs.Firsts.{count_cons}
use Rattle.hg_parts.specs.Rights.{remote_from}
use Rattle.hg_events.specs.Core.{Core, parts_of}
use Rattle.hg_core.specs.declared.stores.Stores.TheInside.{Inside}
use Rattle.hg_core.specs.Opening.{empty_queues, opened}
use Rattle.hg_core.specs.Stored.{core_of}
use Rattle.hg_core.proofs.Kept.{kept_sound}
use Rattle.hg_core.proofs.Opens.{OpensWith, all_alike, is_opening, opens}

-- queues without pages
pub queues_none : (queues : List (List ℕ)) → AreQueues queues
    → ((key : ℕ) → queue_of queues key ≡ []) → queues ≡ empty_queues
queues_none queues are none = all_alike queues 576 [] are.all (λ key below. none key)

-- heaps that all have these queues
queues_alike : (hs : List (Held PlainWords)) (queues : List (List ℕ))
    → AllByRecursion (λ h. h.queues ≡ queues) hs
    → map (λ h. h.queues) hs ≡ replicate (length hs) queues
queues_alike [] queues all = refl
queues_alike (h ∷ hs) queues all =
    ap (λ q. q ∷ map (λ x. x.queues) hs) all.0
    ∙ ap (λ qs. queues ∷ qs) (queues_alike hs queues all.1)

-- a list on which no number stands is empty
nothing_on : (xs : List ℕ) → ((x : ℕ) → times x xs ≡ 0) → xs ≡ []
nothing_on [] none = refl
nothing_on (x ∷ xs) none =
    let own : bit_of (x == x) ≡ 1 = ap bit_of (eq-eqb x x refl) in
    absurd (omega (arith, count_cons (λ k. k == x) x xs, own, none x))

both_empty : (xs ys : List ℕ) → xs ++ ys ≡ [] → (xs ≡ []) × (ys ≡ [])
both_empty [] ys e = (refl, e)
both_empty (x ∷ xs) ys e = absurd (cc)

and_false : (b : Bool) → (b && false) ≡ false
and_false true = refl
and_false false = refl

module _ (a : Inside) (workers segments : ℕ) (is : OpensWith a workers segments) where
  abbrev core : Core
  core = core_of a

  abbrev parts : Parts
  parts = parts_of core

  abbrev l : Lists
  l = lists_of parts

  abbrev count : ℕ
  count = length a.policy.segments

  abbrev pages : ℕ
  pages = length a.policy.segments * 16

  partition : IsPartition (kept_of parts)
  partition = (kept_sound core (opens a workers segments is).kept).1

  -- no page has a class, and so no free place
  not_free : (page place : ℕ) → is_free (state_of parts) page place ≡ false
  not_free page place =
      ap (λ (s : State). is_free s page place) (is_opening a workers segments is)
      ∙ ap (λ c. page_of place == page && is_free_as (opening a.policy) place c)
      (all_same pages page None)
      ∙ and_false (page_of place == page)

  none_free : (page : ℕ) → (list_at l.free page ≡ []) × (list_at l.local_free page ≡ [])
  none_free page =
      both_empty (list_at l.free page) (list_at l.local_free page)
      (nothing_on (free_in l page)
      (λ place. (partition place).free page ∙ ap bit_of (not_free page place)))

  free_is : l.free ≡ replicate pages []
  free_is = all_alike l.free pages [] (length-map-range_with_len (free_of parts) 0 pages)
      (λ page below. (none_free page).0)

  local_is : l.local_free ≡ replicate pages []
  local_is = all_alike l.local_free pages [] (length-map-range_with_len (local_of parts) 0 pages)
      (λ page below. (none_free page).1)

  -- nothing was sent
  remote_is : (n : ℕ) → n < count → remote_at parts n ≡ remote_from nothing_sent
  remote_is n below =
      ap (λ rs. slice_index_or (map remote_from rs) n no_remote) is.remotes
      ∙ get_or-map remote_from (replicate segments nothing_sent) n nothing_sent no_remote
      (omega (arith, below, is.segments_are, length-replicate segments nothing_sent))
      ∙ ap remote_from (all_same segments n nothing_sent)

  thread_is : l.thread_free ≡ replicate pages []
  thread_is = all_alike l.thread_free pages [] (length-map-range_with_len (thread_of parts) 0 pages)
      (λ page below.
      get_or-map-range_with_len (thread_of parts) 0 pages page page [] below (omega arith)
      ∙ ap (λ r. places_from (segment_of_page page * 8192) (thread_at r (page % 16)))
      (remote_is (segment_of_page page) (omega (arith, below)))
      ∙ ap (places_from (segment_of_page page * 8192)) (all_same 16 (page % 16) []))

  delayed_is : l.delayed ≡ replicate count []
  delayed_is = all_alike l.delayed count [] (length-map-range_with_len (delayed_of parts) 0 count)
      (λ n below.
      get_or-map-range_with_len (delayed_of parts) 0 count n n [] below (omega arith)
      ∙ ap (λ r. places_from (n * 8192) r.delayed) (remote_is n below))

  lists_are : l ≡ (opened a.policy).lists
  lists_are =
      ap (λ xs. record l { free = xs }) free_is
      ∙ ap (λ xs. record l { free = replicate pages []; local_free = xs }) local_is
      ∙ ap (λ xs. record {
        free = replicate pages [];
        local_free = replicate pages [];
        thread_free = xs;
        delayed = l.delayed;
      }) thread_is
      ∙ ap (λ xs. record (opened a.policy).lists { delayed = xs }) delayed_is

  queues_are : parts.queues ≡ replicate a.policy.workers empty_queues
  queues_are =
      queues_alike core.heaps empty_queues is.queues
      ∙ ap (λ n. replicate n empty_queues) (is.heaps ∙ is.workers_are)

  pub is_opened : kept_of parts ≡ opened a.policy
  is_opened =
      ap (λ s. record { state = s; lists = l; queues = parts.queues })
      (is_opening a workers segments is)
      ∙ ap (λ x. record { state = opening a.policy; lists = x; queues = parts.queues }) lists_are
      ∙ ap (λ qs. record (opened a.policy) { queues = qs }) queues_are
