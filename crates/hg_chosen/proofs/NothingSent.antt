-- Nothing is sent to a segment any more, in the lists of a core's parts.
use Rattle.std.proofs.Common.{◌≡◌, ◌≢◌, ℕ, ◌+◌, ◌*◌, ◌%◌, ◌==◌, ◌<◌, ◌≤◌, cond, List, [], ◌∷◌}
use Rattle.std.proofs.Common.{length, map, slice_set, set, refl, sym, ap, ◌∙◌, arith, inl, inr}
use Rattle.std.specs.List.{range_with_len}
use Rattle.std.proofs.lemmas.Bool.{cases_eq, eq-eqb, ne_eqb}
use Rattle.std.proofs.lemmas.List.{get_or-set_other, get_or-set_same, get_or-replicate}
use Rattle.std.proofs.lemmas.List.FromFn.{length-map-range_with_len, get_or-map-range_with_len}
use Rattle.hg_place.specs.Places.{segment_of_page}
use Rattle.hg_remote.specs.Remote.{nothing_sent}
use Rattle.hg_machine.specs.Lists.{Lists, list_at}
use Rattle.hg_machine.specs.State.{State, pages_in}
use Rattle.hg_agreement.specs.Parts.{Parts, lists_of, state_of, remote_at, no_remote, thread_at}
use Rattle.hg_agreement.specs.Parts.{thread_of, delayed_of, places_from}
use Rattle.hg_agreement.proofs.Lookups.{maps_below, map_set}
use Rattle.hg_parts.specs.Rights.{remote_from}
use Rattle.hg_choice.specs.ListsAfter.{came_home, all_home}

-- places that come home leave the remote lists
pub home_threads : (s : State) (l : Lists) (places : List ℕ)
    → (all_home s l places).thread_free ≡ l.thread_free
home_threads s l [] = refl
home_threads s l (place ∷ places) = home_threads s (came_home s l place) places

pub home_delayed : (s : State) (l : Lists) (places : List ℕ)
    → (all_home s l places).delayed ≡ l.delayed
home_delayed s l [] = refl
home_delayed s l (place ∷ places) = home_delayed s (came_home s l place) places

-- nothing is sent to a segment, in parts and in lists
module _ (parts : Parts) (n : ℕ) (low : n < length parts.policy.segments)
    (long : length parts.remotes ≡ length parts.policy.segments) where
  abbrev pub emptied : Parts
  emptied = record parts { remotes = slice_set parts.remotes n (remote_from nothing_sent) }

  here : remote_at emptied n ≡ remote_from nothing_sent
  here =
      get_or-set_same parts.remotes n (remote_from nothing_sent) no_remote
      (omega (arith, low, long))

  else_where : (m : ℕ) → m ≢ n → remote_at emptied m ≡ remote_at parts m
  else_where m ne =
      get_or-set_other parts.remotes n m (remote_from nothing_sent) no_remote ne

  threads_here : (page : ℕ) → segment_of_page page ≡ n → thread_of emptied page ≡ []
  threads_here page e =
      ap (λ m. places_from (m * 8192) (thread_at (remote_at emptied m) (page % 16))) e
      ∙ ap (λ r. places_from (n * 8192) (thread_at r (page % 16))) here
      ∙ ap (places_from (n * 8192)) (get_or-replicate 16 (page % 16) [] [] (omega arith))

  threads_else : (page : ℕ) → segment_of_page page ≢ n → thread_of emptied page
      ≡ thread_of parts page
  threads_else page ne =
      ap (λ r. places_from (segment_of_page page * 8192) (thread_at r (page % 16)))
      (else_where (segment_of_page page) ne)

  abbrev count : ℕ
  count = length parts.policy.segments

  abbrev s : State
  s = state_of parts

  abbrev threads : List (List ℕ)
  threads = map (thread_of parts) (range_with_len 0 (count * 16))

  threads_each : (page : ℕ) → 0 ≤ page → page < 0 + count * 16
      → thread_of emptied page
      ≡ cond (segment_of_page page == n) [] (list_at threads page)
  threads_each page at_least below =
      let told : list_at threads page ≡ thread_of parts page =
      get_or-map-range_with_len (thread_of parts) 0 (count * 16) page page []
      (omega (arith, below)) (omega arith) in
      elim (cases_eq (segment_of_page page) n) [
        | inl e ↦
            threads_here page e
            ∙ sym (ap (λ b. cond b [] (list_at threads page)) (eq-eqb (segment_of_page page) n e))
        | inr ne ↦
            threads_else page ne
            ∙ sym told
            ∙ sym (ap (λ b. cond b [] (list_at threads page)) (ne_eqb (segment_of_page page) n ne))
      ]

  pages_are : pages_in s ≡ range_with_len 0 (count * 16)
  pages_are = ap (range_with_len 0) (length-map-range_with_len _ 0 (count * 16))

  pub thread_lists : (lists_of emptied).thread_free
      ≡ map (λ page. cond (segment_of_page page == n) [] (list_at threads page)) (pages_in s)
  thread_lists =
      maps_below (thread_of emptied)
      (λ page. cond (segment_of_page page == n) [] (list_at threads page)) 0 (count * 16)
      threads_each
      ∙ ap (map (λ page. cond (segment_of_page page == n) [] (list_at threads page)))
      (sym pages_are)

  pub delayed_lists : (lists_of emptied).delayed ≡ slice_set (lists_of parts).delayed n []
  delayed_lists =
      map_set (delayed_of parts) (delayed_of emptied) count n [] low
      (λ m ne. ap (λ r. places_from (m * 8192) r.delayed) (else_where m ne))
      ∙ ap (λ r. set (map (delayed_of parts) (range_with_len 0 count)) n
      (places_from (n * 8192) r.delayed)) here
