-- The remote list of a segment, over a table that keeps one run: its part of the run, by the places that it has.
use Rattle.std.specs.Prelude.{◌≡◌, ℕ, ◌+◌, ◌*◌, Bool, true, false, List, [], ◌∷◌, map, Option, Some, None}
use Rattle.atomic_table.specs.Seated.{TableId}
use Rattle.hg_place.specs.declared.Handle.{Handle}
use Rattle.hg_place.specs.declared.geometry.TheConstants.{SEGMENT_PLACES}
use Rattle.hg_place.specs.Places.{number_of}
use Rattle.hg_machine.specs.declared.Answer.{Answer}
use Rattle.hg_machine.specs.declared.Answer.TheVariants as answer
use Rattle.hg_agreement.specs.Views.{View}
use Rattle.hg_remote.specs.Remote.{Remote, contents, nothing_sent}
use Rattle.hg_remote.specs.Sends.{sent}
use Rattle.hg_roles.specs.Joined.{come_home}
use Rattle.hg_roles.specs.Roles.{of_remote}
use Rattle.hg_run_table.specs.JoinedCalls.{IsOthers}
use Rattle.hg_run_worker.specs.declared.list.RunList.{RunList}

-- the places of a list, by their numbers
abbrev pub numbers_of : ℕ → Remote → List ℕ
numbers_of segment remote = map (λ slot. segment * SEGMENT_PLACES + slot) (contents remote)

-- The list's part of the run is in a seat of the table that has nothing of words and lives, and has the places that
-- the list has
pub record IsListOf (id : TableId) (list : RunList) : Type 0 where
  pub same : list.call.seat.table_id ≡ id
  pub bare : list.call.seat.me.0.lives ≡ []
  pub part : IsOthers list.call (of_remote list.segment (numbers_of list.segment list.list))

-- it is the list of the segment of what is in hand
abbrev pub IsForHand : Option Handle → ℕ → Type 0
IsForHand None segment = Unit {0}
IsForHand (Some handle) segment = handle.place.segment ≡ segment

-- what is in hand is sent to the list, if something is
abbrev pub with_sent : Option Handle → Remote → Remote
with_sent None remote = remote
with_sent (Some handle) remote = sent remote handle.place.page handle.place.index

-- and the places that it has then
abbrev pub with_place : Option Handle → List ℕ → List ℕ
with_place None places = places
with_place (Some handle) places = number_of handle.place ∷ places

abbrev pub deliver_answer : Option Handle → Answer
deliver_answer None = answer.NothingInHand
deliver_answer (Some handle) = answer.Done

-- What a worker is answered that takes a list of so many places, where it holds the segment and where it doesn't;
-- what is left on the list; and what the worker has then
abbrev pub take_answer : Bool → ℕ → Answer
take_answer true sent = answer.Taken sent
take_answer false sent = answer.NotHeld

abbrev pub left_list : Bool → Remote → Remote
left_list true remote = nothing_sent
left_list false remote = remote

abbrev pub left_places : Bool → List ℕ → List ℕ
left_places true places = []
left_places false places = places

abbrev pub taken_view : Bool → View → List ℕ → View
taken_view true view places = come_home view places
taken_view false view places = view
