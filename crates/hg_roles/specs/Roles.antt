-- What the seats of a running service have for the run of all calls, by role.
use Rattle.std.specs.Prelude.{◌≡◌, ℕ, ◌+◌, ◌==◌, Bool, true, List, [], length, Option, None}
use Rattle.std.specs.Prelude.{count_by}
use Rattle.hg_place.specs.Places.{segment_of, segment_of_page}
use Rattle.hg_place.specs.Words.{bit_of}
use Rattle.hg_place.specs.declared.standing.Standing.{Standing}
use Rattle.hg_machine.specs.declared.Event.{Event}
use Rattle.hg_machine.specs.declared.Answer.{Answer}
use Rattle.hg_machine.specs.Life.{contents_of}
use Rattle.hg_machine.specs.Policy.{Policy}
use Rattle.hg_machine.specs.State.{State, record_at, class_at, holder_at}
use Rattle.hg_machine.specs.Holders.{is_fresh}
use Rattle.hg_machine.specs.Sweeps.{is_sent_to}
use Rattle.hg_agreement.specs.Views.{View}
use Rattle.hg_agreement.specs.Agreement.{Agrees, standing_of}
use Rattle.hg_frame.specs.Pool.{is_pooled}

-- what the pool has: the orphans, oldest first, which segments are fresh, and of the segments that
-- nobody holds the class of each page, the standing of each place and the words of its block
pub record Pooled : Type 0 where
  pub orphans : List ℕ
  pub fresh : ℕ → Bool
  pub class : ℕ → Option ℕ
  pub standing : ℕ → Standing
  pub block : ℕ → List ℕ

-- a call: its event, and its answer
abbrev pub Call : Type 0
Call = Event × Answer

-- A part of a seat's view: a worker, with what it has and its calls so far, in their order; the
-- remote list of a segment, with the places that are sent to it; the pool; or the seat of a
-- segment, which has nothing of the machine's state by itself
pub data Role : Type 0 where
  of_worker : View → List Call → Role
  of_remote : ℕ → List ℕ → Role
  of_pool : Pooled → Role
  of_segment : ℕ → Role

-- what a part has logged: workers alone make calls
abbrev pub calls_in : Role → List Call
calls_in (of_worker view log) = log
calls_in role = []

-- each place that is sent to the segment stands once in the list, and no other does
abbrev pub RemoteAgrees : State → ℕ → List ℕ → Type 0
RemoteAgrees m segment sent =
    (place : ℕ) → count_by (λ other. other == place) sent ≡ bit_of (is_sent_to m segment place)

-- the state has these orphans and fresh segments, and the same of the segments that nobody holds
pub record PoolAgrees (m : State) (p : Pooled) : Type 0 where
  pub orphans : m.orphans ≡ p.orphans
  pub fresh : (segment : ℕ) → is_fresh (holder_at m segment) ≡ p.fresh segment
  pub classes :
      (page : ℕ) → is_pooled (holder_at m (segment_of_page page)) ≡ true
      → class_at m page ≡ p.class page
  pub standings :
      (place : ℕ) → is_pooled (holder_at m (segment_of place)) ≡ true
      → standing_of (record_at m place) ≡ p.standing place
  pub blocks :
      (place : ℕ) → is_pooled (holder_at m (segment_of place)) ≡ true
      → contents_of (record_at m place).life ≡ p.block place

-- the state agrees with what has this role
abbrev pub RoleAgrees : Role → State → Type 0
RoleAgrees (of_worker view log) m = Agrees m view None
RoleAgrees (of_remote segment sent) m = RemoteAgrees m segment sent
RoleAgrees (of_pool pooled) m = PoolAgrees m pooled
RoleAgrees (of_segment segment) m = Unit {0}

-- each role is of another name: the workers' numbers come first
abbrev pub name_of : Policy → Role → ℕ
name_of policy (of_worker view log) = view.worker
name_of policy (of_remote segment sent) = policy.workers + segment
name_of policy (of_pool pooled) = policy.workers + length policy.segments
name_of policy (of_segment segment) = policy.workers + length policy.segments + 1 + segment
