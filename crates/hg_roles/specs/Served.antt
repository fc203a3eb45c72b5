-- A running service as one whose calls may be one run: its machine, its words, its parts.
use Rattle.std.specs.Prelude.{◌≡◌, ℕ, ◌+◌, ◌*◌, ◌<◌, List, length, slice_index}
use Rattle.hg_place.specs.declared.geometry.TheConstants.{SEGMENT_PLACES}
use Rattle.hg_machine.specs.Policy.{Policy}
use Rattle.hg_machine.specs.State.{State, opening, record_at}
use Rattle.hg_machine.specs.Shown.{IsShownBy}
use Rattle.hg_machine.specs.Soundness.{IsSound}
use Rattle.hg_machine.specs.Steps.{Step}
use Rattle.hg_history.specs.Service.{Service}
use Rattle.hg_roles.specs.Roles.{Call, Role, RoleAgrees, name_of, calls_in}

abbrev pub places_of_policy : Policy → ℕ
places_of_policy policy = length policy.segments * SEGMENT_PLACES

-- the words of a table show a sound state of the policy: the word of each place shows its record;
-- word 0 is the spare one
pub record WordsShow (policy : Policy) (words : List ℕ) (m : State) : Type 0 where
  pub sound : IsSound m
  pub same : m.policy ≡ policy
  pub all_words : length words ≡ places_of_policy policy + 1
  pub each :
      (place : ℕ) → place < places_of_policy policy
      → IsShownBy (record_at m place) (slice_index words (place + 1))

-- workers, remote lists, the pool and the seats of segments, over the words of a table
abbrev pub running : Policy → Service State Call (List ℕ) Role
running policy = record {
  Steps = λ old who call new. Step old who call.0 call.1 new;
  start = opening policy;
  Shows = WordsShow policy;
  Agrees = RoleAgrees;
  count = policy.workers + length policy.segments + 1 + length policy.segments;
  name = name_of policy;
  log = calls_in;
}
