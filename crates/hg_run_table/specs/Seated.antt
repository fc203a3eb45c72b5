-- The parts of a service in plain data, as seats of a table have them.
use Rattle.std.specs.Prelude.{◌≡◌, ℕ, ◌+◌, ◌<◌, List, length}
use Rattle.hg_machine.specs.Policy.{Policy}
use Rattle.hg_machine.specs.State.{State}
use Rattle.hg_history.specs.Service.{Service, IsIn}
use Rattle.hg_roles.specs.Roles.{Call, Role, of_worker, of_remote, of_pool, of_segment, RoleAgrees}
use Rattle.hg_roles.specs.Roles.{calls_in}
use Rattle.hg_roles.specs.Served.{running}
use Rattle.hg_run_table.specs.declared.part.PartName.{PartName}
use Rattle.hg_run_table.specs.declared.part.PartName.TheVariants.{Worker, Remote, Pool, Segment}
use Rattle.hg_run_table.specs.declared.part.Part.{Part}

-- the name of the part that has a role
abbrev pub name_in : Role → PartName
name_in (of_worker view log) = Worker view.worker
name_in (of_remote segment sent) = Remote segment
name_in (of_pool pooled) = Pool
name_in (of_segment segment) = Segment segment

-- the policy has such a part
abbrev pub IsThere : Policy → PartName → Type 0
IsThere policy (Worker number) = number < policy.workers
IsThere policy (Remote segment) = segment < length policy.segments
IsThere policy Pool = Unit {0}
IsThere policy (Segment segment) = segment < length policy.segments

-- the names in numbers: the workers' come first
abbrev pub number_of_name : Policy → PartName → ℕ
number_of_name policy (Worker number) = number
number_of_name policy (Remote segment) = policy.workers + segment
number_of_name policy Pool = policy.workers + length policy.segments
number_of_name policy (Segment segment) = policy.workers + length policy.segments + 1 + segment

-- A part has what a role has: it is of its name, with its log, and the part's witness agrees with
-- the role
pub record HasRole (part : Part) (role : Role) : Type 0 where
  pub named : name_in role ≡ part.name
  pub log : part.log ≡ calls_in role
  pub agrees : RoleAgrees role part.witness

-- each part of a view has the role that stands at its place
pub record HaveRoles (view : List Part) (roles : List Role) : Type 0 where
  pub count : length view ≡ length roles
  pub each :
      (j : ℕ) (part : Part) (role : Role) → IsIn view j part → IsIn roles j role → HasRole part role

-- A state agrees with a part where the policy has such a part, and where it agrees with each role of
-- that name with which the part's witness agrees
pub record PartAgrees (policy : Policy) (part : Part) (m : State) : Type 0 where
  pub there : IsThere policy part.name
  pub like :
      (role : Role) → name_in role ≡ part.name → RoleAgrees role part.witness → RoleAgrees role m

-- the running service, with parts in plain data
abbrev pub seated : Policy → Service State Call (List ℕ) Part
seated policy = record {
  Steps = (running policy).Steps;
  start = (running policy).start;
  Shows = (running policy).Shows;
  Agrees = PartAgrees policy;
  count = (running policy).count;
  name = λ part. number_of_name policy part.name;
  log = λ part. part.log;
}
