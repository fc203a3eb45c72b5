-- How an actor stands to a right on the blocks of an owner.
use Rattle.std.specs.Prelude.{ℕ, ◌&&◌, Bool, Option, Some, None, length, if◌then◌else◌}
use Rattle.std.specs.List.{list_any, range_with_len}
use Rattle.hg_place.specs.declared.Right.{Right}
use Rattle.hg_machine.specs.Policy.{Policy, arena_of}
use Rattle.hg_machine.specs.Denial.{is_admitted}
use Rattle.hg_policy.specs.Refusals.{refusal_of}
use Rattle.hg_policy.specs.declared.granted.Refusal.{Refusal}
use Rattle.hg_policy.specs.declared.granted.Refusal.TheVariants as refusal
use Rattle.hg_show.specs.declared.standings.Standing.{Standing}
use Rattle.hg_show.specs.declared.standings.Standing.TheVariants as standing

-- the arena of the segment admits the tenant
abbrev pub may_hold : Policy → ℕ → ℕ → Bool
may_hold policy tenant segment = is_admitted policy (arena_of policy segment) tenant

abbrev pub may_both_hold : Policy → ℕ → ℕ → ℕ → Bool
may_both_hold policy owner actor segment =
    may_hold policy owner segment && may_hold policy actor segment

-- there is a segment whose arena admits both
abbrev pub may_share : Policy → ℕ → ℕ → Bool
may_share policy owner actor =
    list_any (may_both_hold policy owner actor) (range_with_len 0 (length policy.segments))

-- what isn't refused is of use where both may share a segment
abbrev pub standing_by : Bool → Option Refusal → Standing
standing_by shares None = if shares then standing.Granted else standing.Apart
standing_by shares (Some refusal.NotGranted) = standing.NotGranted
standing_by shares (Some refusal.Forbidden) = standing.Denied

abbrev pub standing_of : Policy → ℕ → ℕ → Right → Standing
standing_of policy owner actor right =
    standing_by (may_share policy owner actor) (refusal_of policy owner actor right)
