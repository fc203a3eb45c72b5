-- Parts that became those of a core in which a place is lost.
use Rattle.std.proofs.Common.{◌≡◌, length, subst, sym}
use Rattle.hg_audit.specs.declared.parts.Parts.{Parts}
use Rattle.hg_close.specs.Closed.{AreLost}
use Rattle.hg_close.specs.Moved.{AreOver}
use Rattle.hg_machine.specs.Policy.{Policy}
use Rattle.hg_worker.specs.Missing.{HasAll}
use Rattle.hg_worker.specs.Seats.{number_in, records_in, seat_shows, seat_steps}
use Rattle.hg_service.specs.declared.caller_locked.CallerLocked.{CallerLocked}
use Rattle.hg_service.specs.declared.unclosed.UnclosedParts.{UnclosedParts}
use Rattle.hg_service.specs.declared.unclosed.UnclosedParts.TheVariants as parts
use Rattle.hg_service.specs.Back.{AreBack}
use Rattle.hg_service.specs.GivenBack.{AreListsOf}
use Rattle.hg_service.specs.Unclosed.{AreUnclosed, IsLostOf}

-- the parts of a core in which a place is lost are those that these became
pub unclosed_as : {N : _} {own : _} {table : _} {policy : Policy} (given : CallerLocked N own table)
    (made : Parts) (left : UnclosedParts N own table) → made.policy ≡ policy
    → HasAll number_in given.pool.pool (length policy.segments)
    → AreBack given.workers.items policy.workers
    → AreOver number_in records_in seat_shows seat_steps given.pool.pool made.pool
    → AreListsOf given.lists.items (length policy.segments) made.remotes.items
    → IsLostOf made left → AreUnclosed policy given left
unclosed_as given made (parts.Running same why) of all back over lists is = absurd is
unclosed_as {policy = policy} given made (parts.Lost place lost) of all back over lists is =
    let same = sym is.1 in (
      subst (λ policy. AreLost policy place lost) of is.0,
      all,
      back,
      subst (λ (lost : Parts). AreOver number_in records_in seat_shows seat_steps given.pool.pool lost.pool) same over,
      subst (λ (lost : Parts). AreListsOf given.lists.items (length policy.segments)
          lost.remotes.items) same lists,
    )
