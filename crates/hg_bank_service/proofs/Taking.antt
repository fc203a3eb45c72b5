-- One core is asked for a segment.
use Rattle.std.proofs.Common.{◌≡◌, ℕ, ◌+◌, ◌<◌, List, length, Option, None, Some, MatchOption}
use Rattle.std.proofs.Common.{sym, subst, ◌∙◌}
use Rattle.std.proofs.lemmas.List.{length-set}
use Rattle.hg_machine.specs.declared.Answer.{Answer}
use Rattle.hg_machine.specs.declared.Answer.TheVariants as answer
use Rattle.hg_machine.specs.declared.Event.TheVariants as event
use Rattle.hg_machine.specs.Policy.{Policy}
use Rattle.hg_hosted.specs.declared.worker.HostedWorker.{HostedWorker}
use Rattle.hg_hosted.specs.Behind.{TakesOne}
use Rattle.hg_hosted.specs.Serving.{Serves}
use Rattle.hg_hosted.specs.Waiting.{Waits}
use Rattle.hg_hosted.proofs.Undone.{each_set}
use Rattle.hg_bank_service.specs.Asking.{ServesAt}
use Rattle.hg_bank_service.specs.Choosing.{AreAsked, IsServed}
use Rattle.hg_hosted.specs.Has.{Has}
use Rattle.hg_bank_service.specs.Has.{AreNumbered, IsNumbered}
use Rattle.hg_bank_service.specs.Order.{turn}
use Rattle.hg_bank_service.specs.Refilling.{AnswersRefill}
use Rattle.hg_bank_service.specs.Searching.{EndsSo, IsSearched, segment_given}
use Rattle.hg_bank_service.specs.Sums.{AreSums}
use Rattle.hg_bank_service.specs.declared.refilling.Found.{Found}
use Rattle.hg_bank_service.specs.declared.refilling.Found.TheVariants as found
use Rattle.hg_bank_service.proofs.Lists.{IsAt}
use Rattle.hg_bank_service.proofs.Kept.{answered_keep}
use Rattle.hg_bank_service.proofs.Refills.{gives_segment, no_segment}
use Rattle.hg_bank_service.proofs.Searches.{one_more, one_serves}

-- what is known while cores are asked
pub record IsSeeking (policy : Policy) (number current arena : ℕ) (old : List HostedWorker)
    (until : ℕ) (mid : List HostedWorker) (row : List ℕ) : Type 0 where
  pub asked : AreAsked (AnswersRefill arena answer.NoSegment) current until old mid
  pub of : AreNumbered policy number mid
  pub counted : AreSums (length policy.tenants) row mid

module _ {policy : Policy} {number current arena until : ℕ} {old mid new : List HostedWorker}
    {row row' : List ℕ} (seeking : IsSeeking policy number current arena old until mid row)
    (inside : current < length old) {core : ℕ} (now : turn current (length old) core ≡ until)
    {told : Option Answer} (at : ServesAt core (event.Refill arena) told mid new)
    (counted : AreSums (length policy.tenants) row' new) where
  there : IsAt mid core at.was
  there = record { there = at.there }

  numbered : AreNumbered policy number new
  numbered =
      subst (AreNumbered policy number) (sym at.after)
      (each_set (Has (IsNumbered policy number)) mid core at.next seeking.of
      (answered_keep (event.Refill arena) told at.was at.next policy number at.served
      (seeking.of core at.was at.there)))

  all : length new ≡ length old
  all =
      subst (λ xs. length xs ≡ length mid) (sym at.after) (length-set mid core at.next)
      ∙ seeking.asked.all

  abbrev Came : Option Answer → Type 0
  Came o =
      MatchOption o (Serves (Waits (event.Refill arena)) at.was at.next)
      (λ a. Serves (TakesOne arena a) at.was at.next)

  served : {Served : HostedWorker → HostedWorker → Type 0} → Served at.was at.next
      → IsServed (AnswersRefill arena answer.NoSegment) Served current core old new
  served {Served} does =
      subst (IsServed (AnswersRefill arena answer.NoSegment) Served current core old)
      (sym at.after) (one_serves seeking.asked inside there now at.next does)

  ended : (end : Found) → EndsSo arena current end old new
      → IsSearched policy number (EndsSo arena current end) old new row'
  ended end ends = record { ends = ends; all = all; of = numbered; counted = counted }

  -- it gives one
  pub is_given : (answer : Answer) (segment : ℕ) → told ≡ Some answer
      → Some segment ≡ segment_given answer
      → IsSearched policy number
      (EndsSo arena current (found.Segment record { core = core; segment = segment })) old new row'
  is_given told_is segment is gives =
      ended (found.Segment record { core = core; segment = segment })
      (served (gives_segment segment (subst Came is at.served) at.reach gives))

  -- another call has its segments
  pub is_busy : told ≡ None
      → IsSearched policy number (EndsSo arena current (found.Busy core)) old new row'
  is_busy is =
      ended (found.Busy core) (served record { served = subst Came is at.served; reach = at.reach })

  -- it has none
  pub sought_in_vain : (answer : Answer) → told ≡ Some answer → None ≡ segment_given answer
      → IsSeeking policy number current arena old (until + 1) new row'
  sought_in_vain told_is is none = record {
    asked = subst (AreAsked (AnswersRefill arena answer.NoSegment) current (until + 1) old)
        (sym at.after)
        (one_more seeking.asked inside there now at.next
        (no_segment (subst Came is at.served) at.reach none));
    of = numbered;
    counted = counted;
  }
