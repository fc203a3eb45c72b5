-- One core is asked for a block.
use Rattle.std.proofs.Common.{◌≡◌, ℕ, ◌+◌, ◌<◌, ◌≤◌, List, length, Option, None, Some, sym, subst, ◌∙◌}
use Rattle.std.proofs.lemmas.List.{length-set}
use Rattle.hg_place.specs.declared.Actor.{Actor}
use Rattle.hg_place.specs.declared.Handle.{Handle}
use Rattle.hg_machine.specs.declared.AllocVerdict.TheVariants as verdict
use Rattle.hg_machine.specs.declared.Answer.TheVariants as answer
use Rattle.hg_machine.specs.declared.Event.TheVariants as event
use Rattle.hg_machine.specs.Policy.{Policy}
use Rattle.hg_machine.specs.Request.{alloc_verdict, words_for, size_of}
use Rattle.hg_bank.specs.declared.bank.BankHandle.{BankHandle}
use Rattle.hg_hosted.specs.declared.worker.HostedWorker.{HostedWorker}
use Rattle.hg_hosted.specs.Charges.{charge_at}
use Rattle.hg_hosted.proofs.Undone.{each_set}
use Rattle.hg_bank_service.specs.Allocating.{GivesBlock, RefusesBlock}
use Rattle.hg_bank_service.specs.Asking.{AllocatesAt}
use Rattle.hg_bank_service.specs.Choosing.{AreAsked, IsServed}
use Rattle.hg_hosted.specs.Has.{Has}
use Rattle.hg_bank_service.specs.Has.{AreNumbered, IsNumbered}
use Rattle.hg_bank_service.specs.Order.{turn}
use Rattle.hg_bank_service.specs.Searching.{EndsInBlock, IsSearched}
use Rattle.hg_bank_service.specs.Sums.{AreSums, charge_over}
use Rattle.hg_bank_service.proofs.Fitting.{gives_block, refuses_block}
use Rattle.hg_bank_service.proofs.Lists.{IsAt}
use Rattle.hg_bank_service.proofs.Kept.{does_keep, serves_keep}
use Rattle.hg_bank_service.proofs.Searches.{one_more, one_serves, was_there}
use Rattle.hg_bank_service.proofs.Summed.{part_of}

-- what is known while cores are asked
pub record IsAsking (policy : Policy) (number current : ℕ) (actor : Actor) (arena bytes : ℕ)
    (old : List HostedWorker) (until : ℕ) (mid : List HostedWorker) (row : List ℕ) : Type 0 where
  pub asked : AreAsked (RefusesBlock actor arena bytes) current until old mid
  pub of : AreNumbered policy number mid
  pub counted : AreSums (length policy.tenants) row mid

-- what holds of a request
pub record IsFitting (policy : Policy) (current : ℕ) (actor : Actor) (arena bytes : ℕ)
    (old : List HostedWorker) (row : List ℕ) : Type 0 where
  pub inside : current < length old
  pub first : AreSums (length policy.tenants) row old
  pub fits :
      alloc_verdict policy actor.0 arena (words_for bytes) (charge_over old actor.0)
      ≡ verdict.Fits (size_of bytes)

module _ {policy : Policy} {number current : ℕ} {actor : Actor} {arena bytes until : ℕ}
    {old mid new : List HostedWorker} {first row row' : List ℕ}
    (request : IsFitting policy current actor arena bytes old first)
    (asking : IsAsking policy number current actor arena bytes old until mid row) {core : ℕ}
    (now : turn current (length old) core ≡ until) {given : Option Handle}
    (at : AllocatesAt core actor arena bytes given mid new)
    (counted : AreSums (length policy.tenants) row' new) where
  there : IsAt mid core at.was
  there = record { there = at.there }

  low : charge_at at.was actor.0 ≤ charge_over old actor.0
  low =
      part_of request.first
      record { there = was_there asking.asked request.inside there now at.next } actor.0

  numbered : AreNumbered policy number new
  numbered =
      subst (AreNumbered policy number) (sym at.after)
      (each_set (Has (IsNumbered policy number)) mid core at.next asking.of
      (serves_keep policy number (does_keep (event.Alloc actor arena bytes) at.told) at.served
      (asking.of core at.was at.there)))

  -- in vain
  pub asked_in_vain : given ≡ None
      → IsAsking policy number current actor arena bytes old (until + 1) new row'
  asked_in_vain none = record {
    asked = subst (AreAsked (RefusesBlock actor arena bytes) current (until + 1) old)
        (sym at.after)
        (one_more asking.asked request.inside there now at.next
        (refuses_block policy number (asking.of core at.was at.there) at.kept
        (charge_over old actor.0) request.fits low at.served at.shared (sym at.gives ∙ none)));
    of = numbered;
    counted = counted;
  }

  -- and served
  pub is_given : (block : BankHandle) → block.core ≡ core → given ≡ Some block.handle
      → IsSearched policy number (EndsInBlock actor arena bytes current (Some block)) old new row'
  is_given block here gives = record {
    ends = subst (λ n. IsServed (RefusesBlock actor arena bytes)
        (GivesBlock actor arena bytes (answer.Block block.handle)) current n old new) (sym here)
        (subst (IsServed (RefusesBlock actor arena bytes)
        (GivesBlock actor arena bytes (answer.Block block.handle)) current core old)
        (sym at.after)
        (one_serves asking.asked request.inside there now at.next
        (gives_block block.handle at.served at.shared (sym gives ∙ at.gives))));
    all = long ∙ asking.asked.all;
    of = numbered;
    counted = counted;
  }
    where
      long : length new ≡ length mid
      long = subst (λ xs. length xs ≡ length mid) (sym at.after) (length-set mid core at.next)
