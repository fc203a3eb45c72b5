-- What a core answers to a refill.
use Rattle.std.proofs.Common.{◌≡◌, ℕ, Option, None, Some, ap, sym, subst, ◌∙◌}
use Rattle.std.proofs.lemmas.Option.{none-some, same_Some}
use Rattle.hg_machine.specs.declared.Answer.{Answer}
use Rattle.hg_machine.specs.declared.Answer.TheVariants as answer
use Rattle.hg_machine.specs.declared.Event.TheVariants as event
use Rattle.hg_pool.specs.Pooled.{Pooled, next_in}
use Rattle.hg_segment.specs.Kept.{Kept}
use Rattle.hg_table.specs.declared.segment.UnnamedSegment.{UnnamedSegment}
use Rattle.hg_worker.specs.CallerLocked.{IsRefilled}
use Rattle.hg_worker.specs.Had.{Had}
use Rattle.hg_worker.specs.Seats.{number_in, records_in, part_of_seat}
use Rattle.hg_hosted.specs.Behind.{TakesOne}
use Rattle.hg_hosted.specs.Reaching.{Reaches}
use Rattle.hg_hosted.specs.Serving.{Serves}
use Rattle.hg_hosted.specs.declared.worker.HostedWorker.{HostedWorker}
use Rattle.hg_bank_service.specs.Refilling.{AnswersRefill}
use Rattle.hg_bank_service.specs.Searching.{segment_given}

told_by : (next : Option (Kept UnnamedSegment)) (told : Answer) (old new : Pooled UnnamedSegment)
    (had had' : Had UnnamedSegment)
    → IsRefilled number_in records_in part_of_seat next told old new had had'
    → segment_given told ≡ None → told ≡ answer.NoSegment
told_by None told old new had had' is none = is.0
told_by (Some one) told old new had had' is none =
    absurd (none-some _ (sym none ∙ ap segment_given is.0))

-- a core that gives no segment has none
pub no_segment : {arena : ℕ} {told : Answer} {was next : HostedWorker}
    → Serves (TakesOne arena told) was next → Reaches (event.Refill arena) was next
    → None ≡ segment_given told → AnswersRefill arena answer.NoSegment was next
no_segment {arena} {told} {was} {next} s reach none =
    let r = s.does.refilled in
    record {
      served = subst (λ a. Serves (TakesOne arena a) was next)
          (told_by (next_in r.old arena) told r.old r.new _ _ r.refilled (sym none)) s;
      reach = reach;
    }

given_is : (told : Answer) (segment : ℕ) → segment_given told ≡ Some segment
    → told ≡ answer.Refilled segment
given_is (answer.Refilled other) segment e = ap answer.Refilled (same_Some other segment e)
given_is (answer.Block block) segment e = absurd (none-some segment e)
given_is answer.Done segment e = absurd (none-some segment e)
given_is answer.Parted segment e = absurd (none-some segment e)
given_is (answer.Value value) segment e = absurd (none-some segment e)
given_is (answer.Taken count) segment e = absurd (none-some segment e)
given_is (answer.Pages count) segment e = absurd (none-some segment e)
given_is (answer.Listed row) segment e = absurd (none-some segment e)
given_is (answer.Denied rule) segment e = absurd (none-some segment e)
given_is answer.TooLarge segment e = absurd (none-some segment e)
given_is answer.NoRoom segment e = absurd (none-some segment e)
given_is answer.Elsewhere segment e = absurd (none-some segment e)
given_is answer.OutOfBlock segment e = absurd (none-some segment e)
given_is answer.Busy segment e = absurd (none-some segment e)
given_is answer.NothingInHand segment e = absurd (none-some segment e)
given_is answer.NotHeld segment e = absurd (none-some segment e)
given_is answer.NoSegment segment e = absurd (none-some segment e)

-- and one that gives one says so
pub gives_segment : {arena : ℕ} {told : Answer} {was next : HostedWorker} (segment : ℕ)
    → Serves (TakesOne arena told) was next → Reaches (event.Refill arena) was next
    → Some segment ≡ segment_given told
    → AnswersRefill arena (answer.Refilled segment) was next
gives_segment {arena} {told} {was} {next} segment s reach is = record {
  served = subst (λ a. Serves (TakesOne arena a) was next) (given_is told segment (sym is)) s;
  reach = reach;
}
