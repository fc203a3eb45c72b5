use Rattle.std.proofs.Common.{◌∙◌, ap, length, refl, subst, sym}
use Rattle.std.proofs.lemmas.Result.{IfOk-weaker, IfErr-weaker}
use Rattle.std.specs.Prelude.{IfOk}
use Rattle.hg_audit.specs.Handed.{core_in}
use Rattle.hg_close.specs.Closed.{IsQuiet}
use Rattle.hg_close.specs.Moved.{AreOver}
use Rattle.hg_worker.specs.Missing.{HasAll}
use Rattle.hg_worker.specs.Seats.{number_in, records_in, seat_shows, seat_steps}
use Rattle.hg_service.specs.GivenBack.{AreListsOf}
use Rattle.hg_service.proofs.Lost.{unclosed_as}
use Rattle.hg_service.proofs.caller_locked.CallerLocked.close.Goals as goal

pub take_segments-requires-clause-all : goal.take_segments-requires-clause-all
take_segments-requires-clause-all g c =
    subst (λ kept. HasAll number_in kept.pool (length g.N.ServiceName.policy.segments))
    (sym c.give_lists.ensures.pool) c.in_default-first_fault.ensures.pooled

-- each return is answered, so that a wrong body is refused at once: what is known at the later ones
-- is too much for a search

pub returns-in_default : goal.returns-in_default
returns-in_default g c =
    record { quiet = tt; made = tt; pooled = tt; back = tt; unclosed = (refl, tt) }

pub returns-in-Some : goal.returns-in-Some
returns-in-Some g c = record {
  quiet = tt;
  made = tt;
  pooled = tt;
  back = tt;
  unclosed = (refl, c.in-Some.ensures.fault);
}

pub returns-clause-quiet : goal.returns-clause-quiet
returns-clause-quiet g c =
    subst (λ policy. IfOk c.core_of.result (IsQuiet policy))
    (c.take_segments.ensures.policy ∙ c.give_lists.ensures.policy) c.core_of.ensures.quiet

pub returns-clause-made : goal.returns-clause-made
returns-clause-made g c = IfOk-weaker c.core_of.result _ _ (λ core is. record {
  remotes = c.give_lists.new.room.parts.remotes.items;
  lists = c.give_lists.ensures.lists;
  made = record {
    parts = core_in c.take_segments.new.self.parts;
    over = subst (λ kept. AreOver number_in records_in seat_shows seat_steps kept.pool
        c.take_segments.new.self.parts.pool) c.give_lists.ensures.pool c.take_segments.ensures.over;
    lists = ap (λ remotes. remotes.items) c.take_segments.ensures.lists;
    is = is;
  };
}) c.core_of.ensures.core

pub returns-clause-pooled : goal.returns-clause-pooled
returns-clause-pooled g c = IfOk-weaker c.core_of.result _ _
    (λ _ _. c.in_default-first_fault.ensures.pooled) c.core_of.ensures.core

pub returns-clause-back : goal.returns-clause-back
returns-clause-back g c = IfOk-weaker c.core_of.result _ _
    (λ _ _. c.in_default-first_fault.ensures.back) c.core_of.ensures.core

pub returns-clause-unclosed : goal.returns-clause-unclosed
returns-clause-unclosed g c = IfErr-weaker c.core_of.result _ _ (λ left is.
    unclosed_as c.args.self c.take_segments.new.self.parts left
    (c.take_segments.ensures.policy ∙ c.give_lists.ensures.policy)
    c.in_default-first_fault.ensures.pooled
    c.in_default-first_fault.ensures.back
    (subst (λ kept. AreOver number_in records_in seat_shows seat_steps kept.pool
    c.take_segments.new.self.parts.pool) c.give_lists.ensures.pool
    c.take_segments.ensures.over)
    (subst (λ remotes. AreListsOf c.args.self.lists.items
    (length g.N.ServiceName.policy.segments) remotes.items)
    (sym c.take_segments.ensures.lists) c.give_lists.ensures.lists)
    is) c.core_of.ensures.lost
