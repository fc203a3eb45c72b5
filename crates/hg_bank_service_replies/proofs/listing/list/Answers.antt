use Rattle.std.proofs.Common.{Some, None, refl, sym, subst, ap, ◌∙◌, rules}
use Rattle.hg_reply.specs.Replies.{valued}
use Rattle.hg_service_replies.specs.Listing.{AreTold}
use Rattle.hg_bank_service_replies.specs.declared.part.BankPart.TheVariants as part
use Rattle.hg_bank_service_replies.specs.Listing.{PartLists}
use Rattle.hg_bank_service_replies.proofs.listing.list.Goals as goal

pub returns-in-Ok : goal.returns-in-Ok
returns-in-Ok c =
    subst (λ p. PartLists p c.args.core c.args.actor c.args.room.now c.valued.result (part.Worker c.list.new.self) c.tell_rows.new.room) (sym c.in-Worker.is)
    record {
      left = c.list.new.self;
      now = refl;
      shown = Some c.in-Ok.rows.items;
      does = (
        c.valued.ensures ∙ ap (valued 2) (search rules),
        subst (λ rows. AreTold rows c.args.room.now c.tell_rows.new.room) c.deref.ensures.value c.tell_rows.ensures,
        c.in-Ok.ensures,
      );
    }

pub returns-in-Err : goal.returns-in-Err
returns-in-Err c =
    subst (λ p. PartLists p c.args.core c.args.actor c.args.room.now c.plain-in-Err.result (part.Worker c.list.new.self) c.args.room.now) (sym c.in-Worker.is)
    record { left = c.list.new.self; now = refl; shown = None; does = (c.plain-in-Err.ensures, refl, c.in-Err.ensures) }
