use Rattle.std.proofs.Common.{refl}
use Rattle.std.proofs.lemmas.Option.{slice_get_read}
use Rattle.hg_service_replies.proofs.Taken.{taken_or_not}
use Rattle.hg_service_replies.proofs.taking.taken.Goals as goal

pub returns : goal.returns
returns c =
    let workers = c.args.workers.now in
    taken_or_not workers.items c.args.number c.in-Some.place.now c.taken_from.new.place
    (slice_get_read workers.items _ c.args.number _ workers.ok.0 (c.in-Some.ensures.variant.0 refl) c.in-Some.ensures.value)
    c.taken_from.result c.taken_from.ensures
