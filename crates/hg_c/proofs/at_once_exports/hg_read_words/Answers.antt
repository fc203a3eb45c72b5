use Rattle.std.proofs.Common.{◌≡◌, subst}
use Rattle.hg_ffi.specs.AtOnce.{DoesAtOnce, ReadsInto}
use Rattle.hg_c.proofs.Named.{on_handle_at_once}
use Rattle.hg_c.proofs.at_once_exports.hg_read_words.Goals as goal

pub returns-in-Some : goal.returns-in-Some
returns-in-Some c =
    let told = c.serve_read_words.new.room in
    let reply = c.serve_read_words.result in
    on_handle_at_once c.in-Some.handle c.in-Some.ensures.handle c.in-Some.ensures.read
    (subst
    (λ actor. DoesAtOnce c.args.host.now c.args.worker (ReadsInto c.args.worker actor c.args.first c.args.room.now told reply c.in-Some.handle)
    (told ≡ c.args.room.now) reply c.serve_read_words.new.host)
    c.actor_of-actor.ensures c.serve_read_words.ensures)
