use Rattle.std.proofs.Common.{subst}
use Rattle.hg_ffi.specs.AtOnce.{DoesAtOnce, WritesFrom}
use Rattle.hg_c.proofs.Named.{on_handle_at_once}
use Rattle.hg_c.proofs.at_once_exports.hg_write_words.Goals as goal

pub returns-in-Some : goal.returns-in-Some
returns-in-Some c =
    let reply = c.serve_write_words.result in
    on_handle_at_once c.in-Some.handle c.in-Some.ensures.handle c.in-Some.ensures.read
    (subst
    (λ actor. DoesAtOnce c.args.host.now c.args.worker (WritesFrom c.args.worker actor c.args.first c.args.words.now reply c.in-Some.handle)
    (Unit {0}) reply c.serve_write_words.new.host)
    c.actor_of-actor.ensures c.serve_write_words.ensures)
