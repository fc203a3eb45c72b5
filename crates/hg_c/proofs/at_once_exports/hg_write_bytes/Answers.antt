use Rattle.std.proofs.Common.{subst}
use Rattle.hg_ffi.specs.AtOnce.{DoesAtOnce}
use Rattle.hg_ffi.specs.Bytes.{WritesBytesFrom}
use Rattle.hg_c.proofs.Named.{on_handle_at_once}
use Rattle.hg_c.proofs.at_once_exports.hg_write_bytes.Goals as goal

pub returns-in-Some : goal.returns-in-Some
returns-in-Some c =
    let reply = c.serve_write_bytes.result in
    on_handle_at_once c.in-Some.handle c.in-Some.ensures.handle c.in-Some.ensures.read
    (subst
    (λ actor. DoesAtOnce c.args.host.now c.args.worker (WritesBytesFrom c.args.worker actor c.args.first c.args.bytes.now reply c.in-Some.handle)
    (Unit {0}) reply c.serve_write_bytes.new.host)
    c.actor_of-actor.ensures c.serve_write_bytes.ensures)
