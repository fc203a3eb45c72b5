use Rattle.std.proofs.Common.{subst}
use Rattle.hg_reply.specs.Numbers.{actor_of}
use Rattle.hg_ffi.specs.BankAtOnce.{DoesAtOnce}
use Rattle.hg_ffi.specs.BankBytes.{WritesBytesFrom}
use Rattle.hg_c.proofs.Named.{on_bank_at_once}
use Rattle.hg_c.proofs.bank_at_once_exports.hg_bank_write_bytes.Goals as goal

pub returns-in-Some : goal.returns-in-Some
returns-in-Some c =
    let reply = c.serve_write_bytes.result in
    let new = c.serve_write_bytes.new.host in
    on_bank_at_once c.in-Some.handle c.in-Some.ensures.handle c.in-Some.ensures.read
    (subst
    (λ core. DoesAtOnce c.args.host.now c.args.worker
    (WritesBytesFrom c.args.worker (actor_of c.args.actor) core c.args.first c.args.bytes.now reply c.in-Some.handle)
    (Unit {0}) reply new)
    c.core_of-core.ensures
    (subst
    (λ actor. DoesAtOnce c.args.host.now c.args.worker
    (WritesBytesFrom c.args.worker actor c.core_of-core.result c.args.first c.args.bytes.now reply c.in-Some.handle)
    (Unit {0}) reply new)
    c.actor_of-actor.ensures c.serve_write_bytes.ensures))
