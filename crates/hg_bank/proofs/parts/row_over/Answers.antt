use Rattle.std.proofs.Common.{◌<◌, length, ap, arith}
use Rattle.std.proofs.lemmas.List.Sums.{sum_by_more_le}
use Rattle.hg_machine.specs.Charge.{charge}
use Rattle.hg_machine.proofs.Opening.{all_same}
use Rattle.hg_bank.proofs.SumLemmas.{over_small}
use Rattle.hg_bank.proofs.parts.row_over.Goals as goal

pub loop-core-init : goal.loop-core-init
loop-core-init c = λ t _. all_same 64 t 0

pub deposit-requires-clause-room : goal.deposit-requires-clause-room
deposit-requires-clause-room c tenant less =
    let cores = c.args.cores.now in
    let core = c.core-item.result in
    let below : c.loop-core.core-index < length cores = omega arith in
    let so_far = c.loop-core.invariant tenant less in
    let more = sum_by_more_le (λ k. charge k.state c.args.worker tenant) cores c.loop-core.core-index core below in
    let item = ap (λ k. charge k.state c.args.worker tenant) c.core-item.is in
    let small = over_small cores core c.args.worker tenant (λ k inside. c.requires.sound k core inside) in
    omega arith
