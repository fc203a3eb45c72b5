use Rattle.std.proofs.Common.{◌+◌, ◌*◌, slice_index, refl, arith, set, ap, ◌∙◌}
use Rattle.std.proofs.lemmas.List.{length-set}
use Rattle.hg_machine.specs.declared.AllocVerdict.TheVariants as verdict
use Rattle.hg_machine.specs.declared.Answer.TheVariants as Answer
use Rattle.hg_bank.specs.Kept.{bank_of}
use Rattle.hg_bank.specs.Requests.{alloc}
use Rattle.hg_bank.proofs.CallLemmas.{read_of, row_low}
use Rattle.hg_bank.proofs.PlacingLemmas.{few_tenants, verdict_told, current_below}
use Rattle.hg_bank.proofs.PlacingLemmas.{tenant_is, alloc_server, no_room_step, denied_step}
use Rattle.hg_bank.proofs.PlacingLemmas.{all_fit}
use Rattle.hg_bank.proofs.PlacingLemmas.{placed_sound, placed_step, placed_sums, alloc_counted}
use Rattle.hg_bank.proofs.bank.Bank.alloc.Goals as goal

pub returns-in-Denied-clause-step : goal.returns-in-Denied-clause-step
returns-in-Denied-clause-step c =
    let read = read_of c.self.invariant c.self.view_is c.requires.worker c.from.ensures
    c.index_mut-row.ensures.value in
    let told = verdict_told read c.args.actor c.args.arena c.args.bytes c.words_of.ensures
    c.counted-charge.ensures c.judge_alloc.ensures c.in-Denied.is in
    denied_step read c.args.actor c.args.arena c.args.bytes (verdict.Denied c.in-Denied.rule)
    (Answer.Denied c.in-Denied.rule) told refl refl

pub next_with_room-requires-clause-current : goal.next_with_room-requires-clause-current
next_with_room-requires-clause-current c =
    let read = read_of c.self.invariant c.self.view_is c.requires.worker c.from.ensures
    c.index_mut-row.ensures.value in
    let below = current_below read c.from-2.ensures c.index_mut-currents.ensures.value
    c.from-3.ensures in
    omega (arith, c.self.inside.cores.ok.0)

pub next_with_room-requires-clause-fits : goal.next_with_room-requires-clause-fits
next_with_room-requires-clause-fits c =
    let read = read_of c.self.invariant c.self.view_is c.requires.worker c.from.ensures
    c.index_mut-row.ensures.value in
    let told = verdict_told read c.args.actor c.args.arena c.args.bytes c.words_of.ensures
    c.counted-charge.ensures c.judge_alloc.ensures c.in-Fits.is in
    all_fit read c.args.actor c.args.arena c.args.bytes c.in-Fits.class told

pub returns-in_default-clause-step : goal.returns-in_default-clause-step
returns-in_default-clause-step c =
    let read = read_of c.self.invariant c.self.view_is c.requires.worker c.from.ensures
    c.index_mut-row.ensures.value in
    let told = verdict_told read c.args.actor c.args.arena c.args.bytes c.words_of.ensures
    c.counted-charge.ensures c.judge_alloc.ensures c.in-Fits.is in
    let server_is = alloc_server read c.from-2.ensures c.index_mut-currents.ensures.value
    c.args.actor c.args.arena c.args.bytes told c.from-3.ensures
    c.in_default.ensures.found in
    no_room_step read c.from-2.ensures c.index_mut-currents.ensures.value c.args.actor
    c.args.arena c.args.bytes told c.in_default.ensures.none server_is

pub count_more-requires-clause-tenant : goal.count_more-requires-clause-tenant
count_more-requires-clause-tenant c =
    let read = read_of c.self.invariant c.self.view_is c.requires.worker c.from.ensures
    c.index_mut-row.ensures.value in
    let told = verdict_told read c.args.actor c.args.arena c.args.bytes c.words_of.ensures
    c.counted-charge.ensures c.judge_alloc.ensures c.in-Fits.is in
    let tenant = tenant_is read c.from-2.ensures c.index_mut-currents.ensures.value c.args.actor
    c.args.arena c.args.bytes told in
    let few = few_tenants (bank_of c.self.inside) c.self.invariant.sound in
    omega arith

pub count_more-requires-clause-room : goal.count_more-requires-clause-room
count_more-requires-clause-room c =
    let read = read_of c.self.invariant c.self.view_is c.requires.worker c.from.ensures
    c.index_mut-row.ensures.value in
    let told = verdict_told read c.args.actor c.args.arena c.args.bytes c.words_of.ensures
    c.counted-charge.ensures c.judge_alloc.ensures c.in-Fits.is in
    let tenant = tenant_is read c.from-2.ensures c.index_mut-currents.ensures.value c.args.actor
    c.args.arena c.args.bytes told in
    let low = row_low read c.args.actor.0 tenant in
    omega (arith, c.from-4.ensures, c.block_words.ensures.value, c.block_words.ensures.small)

pub invariant_of-self-2 : goal.invariant_of-self-2
invariant_of-self-2 c =
    let read = read_of c.self.invariant c.self.view_is c.requires.worker c.from.ensures
    c.index_mut-row.ensures.value in
    let told = verdict_told read c.args.actor c.args.arena c.args.bytes c.words_of.ensures
    c.counted-charge.ensures c.judge_alloc.ensures c.in-Fits.is in
    let served = c.in-Some.ensures.served in
    let own = alloc_counted read c.args.actor c.args.arena c.args.bytes c.count_more.new.row told
    served
    (c.count_more.ensures.own
    ∙ ap (λ n. slice_index c.index_mut-row.result.now c.args.actor.0 + 8 * n)
    (c.from-4.ensures ∙ c.block_words.ensures.value)) c.count_more.ensures.others in
    record {
      sound = placed_sound read c.from-2.ensures c.index_mut-currents.ensures.value
          c.from-5.ensures served;
      room = c.in-Some.ensures.room ∙ c.self.invariant.room;
      rows = length-set c.self.inside.currents.items c.from-2.result
          (set c.index_mut-currents.result.now c.from-5.result c.in-Some.block.core)
          ∙ c.self.invariant.rows;
      sums = placed_sums read c.count_more.new.row served own;
    }

pub returns-clause-step : goal.returns-clause-step
returns-clause-step c =
    let read = read_of c.self.invariant c.self.view_is c.requires.worker c.from.ensures
    c.index_mut-row.ensures.value in
    let told = verdict_told read c.args.actor c.args.arena c.args.bytes c.words_of.ensures
    c.counted-charge.ensures c.judge_alloc.ensures c.in-Fits.is in
    let server_is = alloc_server read c.from-2.ensures c.index_mut-currents.ensures.value
    c.args.actor c.args.arena c.args.bytes told c.from-3.ensures
    c.in-Some.ensures.found in
    placed_step read c.from-2.ensures c.index_mut-currents.ensures.value
    (alloc c.args.actor c.args.arena c.args.bytes) c.from-5.ensures refl c.in-Some.ensures.served
    server_is

pub returns-clause-core : goal.returns-clause-core
returns-clause-core c =
    let read = read_of c.self.invariant c.self.view_is c.requires.worker c.from.ensures
    c.index_mut-row.ensures.value in
    let told = verdict_told read c.args.actor c.args.arena c.args.bytes c.words_of.ensures
    c.counted-charge.ensures c.judge_alloc.ensures c.in-Fits.is in
    alloc_server read c.from-2.ensures c.index_mut-currents.ensures.value c.args.actor
    c.args.arena c.args.bytes told c.from-3.ensures c.in-Some.ensures.found

pub returns-clause-kept : goal.returns-clause-kept
returns-clause-kept c = (invariant_of-self-2 c).sound
