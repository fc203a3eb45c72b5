use Rattle.std.proofs.Common.{Some, refl, sym, arith}
use Rattle.std.specs.Box.{boxed_slice_with_item}
use Rattle.hg_chosen.proofs.Refusals.{refused_is_chosen}
use Rattle.hg_core.proofs.After.{IsAfter}
use Rattle.hg_core.proofs.FreedAway.{denied_some, allowed_none, denied, alive, busy, may_part}
use Rattle.hg_core.proofs.FreedAway.{heap_parts, parted_in_heap, pooled, pool_parts, parted_in_pool}
use Rattle.hg_core.proofs.Words.{holder_inside, has_word}
use Rattle.hg_machine.specs.declared.Answer.TheVariants as answer
use Rattle.hg_machine.specs.declared.Event.TheVariants as event
use Rattle.hg_core.proofs.stores.Stores.free_away.Goals as goal

pub returns-in-Denied-clause-step : goal.returns-in-Denied-clause-step
returns-in-Denied-clause-step c =
    denied c.self.inside c.args.self.now c.args.worker c.args.actor c.args.handle
    c.word-word.result c.self.view_is c.self.invariant c.requires.worker c.word-word.ensures
    c.in-Denied.rule (denied_some _ c.in-Denied.rule c.in-Denied.ensures)

pub returns-in-Denied-clause-chosen : goal.returns-in-Denied-clause-chosen
returns-in-Denied-clause-chosen c =
    refused_is_chosen c.args.self.now c.args.worker (event.Free c.args.actor c.args.handle)
    (answer.Denied c.in-Denied.rule) refl (returns-in-Denied-clause-step c)

pub returns-then-is_some-clause-step : goal.returns-then-is_some-clause-step
returns-then-is_some-clause-step c =
    busy c.self.inside c.args.self.now c.args.worker c.args.actor c.args.handle
    c.word-word.result c.self.view_is c.self.invariant c.requires.worker c.word-word.ensures
    (allowed_none _ c.in_default.ensures) c.requires.away
    c.from.result c.index.result.now c.from.ensures c.index.ensures (sym c.if-is_some.ensures)

pub returns-then-is_some-clause-chosen : goal.returns-then-is_some-clause-chosen
returns-then-is_some-clause-chosen c =
    refused_is_chosen c.args.self.now c.args.worker (event.Free c.args.actor c.args.handle)
    answer.Busy refl (returns-then-is_some-clause-step c)

-- where another worker holds the segment

pub index_mut-requires : goal.index_mut-requires
index_mut-requires c =
    let inside = holder_inside c.self.inside c.args.self.now c.args.handle.place c.self.view_is
    c.self.invariant c.in-Some.holder
    (sym c.in-Some.ensures.value) in
    omega (arith, inside, c.from-in-Some.ensures, c.self.inside.heaps.items.ok.0)

pub part-requires-clause-held : goal.part-requires-clause-held
part-requires-clause-held c =
    has_word c.self.inside c.args.self.now c.args.handle.place c.self.view_is
    c.self.invariant c.in-Some.holder
    c.from-in-Some.result c.index_mut.result.now (sym c.in-Some.ensures.value)
    c.from-in-Some.ensures c.index_mut.ensures.value

pub part-requires-clause-live : goal.part-requires-clause-live
part-requires-clause-live c =
    alive c.self.inside c.args.self.now c.args.worker c.args.actor c.args.handle
    c.word-word.result c.self.view_is c.self.invariant c.requires.worker c.word-word.ensures
    (allowed_none _ c.in_default.ensures) c.requires.away

pub unreachable-requires : goal.unreachable-requires
unreachable-requires c =
    heap_parts c.self.inside c.args.self.now c.args.worker c.args.actor c.args.handle
    c.word-word.result c.self.view_is c.self.invariant c.requires.worker c.word-word.ensures
    (allowed_none _ c.in_default.ensures) c.requires.away c.in-Some.holder
    c.from-in-Some.result c.index_mut.result.now (sym c.in-Some.ensures.value)
    c.from-in-Some.ensures c.index_mut.ensures.value
    c.in_default-part.field-0 c.in_default-part.ensures.err.0 c.in_default-part.ensures.err.1

in_heap : (c : goal.After-self-in-Some-1) → IsAfter c.args.self.now
    (record c.self.inside {
      heaps = boxed_slice_with_item c.self.inside.heaps c.from-in-Some.result c.part.new.self;
      hands = boxed_slice_with_item c.self.inside.hands c.from-in-Some-2.result
          (Some c.args.handle.place);
    })
    c.args.worker (event.Free c.args.actor c.args.handle) answer.Parted
in_heap c =
    parted_in_heap c.self.inside c.args.self.now c.args.worker c.args.actor c.args.handle
    c.word-word.result c.self.view_is c.self.invariant c.requires.worker c.word-word.ensures
    (allowed_none _ c.in_default.ensures) c.requires.away c.in-Some.holder
    c.from-in-Some.result c.index_mut.result.now (sym c.in-Some.ensures.value)
    c.from-in-Some.ensures c.index_mut.ensures.value c.from-in-Some-2.result
    c.part.new.self c.from-in-Some-2.ensures
    (may_part c.self.inside c.args.self.now c.args.worker c.args.actor c.args.handle
    c.word-word.result c.self.view_is c.self.invariant c.requires.worker c.word-word.ensures
    (allowed_none _ c.in_default.ensures) c.requires.away
    c.from.result c.index.result.now c.from.ensures c.index.ensures (sym c.if-is_some.ensures))
    c.in-Ok.ensures.parted c.part.ensures.queues

pub invariant_of-self : goal.invariant_of-self
invariant_of-self c = (in_heap c).stored

pub returns-in-Some : goal.returns-in-Some
returns-in-Some c =
    record { step = (in_heap c).step; chosen = (in_heap c).chosen; kept = (in_heap c).stored.kept }

-- where nobody does

pub part-requires-2-clause-pooled : goal.part-requires-2-clause-pooled
part-requires-2-clause-pooled c =
    pooled c.self.inside c.args.self.now c.args.worker c.args.actor c.args.handle
    c.word-word.result c.self.view_is c.self.invariant c.requires.worker c.word-word.ensures
    (allowed_none _ c.in_default.ensures) c.requires.away
    (sym c.in_default-holder_of.ensures.value)

pub part-requires-2-clause-live : goal.part-requires-2-clause-live
part-requires-2-clause-live c =
    alive c.self.inside c.args.self.now c.args.worker c.args.actor c.args.handle
    c.word-word.result c.self.view_is c.self.invariant c.requires.worker c.word-word.ensures
    (allowed_none _ c.in_default.ensures) c.requires.away

pub unreachable-requires-in_default-part-2 : goal.unreachable-requires-in_default-part-2
unreachable-requires-in_default-part-2 c =
    pool_parts c.self.inside c.args.self.now c.args.worker c.args.actor c.args.handle
    c.word-word.result c.self.view_is c.self.invariant c.requires.worker c.word-word.ensures
    (allowed_none _ c.in_default.ensures) c.requires.away
    (sym c.in_default-holder_of.ensures.value)
    c.in_default-part-2.field-0 c.in_default-part-2.ensures.err.0
    c.in_default-part-2.ensures.err.1

in_pool : (c : goal.After-self-2-1) → IsAfter c.args.self.now
    (record c.self.inside {
      pool = c.part-2.new.self;
      hands = boxed_slice_with_item c.self.inside.hands c.from-2.result
          (Some c.args.handle.place);
    })
    c.args.worker (event.Free c.args.actor c.args.handle) answer.Parted
in_pool c =
    parted_in_pool c.self.inside c.args.self.now c.args.worker c.args.actor c.args.handle
    c.word-word.result c.self.view_is c.self.invariant c.requires.worker c.word-word.ensures
    (allowed_none _ c.in_default.ensures) c.requires.away
    (sym c.in_default-holder_of.ensures.value)
    c.from-2.result c.part-2.new.self c.from-2.ensures
    (may_part c.self.inside c.args.self.now c.args.worker c.args.actor c.args.handle
    c.word-word.result c.self.view_is c.self.invariant c.requires.worker c.word-word.ensures
    (allowed_none _ c.in_default.ensures) c.requires.away
    c.from.result c.index.result.now c.from.ensures c.index.ensures (sym c.if-is_some.ensures))
    c.in-Ok-part.ensures.parted

pub invariant_of-self-2 : goal.invariant_of-self-2
invariant_of-self-2 c = (in_pool c).stored

pub returns : goal.returns
returns c =
    record { step = (in_pool c).step; chosen = (in_pool c).chosen; kept = (in_pool c).stored.kept }
