use Rattle.std.proofs.Common.{None, refl, arith}
use Rattle.std.specs.Box.{boxed_slice_with_item}
use Rattle.hg_core.proofs.After.{IsAfter}
use Rattle.hg_core.proofs.Delivered.{nothing_goes, unsent, takes_it, after_deliver}
use Rattle.hg_machine.specs.declared.Event.TheVariants as event
use Rattle.hg_machine.specs.declared.Answer.TheVariants as answer
use Rattle.hg_core.proofs.stores.Stores.deliver.Goals as goal

pub returns-in_default-clause-chosen : goal.returns-in_default-clause-chosen
returns-in_default-clause-chosen c =
    nothing_goes c.self.inside c.args.self.now c.from.result c.args.worker c.index.result.now
    c.self.view_is c.self.invariant c.requires c.from.ensures c.index.ensures c.in_default.is

pub index_mut-remote-requires : goal.index_mut-remote-requires
index_mut-remote-requires c =
    let there = unsent c.self.inside c.args.self.now c.from.result c.args.worker c.index.result.now
    c.in-Some.place c.self.view_is c.self.invariant c.requires c.from.ensures c.index.ensures
    c.in-Some.is in
    omega (arith, there.inside, c.from-2.ensures, c.self.inside.remotes.items.ok.0)

pub unreachable-requires : goal.unreachable-requires
unreachable-requires c =
    takes_it c.self.inside c.args.self.now c.from.result c.args.worker c.index.result.now
    c.in-Some.place c.self.view_is c.self.invariant c.requires c.from.ensures c.index.ensures
    c.in-Some.is c.from-2.result c.index_mut-remote.result.now c.from-2.ensures
    c.index_mut-remote.ensures.value
    (c.in_default-push.ensures.twice.0 refl)

after : (c : goal.After-self-2-1) → IsAfter c.args.self.now
    (record c.self.inside {
      remotes = boxed_slice_with_item c.self.inside.remotes c.from-2.result c.push.new.self;
      hands = boxed_slice_with_item c.self.inside.hands c.from-3.result None;
    })
    c.args.worker event.Deliver answer.Done
after c =
    after_deliver c.self.inside c.args.self.now c.from.result c.args.worker c.index.result.now
    c.in-Some.place c.self.view_is c.self.invariant c.requires c.from.ensures c.index.ensures
    c.in-Some.is c.from-2.result c.index_mut-remote.result.now c.from-2.ensures
    c.index_mut-remote.ensures.value c.push.new.self c.from-3.result c.from-3.ensures
    c.in-Ok.ensures.sent c.in-Ok.ensures.added c.push.ensures.right

pub invariant_of-self : goal.invariant_of-self
invariant_of-self c = (after c).stored

pub returns : goal.returns
returns c =
    record { step = (after c).step; chosen = (after c).chosen; kept = (after c).stored.kept }
