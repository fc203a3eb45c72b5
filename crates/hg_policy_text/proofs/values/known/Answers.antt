use Rattle.std.proofs.Common.{◌≡◌, sym, refl, None}
use Rattle.std.specs.Map.Iter.{deref}
use Rattle.std.proofs.lemmas.Map.Iter.{rest_more, rest_all}
use Rattle.toml.specs.View.{table_view}
use Rattle.hg_policy_text.specs.Values.{known_keys, first_unknown}
use Rattle.hg_policy_text.proofs.Unknown.{unknown_in-keys, unknown_in-passes, unknown_in-stops}
use Rattle.hg_policy_text.proofs.values.known.Goals as goal

pub loop-key-init : goal.loop-key-init
loop-key-init c =
    rw (c.into_iter-key-iterator.ensures.into_iter_gives, c.keys-key-items.ensures.rest) (unknown_in-keys c.args.level c.args.table.now.entries)

pub loop-key-preserved : goal.loop-key-preserved
loop-key-preserved c =
    let at = rest_more deref c.loop-key.key-iterator c.next.new.self c.next.result c.in-Some.key c.in-Some.is c.next.ensures.steps in
    unknown_in-passes c.args.level c.loop-key.key-iterator c.in-Some.key.now c.next.new.self (first_unknown c.args.level (table_view c.args.table.now)) at (rw c.as_str.ensures.value at (sym c.if-not-knows.ensures)) c.loop-key.invariant

pub returns-then-not-knows : goal.returns-then-not-knows
unfolding known_keys
returns-then-not-knows c =
    let at = rest_more deref c.loop-key.key-iterator c.next.new.self c.next.result c.in-Some.key c.in-Some.is c.next.ensures.steps in
    let e = unknown_in-stops c.args.level c.loop-key.key-iterator c.in-Some.key.now c.next.new.self (first_unknown c.args.level (table_view c.args.table.now)) at (rw c.as_str.ensures.value at (sym c.if-not-knows.ensures)) c.loop-key.invariant in
    rw (e, c.in_ok-from_str.ensures.ok, c.as_str-then-not-knows.ensures.value) refl

pub returns : goal.returns
unfolding known_keys
returns c =
    let at = rest_all deref c.loop-key.key-iterator c.next.new.self c.next.result c.in-None.is c.next.ensures.steps in
    let e : None ≡ first_unknown c.args.level (table_view c.args.table.now) = rw at at c.loop-key.invariant in
    rw (← e) refl
