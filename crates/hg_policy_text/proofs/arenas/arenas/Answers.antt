use Rattle.std.proofs.Common.{length, map, refl, arith, string_bytes}
use Rattle.std.proofs.lemmas.List.{length-map}
use Rattle.std.proofs.lemmas.Result.{err_from_is_err_and}
use Rattle.toml.specs.View.{table_view}
use Rattle.hg_policy_text.specs.Faults.{fault_of}
use Rattle.hg_policy.specs.Kept.{tenants_of}
use Rattle.hg_policy_text.specs.ReadTables.{groups_of, arenas_of}
use Rattle.hg_policy_text.specs.Arenas.{arena_at, arenas_in}
use Rattle.hg_policy_text.proofs.InTurn.{in_turn-more, in_turn-stop, in_turn-end}
use Rattle.hg_policy_text.proofs.ArenaEntries.{arena_at-one}
use Rattle.hg_policy_text.proofs.arenas.arenas.Goals as goal

pub loop-entry-init : goal.loop-entry-init
unfolding arenas_in
loop-entry-init c = rw (c.in_ok-with_capacity.ensures.empty, c.in_ok-with_capacity-2.ensures.items) record { so_far = refl; few = omega arith }

pub returns-in_err-arena : goal.returns-in_err-arena
returns-in_err-arena c =
    let p = err_from_is_err_and c.from_residual-in_err-arena.result c.from_residual-in_err-arena.ensures.1 in
    rw (p.1, p.2) (in_turn-stop (arena_at (tenants_of c.args.tenants.now.entries) (groups_of (length c.args.tenants.now.entries) c.args.groups.now.entries)) (λ entry. table_view entry.now) (arenas_of (length c.args.tenants.now.entries) c.loop-entry.arenas) c.args.entries.now c.loop-entry.entry-index (arenas_in (tenants_of c.args.tenants.now.entries) (groups_of (length c.args.tenants.now.entries) c.args.groups.now.entries) (map (λ entry. table_view entry.now) c.args.entries.now)) c.loop-entry.invariant.so_far c.entry-item.result (omega arith)
    (fault_of c.in_err-arena.field-0.0) (rw c.entry-item.is at c.in_err-arena.ensures))

pub loop-entry-preserved : goal.loop-entry-preserved
loop-entry-preserved c =
    let one = arena_at-one (tenants_of c.args.tenants.now.entries) (groups_of (length c.args.tenants.now.entries) c.args.groups.now.entries) (arenas_of (length c.args.tenants.now.entries) c.loop-entry.arenas) (table_view c.entry-item.result.now) (arenas_of (length c.args.tenants.now.entries) c.arena.new.arenas) c.in_ok-arena.ensures in
    record {
      so_far = in_turn-more (arena_at (tenants_of c.args.tenants.now.entries) (groups_of (length c.args.tenants.now.entries) c.args.groups.now.entries)) (λ entry. table_view entry.now) (arenas_of (length c.args.tenants.now.entries) c.loop-entry.arenas) c.args.entries.now c.loop-entry.entry-index (arenas_in (tenants_of c.args.tenants.now.entries) (groups_of (length c.args.tenants.now.entries) c.args.groups.now.entries) (map (λ entry. table_view entry.now) c.args.entries.now)) c.loop-entry.invariant.so_far c.entry-item.result (omega arith)
          (arenas_of (length c.args.tenants.now.entries) c.arena.new.arenas) (rw c.entry-item.is at c.in_ok-arena.ensures);
      few = omega (arith, one, length-map c.loop-entry.arenas.named.entries (λ one. string_bytes one.0), length-map c.arena.new.arenas.named.entries (λ one. string_bytes one.0), c.loop-entry.invariant.few);
    }

pub returns : goal.returns
returns c = in_turn-end (arena_at (tenants_of c.args.tenants.now.entries) (groups_of (length c.args.tenants.now.entries) c.args.groups.now.entries)) (λ entry. table_view entry.now) (arenas_of (length c.args.tenants.now.entries) c.loop-entry.arenas) c.args.entries.now c.loop-entry.entry-index (arenas_in (tenants_of c.args.tenants.now.entries) (groups_of (length c.args.tenants.now.entries) c.args.groups.now.entries) (map (λ entry. table_view entry.now) c.args.entries.now)) c.loop-entry.invariant.so_far (omega arith)
