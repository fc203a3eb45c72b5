use Rattle.std.proofs.Common.{◌≡◌, [], Bool, List, Ok, length, map, ap, sym, ◌∙◌, arith, refl}
use Rattle.std.proofs.lemmas.Result.{err_from_is_err_and}
use Rattle.toml.specs.View.{view}
use Rattle.hg_policy_text.specs.declared.key.Key.TheVariants as key
use Rattle.hg_policy_text.specs.Faults.{Read, in_turn, fault_of, ◌>>=◌}
use Rattle.hg_policy.specs.Kept.{tenants_of}
use Rattle.hg_policy_text.specs.ReadTables.{groups_of}
use Rattle.hg_policy_text.specs.Groups.{named_in}
use Rattle.hg_policy_text.specs.Arenas.{with_named}
use Rattle.hg_policy.specs.TenantSets.{just, either, flags_of}
use Rattle.hg_policy_text.proofs.Chains.{bind-fails}
use Rattle.hg_policy_text.proofs.InTurn.{in_turn-more, in_turn-stop, in_turn-end}
use Rattle.hg_policy.proofs.Names.{length-tenants}
use Rattle.hg_policy_text.proofs.Sets.{flags-none, flags-either}
use Rattle.hg_policy_text.proofs.exclusive.just_named.Goals as goal

pub loop-name-init : goal.loop-name-init
loop-name-init c =
    rw (length-tenants c.args.tenants.now.entries, c.deref-name-items.ensures.value, flags-none (length c.args.tenants.now.entries) c.none-admitted.result c.none-admitted.ensures) refl

pub returns-in_err-named : goal.returns-in_err-named
returns-in_err-named c =
    let p = err_from_is_err_and c.from_residual.result c.from_residual.ensures.1 in
    let n = length c.args.tenants.now.entries in
    let tenants = tenants_of c.args.tenants.now.entries in
    let groups = groups_of n c.args.groups.now.entries in
    let done = flags_of n c.loop-name.admitted in
    rw (p.1, p.2) (in_turn-stop (with_named tenants groups) view done c.deref-name-items.result.now c.loop-name.name-index (in_turn (with_named tenants groups) (just (length tenants) []) (map view c.args.names.now.items)) c.loop-name.invariant c.name-item.result (omega arith)
    (fault_of c.in_err-named.field-0.0) (rw c.name-item.is at (bind-fails (fault_of c.in_err-named.field-0.0) (named_in key.Exclusive tenants groups (view c.name-item.result)) (λ named. Ok (either (length tenants) done named)) c.in_err-named.ensures)))

pub loop-name-preserved : goal.loop-name-preserved
loop-name-preserved c =
    let entries = c.args.tenants.now.entries in
    let n = length entries in
    let tenants = tenants_of entries in
    let groups = groups_of n c.args.groups.now.entries in
    let done = flags_of n c.loop-name.admitted in
    let more = flags_of n c.in_ok-named.named in
    let read : with_named tenants groups done (view c.name-item.result) ≡ Ok (either (length tenants) done more) = ap (λ (r : Read (List Bool)). r >>= λ named. Ok (either (length tenants) done named)) c.in_ok-named.ensures in
    let is : flags_of n c.or-admitted.result ≡ either (length tenants) done more = flags-either n c.loop-name.admitted c.in_ok-named.named c.or-admitted.result c.or-admitted.ensures ∙ ap (λ m. either m done more) (sym (length-tenants entries)) in
    rw is
    (in_turn-more (with_named tenants groups) view done c.deref-name-items.result.now c.loop-name.name-index (in_turn (with_named tenants groups) (just (length tenants) []) (map view c.args.names.now.items)) c.loop-name.invariant c.name-item.result (omega arith)
    (either (length tenants) done more) (rw c.name-item.is at read))

pub returns : goal.returns
returns c =
    let n = length c.args.tenants.now.entries in
    let tenants = tenants_of c.args.tenants.now.entries in
    let groups = groups_of n c.args.groups.now.entries in
    in_turn-end (with_named tenants groups) view (flags_of n c.loop-name.admitted) c.deref-name-items.result.now c.loop-name.name-index (in_turn (with_named tenants groups) (just (length tenants) []) (map view c.args.names.now.items)) c.loop-name.invariant (omega arith)
