use Rattle.std.proofs.Common.{◌≡◌, ◌++◌, ◌∷◌, [], Ok, length, map, refl, ap, arith}
use Rattle.std.proofs.lemmas.List.{map_push}
use Rattle.std.proofs.lemmas.Result.{err_from_is_err_and}
use Rattle.toml.specs.View.{table_view}
use Rattle.hg_policy_text.specs.Faults.{Read, fault_of, ◌>>=◌}
use Rattle.hg_policy.specs.Kept.{tenants_of}
use Rattle.hg_policy_text.specs.ReadTables.{groups_of, line_of}
use Rattle.hg_policy_text.specs.Lines.{Line, line_in, with_line, lines_in}
use Rattle.hg_policy_text.proofs.Chains.{bind-fails}
use Rattle.hg_policy_text.proofs.InTurn.{in_turn-more, in_turn-stop, in_turn-end}
use Rattle.hg_policy_text.proofs.lines.lines.Goals as goal

pub loop-entry-init : goal.loop-entry-init
unfolding lines_in
loop-entry-init c = rw c.in_ok-lines.ensures.items refl

pub returns-in_err-line : goal.returns-in_err-line
returns-in_err-line c =
    let p = err_from_is_err_and c.from_residual-in_err-line.result c.from_residual-in_err-line.ensures.1 in
    let n = length c.args.tenants.now.entries in
    let tenants = tenants_of c.args.tenants.now.entries in
    let groups = groups_of n c.args.groups.now.entries in
    let done = map (line_of n) c.loop-entry.lines.items in
    rw (p.1, p.2) (in_turn-stop (with_line tenants groups) (λ entry. table_view entry.now) done c.args.entries.now c.loop-entry.entry-index (lines_in tenants groups (map (λ entry. table_view entry.now) c.args.entries.now)) c.loop-entry.invariant c.entry-item.result (omega arith)
    (fault_of c.in_err-line.field-0.0) (rw c.entry-item.is at (bind-fails (fault_of c.in_err-line.field-0.0) (line_in tenants groups (table_view c.entry-item.result.now)) (λ line. Ok (done ++ line ∷ [])) c.in_err-line.ensures)))

pub loop-entry-preserved : goal.loop-entry-preserved
loop-entry-preserved c =
    let n = length c.args.tenants.now.entries in
    let tenants = tenants_of c.args.tenants.now.entries in
    let groups = groups_of n c.args.groups.now.entries in
    let done = map (line_of n) c.loop-entry.lines.items in
    let read : with_line tenants groups done (table_view c.entry-item.result.now) ≡ Ok (done ++ line_of n c.in_ok-line.line ∷ []) = ap (λ (r : Read Line). r >>= λ line. Ok (done ++ line ∷ [])) c.in_ok-line.ensures in
    rw (c.in_ok-push.ensures.items, map_push {Y = Line} (line_of n) c.loop-entry.lines.items c.in_ok-line.line)
    (in_turn-more (with_line tenants groups) (λ entry. table_view entry.now) done c.args.entries.now c.loop-entry.entry-index (lines_in tenants groups (map (λ entry. table_view entry.now) c.args.entries.now)) c.loop-entry.invariant c.entry-item.result (omega arith)
    (done ++ line_of n c.in_ok-line.line ∷ []) (rw c.entry-item.is at read))

pub returns : goal.returns
returns c =
    let n = length c.args.tenants.now.entries in
    let tenants = tenants_of c.args.tenants.now.entries in
    let groups = groups_of n c.args.groups.now.entries in
    in_turn-end (with_line tenants groups) (λ entry. table_view entry.now) (map (line_of n) c.loop-entry.lines.items) c.args.entries.now c.loop-entry.entry-index (lines_in tenants groups (map (λ entry. table_view entry.now) c.args.entries.now)) c.loop-entry.invariant (omega arith)
