use Rattle.std.proofs.Common.{◌≡◌, Option, length, sym, subst, IfOk}
use Rattle.hg_policy_text.specs.declared.row.Row.{Row}
use Rattle.hg_policy_text.specs.declared.key.Key.TheVariants as key
use Rattle.hg_policy.specs.Kept.{tenants_of}
use Rattle.hg_policy_text.specs.ReadTables.{groups_of, arenas_of, heads_of}
use Rattle.hg_policy_text.specs.Arenas.{arenas_in}
use Rattle.hg_policy_text.specs.FaultyRow.{row_of_lines}
use Rattle.hg_policy_text.proofs.RowsTold.{row_from-told, row_from-refused}
use Rattle.hg_policy_text.proofs.faulty.row_behind_groups.Goals.{in-Some, in-None}
use Rattle.hg_policy_text.proofs.faulty.row_behind_groups.Goals as goal

pub returns : goal.returns
returns c =
    let heads = heads_of c.args.heads.now in
    let n = length c.args.tenants.now.entries in
    let tenants = tenants_of c.args.tenants.now.entries in
    let groups = groups_of n c.args.groups.now.entries in
    elim c.match-branch-2.branch [
      | in-Some w ↦
          rw w.result-is
          (subst (λ (row : Option Row). IfOk w.row_of_lines.result (λ told. told ≡ row))
          (sym (row_from-told key.Arena (arenas_in tenants groups) (arenas_of n) (λ arenas. row_of_lines tenants groups heads) heads.arenas c.arenas.result w.in-Some.field-0 (rw c.as_slice-entries.ensures.value at c.arenas.ensures) (rw w.in-Some.is at c.in_ok-if_read.ensures)))
          w.row_of_lines.ensures)
      | in-None w ↦
          rw w.result-is
          (subst (λ (row : Option Row). IfOk w.arena_row.result (λ told. told ≡ row))
          (sym (row_from-refused key.Arena (arenas_in tenants groups) (arenas_of n) (λ arenas. row_of_lines tenants groups heads) heads.arenas c.arenas.result (rw c.as_slice-entries.ensures.value at c.arenas.ensures) (rw w.in-None.is at c.in_ok-if_read.ensures)))
          (rw c.as_slice-entries.ensures.value at w.arena_row.ensures))
    ]
