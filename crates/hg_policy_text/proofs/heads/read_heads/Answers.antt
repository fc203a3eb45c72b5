use Rattle.std.proofs.Common.{arith}
use Rattle.std.proofs.lemmas.List.{length-map}
use Rattle.toml.specs.View.{table_view}
use Rattle.hg_policy_text.proofs.Wholes.{workers_at-range, max_generation_at-range}
use Rattle.hg_policy_text.proofs.heads.read_heads.Goals as goal

pub returns-clause-ranges : goal.returns-clause-ranges
returns-clause-ranges c =
    let members = table_view c.args.table.now in
    let workers = workers_at-range members c.in_ok-workers.workers c.in_ok-workers.ensures in
    let greatest = max_generation_at-range members c.in_ok-max_generation.max_generation c.in_ok-max_generation.ensures in
    record {
      some_worker = workers.0;
      few_workers = workers.1;
      some_generation = greatest.0;
      generations_fit = greatest.1;
      few_tenants = omega (arith, length-map c.in_ok-tenants.tenants.items (λ entry. table_view entry.now), c.in_ok-tenants.ensures.few);
      few_arenas = omega (arith, length-map c.in_ok-arenas.arenas.items (λ entry. table_view entry.now), c.in_ok-arenas.ensures.few);
    }
