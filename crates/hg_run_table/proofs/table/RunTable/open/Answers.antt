use Rattle.std.proofs.Common.{Some, rules, ◌≡◌, ℕ, ◌*◌, [], ◌∷◌, refl, sym, ◌∙◌, ap, take, subst}
use Rattle.std.specs.List.{slice_get}
use Rattle.hg_place.specs.declared.geometry.TheConstants.{SEGMENT_PLACES}
use Rattle.hg_roles.specs.FirstParts.{full}
use Rattle.hg_roles.specs.Roles.{of_pool}
use Rattle.hg_table.specs.Seats.{IsInitial}
use Rattle.hg_table.proofs.Initial.{is_initial}
use Rattle.hg_run_table.specs.declared.table.RunSeat.{RunSeat}
use Rattle.hg_run_table.specs.NewSeats.{IsNewWorker}
use Rattle.hg_run_table.proofs.NewSeatsLemmas.{lists_and_pool, cut_twice}
use Rattle.hg_run_table.proofs.table.RunTable.open.Goals as goal

pub segment_seats-requires-clause-none : goal.segment_seats-requires-clause-none
segment_seats-requires-clause-none c = (c.split-parts.ensures.roles [] _ refl c.in_ok-table.ensures.roles).0

pub segment_seats-requires-clause-initial : goal.segment_seats-requires-clause-initial
segment_seats-requires-clause-initial c =
    subst (λ n. IsInitial 0 (n * SEGMENT_PLACES) c.split-parts.new.seat.seat.me.0.lives) (sym c.segments-segment_count.ensures.segments)
    (is_initial _ _ (c.split-parts.ensures.lives ∙ ap (take 1) c.in_ok-table.ensures.lives))

pub segment_seats-requires-clause-roles : goal.segment_seats-requires-clause-roles
segment_seats-requires-clause-roles c =
    let table = c.in_ok-table in
    (cut_twice c.args.policy.now table.table.table.shared.key c.args.policy.now.workers c.segments-segment_count.result table.ensures.policy refl c.segments-segment_count.ensures.segments
    _ _ _ _ _ table.ensures.roles c.split-parts.ensures.roles c.split-segment_parts.ensures.roles).1

pub returns-clause-each_worker : goal.returns-clause-each_worker
returns-clause-each_worker c =
    let table = c.in_ok-table in
    let key = table.table.table.shared.key in
    let cut = cut_twice c.args.policy.now key c.workers-worker_count.result c.segments-segment_count.result table.ensures.policy c.workers-worker_count.ensures.workers c.segments-segment_count.ensures.segments
    _ _ _ _ _ table.ensures.roles c.split-parts.ensures.roles c.split-segment_parts.ensures.roles in
    subst
    (λ policy. (k : ℕ) (seat : RunSeat) → slice_get c.in_ok-workers.workers.items k ≡ Some seat → IsNewWorker policy table.table.table.shared.table_id k seat)
    table.ensures.policy
    (c.in_ok-workers.ensures.roles (lists_and_pool c.segments-segment_count.result) cut.0).1

pub returns-clause-each_list : goal.returns-clause-each_list
returns-clause-each_list c =
    let table = c.in_ok-table in
    let key = table.table.table.shared.key in
    let cut = cut_twice c.args.policy.now key c.workers-worker_count.result c.segments-segment_count.result table.ensures.policy c.workers-worker_count.ensures.workers c.segments-segment_count.ensures.segments
    _ _ _ _ _ table.ensures.roles c.split-parts.ensures.roles c.split-segment_parts.ensures.roles in
    let behind = (c.in_ok-workers.ensures.roles (lists_and_pool c.segments-segment_count.result) cut.0).0 in
    (c.in_ok-lists.ensures.roles (of_pool full ∷ []) behind).1

pub returns-clause-pool : goal.returns-clause-pool
returns-clause-pool c =
    let table = c.in_ok-table in
    let key = table.table.table.shared.key in
    let cut = cut_twice c.args.policy.now key c.workers-worker_count.result c.segments-segment_count.result table.ensures.policy c.workers-worker_count.ensures.workers c.segments-segment_count.ensures.segments
    _ _ _ _ _ table.ensures.roles c.split-parts.ensures.roles c.split-segment_parts.ensures.roles in
    let behind = (c.in_ok-workers.ensures.roles (lists_and_pool c.segments-segment_count.result) cut.0).0 in
    let last = (c.in_ok-lists.ensures.roles (of_pool full ∷ []) behind).0 in
    record {
      same = search rules;
      part = (c.next_part-pool.ensures.roles (of_pool full) [] last).0;
      bare = c.next_part-pool.ensures.bare_one;
    }
