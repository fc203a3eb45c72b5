use Rattle.std.proofs.Common.{rules, arith, ◌≡◌, ℕ, ◌-◌, ◌<◌, ◌++◌, List, [], map, refl, ◌∙◌, subst}
use Rattle.std.specs.List.{range_with_len}
use Rattle.hg_roles.specs.Roles.{Role, of_remote}
use Rattle.hg_run_table.specs.declared.table.RunSeat.{RunSeat}
use Rattle.hg_run_table.specs.NewSeats.{IsNewOther}
use Rattle.hg_run_table.specs.Seated.{HaveRoles}
use Rattle.hg_run_table.proofs.NewSeatsLemmas.{next_of_range, longer, pushed_more, none_yet}
use Rattle.hg_run_table.proofs.table.RunTable.list_seats.Goals as goal

pub loop-init : goal.loop-init
loop-init c = record {
  same = refl;
  bare = c.requires.bare;
  many = search rules;
  roles = λ rest has. (
    subst (λ n. HaveRoles c.args.parts.now.seat.me.0.run (map (λ segment. of_remote segment []) (range_with_len 0 n) ++ rest)) (omega arith) has,
    none_yet (λ k seat. IsNewOther c.args.self.now.table.shared.table_id (of_remote k []) seat) _ (search rules),
  );
}

pub loop-preserved : goal.loop-preserved
loop-preserved c =
    let b = c.loop.invariant in
    let below : c.loop.counter < c.args.count = omega arith in
    let new : ℕ → RunSeat → Type 0 = λ k seat. IsNewOther c.args.self.now.table.shared.table_id (of_remote k []) seat in
    let e = c.next_part-seat.ensures in record {
      same = e.same ∙ b.same;
      bare = e.bare;
      many = longer _ _ _ _ c.in_ok-push.ensures.items b.many;
      roles = λ rest has.
          let r = b.roles rest has in
          let p = e.roles (of_remote c.loop.counter []) _
          (subst (λ (roles : List Role). HaveRoles c.loop.parts.seat.me.0.run (roles ++ rest)) (next_of_range (λ segment. of_remote segment []) c.args.count c.loop.counter below) r.0) in
          (p.1, pushed_more new _ _ _ _ c.in_ok-push.ensures.items b.many r.1 (record { same = e.of_it ∙ b.same ∙ c.requires.same; part = p.0; bare = e.bare_one }));
    }

pub returns-clause-roles : goal.returns-clause-roles
returns-clause-roles c rest has =
    let r = c.loop.invariant.roles rest has in
    let done : c.args.count - c.loop.counter ≡ 0 = omega arith in
    (subst (λ n. HaveRoles c.loop.parts.seat.me.0.run (map (λ segment. of_remote segment []) (range_with_len c.loop.counter n) ++ rest)) done r.0, r.1)
