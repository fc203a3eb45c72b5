use Rattle.std.proofs.Common.{rules, arith, ◌≡◌, ◌-◌, ◌<◌, ◌++◌, List, map, refl, ◌∙◌, subst}
use Rattle.std.specs.List.{range_with_len}
use Rattle.hg_roles.specs.Roles.{Role}
use Rattle.hg_run_table.specs.NewSeats.{IsNewWorker, new_worker}
use Rattle.hg_run_table.specs.Seated.{HaveRoles}
use Rattle.hg_run_table.proofs.NewSeatsLemmas.{next_of_range, longer, pushed_more, none_yet, worker_is, given_one}
use Rattle.hg_run_table.proofs.table.RunTable.worker_seats.Goals as goal

pub loop-init : goal.loop-init
loop-init c = record {
  same = refl;
  same_parts = refl;
  none = c.requires.none;
  bare = c.requires.bare;
  one = c.requires.one;
  left = omega (arith, c.requires.left);
  many = search rules;
  roles = λ rest has. (
    subst (λ n. HaveRoles c.args.parts.now.seat.me.0.run (map (new_worker c.args.self.now.table.shared.key) (range_with_len 0 n) ++ rest)) (omega arith) has,
    none_yet (λ k seat. IsNewWorker c.args.self.now.table.shared.key c.args.self.now.table.shared.table_id k seat) _ (search rules),
  );
}

pub part_seat-seat-requires-clause-cut : goal.part_seat-seat-requires-clause-cut
part_seat-seat-requires-clause-cut c = let b = c.loop.invariant in (b.one, (let l = b.left in omega arith))

pub loop-preserved : goal.loop-preserved
loop-preserved c =
    let b = c.loop.invariant in
    let below : c.loop.counter < c.args.count = omega arith in
    let key = c.args.self.now.table.shared.key in
    let e = c.part_seat-seat.ensures in
    let g = given_one _ _ e.kept b.one in record {
      same = e.same ∙ b.same;
      same_parts = e.same_parts ∙ b.same_parts;
      none = e.none;
      bare = e.bare;
      one = g.0;
      left = (let l = b.left in let f = g.1 in omega arith);
      many = longer _ _ _ _ c.in_ok-push.ensures.items b.many;
      roles = λ rest has.
          let r = b.roles rest has in
          let p = e.roles (new_worker key c.loop.counter) _
          (subst (λ (roles : List Role). HaveRoles c.loop.parts.seat.me.0.run (roles ++ rest)) (next_of_range (new_worker key) c.args.count c.loop.counter below) r.0) in
          let is = worker_is key c.loop.counter c.part_seat-seat.result p.0 in (
            p.1,
            pushed_more (λ k seat. IsNewWorker key c.args.self.now.table.shared.table_id k seat) _ _ _ _ c.in_ok-push.ensures.items b.many r.1
                (record { same = e.of_it ∙ b.same ∙ c.requires.same; worker = is.0; no_call = is.1; lives = e.given }),
          );
    }

pub returns-clause-roles : goal.returns-clause-roles
returns-clause-roles c rest has =
    let r = c.loop.invariant.roles rest has in
    let done : c.args.count - c.loop.counter ≡ 0 = omega arith in
    (subst (λ n. HaveRoles c.loop.parts.seat.me.0.run (map (new_worker c.args.self.now.table.shared.key) (range_with_len c.loop.counter n) ++ rest)) done r.0, r.1)
