use Rattle.std.proofs.Common.{rules, arith, ◌≡◌, ◌+◌, ◌-◌, ◌*◌, ◌<◌, List, map, refl, ◌∙◌, subst}
use Rattle.std.specs.List.{range_with_len}
use Rattle.hg_place.specs.declared.geometry.TheConstants.{SEGMENT_PLACES}
use Rattle.hg_roles.specs.Roles.{Role, of_segment}
use Rattle.hg_table.specs.Seats.{IsInitial}
use Rattle.hg_table.proofs.Initial.{cut}
use Rattle.hg_run_table.specs.NewSeats.{IsNewSegment}
use Rattle.hg_run_table.specs.Seated.{HaveRoles}
use Rattle.hg_run_table.proofs.NewSeatsLemmas.{next_of_range, longer, pushed_more, none_yet}
use Rattle.hg_run_table.proofs.table.RunTable.segment_seats.Goals as goal

pub loop-init : goal.loop-init
loop-init c = record {
  same = refl;
  same_parts = refl;
  none = c.requires.none;
  bare = c.requires.bare;
  initial = subst (λ n. IsInitial 0 (n * SEGMENT_PLACES) c.args.lives.now.seat.me.0.lives) (omega arith) c.requires.initial;
  roles = subst (λ n. HaveRoles c.args.parts.now.seat.me.0.run (map of_segment (range_with_len 0 n))) (omega arith) c.requires.roles;
  many = search rules;
  each = none_yet (λ k seat. IsNewSegment c.args.self.now.table.shared.table_id k seat) _ (search rules);
}

pub part_seat-seat-requires-clause-cut : goal.part_seat-seat-requires-clause-cut
part_seat-seat-requires-clause-cut c =
    let i = c.loop.invariant.initial in (i.one, (let given = i.may_give in let few = c.requires.few in omega arith))

pub loop-preserved : goal.loop-preserved
loop-preserved c =
    let b = c.loop.invariant in
    let below : c.loop.counter < c.args.count = omega arith in
    let few = c.requires.few in
    let given = b.initial.may_give in
    let e = c.part_seat-seat.ensures in
    let t = cut c.loop.counter ((c.args.count - (c.loop.counter + 1)) * SEGMENT_PLACES) _ _ _
    (subst (λ n. IsInitial c.loop.counter n c.loop.lives.seat.me.0.lives) (omega arith) b.initial) (omega arith) e.kept e.given in
    let p = e.roles (of_segment c.loop.counter) _
    (subst (λ (roles : List Role). HaveRoles c.loop.parts.seat.me.0.run roles) (next_of_range of_segment c.args.count c.loop.counter below) b.roles) in record {
      same = e.same ∙ b.same;
      same_parts = e.same_parts ∙ b.same_parts;
      none = e.none;
      bare = e.bare;
      initial = t.0;
      roles = p.1;
      many = longer _ _ _ _ c.in_ok-push.ensures.items b.many;
      each = pushed_more (λ k seat. IsNewSegment c.args.self.now.table.shared.table_id k seat) _ _ _ _ c.in_ok-push.ensures.items b.many b.each
          (record {
            same = e.of_it ∙ b.same ∙ c.requires.same;
            part = p.0;
            lives = record { one = t.1; seen = t.2; ended = t.3; first = t.4; all = t.5; home = t.6; gives_none = t.7 };
          });
    }

pub returns-clause-initial : goal.returns-clause-initial
returns-clause-initial c =
    let done : c.loop.counter ≡ c.args.count = omega arith in
    subst (λ n. IsInitial n 0 c.loop.lives.seat.me.0.lives) done
    (subst (λ n. IsInitial c.loop.counter n c.loop.lives.seat.me.0.lives) (omega arith) c.loop.invariant.initial)
