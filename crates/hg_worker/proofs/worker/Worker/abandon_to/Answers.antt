use Rattle.std.proofs.Common.{◌++◌, ◌∷◌, [], refl, sym, subst, ◌∙◌}
use Rattle.hg_heap.specs.Held.{Held}
use Rattle.hg_heap.specs.Policies.{AreOf, IsOf}
use Rattle.hg_heap.proofs.ViewRoom.{found_one}
use Rattle.hg_machine.specs.Policy.{Policy}
use Rattle.hg_worker.specs.Seats.{number_in, records_in, part_of_seat}
use Rattle.hg_worker.specs.Workers.{had_in}
use Rattle.hg_worker.proofs.Hands.{knows_still, some_left, the_same}
use Rattle.hg_segment.specs.Kept.{Kept}
use Rattle.std.specs.Prelude.{Contains}
use Rattle.hg_worker.proofs.Comings.{lives_go}
use Rattle.hg_worker.proofs.Records.{left_goes}
use Rattle.hg_worker.proofs.Pools.{either_option, are_of_part, left_there, pool_with, with_there}
use Rattle.hg_worker.specs.Seats.{AreOnTable}
use Rattle.hg_worker.proofs.Tables.{more_on_table}
use Rattle.hg_worker.proofs.Workers.{named_by}
use Rattle.hg_worker.proofs.worker.Worker.abandon_to.Goals as goal

pub invariant_of-inner : goal.invariant_of-inner
invariant_of-inner g c =
    let s = c.deref_mut-inner.result.now in
    let there : (k : Kept _) → Contains c.release.new.self.segments k
    → Contains s.heap.segments k =
    either_option c.release.result _ _ c.release.ensures.rest c.release.ensures.unchanged
    (λ one e. left_there s.heap.segments c.release.new.self.segments one e)
    (λ e k. subst (λ (h : Held _). Contains h.segments k → Contains s.heap.segments k) (sym e)
    (λ c. c)) in
    record {
      sound = s.sound;
      below = s.below;
      words = s.words;
      of = are_of_part number_in s.policy s.heap.segments c.release.new.self.segments there s.of;
      together = λ k c'. s.together k (there k c');
      reach = s.reach;
      known = knows_still number_in part_of_seat (the_same (had_in s).own)
          (some_left number_in part_of_seat there) s.known;
    }

pub never_twice-requires-clause-number : goal.never_twice-requires-clause-number
never_twice-requires-clause-number g c =
    let p = c.args.pool.now in
    c.in-Some.ensures.number
    ∙ sym (found_one number_in records_in (p.pool.orphans ++ p.pool.fresh) c.args.segment
    c.in-Some-pick.other (sym c.in-Some-pick.ensures.picked)).1

pub never_twice-requires-clause-table : goal.never_twice-requires-clause-table
never_twice-requires-clause-table g c =
    let p = c.args.pool.now in
    let s = c.deref_mut-inner.result.now in
    s.together c.in-Some.one
    (found_one number_in records_in s.heap.segments c.args.segment c.in-Some.one
    (sym c.in-Some.ensures.released)).0
    ∙ (named_by c.deref_mut-inner.ensures.value c.args.self.now.named).seated
    ∙ sym (p.named c.in-Some-pick.other
    (found_one number_in records_in (p.pool.orphans ++ p.pool.fresh) c.args.segment
    c.in-Some-pick.other (sym c.in-Some-pick.ensures.picked)).0)

pub invariant_of-pool : goal.invariant_of-pool
invariant_of-pool g c =
    let p = c.args.pool.now in
    let s = c.deref_mut-inner.result.now in
    let one = c.in-Some.one in
    let there = (found_one number_in records_in s.heap.segments c.args.segment one
    (sym c.in-Some.ensures.released)).0 in
    let here : IsOf number_in g.N.ServiceName.policy one =
    subst (λ (q : Policy). IsOf number_in q one) (named_by c.deref_mut-inner.ensures.value
    c.args.self.now.named).serves
    (s.of.arena one there, s.of.greatest one there) in
    let of : AreOf number_in g.N.ServiceName.policy
    ((p.pool.orphans ++ one ∷ []) ++ p.pool.fresh) =
    pool_with number_in g.N.ServiceName.policy p.pool.orphans p.pool.fresh one p.each here in
    let named : AreOnTable g.N.TableName.table ((p.pool.orphans ++ one ∷ []) ++ p.pool.fresh) =
    λ k there'.
    more_on_table (p.pool.orphans ++ p.pool.fresh) one p.named
    (s.together one there ∙ (named_by c.deref_mut-inner.ensures.value
    c.args.self.now.named).seated) k
    (with_there p.pool.orphans p.pool.fresh one k there') in
    record {
      each = rw (
        c.put_orphan.ensures.orphans,
        c.put_orphan.ensures.fresh,
        c.in_default-pick.ensures.unchanged,
      ) of;
      named = rw (
        c.put_orphan.ensures.orphans,
        c.put_orphan.ensures.fresh,
        c.in_default-pick.ensures.unchanged,
      ) named;
    }

pub returns-clause-lives : goal.returns-clause-lives
returns-clause-lives g c =
    rw (sym c.deref_mut-inner.ensures.value)
    (lives_go number_in records_in part_of_seat (had_in c.deref_mut-inner.result.now) _
    c.args.segment refl
    c.release.ensures.gone c.release.ensures.others)

pub returns-clause-home : goal.returns-clause-home
returns-clause-home g c =
    rw (sym c.deref_mut-inner.ensures.value)
    (left_goes number_in records_in _ _ _ c.release.ensures.gone c.release.ensures.others)
