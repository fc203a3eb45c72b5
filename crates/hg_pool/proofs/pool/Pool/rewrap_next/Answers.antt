use Rattle.std.proofs.Common.{◌∙◌, sym, ap, subst}
use Rattle.hg_segment.specs.Copies.{IsRewrapped}
use Rattle.hg_pool.specs.Pooled.{IsPooled, without_segment}
use Rattle.hg_pool.proofs.Firsts.{number_first, picked_first, picked_is_first}
use Rattle.hg_pool.proofs.pool.Pool.rewrap_next.Goals as goal

pub unreachable-requires-in_default-pick : goal.unreachable-requires-in_default-pick
unreachable-requires-in_default-pick g c =
    let first = c.requires.first in
    let n = number_first g.S.SlotWords.number c.args.self.now first.one c.in-Some.number first.first
    c.in-Some.ensures in
    c.in_default-pick.not-Some first.one
    (picked_first g.S.SlotWords.number c.args.self.now first.one c.in-Some.number c.pick.result
    first.first n c.pick.ensures.picked)

pub rewrap-one-requires-clause-number : goal.rewrap-one-requires-clause-number
rewrap-one-requires-clause-number g c =
    let number = g.S.SlotWords.number in
    let first = c.requires.first in
    first.number_is ∙ ap (λ k. number k.slots) (sym
    (picked_is_first number c.args.self.now first.one c.in-Some-pick.one c.in-Some.number
    first.first c.in-Some.ensures c.pick.ensures.picked c.in-Some-pick.is))

pub rewrap-one-requires-clause-records : goal.rewrap-one-requires-clause-records
rewrap-one-requires-clause-records g c =
    let first = c.requires.first in
    first.records_are ∙ ap (λ k. g.S.SlotWords.records k.slots) (sym
    (picked_is_first g.S.SlotWords.number c.args.self.now first.one c.in-Some-pick.one
    c.in-Some.number first.first c.in-Some.ensures c.pick.ensures.picked c.in-Some-pick.is))

pub put_orphan-requires : goal.put_orphan-requires
put_orphan-requires g c there =
    c.requires.new (subst (λ s. IsPooled g.T.SlotWords.number c.args.to.now (g.T.SlotWords.number s))
    c.rewrap-one.ensures.slots there)

pub put_fresh-requires : goal.put_fresh-requires
put_fresh-requires g c there =
    c.requires.new (subst (λ s. IsPooled g.T.SlotWords.number c.args.to.now (g.T.SlotWords.number s))
    c.rewrap-one.ensures.slots there)

pub returns-then-is_orphan-clause-moved : goal.returns-then-is_orphan-clause-moved
returns-then-is_orphan-clause-moved g c =
    let number = g.S.SlotWords.number in
    let first = c.requires.first in
    let same = picked_is_first number c.args.self.now first.one c.in-Some-pick.one
    c.in-Some.number first.first c.in-Some.ensures c.pick.ensures.picked c.in-Some-pick.is in
    record {
      one = first.one;
      now = c.rewrap-one.result;
      first = first.first;
      left = c.pick.ensures.left ∙ ap (without_segment number c.args.self.now)
          (number_first number c.args.self.now first.one c.in-Some.number first.first
          c.in-Some.ensures);
      slots_are = c.rewrap-one.ensures.slots;
      rest = subst (λ k. IsRewrapped k c.rewrap-one.result) same c.rewrap-one.ensures.rest;
      orphan = λ some. (c.put_orphan.ensures.orphans, c.put_orphan.ensures.fresh);
      fresh = λ none. absurd (c.has_orphan-is_orphan.ensures.0 c.if-is_orphan.true none);
    }

pub returns-else-is_orphan-clause-moved : goal.returns-else-is_orphan-clause-moved
returns-else-is_orphan-clause-moved g c =
    let number = g.S.SlotWords.number in
    let first = c.requires.first in
    let same = picked_is_first number c.args.self.now first.one c.in-Some-pick.one
    c.in-Some.number first.first c.in-Some.ensures c.pick.ensures.picked c.in-Some-pick.is in
    record {
      one = first.one;
      now = c.rewrap-one.result;
      first = first.first;
      left = c.pick.ensures.left ∙ ap (without_segment number c.args.self.now)
          (number_first number c.args.self.now first.one c.in-Some.number first.first
          c.in-Some.ensures);
      slots_are = c.rewrap-one.ensures.slots;
      rest = subst (λ k. IsRewrapped k c.rewrap-one.result) same c.rewrap-one.ensures.rest;
      orphan = λ some. absurd (let t = c.has_orphan-is_orphan.ensures.1 some in
          let f = c.if-is_orphan.false in cc);
      fresh = λ none. (c.put_fresh.ensures.fresh, c.put_fresh.ensures.orphans);
    }
