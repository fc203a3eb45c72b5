use Rattle.std.proofs.Common.{◌≡◌, ◌∙◌, ◌<◌, length, sym, arith, Some, None}
use Rattle.hg_segment.specs.Parted.{plain_number}
use Rattle.hg_pool.specs.Shown.{at_number}
use Rattle.hg_pool.proofs.Calls.{at_now, below_now, read_at}
use Rattle.hg_pool.proofs.Replacing.{replaced_kept, replaced_right, own_number}
use Rattle.hg_pool.proofs.Replacing.{part_parted, part_other, part_same}
use Rattle.hg_pool.proofs.parting.Pool+PlainWords.part.Goals as goal
use Rattle.hg_pool.proofs.parting.Pool+PlainWords.part.Goals.{After-self, In-Some}

-- the segment's number is that of an entry
within : (c : After-self) → c.args.place.segment < length c.self.inside.segments.items.items
within c = omega (
  arith,
  c.self.invariant.all,
  below_now plain_number _ _ _ _ _ c.self.invariant c.self.view_is c.requires.pooled,
)

pub index_mut-requires : goal.index_mut-requires
index_mut-requires c = omega (
  arith,
  c.self.invariant.all,
  below_now plain_number _ _ _ _ _ c.self.invariant c.self.view_is c.requires.pooled,
)

pub unreachable-requires : goal.unreachable-requires
unreachable-requires c =
    let lt = within (goal.at.unreachable-requires c).After-self in
    let none : Some c.requires.pooled.0 ≡ None = sym c.requires.pooled.1
    ∙ at_now plain_number _ _ _ _ _ c.self.invariant c.self.view_is
    ∙ read_at plain_number _ _ _ lt c.index_mut.ensures.value ∙ c.in_default.is in cc

-- which has the segment
there : (c : In-Some) → at_number c.self.inside.segments.items.items c.args.place.segment
    ≡ Some c.in-Some.found
there c =
    let lt : c.args.place.segment < length c.self.inside.segments.items.items = omega (
      arith,
      c.self.invariant.all,
      below_now plain_number _ _ _ _ _ c.self.invariant c.self.view_is c.requires.pooled,
    ) in
    read_at plain_number _ _ _ lt c.index_mut.ensures.value ∙ c.in-Some.is

pub part-requires-clause-segment : goal.part-requires-clause-segment
part-requires-clause-segment c = sym (c.self.invariant.numbered c.args.place.segment c.in-Some.found
    (there (goal.at.part-requires-clause-segment c).In-Some))

pub invariant_of-self : goal.invariant_of-self
invariant_of-self c =
    replaced_kept plain_number _ _ _ _ _ c.in-Some.found c.part.new.self c.self.invariant
    c.self.view_is (there (goal.at.invariant_of-self c).In-Some)
    (own_number c.args.place c.args.expected c.in-Some.found c.part.new.self c.part.result
    c.part.ensures.parted c.part.ensures.other)

pub returns-clause-parted : goal.returns-clause-parted
returns-clause-parted c =
    part_parted _ _ _ _ c.args.place c.args.expected c.in-Some.found c.part.new.self
    c.self.invariant c.self.view_is (there (goal.at.returns-clause-parted c).In-Some)
    c.part.result c.part.ensures.parted

pub returns-clause-err : goal.returns-clause-err
returns-clause-err c =
    part_other _ _ _ _ c.args.place c.args.expected c.in-Some.found c.part.new.self
    c.self.invariant c.self.view_is (there (goal.at.returns-clause-err c).In-Some)
    c.part.result c.part.ensures.other

pub returns-clause-same : goal.returns-clause-same
returns-clause-same c =
    part_same _ _ _ _ c.args.place c.args.expected c.in-Some.found c.part.new.self
    c.self.invariant c.self.view_is (there (goal.at.returns-clause-same c).In-Some)
    c.part.result c.part.ensures.other

pub returns-clause-right : goal.returns-clause-right
returns-clause-right c =
    replaced_right plain_number _ _ _ _ _ c.in-Some.found c.part.new.self c.self.invariant
    c.self.view_is (there (goal.at.returns-clause-right c).In-Some)
    (own_number c.args.place c.args.expected c.in-Some.found c.part.new.self c.part.result
    c.part.ensures.parted c.part.ensures.other)
