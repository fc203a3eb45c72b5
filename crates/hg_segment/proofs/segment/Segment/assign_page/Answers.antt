use Rattle.std.proofs.Common.{refl}
use Rattle.hg_segment.proofs.Assigned.{right, lists, blocks, begins_inside}
use Rattle.hg_segment.proofs.segment.Segment.assign_page.Goals as goal

pub invariant_of-self : goal.invariant_of-self
invariant_of-self g c = rw c.assign.ensures (right _ _ _ _ _ _ _ c.args.page c.args.class _ _ _ c.self.invariant c.requires.page (rw (← c.self.view_is) at c.requires.begins) c.index_mut-lists.ensures.value c.block_words-size.ensures.listed c.worn_in-worn.ensures.worn c.format.ensures.linked c.format.ensures.formatted c.format.ensures.others c.format.ensures.shape)

pub returns-clause-assigned : goal.returns-clause-assigned
returns-clause-assigned g c = rw (← c.self.view_is, c.assign.ensures, lists _ _ _ _ _ _ _ c.args.page c.args.class _ _ _ c.self.invariant c.requires.page (rw (← c.self.view_is) at c.requires.begins) c.index_mut-lists.ensures.value c.block_words-size.ensures.listed c.worn_in-worn.ensures.worn c.format.ensures.linked c.format.ensures.formatted c.format.ensures.others c.format.ensures.shape) refl

pub returns-clause-blocks : goal.returns-clause-blocks
returns-clause-blocks g c = rw (← c.self.view_is) (blocks _ _ _ _ _ _ _ c.args.page c.args.class _ _ _ c.self.invariant c.requires.page (rw (← c.self.view_is) at c.requires.begins) c.index_mut-lists.ensures.value c.block_words-size.ensures.listed c.worn_in-worn.ensures.worn c.format.ensures.linked c.format.ensures.formatted c.format.ensures.others c.format.ensures.shape)

pub format-requires-clause-inside : goal.format-requires-clause-inside
format-requires-clause-inside g c = begins_inside _ _ _ _ _ _ c.args.page c.args.class _ c.self.invariant c.requires.page (rw (← c.self.view_is) at c.requires.begins) c.index_mut-lists.ensures.value

pub assign-requires-clause-begins : goal.assign-requires-clause-begins
assign-requires-clause-begins g c = rw (← c.self.view_is) at c.requires.begins
