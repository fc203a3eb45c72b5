use Rattle.std.proofs.Common.{◌∙◌, ap, sym, subst, Some, ℕ, Option}
use Rattle.hg_segment.specs.Right.{IsBlockPlace}
use Rattle.hg_heap.proofs.reading.size_of.Goals as goal

pub unreachable-requires : goal.unreachable-requires
unreachable-requires g c = subst (λ (o : Option ℕ). IsBlockPlace o c.args.index)
    (sym c.class_of.ensures ∙ c.in_default.is)
    (c.settled.ensures.open c.args.page c.args.index c.requires.page c.requires.index
    c.requires.open)

pub returns-clause-words : goal.returns-clause-words
returns-clause-words g c = c.block_words.ensures.value
    ∙ sym (c.settled.ensures.blocks c.args.page c.args.index c.in-Some.class c.requires.page
    c.requires.index c.requires.open (sym c.class_of.ensures ∙ c.in-Some.is))

pub returns-clause-class : goal.returns-clause-class
returns-clause-class g c = sym c.class_of.ensures ∙ c.in-Some.is
    ∙ ap Some (sym c.block_words.ensures.value)
