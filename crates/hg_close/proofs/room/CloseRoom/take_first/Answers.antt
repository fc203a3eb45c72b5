use Rattle.std.proofs.Common.{◌≡◌, ◌∙◌, slice_index_or, subst, sym}
use Rattle.hg_pool.specs.Pooled.{IsPooled}
use Rattle.hg_segment.specs.Parted.{plain_number}
use Rattle.hg_worker.specs.Seats.{number_in, records_in}
use Rattle.hg_worker.proofs.Copied.{same_number}
use Rattle.hg_close.proofs.Moving.{copy_numbered, first_pooled, for_first, has_moved}
use Rattle.hg_close.proofs.Ready.{taken_ready}
use Rattle.hg_close.proofs.room.CloseRoom.take_first.Goals as goal

pub copy_words-requires-clause-pooled : goal.copy_words-requires-clause-pooled
copy_words-requires-clause-pooled g c =
    first_pooled number_in c.args.pool.now.pool c.args.number c.requires.first

pub rewrap_next-requires-clause-first : goal.rewrap_next-requires-clause-first
rewrap_next-requires-clause-first g c =
    for_first number_in records_in c.args.number c.args.pool.now.pool
    c.copy_words.new.self.pool c.in-Some.words c.copy_words.new.words c.requires.first
    (taken_ready c.args.self.now.words.items c.args.number c.index_mut.result.now c.in-Some.words
    c.requires.words (subst (λ n. c.index_mut.result.now
    ≡ slice_index_or c.args.self.now.words.items n c.index_mut.result.now) c.from.ensures
    c.index_mut.ensures.value) (sym c.take.ensures.value ∙ c.in-Some.is))
    c.copy_words.ensures.copied (same_number _ c.copy_words.ensures.copied.before.slots
    c.copy_words.ensures.copied.after.slots c.in-Some.words c.copy_words.new.words
    c.copy_words.ensures.copied.copied)

pub rewrap_next-requires-clause-new : goal.rewrap_next-requires-clause-new
rewrap_next-requires-clause-new g c there =
    c.requires.new (subst (IsPooled plain_number c.args.self.now.parts.pool)
    (copy_numbered number_in records_in c.args.number c.args.pool.now.pool
    c.copy_words.new.self.pool c.in-Some.words c.copy_words.new.words c.requires.first
    (taken_ready c.args.self.now.words.items c.args.number c.index_mut.result.now c.in-Some.words
    c.requires.words (subst (λ n. c.index_mut.result.now
    ≡ slice_index_or c.args.self.now.words.items n c.index_mut.result.now) c.from.ensures
    c.index_mut.ensures.value) (sym c.take.ensures.value ∙ c.in-Some.is))
    c.copy_words.ensures.copied (same_number _ c.copy_words.ensures.copied.before.slots
    c.copy_words.ensures.copied.after.slots c.in-Some.words c.copy_words.new.words
    c.copy_words.ensures.copied.copied)) there)

pub returns-clause-moved : goal.returns-clause-moved
returns-clause-moved g c =
    has_moved number_in records_in c.args.number c.args.pool.now.pool
    c.copy_words.new.self.pool c.in-Some.words c.copy_words.new.words c.requires.first
    (taken_ready c.args.self.now.words.items c.args.number c.index_mut.result.now c.in-Some.words
    c.requires.words (subst (λ n. c.index_mut.result.now
    ≡ slice_index_or c.args.self.now.words.items n c.index_mut.result.now) c.from.ensures
    c.index_mut.ensures.value) (sym c.take.ensures.value ∙ c.in-Some.is))
    c.copy_words.ensures.copied (same_number _ c.copy_words.ensures.copied.before.slots
    c.copy_words.ensures.copied.after.slots c.in-Some.words c.copy_words.new.words
    c.copy_words.ensures.copied.copied) c.rewrap_next.new.self.pool c.args.self.now.parts.pool
    c.rewrap_next.new.to c.settled.ensures.right c.rewrap_next.ensures.moved
