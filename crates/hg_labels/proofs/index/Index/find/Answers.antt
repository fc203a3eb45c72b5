use Rattle.std.proofs.Common.{◌≡◌, ◌+◌, ◌-◌, is_some, ◌∙◌, [], length, bit_and, Contains, slice_index_or, arith, ap, sym, subst, ⊎_elim}
use Rattle.hg_labels.specs.Slots.{slot_of, IsFull}
use Rattle.hg_labels.specs.Indexes.{home}
use Rattle.hg_labels.proofs.Buckets.{not_full}
use Rattle.hg_labels.proofs.index.Index.find.Goals as goal

pub returns-then-is_some-2-clause-none : goal.returns-then-is_some-2-clause-none
returns-then-is_some-2-clause-none c = λ _ number at found.
    let buckets = c.args.self.now.buckets in
    let there = c.in-Some.ensures.lookup.4 (omega arith) [] in
    let count : c.len.result ≡ length buckets.items = omega arith in
    let same : c.in-Some.bucket.now ≡ home buckets.items c.args.hash =
    there ∙ ap (λ bs. slice_index_or bs c.home_of.result []) c.deref.ensures.value
    ∙ ap (λ i. slice_index_or buckets.items i []) (c.home_of.ensures ∙ ap (λ n. bit_and c.args.hash (n - 1)) count) in
    ⊎_elim
    (λ kept. c.find_in-found.ensures.none (sym c.if-is_some.ensures) number at
    (subst (λ tag. Contains c.in-Some.bucket.now (record { tag = tag; number = number + 1 })) (sym c.tag_of.ensures)
    (subst (λ bucket. Contains bucket (slot_of c.args.hash number)) (sym same) kept)))
    (λ full. not_full c.in-Some.bucket.now (sym (c.if-is_some-2.ensures ∙ ap is_some c.room_in.ensures.first)) (subst IsFull (sym same) full.0))
    found
