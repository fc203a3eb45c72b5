use Rattle.std.proofs.Common.{◌≡◌, ◌<◌, ◌-◌, ◌∙◌, [], length, bit_and, slice_index_or, arith, sym, ap, subst}
use Rattle.std.proofs.lemmas.Grind.{common_steps}
use Rattle.std.proofs.lemmas.List.{get_or_read}
use Rattle.hg_labels.specs.Slots.{IsFull}
use Rattle.hg_labels.specs.Indexes.{home}
use Rattle.hg_labels.proofs.Buckets.{IsFull-from_none, Contains-put}
use Rattle.hg_labels.proofs.index.Index.put.Goals as goal

pub returns-in_default-room_in-clause-full : goal.returns-in_default-room_in-clause-full
returns-in_default-room_in-clause-full c =
    let buckets = c.args.self.now.buckets in
    let spot = c.home_of-home.result in
    let there = c.in-Some.ensures.lookup.4 (omega arith) [] in
    let count : c.len.result ≡ length buckets.items = omega arith in
    let same : c.in-Some.bucket.now ≡ home buckets.items c.args.hash =
    there ∙ ap (λ bs. slice_index_or bs spot []) c.deref.ensures.value
    ∙ ap (λ i. slice_index_or buckets.items i []) (c.home_of-home.ensures ∙ ap (λ n. bit_and c.args.hash (n - 1)) count) in
    subst IsFull same (IsFull-from_none _ (sym c.room_in.ensures.first ∙ c.in_default-room_in.is))

pub returns-clause-stays : goal.returns-clause-stays
returns-clause-stays c = λ at other apart kept.
    let buckets = c.args.self.now.buckets in
    let spot = c.home_of-home.result in
    let lt : spot < length buckets.items = grind (arith, common_steps) in
    let there = c.in-Some.ensures.lookup.4 (omega arith) [] in
    let same : c.in-Some.bucket.now ≡ slice_index_or buckets.items spot [] = there ∙ ap (λ bs. slice_index_or bs spot []) c.deref.ensures.value in
    let written : c.index_mut.result.now ≡ slice_index_or buckets.items spot [] = get_or_read buckets.items _ _ lt c.index_mut.ensures.value [] in
    Contains-put buckets.items c.index_mut.result.now spot c.in-Some-room_in.place c.args.slot other lt written
    (rw (written, ← same) (sym c.room_in.ensures.first ∙ c.in-Some-room_in.is)) apart at kept
