use Rattle.std.proofs.Common.{◌∙◌, ◌<◌, ℕ, List, [], Bor, map, length, get_or, ap, subst, arith}
use Rattle.std.proofs.lemmas.List.{length-map}
use Rattle.std.proofs.lemmas.Option.{slice_get_within}
use Rattle.hg_labels.specs.Hash.{hash_of}
use Rattle.hg_labels.specs.Indexes.{Finds}
use Rattle.hg_labels.proofs.Texts.{text_at}
use Rattle.hg_labels.proofs.Found.{entered}
use Rattle.hg_labels.proofs.index.Index.of.Goals as goal

pub loop-number-preserved : goal.loop-number-preserved
loop-number-preserved c =
    let names = c.args.names.now in
    let number = c.loop-number.number in
    let lt : number < length names = omega arith in
    let item : Bor (List ℕ) = get_or names number (record { ref_ptr = (0, 0); now = [] }) in
    let hashed = c.hash_of.ensures ∙ ap hash_of c.as_bytes.ensures.value in
    let entry = subst (λ hash. Finds c.enter.new.self hash item.now number) hashed c.in_ok-enter.ensures.ok in
    entered c.loop-number.index c.enter.new.self (map (λ (known : Bor (List ℕ)). known.now) names) number item.now c.requires
    (text_at names number (record { ref_ptr = (0, 0); now = [] }) lt)
    entry c.in_ok-enter.ensures.others c.loop-number.invariant

pub returns : goal.returns
returns c =
    let names = map (λ (known : Bor (List ℕ)). known.now) c.args.names.now in
    record {
      found = λ number name at. c.loop-number.invariant number name
          (omega (arith, slice_get_within names number name at, length-map c.args.names.now (λ (known : Bor (List ℕ)). known.now))) at;
    }
