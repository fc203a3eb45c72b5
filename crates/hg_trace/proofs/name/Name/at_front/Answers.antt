use Rattle.std.proofs.Common.{length, drop, sym, ap, ◌∙◌}
use Rattle.hg_policy_text.specs.NameForm.{is_name}
use Rattle.hg_trace.specs.NameFront.{ends_word, fits_name}
use Rattle.hg_trace.proofs.NameCuts.{cut_there, front_is, front_not_fits, front_goes_on}
use Rattle.hg_trace.proofs.name.Name.at_front.Goals as goal
use Rattle.hg_trace.proofs.name.Name.at_front.Goals.{then-not-ends_word-via-then-not-ends_word, then-not-ends_word-via-else-not-ends_word+then-not-fits_name}

pub returns-then-not-ends_word : goal.returns-then-not-ends_word
returns-then-not-ends_word c =
    let text = c.args.text.now in
    let (front, back) = cut_there text c.split_at.result.0.now c.split_at.result.1.now _ _ c.name_end.ensures c.unwrap_or-end.ensures c.split_at.ensures.front c.split_at.ensures.back in
    elim c.then-not-ends_word.branch [
      | then-not-ends_word-via-then-not-ends_word w ↦ front_goes_on text (ap ends_word (sym back) ∙ sym w.if-not-ends_word.ensures)
      | then-not-ends_word-via-else-not-ends_word+then-not-fits_name w ↦
          front_not_fits text (ap ends_word (sym back) ∙ sym w.if-not-ends_word.ensures) (ap fits_name (sym front) ∙ sym w.if-not-fits_name.ensures)
    ]

pub taken-requires : goal.taken-requires
taken-requires c =
    let text = c.args.text.now in
    let (front, back) = cut_there text c.split_at.result.0.now c.split_at.result.1.now _ _ c.name_end.ensures c.unwrap_or-end.ensures c.split_at.ensures.front c.split_at.ensures.back in
    let is = front_is text (ap ends_word (sym back) ∙ sym c.if-not-ends_word.ensures) (ap fits_name (sym front) ∙ sym c.if-not-fits_name.ensures) in
    ap is_name front ∙ is.0

pub returns : goal.returns
returns c =
    let text = c.args.text.now in
    let (front, back) = cut_there text c.split_at.result.0.now c.split_at.result.1.now _ _ c.name_end.ensures c.unwrap_or-end.ensures c.split_at.ensures.front c.split_at.ensures.back in
    let is = front_is text (ap ends_word (sym back) ∙ sym c.if-not-ends_word.ensures) (ap fits_name (sym front) ∙ sym c.if-not-fits_name.ensures) in
    let name = c.taken.ensures in (
      ap is_name (name ∙ front) ∙ is.0,
      name ∙ front ∙ is.1,
      c.split_at.ensures.back ∙ ap (λ n. drop n text) (sym (ap length name ∙ c.split_at.ensures.front_len)),
    )
