use Rattle.std.proofs.Common.{◌≡◌, None, Some, decimal, ap, ◌∙◌, arith}
use Rattle.std.proofs.lemmas.Str.Pattern.{strip_prefix_char}
use Rattle.hg_place.proofs.PlaceNumbers.{same_place_parts, same_handle_parts}
use Rattle.hg_place.proofs.HandleTexts.{behind_segment, behind_page, handle_text-dots, behind_at}
use Rattle.hg_place.proofs.text.handle_in.Goals as goal

pub returns-in_err-numbers-clause-each : goal.returns-in_err-numbers-clause-each
returns-in_err-numbers-clause-each c h is =
    absurd (strip_prefix_char 64 c.args.text.now None c.in_err-numbers.ensures.cases (omega arith) _ (is.0 ∙ handle_text-dots h))

pub returns-in_err-segment-clause-each : goal.returns-in_err-segment-clause-each
returns-in_err-segment-clause-each c h is =
    let at = strip_prefix_char 64 c.args.text.now (Some c.in_ok-numbers.numbers) c.in_ok-numbers.ensures.cases (omega arith) in
    absurd (c.in_err-segment.ensures.each h.place.segment (behind_segment h) (behind_at h _ _ is at, h.place.segment_below))

pub returns-in_err-page-clause-each : goal.returns-in_err-page-clause-each
returns-in_err-page-clause-each c h is =
    let at = strip_prefix_char 64 c.args.text.now (Some c.in_ok-numbers.numbers) c.in_ok-numbers.ensures.cases (omega arith) in
    let segment = c.in_ok-segment.ensures.each h.place.segment (behind_segment h) (behind_at h _ _ is at, h.place.segment_below) in
    absurd (c.in_err-page.ensures.each h.place.page (behind_page h) (segment.1, h.place.page_below))

pub returns-in_err-index-clause-each : goal.returns-in_err-index-clause-each
returns-in_err-index-clause-each c h is =
    let at = strip_prefix_char 64 c.args.text.now (Some c.in_ok-numbers.numbers) c.in_ok-numbers.ensures.cases (omega arith) in
    let segment = c.in_ok-segment.ensures.each h.place.segment (behind_segment h) (behind_at h _ _ is at, h.place.segment_below) in
    let page = c.in_ok-page.ensures.each h.place.page (behind_page h) (segment.1, h.place.page_below) in
    absurd (c.in_err-index.ensures.each h.place.index (decimal h.generation) (page.1, h.place.index_below))

pub returns-in_err-generation-clause-each : goal.returns-in_err-generation-clause-each
returns-in_err-generation-clause-each c h is =
    let at = strip_prefix_char 64 c.args.text.now (Some c.in_ok-numbers.numbers) c.in_ok-numbers.ensures.cases (omega arith) in
    let segment = c.in_ok-segment.ensures.each h.place.segment (behind_segment h) (behind_at h _ _ is at, h.place.segment_below) in
    let page = c.in_ok-page.ensures.each h.place.page (behind_page h) (segment.1, h.place.page_below) in
    let index = c.in_ok-index.ensures.each h.place.index (decimal h.generation) (page.1, h.place.index_below) in
    let no = c.in_err-generation.ensures.each h.generation (index.1, is.1) in
    absurd (cc)

pub returns-then-generation-eq0-clause-each : goal.returns-then-generation-eq0-clause-each
returns-then-generation-eq0-clause-each c h is =
    let at = strip_prefix_char 64 c.args.text.now (Some c.in_ok-numbers.numbers) c.in_ok-numbers.ensures.cases (omega arith) in
    let segment = c.in_ok-segment.ensures.each h.place.segment (behind_segment h) (behind_at h _ _ is at, h.place.segment_below) in
    let page = c.in_ok-page.ensures.each h.place.page (behind_page h) (segment.1, h.place.page_below) in
    let index = c.in_ok-index.ensures.each h.place.index (decimal h.generation) (page.1, h.place.index_below) in
    let found = c.in_ok-generation.ensures.each h.generation (index.1, is.1) in
    let generation : c.in_ok-generation.generation ≡ h.generation = cc in
    let some = h.given_out in
    absurd (omega arith)

pub returns-clause-each : goal.returns-clause-each
returns-clause-each c h is =
    let at = strip_prefix_char 64 c.args.text.now (Some c.in_ok-numbers.numbers) c.in_ok-numbers.ensures.cases (omega arith) in
    let segment = c.in_ok-segment.ensures.each h.place.segment (behind_segment h) (behind_at h _ _ is at, h.place.segment_below) in
    let page = c.in_ok-page.ensures.each h.place.page (behind_page h) (segment.1, h.place.page_below) in
    let index = c.in_ok-index.ensures.each h.place.index (decimal h.generation) (page.1, h.place.index_below) in
    let found = c.in_ok-generation.ensures.each h.generation (index.1, is.1) in
    ap (λ k. Some k) (same_handle_parts _ h (same_place_parts _ h.place segment.0 page.0 index.0) (cc))
