use Rattle.std.proofs.Common.{◌∙◌, slice_get, length, ap, sym}
use Rattle.std.proofs.lemmas.List.{length-map}
use Rattle.hg_trace.proofs.StoredNumbers.{stands, is_new, stands_behind, if_ok}
use Rattle.hg_trace.proofs.numbering.Numbering.find_or_push.Goals as goal

pub returns-in-Some-clause-stands : goal.returns-in-Some-clause-stands
returns-in-Some-clause-stands c =
    let names = c.self.inside.names in
    let name = c.args.name.now in
    if_ok c.short.result c.short.ensures.ok
    (λ n same. ap (slice_get c.args.self.now) same ∙ (ap (λ known. slice_get known c.in-Some.number) (sym c.self.view_is) ∙ stands names name c.in-Some.number (sym c.in-Some.ensures)))

pub returns-in_ok-push-in-None-clause-stands : goal.returns-in_ok-push-in-None-clause-stands
returns-in_ok-push-in-None-clause-stands c =
    let names = c.self.inside.names in
    let name = c.args.name.now in
    let added = c.in_ok-push-in-None.ensures.added ∙ is_new names name (sym c.in-None.ensures) in
    let new = c.in_ok-push-in-None.ensures.new added in
    if_ok c.short-in-None.result c.short-in-None.ensures.ok
    (λ n same. ap (slice_get c.push.new.self) (same ∙ (sym (length-map c.names-number.result.now (λ known. known.now)) ∙ ap length c.names-number.ensures)) ∙ (ap (λ known. slice_get known (length names)) new ∙ stands_behind names name))
