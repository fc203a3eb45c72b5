use Rattle.std.proofs.Common.{◌≡◌, Ok, refl, sym, ap, ◌∙◌, rules}
use Rattle.hg_place.specs.Places.{place_from}
use Rattle.hg_place.proofs.PlaceNumbers.{place_is}
use Rattle.hg_trace.specs.Handles.{place_in}
use Rattle.hg_trace.proofs.handles.Parts.next_place.Goals as goal

pub returns : goal.returns
unfolding place_in
returns c =
    let segment = c.in_ok-segment.segment in
    let page = c.in_ok-page.page in
    let index = c.in_ok-index.index in
    let read : place_in c.args.self.now ≡ Ok (place_from segment page index, c.next_number-3.new.self) = search rules in
    read ∙ ap (λ place. Ok (place, c.next_number-3.new.self)) (sym (place_is _ segment page index refl refl refl))
