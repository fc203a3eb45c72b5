use Rattle.std.proofs.Common.{◌≡◌, Ok, refl, sym, ap, ◌∙◌, rules}
use Rattle.hg_trace.specs.Handles.{handle_of, handle_from}
use Rattle.hg_trace.proofs.HandleParts.{handle_is}
use Rattle.hg_trace.proofs.handles.handle_of.Goals as goal

pub returns : goal.returns
unfolding handle_of
returns c =
    let place = c.in_ok-place.place in
    let generation = c.in_ok-generation.generation in
    let read : handle_of c.args.text.now ≡ Ok (handle_from place generation) = search rules in
    ap (λ handle. Ok handle) (handle_is _ place generation refl refl) ∙ sym read
