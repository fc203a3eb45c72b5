use Rattle.std.proofs.Common.{◌≡◌, ◌+◌, ◌-◌, [], ◌∷◌, length, take, drop, sym, ap, ◌∙◌}
use Rattle.std.specs.Prelude.{unwrap_or, option_map}
use Rattle.std.proofs.lemmas.List.{take_rest, drop-drop}
use Rattle.hg_trace.specs.Handles.{parts_of}
use Rattle.hg_trace.proofs.Dots.{parts_of-next, parts_of-last}
use Rattle.hg_trace.proofs.handles.Parts.next_part.Goals as goal

pub returns-in-Some-dot_in : goal.returns-in-Some-dot_in
returns-in-Some-dot_in c =
    let rest = c.in-Some.rest.now in
    let end = c.in-Some-dot_in.end in
    let (part, more) = c.split_at.result in
    let left : drop (end + 1) rest ≡ take (length more.now - 1) (drop 1 more.now) =
    sym (drop-drop 1 end rest) ∙ ap (λ t. drop 1 t) (sym c.split_at.ensures.back) ∙ sym (take_rest more.now 1) in
    sym c.self.view_is ∙ ap (λ left. unwrap_or (option_map (λ b. parts_of b.now) left) []) c.in-Some.is
    ∙ parts_of-next rest end c.in-Some-dot_in.ensures.first ∙ ap (λ t. t ∷ parts_of (drop (end + 1) rest)) (sym c.split_at.ensures.front)
    ∙ ap (λ t. part.now ∷ parts_of t) left

pub returns-in-None : goal.returns-in-None
returns-in-None c =
    let rest = c.in-Some.rest.now in
    sym c.self.view_is ∙ ap (λ left. unwrap_or (option_map (λ b. parts_of b.now) left) []) c.in-Some.is
    ∙ parts_of-last rest c.in-None.ensures.first
