-- Lines come to something one after another.
use Rattle.std.proofs.Common.{◌≡◌, ℕ, ◌+◌, ◌<◌, List, [], ◌∷◌, ◌++◌, length, get_or, take, refl, sym, ap, subst, ◌∙◌}
use Rattle.std.proofs.lemmas.List.{take_more}
use Rattle.hg_machine.specs.Lists.{Kept}
use Rattle.hg_trace.specs.declared.line.Line.{Line}
use Rattle.hg_replay.specs.Replays.{Answered, Progress, starting}
use Rattle.hg_replay.specs.Tellings.{IsTold}
use Rattle.hg_replay.specs.declared.replaying.told.Told.{Told}
use Rattle.hg_state.specs.After.{ComeTo, ComingToReplays}

-- and one line more
comes_more : (lines : List Line) (line : Line) (from mid end : Progress) (told : List Told) (last : Told) (text : List ℕ)
    → ComeTo from lines mid told → Answered mid line end text → IsTold mid line last end.kept → ComeTo from (lines ++ line ∷ []) end (told ++ last ∷ [])
comes_more [] line from mid end told last text so_far answered is = (
  end,
  text,
  last,
  [],
  subst (λ p. Answered p line end text) so_far.0 answered,
  subst (λ p. IsTold p line last end.kept) so_far.0 is,
  (refl, refl),
  ap (λ t. t ++ last ∷ []) so_far.1,
)
comes_more (first ∷ lines) line from mid end told last text (next, one, come, rest, done, is_come, more, all) answered is = (
  next,
  one,
  come,
  rest ++ last ∷ [],
  done,
  is_come,
  comes_more lines line next mid end rest last text more answered is,
  ap (λ t. t ++ last ∷ []) all,
)

pub comes_next : (k : Kept) (lines : List Line) (i : ℕ) (line : Line) (mid end : Progress) (told : List Told) (last : Told) (text : List ℕ)
    → i < length lines → line ≡ get_or lines i line → ComeTo (starting k) (take i lines) mid told → Answered mid line end text
    → IsTold mid line last end.kept → ComeTo (starting k) (take (i + 1) lines) end (told ++ last ∷ [])
comes_next k lines i line mid end told last text within here so_far answered is =
    let more : take (i + 1) lines ≡ take i lines ++ line ∷ [] = take_more lines i line within ∙ ap (λ l. take i lines ++ l ∷ []) (sym here) in
    subst (λ ls. ComeTo (starting k) ls end (told ++ last ∷ [])) (sym more) (comes_more (take i lines) line (starting k) mid end told last text so_far answered is)

pub coming_to_replays : ComingToReplays
coming_to_replays from end [] told come = ([], (come.0, refl))
coming_to_replays from end (line ∷ lines) told (mid, here, first, rest, answered, is, more, all) =
    let (text, replays) = coming_to_replays mid end lines rest more in
    (here ++ text, (mid, here, text, answered, replays, refl))
