-- The lines of a trace are told one after another.
use Rattle.std.proofs.Common.{◌≡◌, ℕ, ◌+◌, ◌<◌, List, [], ◌∷◌, ◌++◌, length, get_or, take, refl, sym, ap, subst, ◌∙◌}
use Rattle.std.proofs.lemmas.List.{take_more}
use Rattle.hg_trace.specs.declared.line.Line.{Line}
use Rattle.hg_replay.specs.Replays.{Progress}
use Rattle.hg_reasons.specs.Explaining.{Story, Explained, Explains, text_of}

module _ (texts : List (List ℕ)) where
  -- a line more
  explains_more : (lines : List Line) (line : Line) (from mid end : Progress) (story here next : Story)
      → Explains texts from story lines mid here → Explained (text_of texts line.number) mid here line end next
      → Explains texts from story (lines ++ line ∷ []) end next
  explains_more [] line from mid end story here next (same, none) more = (
    end,
    next,
    subst (λ p. Explained (text_of texts line.number) p story line end next) same
        (subst (λ s. Explained (text_of texts line.number) mid s line end next) none more),
    (refl, refl),
  )
  explains_more (first ∷ lines) line from mid end story here next (later, then, one, rest) more =
      (later, then, one, explains_more lines line later mid end then here next rest more)

  -- the lines up to index i, and the next one too
  pub explains_next : (lines : List Line) (i : ℕ) (line : Line) (from mid end : Progress) (story here next : Story)
      → i < length lines → line ≡ get_or lines i line
      → Explains texts from story (take i lines) mid here → Explained (text_of texts line.number) mid here line end next
      → Explains texts from story (take (i + 1) lines) end next
  explains_next lines i line from mid end story here next within is so_far more =
      let longer : take (i + 1) lines ≡ take i lines ++ line ∷ [] =
      take_more lines i line within ∙ ap (λ l. take i lines ++ l ∷ []) (sym is) in
      subst (λ ls. Explains texts from story ls end next) (sym longer)
      (explains_more (take i lines) line from mid end story here next so_far more)
