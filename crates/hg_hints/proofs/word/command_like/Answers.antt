use Rattle.std.proofs.Common.{◌≡◌, List, ℕ, Bor, Option, None, true, false, sym, ap, ◌∙◌, inl, inr, option_map}
use Rattle.std.proofs.lemmas.Bool.{cases_Bool}
use Rattle.std.proofs.lemmas.Result.{IfOk-weaker}
use Rattle.std.proofs.lemmas.Str.{IsUtf8-from_is_utf8, is_utf8-from_IsUtf8}
use Rattle.std.specs.Prelude.{if◌then◌else◌}
use Rattle.std.specs.Str.{is_utf8}
use Rattle.hg_hints.specs.Near.{near}
use Rattle.hg_hints.specs.TraceWords.{command_like, commands}
use Rattle.hg_hints.proofs.word.command_like.Goals as goal

-- of text, and of what is none
of_text : (word : List ℕ) → is_utf8 word ≡ true → command_like word ≡ near commands word
of_text word text = ap (λ is. if is then near commands word else None) text

of_none : (word : List ℕ) → is_utf8 word ≡ false → command_like word ≡ None
of_none word none = ap (λ is. if is then near commands word else None) none

pub returns-in-Ok : goal.returns-in-Ok
returns-in-Ok c =
    let word = c.args.word.now in
    let seen : Option (Bor (List ℕ)) → Option (List ℕ) = λ like. option_map (λ name. name.now) like in
    IfOk-weaker c.near.result _ (λ like. seen like ≡ command_like word)
    (λ like is. is ∙ ap (λ names. near names c.in-Ok.word.now) c.commands.ensures ∙ ap (near commands) c.in-Ok.ensures.cases.0
    ∙ sym (of_text word (is_utf8-from_IsUtf8 word c.in-Ok.ensures.cases.1)))
    c.near.ensures

pub returns-in-Err : goal.returns-in-Err
returns-in-Err c =
    let word = c.args.word.now in
    elim (cases_Bool (is_utf8 word)) [
      | inl text ↦ absurd (c.in-Err.ensures.cases.0 (IsUtf8-from_is_utf8 word text))
      | inr none ↦ sym (of_none word none)
    ]
