use Rattle.std.proofs.Common.{ℕ, List, refl, subst}
use Rattle.std.specs.Str.{IsTrimAscii}
use Rattle.std.proofs.lemmas.Str.Ascii.{trim_ascii_is}
use Rattle.hg_reasons.proofs.as_json.command_in.Goals as goal

pub returns : goal.returns
returns c =
    trim_ascii_is _ c.trim_ascii.result.now _ refl
    (subst (λ (text : List ℕ). IsTrimAscii text c.trim_ascii.result.now) c.before_hash.ensures c.trim_ascii.ensures.value)
