use Rattle.std.proofs.Common.{◌≡◌, ℕ, Some, Bor, sym, ap, ◌∙◌, map, slice_get, List}
use Rattle.std.proofs.lemmas.Option.{same_Some, none-some}
use Rattle.std.proofs.lemmas.Slice.Eq.{bytes_eq-Decides}
use Rattle.std.specs.Str.{bytes_eq}
use Rattle.hg_labels.proofs.Texts.{text_read, text_past}
use Rattle.hg_labels.proofs.index.is_named.Goals as goal

pub returns-in-Some : goal.returns-in-Some
returns-in-Some c =
    let name = c.args.name.now in
    let known = c.in-Some.known.now in
    let there : slice_get (map (λ (other : Bor (List ℕ)). other.now) c.args.names.now) c.args.number ≡ Some known.now =
    text_read c.args.names.now c.args.number known c.in-Some.ensures.lookup.3.0 c.in-Some.ensures.lookup.1 in
    let decides = bytes_eq-Decides known.now name in
    let same : c.eq.result ≡ bytes_eq known.now name = c.eq.ensures in
    (λ equal. there ∙ ap Some (decides.0 (sym same ∙ equal)), λ at. same ∙ decides.1 (same_Some _ _ (sym there ∙ at)))

pub returns-in-None : goal.returns-in-None
returns-in-None c =
    (λ never. absurd (cc), λ at. absurd (none-some _ (sym (text_past c.args.names.now c.args.number c.in-None.ensures.lookup.3) ∙ at)))
