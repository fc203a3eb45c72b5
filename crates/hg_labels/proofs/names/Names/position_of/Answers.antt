use Rattle.std.proofs.Common.{◌≡◌, ◌∙◌, ℕ, List, Bor, Some, IfSome, map, slice_get, position, ap, subst}
use Rattle.std.specs.Str.{bytes_eq}
use Rattle.hg_labels.specs.Hash.{hash_of}
use Rattle.hg_labels.proofs.Each.{found-is, nowhere_in}
use Rattle.hg_labels.proofs.names.Names.position_of.Goals as goal

pub returns : goal.returns
returns c =
    let name = c.args.name.now in
    let texts : List (Bor (List ℕ)) → List (List ℕ) = map (λ known. known.now) in
    let names = texts c.self.inside.names.items in
    let same = ap texts c.deref.ensures.value in
    let some = subst (λ known. IfSome c.find.result (λ number. slice_get known number ≡ Some name)) same c.find.ensures.some in
    let hashed = c.hash_of.ensures ∙ ap hash_of c.as_bytes.ensures.value in
    let none = nowhere_in c.self.inside.index _ names name _ c.find.result c.self.invariant same hashed c.find.ensures.none in
    found-is names name c.find.result c.self.invariant.once some none ∙ ap (position (λ known. bytes_eq name known)) c.self.view_is
