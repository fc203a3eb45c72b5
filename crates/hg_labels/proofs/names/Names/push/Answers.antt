use Rattle.std.proofs.Common.{◌≡◌, ◌∙◌, ℕ, List, [], ◌∷◌, Bor, Some, IfSome, not, map, length, slice_get, ap, sym, subst, arith}
use Rattle.std.specs.List.{list_any}
use Rattle.std.specs.Str.{bytes_eq}
use Rattle.std.proofs.lemmas.List.{map-append, length-map}
use Rattle.hg_labels.specs.Hash.{hash_of}
use Rattle.hg_labels.specs.Indexes.{Finds, IsKept}
use Rattle.hg_labels.proofs.Each.{is_found-is, nowhere_in, IsKept-push, IsKept-through}
use Rattle.hg_labels.proofs.names.Names.push.Goals as goal

abbrev texts : List (Bor (List ℕ)) → List (List ℕ)
texts names = map (λ name. name.now) names

pub returns-then-is_some-clause-added : goal.returns-then-is_some-clause-added
returns-then-is_some-clause-added c =
    let name = c.args.name.now in
    let names = texts c.self.inside.names.items in
    let same = ap texts c.deref.ensures.value in
    let some = subst (λ known. IfSome c.find.result (λ number. slice_get known number ≡ Some name)) same c.find.ensures.some in
    let hashed = c.hash_of-hash.ensures ∙ ap hash_of c.as_bytes.ensures.value in
    let none = nowhere_in c.self.inside.index _ names name _ c.find.result c.self.invariant same hashed c.find.ensures.none in
    ap not (c.if-is_some.ensures ∙ is_found-is names name c.find.result some none ∙ ap (list_any (λ known. bytes_eq name known)) c.self.view_is)

pub invariant_of-self : goal.invariant_of-self
invariant_of-self c =
    let name = c.args.name.now in
    let names = texts c.self.inside.names.items in
    let same = ap texts c.deref.ensures.value in
    let hashed = c.hash_of-hash.ensures ∙ ap hash_of c.as_bytes.ensures.value in
    let none = nowhere_in c.self.inside.index _ names name _ c.find.result c.self.invariant same hashed c.find.ensures.none (sym c.if-is_some.ensures) in
    let unmoved = c.self-2.view_is ∙ c.make_room.ensures ∙ sym c.self.view_is in
    let nowhere = subst (λ known. (number : ℕ) → slice_get known number ≡ Some name → ⊥) (sym unmoved) none in
    IsKept-through c.self-2.inside.index c.enter.new.self _ name c.len.result c.self-2.invariant nowhere c.enter.ensures.others

pub invariant_of-self-in_err-push : goal.invariant_of-self-in_err-push
invariant_of-self-in_err-push c =
    let name = c.args.name.now in
    let names = texts c.self.inside.names.items in
    let same = ap texts c.deref.ensures.value in
    let hashed = c.hash_of-hash.ensures ∙ ap hash_of c.as_bytes.ensures.value in
    let none = nowhere_in c.self.inside.index _ names name _ c.find.result c.self.invariant same hashed c.find.ensures.none (sym c.if-is_some.ensures) in
    let unmoved = c.self-2.view_is ∙ c.make_room.ensures ∙ sym c.self.view_is in
    let nowhere = subst (λ known. (number : ℕ) → slice_get known number ≡ Some name → ⊥) (sym unmoved) none in
    subst (λ items. IsKept c.enter.new.self (texts items)) (sym c.in_err-push.ensures.items)
    (IsKept-through c.self-2.inside.index c.enter.new.self _ name c.len.result c.self-2.invariant nowhere c.enter.ensures.others)

pub invariant_of-self-2 : goal.invariant_of-self-2
invariant_of-self-2 c =
    let name = c.args.name.now in
    let names = texts c.self.inside.names.items in
    let now = texts c.self-2.inside.names.items in
    let same = ap texts c.deref.ensures.value in
    let hashed = c.hash_of-hash.ensures ∙ ap hash_of c.as_bytes.ensures.value in
    let none = nowhere_in c.self.inside.index _ names name _ c.find.result c.self.invariant same hashed c.find.ensures.none (sym c.if-is_some.ensures) in
    let unmoved = c.self-2.view_is ∙ c.make_room.ensures ∙ sym c.self.view_is in
    let nowhere = subst (λ known. (number : ℕ) → slice_get known number ≡ Some name → ⊥) (sym unmoved) none in
    let count : c.len.result ≡ length now = omega (arith, length-map c.self-2.inside.names.items (λ (known : Bor (List ℕ)). known.now)) in
    let entry = subst (λ hash. Finds c.enter.new.self hash name c.len.result) hashed c.in_ok-enter.ensures.ok in
    let others = subst (λ count. (at : ℕ) (other : List ℕ) (place : ℕ) → (other ≡ name → place ≡ count) → Finds c.self-2.inside.index at other place
    → Finds c.enter.new.self at other place) count c.enter.ensures.others in
    let kept = IsKept-push c.self-2.inside.index c.enter.new.self now name c.self-2.invariant nowhere (subst (Finds c.enter.new.self (hash_of name) name) count entry) others in
    subst (IsKept c.enter.new.self) (sym (ap texts c.in_ok-push.ensures.items ∙ map-append _ c.self-2.inside.names.items (c.args.name ∷ []))) kept

pub returns-clause-added : goal.returns-clause-added
returns-clause-added c =
    let name = c.args.name.now in
    let names = texts c.self.inside.names.items in
    let same = ap texts c.deref.ensures.value in
    let some = subst (λ known. IfSome c.find.result (λ number. slice_get known number ≡ Some name)) same c.find.ensures.some in
    let hashed = c.hash_of-hash.ensures ∙ ap hash_of c.as_bytes.ensures.value in
    let none = nowhere_in c.self.inside.index _ names name _ c.find.result c.self.invariant same hashed c.find.ensures.none in
    ap not (c.if-is_some.ensures ∙ is_found-is names name c.find.result some none ∙ ap (list_any (λ known. bytes_eq name known)) c.self.view_is)
