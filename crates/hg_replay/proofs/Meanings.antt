-- Names are looked up one after another.
use Rattle.std.proofs.Common.{◌≡◌, ℕ, ◌+◌, ◌<◌, List, [], ◌∷◌, ◌++◌, length, get_or, take, ap, sym, ◌∙◌}
use Rattle.std.proofs.lemmas.List.{map_more, map-append}
use Rattle.std.specs.Borrow.{Bor}
use Rattle.hg_labels.specs.Indexes.{texts}
use Rattle.hg_machine.specs.Policy.{Policy}
use Rattle.hg_replay.specs.declared.replaying.known.Meant.{Meant}
use Rattle.hg_replay.specs.KnownNames.{meant_of, meanings}

-- the name at index i is looked up too
pub meanings_more : (policy : Policy) (names : List (Bor (List ℕ))) (i : ℕ) (name : Bor (List ℕ)) (so_far : List Meant) (here : Meant)
    → i < length names → so_far ≡ meanings policy (texts (take i names)) → here ≡ meant_of policy (get_or names i name).now
    → so_far ++ here ∷ [] ≡ meanings policy (texts (take (i + 1) names))
meanings_more policy names i name so_far here within before is =
    ap (λ all. all ++ here ∷ []) before ∙ (ap (λ one. meanings policy (texts (take i names)) ++ one ∷ []) is
    ∙ sym (ap (meanings policy) (map_more (λ n. n.now) names i name within)
    ∙ map-append (meant_of policy) (texts (take i names)) ((get_or names i name).now ∷ [])))
