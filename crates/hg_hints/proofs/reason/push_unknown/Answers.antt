use Rattle.std.proofs.Common.{◌≡◌, ◌++◌, ℕ, List, Bor, Option, None, codes, sym, ap, ◌∙◌, option_map, unwrap_or}
use Rattle.std.proofs.lemmas.Result.{on_ok_weaker}
use Rattle.hg_hints.specs.Keys.{keys}
use Rattle.hg_hints.specs.Near.{near}
use Rattle.hg_hints.specs.Reasons.{like_text, place_text, unknown_text}
use Rattle.hg_hints.proofs.reason.push_unknown.Goals as goal

-- what is told of a key that no document has
no_place : (text otherwise : List ℕ) → None ≡ place_text text → otherwise ≡ like_text (codes "no table has such a key") (near keys text)
    → unknown_text text ≡ otherwise
unfolding unknown_text
no_place text otherwise none is =
    ap (λ place. unwrap_or place (like_text (codes "no table has such a key") (near keys text))) (sym none) ∙ sym is

pub returns : goal.returns
returns c =
    let text = c.args.text.now in
    let seen : Option (Bor (List ℕ)) → Option (List ℕ) = λ like. option_map (λ t. t.now) like in
    let none : None ≡ place_text text = ap seen (sym c.in_default.is) ∙ c.place.ensures in
    let like : seen c.in_ok-like.like ≡ near keys text = c.in_ok-like.ensures ∙ ap (λ ks. near ks text) c.keys.ensures in
    on_ok_weaker c.push_like.result
    (λ told. told ∙ ap (λ t. c.args.out.now.items ++ t) (sym (no_place text _ none (ap (like_text (codes "no table has such a key")) like))))
    c.push_like.ensures
