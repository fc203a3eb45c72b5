use Rattle.std.proofs.Common.{◌≡◌, ℕ, List, ◌++◌, codes, ap, ◌∙◌}
use Rattle.hg_show.specs.Json.{json}
use Rattle.hg_show.proofs.json.json.Goals as goal

-- one after another
in_turn : (a b c d e f o1 o2 o3 o4 o5 o6 : List ℕ) → o1 ≡ a → o2 ≡ o1 ++ b → o3 ≡ o2 ++ c → o4 ≡ o3 ++ d → o5 ≡ o4 ++ e → o6 ≡ o5 ++ f → o6 ≡ a ++ b ++ c ++ d ++ e ++ f
in_turn a b c d e f o1 o2 o3 o4 o5 o6 h1 h2 h3 h4 h5 h6 =
    h6 ∙ ap (λ t. t ++ f) (h5 ∙ ap (λ t. t ++ e) (h4 ∙ ap (λ t. t ++ d) (h3 ∙ ap (λ t. t ++ c) (h2 ∙ ap (λ t. t ++ b) h1))))

pub returns : goal.returns
unfolding json
returns c =
    in_turn _ _ _ _ _ (codes "}\n") c.push_json_head.new.out.items c.push_array_at.new.out.items c.push_array_at-2.new.out.items c.push_array_at-3.new.out.items c.push_array_at-4.new.out.items c.push.new.out.items
    (rw c.new-out.ensures.items at c.in_ok-push_json_head.ensures)
    (rw (c.as_slice-2.ensures.value, c.in_ok-tenants.ensures, c.rows-arenas.ensures) at c.in_ok-push_array_at.ensures)
    (rw (c.as_slice-3.ensures.value, c.in_ok-arenas.ensures, c.rows-arenas.ensures) at c.in_ok-push_array_at-2.ensures)
    (rw (c.as_slice-4.ensures.value, c.in_ok-pairs.ensures) at c.in_ok-push_array_at-3.ensures)
    (rw (c.as_slice-5.ensures.value, c.in_ok-warnings-2.ensures, c.as_slice.ensures.value, c.in_ok-warnings.ensures) at c.in_ok-push_array_at-4.ensures)
    c.in_ok-push.ensures
