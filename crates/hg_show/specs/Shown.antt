-- What is shown of a policy.
use Rattle.std.specs.Prelude.{ℕ, ◌≡◌, ◌++◌, List, Some, Ok}
use Rattle.toml.specs.Data.{Members}
use Rattle.hg_machine.specs.Policy.{Policy}
use Rattle.hg_policy_text.specs.Document.{document_of, tree_of}
use Rattle.hg_show.specs.Json.{json}
use Rattle.hg_show.specs.Matrix.{matrix_text}
use Rattle.hg_show.specs.Parts.{arenas_text, head_text, tenants_text}
use Rattle.hg_show.specs.Rows.{arena_names}
use Rattle.hg_show.specs.Warnings.{warning_lines, warnings}

-- a policy, by its meaning and by the rows of its document
unfoldable pub shown : Policy → Members → List ℕ
shown policy document =
    head_text policy
    ++ tenants_text policy (arena_names document)
    ++ arenas_text policy (arena_names document)
    ++ matrix_text policy
    ++ warning_lines (warnings policy document)

-- what is shown of the policy that the bytes mean, as text and as JSON
abbrev pub IsShown : List ℕ → List ℕ → Type 0
IsShown bytes text =
    (policy : Policy) × (document : Members) × (document_of bytes ≡ Ok policy)
    × (tree_of bytes ≡ Some document) × (text ≡ shown policy document)

abbrev pub IsShownAsJson : List ℕ → List ℕ → Type 0
IsShownAsJson bytes text =
    (policy : Policy) × (document : Members) × (document_of bytes ≡ Ok policy)
    × (tree_of bytes ≡ Some document) × (text ≡ json policy document)
