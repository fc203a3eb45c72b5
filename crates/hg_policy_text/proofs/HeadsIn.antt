-- What is read before any entry, and then the entries.
use Rattle.std.proofs.Common.{◌≡◌, sym, ◌∙◌}
use Rattle.toml.specs.Data.{Members}
use Rattle.hg_policy_text.specs.Faults.{◌>>=◌}
use Rattle.hg_policy_text.specs.Values.{known_keys}
use Rattle.hg_policy_text.specs.Heads.{heads_at}
use Rattle.hg_policy_text.proofs.Chains.{bind_assoc, bind_cong}
use Rattle.hg_policy_text.specs.Document.{top_at, tables_of, policy_at, heads_in}

pub policy_at-heads : (members : Members) → policy_at members ≡ (heads_in members >>= tables_of)
unfolding policy_at heads_in
policy_at-heads members =
    sym (bind_assoc (top_at members) (λ top. known_keys top members >>= λ known. heads_at members) tables_of
    ∙ bind_cong (top_at members) _ _ (λ top. bind_assoc (known_keys top members) (λ known. heads_at members) tables_of))
