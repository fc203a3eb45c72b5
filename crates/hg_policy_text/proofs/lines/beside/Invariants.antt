use Rattle.std.proofs.Common.{◌≡◌, ◌<◌, ℕ, length, get_or}
use Rattle.hg_policy.specs.Rights.{nothing}
use Rattle.hg_policy.proofs.GrantTable.{no_standing}
use Rattle.hg_policy_text.proofs.lines.beside.Given as goal

abbrev pub invariant-loop-actor : goal.invariant-loop-actor
invariant-loop-actor l = record {
  long : length l.standings ≡ 64;
  granted : (j : ℕ) → j < l.actor → (get_or l.standings j no_standing).granted ≡ get_or l.granted j nothing;
  forbidden : (j : ℕ) → j < l.actor → (get_or l.standings j no_standing).forbidden ≡ get_or l.forbidden j nothing;
}
