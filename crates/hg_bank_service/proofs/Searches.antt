-- A search asks one core more.
use Rattle.std.proofs.Common.{◌≡◌, ◌≢◌, ℕ, ◌+◌, ◌<◌, inl, inr, List, length, slice_get}
use Rattle.std.proofs.Common.{slice_set, Some, refl, sym, ap, subst, ◌∙◌, arith}
use Rattle.std.proofs.lemmas.Bool.{cases_eq}
use Rattle.std.proofs.lemmas.List.{length-set}
use Rattle.std.proofs.lemmas.Option.{same_Some, slice_get_within}
use Rattle.hg_hosted.specs.declared.worker.HostedWorker.{HostedWorker}
use Rattle.hg_hosted.proofs.Reaching.{other_set}
use Rattle.hg_bank_service.specs.Choosing.{AreAsked, IsServed}
use Rattle.hg_bank_service.specs.Order.{turn}
use Rattle.hg_bank_service.proofs.Lists.{IsAt, here_set, is_set}
use Rattle.hg_bank_service.proofs.Turns.{turns_apart}

-- nobody was asked yet
pub none_asked : (Asked : HostedWorker → HostedWorker → Type 0) (current : ℕ)
    (workers : List HostedWorker) → AreAsked Asked current 0 workers workers
none_asked Asked current workers = record {
  all = refl;
  passed = λ core was next a b less. absurd (omega (arith, less));
  others = λ core from. refl;
}

module _ {Asked : HostedWorker → HostedWorker → Type 0} {current until : ℕ}
    {old mid : List HostedWorker} (asked : AreAsked Asked current until old mid)
    (inside : current < length old) {core : ℕ} {was : HostedWorker}
    (there : IsAt mid core was)
    (now : turn current (length old) core ≡ until) (next : HostedWorker) where
  core_below : core < length old
  core_below =
      let low = slice_get_within mid core was there.there in
      let all = asked.all in
      omega arith

  pub was_there : slice_get old core ≡ Some was
  was_there = sym (asked.others core (let is = now in omega arith)) ∙ there.there

  not_core : (other : ℕ) → turn current (length old) other ≢ until → other ≢ core
  not_core other apart same = apart (ap (turn current (length old)) same ∙ now)

  all_set : length (slice_set mid core next) ≡ length old
  all_set = length-set mid core next ∙ asked.all

  passed_still : (other : ℕ) (before after : HostedWorker) → slice_get old other ≡ Some before
      → slice_get (slice_set mid core next) other ≡ Some after
      → turn current (length old) other < until → Asked before after
  passed_still other before after is then less =
      asked.passed other before after is
      (sym (other_set mid core other next
      (not_core other (λ same. let e = same in omega arith))) ∙ then) less

  still : (other : ℕ) → until < turn current (length old) other
      → slice_get (slice_set mid core next) other ≡ slice_get old other
  still other later =
      other_set mid core other next (not_core other (λ same. let e = same in omega arith))
      ∙ asked.others other (let l = later in omega arith)

  -- this one was asked in vain
  pub one_more : Asked was next
      → AreAsked Asked current (until + 1) old (slice_set mid core next)
  one_more vain = record {
    all = all_set;
    passed = λ other before after is then less.
        elim (cases_eq other core) [
          | inl same ↦
              subst (λ b. Asked b after)
              (same_Some was before (sym was_there ∙ ap (slice_get old) (sym same) ∙ is))
              (subst (Asked was)
              (is_set mid core next after
              (ap (slice_get (slice_set mid core next)) (sym same) ∙ then)) vain)
          | inr apart ↦
              passed_still other before after is then
              (let low = slice_get_within old other before is in
              let own = core_below in
              let differ : turn current (length old) other ≢ until =
              λ same. apart (turns_apart current (length old) other core low own inside
              (same ∙ sym now)) in
              let l = less in
              omega arith)
        ];
    others = λ other later. still other (let l = later in omega arith);
  }

  -- this one serves
  pub one_serves : {Served : HostedWorker → HostedWorker → Type 0} → Served was next
      → IsServed Asked Served current core old (slice_set mid core next)
  one_serves served = record {
    was = was;
    next = next;
    there = was_there;
    is = here_set mid core was next there.there;
    served = served;
    all = all_set;
    passed = λ other before after is then less.
        passed_still other before after is then (let l = less in let n = now in omega arith);
    others = λ other later. still other (let l = later in let n = now in omega arith);
  }
