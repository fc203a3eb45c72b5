-- A bank of services is made of services that opened.
use Rattle.std.proofs.Common.{◌≡◌, ℕ, ◌<◌, List, [], length, slice_get, get_or, Some, All}
use Rattle.std.proofs.Common.{sym, subst, ◌∙◌, arith}
use Rattle.std.proofs.lemmas.Option.{slice_get-get_or, slice_get_within}
use Rattle.hg_machine.specs.Policy.{Policy}
use Rattle.hg_hosted.specs.declared.service.HostedService.{HostedService}
use Rattle.hg_hosted.specs.declared.worker.HostedWorker.{HostedWorker}
use Rattle.hg_bank_service.specs.Dealing.{AreNew, IsDealt}
use Rattle.hg_bank_service.specs.New.{AreOpened, IsNewWorker, IsOpenedBank}
use Rattle.hg_bank_service.specs.Rows.{AreMade, IsOpening}
use Rattle.hg_bank_service.specs.State.{ServicesState}
use Rattle.hg_bank_service.specs.declared.worker.BankWorker.{BankWorker}
use Rattle.hg_bank_service.proofs.Dealings.{Row}
use Rattle.hg_bank_service.proofs.Openings.{dealt_long, dealt_new, some_at}

-- each service serves by the policy
pub all_serve : {policy : Policy} {services : List HostedService}
    {its : List (List HostedWorker)} → AreOpened policy services its
    → All (λ (service : HostedService). service.policy ≡ policy) services
all_serve {services = services} {its = its} opened core other below =
    let all = opened.all in
    let low : core < length its = omega arith in
    let has = some_at its core low in
    (opened.each core (get_or services core other) has.0
    (slice_get-get_or services core other below) has.1).serves

module _ {policy : Policy} {cores : ℕ} {services : List HostedService} {rows : List Row}
    (opening : IsOpening policy cores services rows) where
  pub opening_long : (number : ℕ) (row : Row) → slice_get rows number ≡ Some row
      → length row.items ≡ cores
  opening_long number row there =
      dealt_long opening.its number row.items (opening.dealt.each number row there)
      ∙ opening.opened.all ∙ opening.many

  pub opening_new : (number : ℕ) (row : Row) → slice_get rows number ≡ Some row
      → AreNew policy number row.items
  opening_new number row there =
      dealt_new policy services opening.its number row.items opening.opened
      (opening.dealt.each number row there)

-- what has opened, and the bank workers of its rows
pub opened_bank : {policy : Policy} {cores : ℕ} (service : ServicesState) (rows : List Row)
    (workers : List BankWorker) → IsOpening policy cores service.running rows
    → AreMade policy rows workers → service.policy ≡ policy → service.closed ≡ []
    → IsOpenedBank policy cores service workers
opened_bank {policy} {cores} service rows workers opening made serves closed = record {
  serves = serves;
  closed = closed;
  many = opening.many;
  its = opening.its;
  opened = opening.opened;
  all = made.all ∙ opening.dealt.all;
  new = λ number worker there.
      let row = row_at number worker there in
      subst (λ n. IsNewWorker policy number n worker) (opening_long opening number row.0 row.1)
      (made.new number row.0 worker row.1 there);
  dealt = λ number worker there.
      let row = row_at number worker there in
      subst (IsDealt opening.its number) (sym (made.has number row.0 worker row.1 there))
      (opening.dealt.each number row.0 row.1);
}
  where
    row_at : (number : ℕ) (worker : BankWorker) → slice_get workers number ≡ Some worker
        → (row : Row) × (slice_get rows number ≡ Some row)
    row_at number worker there =
        let below = slice_get_within workers number worker there in
        let all = made.all in
        some_at rows number (omega (arith, below, all))
