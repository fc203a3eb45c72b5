-- Workers are dealt to rows, one after the other.
use Rattle.std.proofs.Common.{◌≡◌, ℕ, ◌+◌, ◌<◌, ◌≤◌, inl, inr, List, [], ◌∷◌, ◌++◌, length, Some}
use Rattle.std.proofs.Common.{slice_get, slice_set, refl, sym, ap, subst, ◌∙◌, arith}
use Rattle.std.specs.Prelude.{Vec}
use Rattle.std.specs.declared.alloc.Global.{Global}
use Rattle.std.proofs.lemmas.Bool.{cases_eq}
use Rattle.std.proofs.lemmas.List.{length-append, length-set}
use Rattle.std.proofs.lemmas.Option.{same_Some, slice_get_within}
use Rattle.hg_hosted.specs.declared.service.HostedService.{HostedService}
use Rattle.hg_hosted.specs.declared.worker.HostedWorker.{HostedWorker}
use Rattle.hg_hosted.proofs.Reaching.{other_set}
use Rattle.hg_hosted.specs.New.{IsOpened}
use Rattle.hg_machine.specs.Policy.{Policy}
use Rattle.hg_bank_service.specs.Dealing.{IsDealt}
use Rattle.hg_bank_service.specs.Rows.{AreMore, AreRows, IsOpening}
use Rattle.hg_bank_service.proofs.Lists.{is_set}
use Rattle.hg_bank_service.proofs.Openings.{dealt_more, opened_more, some_at}

abbrev pub Row : Type 0
Row = Vec HostedWorker Global

-- those of the lower numbers have their rows, and the others are to come
pub record AreDealing (workers : List HostedWorker) (number : ℕ) (old now : List Row)
    : Type 0 where
  pub all : length now ≡ length old
  pub before :
      (n : ℕ) (worker : HostedWorker) (row more : Row) → n < number
      → slice_get workers n ≡ Some worker → slice_get old n ≡ Some row
      → slice_get now n ≡ Some more → more.items ≡ row.items ++ worker ∷ []
  pub after : (n : ℕ) → number ≤ n → slice_get now n ≡ slice_get old n

pub none_dealt : (workers : List HostedWorker) (rows : List Row) → AreDealing workers 0 rows rows
none_dealt workers rows = record {
  all = refl;
  before = λ n worker row more less. absurd (omega (arith, less));
  after = λ n from. refl;
}

pub one_dealt : {workers : List HostedWorker} {number : ℕ} {old now : List Row}
    (worker : HostedWorker) (row more : Row) → AreDealing workers number old now
    → slice_get workers number ≡ Some worker → slice_get now number ≡ Some row
    → more.items ≡ row.items ++ worker ∷ []
    → AreDealing workers (number + 1) old (slice_set now number more)
one_dealt {workers} {number} {old} {now} worker row more dealing there has grown = record {
  all = length-set now number more ∙ dealing.all;
  before = λ n one was next less at had gets.
      elim (cases_eq n number) as (λ _. next.items ≡ was.items ++ one ∷ []) [
        | inl same ↦
            (let w : worker ≡ one =
            same_Some worker one (sym there ∙ ap (slice_get workers) (sym same) ∙ at) in
            let r : row ≡ was =
            same_Some row was
            (sym has ∙ dealing.after number (omega arith) ∙ ap (slice_get old) (sym same) ∙ had) in
            let m : more ≡ next =
            is_set now number more next
            (ap (slice_get (slice_set now number more)) (sym same) ∙ gets) in
            ap (λ (v : Row). v.items) (sym m) ∙ grown
            ∙ ap (λ (v : Row). v.items ++ worker ∷ []) r ∙ ap (λ x. was.items ++ x ∷ []) w)
        | inr apart ↦
            dealing.before n one was next (omega (arith, less, apart)) at had
            (sym (other_set now number n more apart) ∙ gets)
      ];
  after = λ n from.
      other_set now number n more (λ same. absurd (omega (arith, from, same)))
      ∙ dealing.after n (omega (arith, from));
}

pub all_dealt : {workers : List HostedWorker} {number : ℕ} {old now : List Row}
    → AreDealing workers number old now → length workers ≤ number → AreMore workers old now
all_dealt {workers} dealing done = record {
  all = dealing.all;
  each = λ n worker row more there had gets.
      dealing.before n worker row more
      (let low = slice_get_within workers n worker there in omega (arith, low, done))
      there had gets;
}

-- one service more, whose workers were dealt
pub rows_more : {its : List (List HostedWorker)} {many : ℕ} {old now : List Row}
    (workers : List HostedWorker) → AreRows its many old → AreMore workers old now
    → length workers ≡ many → AreRows (its ++ workers ∷ []) many now
rows_more {its} {many} {old} {now} workers rows more long = record {
  all = more.all ∙ rows.all;
  each = λ number row gets.
      let below = slice_get_within now number row gets in
      let all = more.all in
      let some = rows.all in
      let low : number < length old = omega arith in
      let under : number < length workers = omega arith in
      let was = some_at old number low in
      let worker = some_at workers number under in
      subst (IsDealt (its ++ workers ∷ []) number)
      (sym (more.each number worker.0 was.0 row worker.1 was.1 gets))
      (dealt_more its number was.0.items workers worker.0 (rows.each number was.0 was.1) worker.1);
}

pub opening_more : {policy : Policy} {cores : ℕ} {services : List HostedService}
    {old now : List Row} (service : HostedService) (workers : List HostedWorker)
    → IsOpening policy cores services old → IsOpened policy service workers
    → AreMore workers old now → IsOpening policy (cores + 1) (services ++ service ∷ []) now
opening_more {services = services} service workers opening opened more = record {
  its = opening.its ++ workers ∷ [];
  many = length-append services (service ∷ []) ∙ ap (λ n. n + 1) opening.many;
  opened = opened_more _ services opening.its service workers opening.opened opened;
  dealt = rows_more workers opening.dealt more opened.new.all;
}
