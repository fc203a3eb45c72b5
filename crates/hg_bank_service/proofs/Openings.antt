-- Services open, and their workers are dealt to bank workers.
use Rattle.std.proofs.Common.{◌≡◌, ℕ, zero, suc, ◌+◌, ◌<◌, ◌≤◌, true, List}
use Rattle.std.proofs.Common.{[], ◌∷◌, ◌++◌, length, map, get_or, slice_get, slice_index, Option, None}
use Rattle.std.proofs.Common.{Some, is_some, option_map, replicate, All, refl, sym, ap, subst, ◌∙◌, arith}
use Rattle.std.proofs.lemmas.Bool.{false≢true}
use Rattle.std.proofs.lemmas.List.{length-append, length-map, map-append}
use Rattle.std.proofs.lemmas.List.Sums.{sum_by-le}
use Rattle.std.proofs.lemmas.Option.{none-some, same_Some, slice_get-get_or, slice_get-map}
use Rattle.std.proofs.lemmas.Option.{slice_get_within}
use Rattle.hg_machine.specs.Policy.{Policy}
use Rattle.hg_machine.proofs.Opening.{all_same}
use Rattle.hg_heap.specs.Charges.{charge_in}
use Rattle.hg_worker.specs.Seats.{records_in}
use Rattle.hg_hosted.specs.declared.service.HostedService.{HostedService}
use Rattle.hg_hosted.specs.declared.worker.HostedWorker.{HostedWorker}
use Rattle.hg_hosted.specs.Charges.{charge_at}
use Rattle.hg_hosted.specs.New.{IsNewHosted, IsOpened}
use Rattle.hg_bank_service.specs.Dealing.{AreNew, IsDealt}
use Rattle.hg_bank_service.specs.Has.{AreNumbered}
use Rattle.hg_bank_service.specs.New.{AreOpened}
use Rattle.hg_bank_service.specs.Sums.{AreSums}
use Rattle.hg_bank_service.proofs.Charging.{charge_is}

some_of : {X : Type 0} (o : Option X) → is_some o ≡ true → (x : X) × (o ≡ Some x)
some_of None isnt = absurd (false≢true isnt)
some_of (Some x) is = (x, refl)

pub some_at : {X : Type 0} (xs : List X) (i : ℕ) → i < length xs
    → (x : X) × (slice_get xs i ≡ Some x)
some_at [] i low = absurd (omega (arith, low))
some_at (x ∷ xs) zero low = (x, refl)
some_at (x ∷ xs) (suc i) low = some_at xs i (omega (arith, low))

-- a new worker is charged nothing
new_charge : (number : ℕ) (worker : HostedWorker) (tenant : ℕ) → IsNewHosted number worker
    → charge_at worker tenant ≡ 0
new_charge number worker tenant new =
    let own = some_of worker.state worker.there in
    charge_is worker own.0 tenant own.1
    ∙ ap (λ segments. charge_in records_in segments tenant) (new own.0 own.1).held

module _ (policy : Policy) (number : ℕ) (workers : List HostedWorker)
    (new : AreNew policy number workers) where
  pub new_numbered : AreNumbered policy number workers
  new_numbered core worker there own is =
      let it = new core worker there in
      record { serves = it.serves own is; number_is = (it.new own is).number_is }

  pub new_sums : AreSums (length policy.tenants) (replicate 64 0) workers
  new_sums = record {
    each = λ tenant less.
        let none : All (λ worker. charge_at worker tenant ≤ 0) workers =
        λ core other below.
        let worker = get_or workers core other in
        let is = new_charge number worker tenant
        (new core worker (slice_get-get_or workers core other below)).new in
        omega arith
        in
        let sum = sum_by-le (λ worker. charge_at worker tenant) 0 workers none in
        let row : slice_index (replicate 64 0) tenant ≡ 0 = all_same 64 tenant 0 in
        omega arith;
    few = λ core worker there tenant less.
        let is = new_charge number worker tenant (new core worker there).new in
        omega arith;
  }

pub firsts_there : (many arena : ℕ) → 1 ≤ many → slice_index (replicate 256 0) arena < many
firsts_there many arena some =
    let is : slice_index (replicate 256 0) arena ≡ 0 = all_same 256 arena 0 in
    omega arith

-- no row has anything yet
pub nothing_dealt : (number : ℕ) → IsDealt [] number []
nothing_dealt number = refl

-- one more of each
pub dealt_more : (lists : List (List HostedWorker)) (number : ℕ) (row : List HostedWorker)
    (more : List HostedWorker) (worker : HostedWorker) → IsDealt lists number row
    → slice_get more number ≡ Some worker
    → IsDealt (lists ++ more ∷ []) number (row ++ worker ∷ [])
dealt_more lists number row more worker dealt there =
    map-append Some row (worker ∷ [])
    ∙ ap (λ xs. xs ++ Some worker ∷ []) dealt
    ∙ ap (λ o. map (λ its. slice_get its number) lists ++ o ∷ []) (sym there)
    ∙ sym (map-append (λ its. slice_get its number) lists (more ∷ []))

pub dealt_long : (lists : List (List HostedWorker)) (number : ℕ) (row : List HostedWorker)
    → IsDealt lists number row → length row ≡ length lists
dealt_long lists number row dealt =
    sym (length-map row Some) ∙ ap length dealt
    ∙ length-map lists (λ (its : List HostedWorker). slice_get its number)

-- of which list one of a row is
of_list : (o : Option (List HostedWorker)) (number : ℕ) (worker : HostedWorker)
    → option_map (λ (its : List HostedWorker). slice_get its number) o ≡ Some (Some worker)
    → (its : List HostedWorker) × (o ≡ Some its) × (slice_get its number ≡ Some worker)
of_list None number worker e = absurd (none-some _ e)
of_list (Some its) number worker e =
    (its, refl, same_Some (slice_get its number) (Some worker) e)

pub dealt_of : (lists : List (List HostedWorker)) (number : ℕ) (row : List HostedWorker)
    (core : ℕ) (worker : HostedWorker) → IsDealt lists number row
    → slice_get row core ≡ Some worker
    → (its : List HostedWorker) × (slice_get lists core ≡ Some its)
    × (slice_get its number ≡ Some worker)
dealt_of lists number row core worker dealt there =
    of_list (slice_get lists core) number worker
    (sym (slice_get-map (λ (its : List HostedWorker). slice_get its number) lists core)
    ∙ ap (λ xs. slice_get xs core) (sym dealt)
    ∙ slice_get-map Some row core ∙ ap (option_map Some) there)

-- the workers of a row are new, and of the row's number
pub dealt_new : (policy : Policy) (services : List HostedService)
    (lists : List (List HostedWorker)) (number : ℕ) (row : List HostedWorker)
    → AreOpened policy services lists → IsDealt lists number row → AreNew policy number row
dealt_new policy services lists number row opened dealt core worker there =
    let of = dealt_of lists number row core worker dealt there in
    let below = slice_get_within lists core of.0 of.1 in
    let all = opened.all in
    let low : core < length services = omega arith in
    let some = some_at services core low in
    let is = opened.each core some.0 of.0 some.1 of.1 in
    record {
      new = is.new.each number worker of.2;
      serves = λ own at. (is.new.named number worker of.2 own at).serves;
    }

-- one service more
pub opened_more : (policy : Policy) (services : List HostedService)
    (lists : List (List HostedWorker)) (service : HostedService) (more : List HostedWorker)
    → AreOpened policy services lists → IsOpened policy service more
    → AreOpened policy (services ++ service ∷ []) (lists ++ more ∷ [])
opened_more policy services lists service more opened one = record {
  all =
      length-append lists (more ∷ []) ∙ ap (λ n. n + 1) opened.all
      ∙ sym (length-append services (service ∷ []));
  each = λ core s its at has. both services lists opened.all opened.each core s its at has;
}
  where
    both : (xs : List HostedService) (ys : List (List HostedWorker)) → length ys ≡ length xs
        → ((core : ℕ) (s : HostedService) (its : List HostedWorker) → slice_get xs core ≡ Some s
        → slice_get ys core ≡ Some its → IsOpened policy s its)
        → (core : ℕ) (s : HostedService) (its : List HostedWorker)
        → slice_get (xs ++ service ∷ []) core ≡ Some s
        → slice_get (ys ++ more ∷ []) core ≡ Some its → IsOpened policy s its
    both [] [] long each zero s its at has =
        subst (λ x. IsOpened policy x its) (same_Some service s at)
        (subst (IsOpened policy service) (same_Some more its has) one)
    both [] [] long each (suc core) s its at has = absurd (none-some _ at)
    both [] (y ∷ ys) long each core s its at has = absurd (omega (arith, long))
    both (x ∷ xs) [] long each core s its at has = absurd (omega (arith, long))
    both (x ∷ xs) (y ∷ ys) long each zero s its at has = each zero s its at has
    both (x ∷ xs) (y ∷ ys) long each (suc core) s its at has =
        both xs ys (omega (arith, long)) (λ k. each (suc k)) core s its at has
