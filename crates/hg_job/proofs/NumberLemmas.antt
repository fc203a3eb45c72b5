-- What a number is read as.
use Rattle.std.proofs.Common.{◌≡◌, ℕ, List, Option, Some, None, refl, unwrap_or}
use Rattle.std.specs.Prelude.{Result, Ok, Err}
use Rattle.std.specs.Str.Parse.{ParsesUnsigned}
use Rattle.clap.specs.Words.{ReadsOne, Text}
use Rattle.hg_job.specs.Jobs.{IsNumber}

-- what the reader of a number below 2 ^ 32 makes of a text, or 0 where it makes nothing, is its number
pub is_number : {E : Type 0} (gives : List ℕ → Result ℕ E → Type 0) (o : Option Text) (r : Option ℕ)
    → (o ≡ None → r ≡ None) → ((t : Text) → o ≡ Some t → ReadsOne gives t r)
    → ((t : Text) (x : Result ℕ E) → gives t x → ParsesUnsigned 32 10 t x) → IsNumber o (unwrap_or r 0)
is_number gives None r none value parses = rw (none refl) refl
is_number gives (Some t) (Some n) none value parses =
    let read = parses t (Ok n) (value t refl) in
    ((λ is. read.1), (λ is_none. absurd (is_none read.0)))
is_number gives (Some t) None none value parses =
    let given = value t refl in
    let is_none = parses t (Err given.0) given.1 in
    ((λ is. absurd (is_none is)), (λ _. refl))
