-- Texts of commands that differ, and what is asked for behind no option.
use Rattle.std.proofs.Common.{◌≡◌, ℕ, List, ap, codes, slice_index, arith, Some}
use Rattle.hg_job.specs.Jobs.{IsDecimal}

pub is_1000 : IsDecimal (codes "1000")
is_1000 = ((omega arith, (omega arith, (omega arith, (omega arith, (omega arith, tt))))), omega arith)

pub race_is_no_show : codes "race" ≡ codes "show" → ⊥
race_is_no_show e = let first : 114 ≡ 115 = ap (λ text. slice_index text 0) e in omega (arith, first)

pub test_is_no_show : codes "test" ≡ codes "show" → ⊥
test_is_no_show e = let first : 116 ≡ 115 = ap (λ text. slice_index text 0) e in omega (arith, first)

pub test_is_no_race : codes "test" ≡ codes "race" → ⊥
test_is_no_race e = let first : 116 ≡ 114 = ap (λ text. slice_index text 0) e in omega (arith, first)

pub check_is_no_state : codes "check" ≡ codes "state" → ⊥
check_is_no_state e = let first : 99 ≡ 115 = ap (λ text. slice_index text 0) e in omega (arith, first)

-- what a command asks for, behind no option
pub job_of : {A B : Type 0} → A × B → B
job_of (none, job) = job

-- what a text is that is the same as one that is there
pub some_of : {a b : List ℕ} → Some a ≡ Some b → b ≡ a
some_of e = cc
