-- Lists by key as the lists of a remote list.
use Rattle.std.proofs.Common.{◌≡◌, ℕ, suc, ◌+◌, ◌<◌, List, [], ◌∷◌, length, slice_index_or, slice_set, refl, sym, arith, subst}
use Rattle.std.specs.Prelude.{Contains}
use Rattle.std.specs.List.{concat}
use Rattle.hg_lists.specs.Lists.{Lists, IsSomewhere}
use Rattle.hg_lists.proofs.InsertsLemmas.{Contains-concat, contained_concat}
use Rattle.hg_remote.specs.Remote.{contents, thread_at}
use Rattle.hg_remote.specs.Sends.{with_thread}
use Rattle.hg_remote.specs.Kept.{remote_by}

pub delayed_by : (lists : List (List ℕ)) → slice_index_or lists 0 [] ≡ (remote_by lists).delayed
delayed_by [] = refl
delayed_by (xs ∷ lists) = refl

pub thread_by : (lists : List (List ℕ)) (page : ℕ) → slice_index_or lists (suc page) [] ≡ thread_at (remote_by lists) page
thread_by [] page = refl
thread_by (xs ∷ lists) page = refl

pub contents_by : (lists : List (List ℕ)) → contents (remote_by lists) ≡ concat lists
contents_by [] = refl
contents_by (xs ∷ lists) = refl

pub threads_by : (lists : List (List ℕ)) (n : ℕ) → length lists ≡ n + 1 → length (remote_by lists).thread_free ≡ n
threads_by [] n e = absurd (omega (arith, e))
threads_by (xs ∷ lists) n e = omega (arith, e)

pub set_delayed : (lists : List (List ℕ)) (places : List ℕ) → 0 < length lists → remote_by (slice_set lists 0 places) ≡ record (remote_by lists) { delayed = places }
set_delayed [] places lt = absurd (omega (arith, lt))
set_delayed (xs ∷ lists) places lt = refl

pub set_thread : (lists : List (List ℕ)) (page : ℕ) (places : List ℕ) → remote_by (slice_set lists (suc page) places) ≡ with_thread (remote_by lists) page places
set_thread [] page places = refl
set_thread (xs ∷ lists) page places = refl

-- a place stands in a list exactly where it stands in the contents
pub somewhere_contained : (m : Lists) (place : ℕ) → IsSomewhere m place → Contains (contents (remote_by m.by_key)) place
somewhere_contained m place s = subst (λ (xs : List ℕ). Contains xs place) (sym (contents_by m.by_key)) (Contains-concat m.by_key s.0 place s.1)

pub contained_somewhere : (m : Lists) (place : ℕ) → Contains (contents (remote_by m.by_key)) place → IsSomewhere m place
contained_somewhere m place c = contained_concat m.by_key place (subst (λ (xs : List ℕ). Contains xs place) (contents_by m.by_key) c)
