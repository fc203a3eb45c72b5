-- The order in which the places of a remote list come off.
use Rattle.std.specs.Prelude.{ℕ, List, [], ◌∷◌, ◌++◌, map}
use Rattle.std.specs.List.{concat}
use Rattle.hg_place.specs.Places.{page_of}
use Rattle.hg_remote.specs.Remote.{Remote, thread_at}

-- those on the thread-free list of a delayed place's page, and then that place
abbrev pub with_those_before : Remote → ℕ → List ℕ
with_those_before remote place = thread_at remote (page_of place) ++ place ∷ []

-- so for each delayed place in turn
abbrev pub drained : Remote → List ℕ
drained remote = concat (map (with_those_before remote) remote.delayed)
