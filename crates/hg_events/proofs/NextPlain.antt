-- In a tidy core the pool's next of an arena is that of its parts.
use Rattle.std.proofs.Common.{◌≡◌, ℕ, Bool, List, [], ◌∷◌, ◌++◌, map, find, sym, ap, ◌∙◌}
use Rattle.std.specs.Prelude.{Some}
use Rattle.std.specs.Option.{option_map}
use Rattle.std.specs.List.{AllByRecursion}
use Rattle.std.proofs.lemmas.List.{map-append}
use Rattle.std.proofs.lemmas.List.Elements.{recursion_from_All}
use Rattle.std.proofs.lemmas.List.Folds.{find-append}
use Rattle.hg_lists.proofs.RepeatsLemmas.{Each-weaker, Each-left, Each-right}
use Rattle.hg_pool.specs.Pooled.{is_of_arena, next_in as next_pooled}
use Rattle.hg_machine.specs.Holders.{is_number}
use Rattle.hg_machine.specs.Policy.{Policy, arena_of}
use Rattle.hg_machine.specs.State.{Holder, fresh, orphan}
use Rattle.hg_agreement.specs.Parts.{plain_from}
use Rattle.hg_agreement.specs.Pool.{is_for, next_in}
use Rattle.hg_parts.specs.Rights.{held_from, segments_in, IsSegmentRight}
use Rattle.hg_parts.specs.Tidy.{IsTidy}
use Rattle.hg_parts.proofs.Flat.{E}
use Rattle.hg_events.specs.Core.{Core, parts_of}
use Rattle.hg_events.proofs.PlainLists.{K, found_plain, each_append}

-- the segment is of the arena that the policy says
abbrev pub IsOwn : Policy → K → Type 0
IsOwn policy x = arena_of policy x.slots.segment ≡ Some x.arena

own_each : (policy : Policy) (h : Holder) (xs : List K)
    → AllByRecursion (λ (e : E). IsSegmentRight policy e.1) (map (λ s. (h, s)) (map plain_from xs))
    → AllByRecursion (IsOwn policy) xs
own_each policy h [] all = tt
own_each policy h (x ∷ xs) all = (all.0.arena, own_each policy h xs all.1)

-- so is each of the pool
pub pool_own : (core : Core) → IsTidy (parts_of core)
    → AllByRecursion (IsOwn core.policy) (core.pool.orphans ++ core.pool.fresh)
pool_own core t =
    let P : E → Type 0 = λ e. IsSegmentRight core.policy e.1 in
    let os : List E = map (λ s. (orphan, s)) (map plain_from core.pool.orphans) in
    let fs : List E = map (λ s. (fresh, s)) (map plain_from core.pool.fresh) in
    let all = recursion_from_All P (segments_in (parts_of core)) t.segments.each in
    let pool = Each-right P (held_from 0 (parts_of core).heaps) (os ++ fs) all in
    each_append (IsOwn core.policy) core.pool.orphans core.pool.fresh
    (own_each core.policy orphan core.pool.orphans (Each-left P os fs pool))
    (own_each core.policy fresh core.pool.fresh (Each-right P os fs pool))

pub next_plain : (core : Core) (arena : ℕ) → IsTidy (parts_of core)
    → next_in (parts_of core) arena ≡ option_map plain_from (next_pooled core.pool arena)
next_plain core arena t =
    let p : K → Bool = is_of_arena arena in
    let pool : List K = core.pool.orphans ++ core.pool.fresh in
    let same : AllByRecursion (λ x. is_for core.policy arena (plain_from x) ≡ p x) pool =
    Each-weaker (IsOwn core.policy) (λ x. is_for core.policy arena (plain_from x) ≡ p x)
    pool (λ x own. ap (is_number arena) own) (pool_own core t) in
    ap (find (is_for core.policy arena))
    (sym (map-append plain_from core.pool.orphans core.pool.fresh))
    ∙ found_plain p (is_for core.policy arena) pool same
    ∙ ap (option_map plain_from) (find-append p core.pool.orphans core.pool.fresh)
