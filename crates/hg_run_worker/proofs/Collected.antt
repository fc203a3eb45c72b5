-- What of a worker stays where pages lose their class.
use Rattle.std.proofs.Common.{◌≡◌, ℕ, ◌<◌, List, length, map, get_or, Some, sym, ap, subst, ◌∙◌, slice_get}
use Rattle.std.proofs.lemmas.List.{length-map}
use Rattle.std.proofs.lemmas.Option.{slice_get-get_or}
use Rattle.atomic_table.specs.Seated.{TableId}
use Rattle.hg_segment.specs.Kept.{Kept}
use Rattle.hg_heap.specs.Idle.{bare}
use Rattle.hg_heap.proofs.Founds.{get-map, inside_of}
use Rattle.hg_run_table.specs.declared.segment.RunSegment.{RunSegment}
use Rattle.hg_run_worker.specs.AtWork.{IsSeated}

-- each segment has the seat that it had
pub seated_still : {id : TableId} (xs ys : List (Kept RunSegment)) → map bare ys ≡ map bare xs
    → ((at : ℕ) (k : Kept RunSegment) → slice_get xs at ≡ Some k → IsSeated id k.slots)
    → (at : ℕ) (k : Kept RunSegment) → slice_get ys at ≡ Some k → IsSeated id k.slots
seated_still {id} xs ys rest seated at k e =
    let all : length ys ≡ length xs =
    sym (length-map ys bare) ∙ ap length rest ∙ length-map xs bare in
    let below : at < length xs = subst (λ n. at < n) all (inside_of ys at k e) in
    let was : Kept RunSegment = get_or xs at k in
    let there : slice_get xs at ≡ Some was = slice_get-get_or xs at k below in
    let both : Some (bare was) ≡ Some (bare k) =
    sym (get-map bare xs at was there) ∙ ap (λ (l : List (Kept RunSegment)). slice_get l at) (sym rest)
    ∙ get-map bare ys at k e in
    let same : bare was ≡ bare k = cc in
    subst (IsSeated id) (ap (λ (x : Kept RunSegment). x.slots) same) (seated at was there)
