-- What the state and the lists of the parts tell of a segment.
use Rattle.std.proofs.Common.{◌≡◌, ℕ, ◌+◌, ◌*◌, ◌%◌, ◌<◌, [], Some, None, length, refl, ap, ◌∙◌}
use Rattle.std.proofs.Common.{arith}
use Rattle.std.proofs.lemmas.List.FromFn.{get_or-map-range_with_len}
use Rattle.hg_place.specs.Places.{segment_of, segment_of_page}
use Rattle.hg_machine.specs.Life.{never_used}
use Rattle.hg_machine.specs.State.{fresh, record_at, class_at, holder_at}
use Rattle.hg_agreement.specs.Parts.{Parts, state_of, holder_of, plain_of, record_by, class_by}
use Rattle.hg_agreement.specs.Parts.{record_of, page_class, lists_by, free_of, local_of, thread_of}
use Rattle.hg_agreement.specs.Parts.{delayed_of, remote_at, thread_at, places_from}
use Rattle.hg_agreement.specs.PartsLaws.{SegmentsAreTold, RemotesAreTold, PlainSegmentsAreTold}
use Rattle.hg_agreement.specs.PartsLaws.{PartsAreKept}

-- a place, a page and a segment of the policy, by their numbers
pub record_is : (parts : Parts) (place : ℕ) → place < length parts.policy.segments * 8192
    → record_at (state_of parts) place ≡ record_of parts place
record_is parts place h =
    get_or-map-range_with_len (record_of parts) 0 (length parts.policy.segments * 8192) place place
    never_used h (omega arith)

pub class_is : (parts : Parts) (page : ℕ) → page < length parts.policy.segments * 16
    → class_at (state_of parts) page ≡ page_class parts page
class_is parts page h =
    get_or-map-range_with_len (page_class parts) 0 (length parts.policy.segments * 16) page page
    None h (omega arith)

pub holder_is : (parts : Parts) (segment : ℕ) → segment < length parts.policy.segments
    → holder_at (state_of parts) segment ≡ holder_of parts segment
holder_is parts segment h =
    get_or-map-range_with_len (holder_of parts) 0 (length parts.policy.segments) segment segment
    fresh h (omega arith)

pub segments_are_told : SegmentsAreTold
segments_are_told parts segment one below there = record {
  records = λ at inside.
      let q = segment * 8192 + at in
      let s : segment_of q ≡ segment = omega arith in
      let m : q % 8192 ≡ at = omega arith in
      record_is parts q (omega arith)
      ∙ ap (λ o. record_by o (q % 8192)) (ap (plain_of parts) s ∙ there)
      ∙ ap (record_by (Some one)) m;
  classes = λ page inside.
      let q = segment * 16 + page in
      let s : segment_of_page q ≡ segment = omega arith in
      let m : q % 16 ≡ page = omega arith in
      class_is parts q (omega arith)
      ∙ ap (λ o. class_by o (q % 16)) (ap (plain_of parts) s ∙ there)
      ∙ ap (class_by (Some one)) m;
  free = λ page inside.
      let q = segment * 16 + page in
      let s : segment_of_page q ≡ segment = omega arith in
      let m : q % 16 ≡ page = omega arith in
      get_or-map-range_with_len (free_of parts) 0 (n * 16) q q [] (omega arith) (omega arith)
      ∙ ap (λ o. places_from (q * 512) (lists_by o (q % 16)).free) (ap (plain_of parts) s ∙ there)
      ∙ ap (λ p. places_from (q * 512) (lists_by (Some one) p).free) m;
  local_free = λ page inside.
      let q = segment * 16 + page in
      let s : segment_of_page q ≡ segment = omega arith in
      let m : q % 16 ≡ page = omega arith in
      get_or-map-range_with_len (local_of parts) 0 (n * 16) q q [] (omega arith) (omega arith)
      ∙ ap (λ o. places_from (q * 512) (lists_by o (q % 16)).local_free) (ap (plain_of parts) s
      ∙ there)
      ∙ ap (λ p. places_from (q * 512) (lists_by (Some one) p).local_free) m;
} where
  n : ℕ
  n = length parts.policy.segments

pub remotes_are_told : RemotesAreTold
remotes_are_told parts segment below = record {
  delayed =
      get_or-map-range_with_len (delayed_of parts) 0 (length parts.policy.segments) segment segment
      [] below (omega arith);
  thread_free = λ page inside.
      let q = segment * 16 + page in
      let s : segment_of_page q ≡ segment = omega arith in
      let m : q % 16 ≡ page = omega arith in
      get_or-map-range_with_len (thread_of parts) 0 (length parts.policy.segments * 16) q q []
      (omega arith) (omega arith)
      ∙ ap (λ x. places_from (x * 8192) (thread_at (remote_at parts x) (q % 16))) s
      ∙ ap (λ p. places_from (segment * 8192) (thread_at (remote_at parts segment) p)) m;
}

pub plain_segments_are_told : PlainSegmentsAreTold
plain_segments_are_told s = record {
  arena = refl;
  greatest = refl;
  number = refl;
  standings = λ at. refl;
  slots = λ at. refl;
  classes = λ page. refl;
  words = λ at. refl;
  lists = λ page. refl;
}

pub parts_are_kept : PartsAreKept
parts_are_kept parts = record { state = refl; lists = refl; queues = refl }
