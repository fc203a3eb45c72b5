-- The class of a page is what the holder's heap tells, or the pool where nobody holds the segment.
use Rattle.std.proofs.Common.{◌≡◌, ℕ, ◌+◌, ◌*◌, ◌<◌, ◌≤◌, length, sym, ap, refl, ◌∙◌, arith, inl, inr}
use Rattle.std.proofs.Common.{Option, Some, None}
use Rattle.std.specs.Option.{option_map}
use Rattle.std.proofs.lemmas.Bool.{lt-ltb, le-ltb, cases_lt}
use Rattle.std.proofs.lemmas.List.{get_or_past}
use Rattle.std.proofs.lemmas.List.FromFn.{length-map-range_with_len}
use Rattle.hg_place.specs.declared.plain.PlainWords.{PlainWords}
use Rattle.hg_segment.specs.Kept.{Kept}
use Rattle.hg_segment.specs.Kept.{class_at as class_in}
use Rattle.hg_segment.specs.Parted.{plain_number}
use Rattle.hg_pool.specs.Pooled as pool
use Rattle.hg_machine.specs.State.{State, class_at, holder_at}
use Rattle.hg_agreement.specs.Parts.{Parts, state_of, page_class as class_of}
use Rattle.hg_events.specs.Core.{Core, parts_of}
use Rattle.hg_core.specs.declared.stores.Stores.TheInside.{Inside}
use Rattle.hg_core.specs.Held.{worker_in}
use Rattle.hg_core.specs.Keeping.{state_in}
use Rattle.hg_core.specs.PageClasses.{page_class}
use Rattle.hg_core.specs.Stored.{core_of, IsStored}
use Rattle.hg_core.proofs.PlacesTold.{class_told}
use Rattle.hg_core.proofs.Recorded.{plain_in_pool}

pub on_page : (s : State) (segment page : ℕ) → page < 16
    → page_class s segment page ≡ class_at s (segment * 16 + page)
on_page s segment page inside = rw (lt-ltb page 16 inside) refl

-- there is no such page, or no such segment
pub no_page : (s : State) (segment page : ℕ) → 16 ≤ page → page_class s segment page ≡ None
no_page s segment page past = rw (le-ltb page 16 past) refl

pub no_segment : (parts : Parts) (segment page : ℕ) → length parts.policy.segments ≤ segment
    → page_class (state_of parts) segment page ≡ None
no_segment parts segment page past = elim (cases_lt page 16) as (λ _.
    page_class (state_of parts) segment page ≡ None) [
      | inl inside ↦ on_page (state_of parts) segment page inside
          ∙ get_or_past (state_of parts).classes (segment * 16 + page) None
          (omega (
            arith,
            past,
            length-map-range_with_len (class_of parts) 0
                (length parts.policy.segments * 16),
          ))
      | inr behind ↦ no_page (state_of parts) segment page behind
    ]

-- the pool's segment tells it, where nobody holds the segment
pub pool_told : (a : Inside) (s : Core) (segment page : ℕ) (told : Option ℕ) → core_of a ≡ s
    → IsStored a → segment < length s.policy.segments
    → worker_in (holder_at (state_in s) segment) ≡ None → page < 16
    → pool.IsOf plain_number a.pool segment (λ one. told ≡ class_in one.classes page)
    → told ≡ page_class (state_in s) segment page
pool_told a s segment page told view stored lt is inside t =
    sym (on_page (state_in s) segment page inside
    ∙ class_told (λ c. c) (parts_of s) segment page told
    (pool.segment_of plain_number a.pool segment) lt inside
    (plain_in_pool a s segment view stored lt is)
    (ap (option_map (λ (k : Kept PlainWords). class_in k.classes page)) t.1
    ∙ ap Some (sym t.2)))
