-- The rows of a listing are the machine's listing.
use Rattle.std.proofs.Common.{◌≡◌, ℕ, ◌+◌, ◌*◌, ◌<◌, ◌≤◌, ◌⊎◌, inl, inr, zero, suc, Bool, true, false, not, List, [], ◌∷◌, length, Option, Some, None, map, filter, is_none, max, refl, sym, ap, subst, ◌∙◌, arith}
use Rattle.std.specs.List.{range_with_len}
use Rattle.std.proofs.lemmas.Bool.{cases_Bool}
use Rattle.std.proofs.lemmas.Option.{none-some}
use Rattle.hg_place.specs.declared.Actor.{Actor}
use Rattle.hg_place.specs.declared.Right.TheVariants as right
use Rattle.hg_place.specs.Places.{place_at, number_of, segment_of}
use Rattle.hg_machine.specs.State.{State, record_at}
use Rattle.hg_machine.specs.Holders.{holds}
use Rattle.hg_machine.specs.Denial.{denial}
use Rattle.hg_machine.specs.Refusal.{denial_or}
use Rattle.hg_machine.specs.Listing.{line_of, line_at, is_listed}
use Rattle.hg_machine.specs.Soundness.{IsSound}
use Rattle.hg_machine.specs.Steps.{Step, Run}
use Rattle.hg_machine.specs.declared.Event.TheVariants as event
use Rattle.hg_machine.specs.declared.Row.{Row}
use Rattle.hg_machine.specs.declared.Rule.{Rule}
use Rattle.hg_machine.specs.declared.Answer.{Answer}
use Rattle.hg_machine.specs.declared.Answer.TheVariants as answer
use Rattle.hg_machine.proofs.Cases.{step_cases}
use Rattle.hg_machine.proofs.Looks.{looks_are_listed}
use Rattle.hg_choice.specs.ChosenSteps.{Chosen}
use Rattle.hg_choice.proofs.ChoiceLemmas.{chosen_runs_are_runs}
use Rattle.hg_replay.specs.declared.replaying.events.Meaning.TheVariants as meaning
use Rattle.hg_replay.specs.Events.{actor_of, events_of, meaning_of}
use Rattle.hg_replay.specs.Listings.{held_among, held_places, looks, looks_at}
use Rattle.hg_replay.specs.Rows.{is_row}
use Rattle.hg_replay.specs.Text.{listing_text, reply_text}
use Rattle.hg_replay.specs.Replays.{handles_after, meaning_at}
use Rattle.hg_replay.specs.ReplayLaws.{row_of, rows_in, ListingsShowWhatIsListed, ListLinesPrintListings}
use Rattle.hg_replay.proofs.Looking.{look_keeps, looks_leave}

pub number_at : (n : ℕ) → n < 64 * 8192 → number_of (place_at n) ≡ n
number_at n below = omega arith

-- a Look at a place is answered by the row of its line where the place is listed, and else by none
record Shows (s : State) (n : ℕ) (a : Answer) : Type 0 where
  row : Row
  listed : a ≡ answer.Listed row
  told : line_of row ≡ line_at s n

record Hides (a : Answer) : Type 0 where
  no_row : is_row a ≡ false
  none : row_of a ≡ None

refused : (d : Option Rule) (b : Bool) (a : Answer) → denial_or d ((b, answer.Elsewhere) ∷ []) ≡ Some a → Hides a
refused (Some rule) b a e = let same : answer.Denied rule ≡ a = cc in subst Hides same (record { no_row = refl; none = refl })
refused None true a e = let same : answer.Elsewhere ≡ a = cc in subst Hides same (record { no_row = refl; none = refl })
refused None false a e = absurd (none-some a e)

module _ (s : State) (worker : ℕ) (actor : Actor) (sound : IsSound s) where
  look_shows : (n : ℕ) (a : Answer) (new : State) → n < 64 * 8192 → Step s worker (event.Look actor (place_at n)) a new
      → ((is_listed s worker actor.0 n ≡ true) × Shows s n a) ⊎ ((is_listed s worker actor.0 n ≡ false) × Hides a)
  look_shows n a new below step =
      let place = place_at n in
      let same = number_at n below in
      let listed = looks_are_listed s worker actor place sound ∙ ap (is_listed s worker actor.0) same in
      elim (step_cases s worker (event.Look actor place) a new step) as
      (λ _. ((is_listed s worker actor.0 n ≡ true) × Shows s n a) ⊎ ((is_listed s worker actor.0 n ≡ false) × Hides a)) [
        | inl is ↦
            let row = is.serves.0 in
            let tells = is.serves.2 in
            inl (
              sym listed ∙ ap is_none is.none,
              record {
                row = row;
                listed = is.serves.1;
                told =
                    ap (λ p. record { place = number_of p; generation = row.handle.generation; owner = row.owner; bytes = row.bytes }) tells.stands
                    ∙ ap (λ g. record { place = number_of place; generation = g; owner = row.owner; bytes = row.bytes }) tells.generation
                    ∙ ap (λ o. record { place = number_of place; generation = (record_at s (number_of place)).generation; owner = o; bytes = row.bytes }) tells.owner
                    ∙ ap (λ b. record { place = number_of place; generation = (line_at s (number_of place)).generation; owner = (line_at s (number_of place)).owner; bytes = b }) tells.bytes
                    ∙ ap (line_at s) same;
              },
            )
        | inr is ↦
            inr (
              sym listed ∙ ap is_none is.some,
              refused (denial s actor.0 right.List place (max 1 (record_at s (number_of place)).generation)) (not (holds s worker place.segment)) a is.some,
            )
      ]

  -- the Looks at the places of a range that the worker holds
  record Shown (a n : ℕ) (answers : List Answer) (end : State) : Type 0 where
    same : end ≡ s
    rows : map line_of (rows_in answers) ≡ map (line_at s) (filter (is_listed s worker actor.0) (range_with_len a n))
    printed : filter is_row answers ≡ map answer.Listed (rows_in answers)

  -- at a place that it holds
  shown_here : (a n : ℕ) (answers : List Answer) (end : State) → a < 64 * 8192
      → ((rest : List Answer) → Run s (looks_at worker actor (held_among s worker (range_with_len (a + 1) n))) rest end → Shown (a + 1) n rest end)
      → Run s (looks_at worker actor (a ∷ held_among s worker (range_with_len (a + 1) n))) answers end → Shown a (suc n) answers end
  shown_here a n [] end below further run = absurd run
  shown_here a n (x ∷ answers) end below further run =
      let kept = look_keeps s run.0 worker actor (place_at a) x run.1 in
      let rest = further answers (subst (λ m. Run m (looks_at worker actor (held_among s worker (range_with_len (a + 1) n))) answers end) kept run.2) in
      elim (look_shows a x run.0 below run.1) [
        | inl (listed, shows) ↦ record {
          same = rest.same;
          rows =
              rw (shows.listed, listed)
              (ap (λ l. l ∷ map line_of (rows_in answers)) shows.told ∙ ap (λ l. line_at s a ∷ l) rest.rows);
          printed = rw shows.listed (ap (λ l. answer.Listed shows.row ∷ l) rest.printed);
        }
        | inr (unlisted, hides) ↦ record {
          same = rest.same;
          rows = rw (hides.none, unlisted) rest.rows;
          printed = rw (hides.no_row, hides.none) rest.printed;
        }
      ]

  shown : (a n : ℕ) (answers : List Answer) (end : State) → a + n ≤ 64 * 8192
      → Run s (looks_at worker actor (held_among s worker (range_with_len a n))) answers end → Shown a n answers end
  shown a zero [] end within run = record { same = run; rows = refl; printed = refl }
  shown a zero (x ∷ answers) end within run = absurd run
  shown a (suc n) answers end within run =
      elim (cases_Bool (holds s worker (segment_of a))) [
        | inl held ↦ shown_here a n answers end (omega arith) (λ rest then. shown (a + 1) n rest end (omega arith) then) (rw held at run)
        | inr other ↦
            let rest = shown (a + 1) n answers end (omega arith) (rw other at run) in
            record { same = rest.same; rows = rw other rest.rows; printed = rest.printed }
      ]

pub listings_show_what_is_listed : ListingsShowWhatIsListed
listings_show_what_is_listed s worker actor answers end sound run =
    let all = shown s worker actor sound 0 (length s.records) answers end (omega (arith, sound.whole.records, sound.policy.few_segments)) run in
    (all.same, all.rows, all.printed)

pub list_lines_print_listings : ListLinesPrintListings
list_lines_print_listings from end line name text sound lists answered =
    let policy = from.kept.state.policy in
    let actor = actor_of policy name in
    let meant : meaning_at from line ≡ meaning.Listing actor = ap (meaning_of policy from.handles) lists in
    let chosen = subst (λ m. Chosen from.kept (events_of from.kept.state line.worker m) answered.answers end.kept) meant answered.chosen in
    let run = chosen_runs_are_runs from.kept end.kept (looks from.kept.state line.worker actor) answered.answers chosen in
    let shown = listings_show_what_is_listed from.kept.state line.worker actor answered.answers end.kept.state sound run in
    let kept : end.kept ≡ from.kept = looks_leave (held_places from.kept.state line.worker) answered.answers from.kept end.kept line.worker actor chosen in
    let handles : end.handles ≡ from.handles = answered.handles ∙ ap (λ c. handles_after from.handles c answered.answers) lists in
    let same : end ≡ from =
    ap (λ k. record { kept = k; handles = end.handles }) kept ∙ ap (λ h. record { kept = from.kept; handles = h }) handles in
    (same, rows_in answered.answers, shown.1, answered.told ∙ ap (λ m. reply_text policy m answered.answers) meant ∙ ap (listing_text policy) shown.2)
