-- A Collect, tied.
use Rattle.std.proofs.Common.{◌≡◌, ℕ, ◌+◌, ◌*◌, ◌<◌, ◌≤◌, inl, inr, Bool, true, false, cond, ◌&&◌}
use Rattle.std.proofs.Common.{if◌then◌else◌, List, map, length, get_or, Option, None, refl, sym, ap}
use Rattle.std.proofs.Common.{◌∙◌, arith, is_some, zero, suc}
use Rattle.std.specs.List.{list_all, count_by, range_with_len}
use Rattle.std.proofs.lemmas.Bool.{cases_Bool, cases_lt}
use Rattle.std.proofs.lemmas.List.{get_or_past}
use Rattle.std.proofs.lemmas.List.FromFn.{length-map-range_with_len}
use Rattle.hg_place.specs.Places.{segment_of, segment_of_page}
use Rattle.hg_place.specs.Standings.{is_home as at_home}
use Rattle.hg_machine.specs.Life.{is_home}
use Rattle.hg_machine.specs.State.{State, record_at, class_at, pages_in}
use Rattle.hg_machine.specs.Holders.{holds}
use Rattle.hg_machine.specs.Sweeps.{is_idle, cleared}
use Rattle.hg_machine.proofs.Enough.{sums}
use Rattle.hg_machine.proofs.Takes.{cleared_at}
use Rattle.hg_agreement.specs.Views.{View, Shown}
use Rattle.hg_agreement.specs.Agreement.{Agrees}
use Rattle.hg_agreement.specs.Seen.{is_idle_in, is_given_up, idle_pages_in, pages_of_view}
use Rattle.hg_agreement.specs.Changed.{collected}
use Rattle.hg_agreement.specs.Ties.{CollectIsTied}
use Rattle.hg_agreement.proofs.Rooms.{home_by}
use Rattle.hg_agreement.proofs.Frames.{served_follows}
use Rattle.hg_machine.specs.declared.Event.TheVariants as event
use Rattle.hg_machine.specs.declared.Answer.TheVariants as answer

alls : (f g : ℕ → Bool) (a n : ℕ) → ((k : ℕ) → a ≤ k → k < a + n → f k ≡ g k)
    → list_all f (range_with_len a n) ≡ list_all g (range_with_len a n)
alls f g a zero e = refl
alls f g a (suc n) e =
    ap (λ b. b && list_all f (range_with_len (a + 1) n)) (e a (omega arith) (omega arith))
    ∙ ap (λ b. g a && b) (alls f g (a + 1) n (λ k low high. e k (omega arith) (omega arith)))

same_idle : (m : State) (view : View) (shown : Option Shown) (page : ℕ) → Agrees m view shown
    → view.holds (segment_of_page page) ≡ true → is_idle m page ≡ is_idle_in view page
same_idle m view shown page agrees held =
    alls (λ place. is_home (record_at m place).life) (λ place. at_home (view.standing place))
    (page * 512) 512
    (λ k low high.
    let r = record_at m k in
    let here : segment_of k ≡ segment_of_page page = omega arith in
    sym (home_by r.generation r.life) ∙ ap at_home (agrees.standings k (ap view.holds here ∙ held)))

-- an idle page of the worker in the state is one in the view
same_given_up : (m : State) (view : View) (shown : Option Shown) (page : ℕ) → Agrees m view shown
    → (holds m view.worker (segment_of_page page) && is_idle m page) ≡ is_given_up view page
same_given_up m view shown page agrees =
    ap (λ b. b && is_idle m page) (agrees.holding (segment_of_page page))
    ∙ elim (cases_Bool (view.holds (segment_of_page page))) [
      | inl h ↦ ap (λ b. view.holds (segment_of_page page) && b)
          (same_idle m view shown page agrees h)
      | inr f ↦ ap (λ b. b && is_idle m page) f ∙ sym (ap (λ b. b && is_idle_in view page) f)
    ]

both : (b c d : Bool) → (b && (c && d)) ≡ ((b && c) && d)
both true c d = refl
both false c d = refl

counted : (m : State) (view : View) (shown : Option Shown) (page : ℕ) → Agrees m view shown
    → (holds m view.worker (segment_of_page page) && (is_idle m page && is_some (class_at m page)))
    ≡ (view.holds (segment_of_page page) && (is_idle_in view page && is_some (view.class page)))
counted m view shown page agrees =
    both (holds m view.worker (segment_of_page page)) (is_idle m page) (is_some (class_at m page))
    ∙ ap (λ b. b && is_some (class_at m page)) (same_given_up m view shown page agrees)
    ∙ sym (both (view.holds (segment_of_page page)) (is_idle_in view page)
    (is_some (class_at m page)))
    ∙ elim (cases_Bool (view.holds (segment_of_page page))) [
      | inl h ↦ ap (λ c. view.holds (segment_of_page page) && (is_idle_in view page && is_some c))
          (agrees.classes page h)
      | inr f ↦ ap (λ b. b && (is_idle_in view page && is_some (class_at m page))) f
          ∙ sym (ap (λ b. b && (is_idle_in view page && is_some (view.class page))) f)
    ]

both_none : (b : Bool) (c : Option ℕ) → c ≡ None → c ≡ (if b then None else c)
both_none true c e = e
both_none false c e = refl

class_after : (m : State) (w page : ℕ) → get_or (map (cleared m w) (pages_in m)) page None
    ≡ cleared m w page
class_after m w page =
    elim (cases_lt page (length m.classes)) [
      | inl below ↦ cleared_at m w page below
      | inr past ↦
          let none : class_at m page ≡ None = get_or_past m.classes page None past in
          get_or_past (map (cleared m w) (pages_in m)) page None
          (let l = length-map-range_with_len (cleared m w) 0 (length m.classes) in omega arith)
          ∙ sym none
          ∙ both_none (holds m w (segment_of_page page) && is_idle m page) (class_at m page) none
    ]

counts : (f g : ℕ → Bool) (xs : List ℕ) → ((n : ℕ) → f n ≡ g n) → count_by f xs ≡ count_by g xs
counts f g xs e =
    sums (λ n. cond (f n) 1 0) (λ n. cond (g n) 1 0) xs (λ n. ap (λ b. cond b 1 0) (e n))

pub collect_is_tied : CollectIsTied
collect_is_tied view shown below m agrees =
    let w = view.worker in
    let in_state : ℕ → Bool =
    λ page. holds m w (segment_of_page page) && (is_idle m page && is_some (class_at m page)) in
    let in_view : ℕ → Bool =
    λ page. view.holds (segment_of_page page) && (is_idle_in view page && is_some
    (view.class page)) in
    let pages : pages_in m ≡ pages_of_view view =
    ap (range_with_len 0) (agrees.sound.whole.classes
    ∙ ap (λ p. length p.segments * 16) agrees.policy) in
    served_follows m view (collected view) shown shown event.Collect
    (answer.Pages (idle_pages_in view)) below agrees (tt) refl
    (ap answer.Pages
    (sym (counts in_state in_view (pages_in m) (λ page. counted m view shown page agrees)
    ∙ ap (count_by in_view) pages)))
    (λ sound. record {
      sound = sound;
      policy = agrees.policy;
      holding = agrees.holding;
      classes = λ page h.
          class_after m w page
          ∙ ap (λ b. if b then None else class_at m page) (same_given_up m view shown page agrees)
          ∙ ap (λ c. if is_given_up view page then None else c) (agrees.classes page h);
      standings = agrees.standings;
      blocks = agrees.blocks;
      hand = agrees.hand;
      word = agrees.word;
    })
