-- What a worker has stays at each step of another.
use Rattle.std.proofs.Common.{◌≡◌, ◌≢◌, inl, inr, ℕ, ◌==◌, true, false, get_or, set}
use Rattle.std.proofs.Common.{length, if◌then◌else◌, Some, refl, sym, ap, ◌∙◌}
use Rattle.std.specs.List.{range_with_len}
use Rattle.std.proofs.lemmas.Bool.{ne_eqb, true≢false, and_right, not_from_true}
use Rattle.std.proofs.lemmas.List.{length-set, get_or-set_other}
use Rattle.std.proofs.lemmas.List.FromFn.{length-map-range_with_len}
use Rattle.hg_place.specs.Places.{segment_of}
use Rattle.hg_machine.specs.declared.Event.{Event}
use Rattle.hg_machine.specs.declared.Event.TheVariants as event
use Rattle.hg_machine.specs.declared.Answer.{Answer}
use Rattle.hg_machine.specs.Life.{Life, home, live, parted, Record, never_used, is_home, is_parted}
use Rattle.hg_machine.specs.Life.{owner_of, contents_of}
use Rattle.hg_machine.specs.State.{State, record_at, holder_at, hand_of}
use Rattle.hg_machine.specs.Holders.{holds, is_held_by}
use Rattle.hg_machine.specs.Changes.{part}
use Rattle.hg_machine.specs.Held.{IsAlike, IsSameHeld}
use Rattle.hg_machine.specs.Soundness.{IsSound}
use Rattle.hg_machine.specs.Sweeps.{is_sent_to, settled}
use Rattle.hg_machine.proofs.Enough.{held_is_enough}
use Rattle.hg_machine.proofs.Keeps.{hand_any, live_unparted}
use Rattle.hg_machine.proofs.Preserves.{held_is, steps_keep_policy}
use Rattle.hg_machine.proofs.Takes.{settled_at}
use Rattle.hg_laws.specs.Workers.{IsParting, LeavesOthers}
use Rattle.hg_laws.proofs.WorkersLemmas.{workers_keep_apart}
use Rattle.hg_frame.specs.Workers.{OthersStay}
use Rattle.hg_frame.proofs.StepKinds.{living, Kind, quiet, delivers, puts, parts, settles, kind_of}

alike_same : (r q : Record) → q ≡ r → IsAlike q r
alike_same r q e = record {
  generation = ap (λ x. x.generation) e;
  free = ap (λ x. is_home x.life) e;
  owner = ap (λ x. owner_of x.life) e;
  words = ap (λ x. contents_of x.life) e;
}

part_home : (l : Life) → is_home (part l) ≡ is_home l
part_home home = refl
part_home (live owner words) = refl
part_home (parted owner words) = refl

part_owner : (l : Life) → owner_of (part l) ≡ owner_of l
part_owner home = refl
part_owner (live owner words) = refl
part_owner (parted owner words) = refl

part_words : (l : Life) → contents_of (part l) ≡ contents_of l
part_words home = refl
part_words (live owner words) = refl
part_words (parted owner words) = refl

alike_part : (r q : Record) → q.generation ≡ r.generation → q.life ≡ part r.life → IsAlike q r
alike_part r q g l = record {
  generation = g;
  free = ap is_home l ∙ part_home r.life;
  owner = ap owner_of l ∙ part_owner r.life;
  words = ap contents_of l ∙ part_words r.life;
}

parting_alike : (s : State) (q : ℕ) (e : Event) (a : Answer) (new : State) → IsParting s q e a new
    → IsAlike (record_at new q) (record_at s q)
parting_alike s q (event.Free actor handle) a new is = alike_part _ _ is.2 is.3
parting_alike s q e a new is = absurd is

-- a record of a segment that the worker doesn't hold
pub alike_away : (s : State) (w : ℕ) (e : Event) (a : Answer) (new : State) (q : ℕ)
    → LeavesOthers s w e a new → holds s w (segment_of q) ≡ false
    → IsAlike (record_at new q) (record_at s q)
alike_away s w e a new q leaves away =
    elim (leaves.records q away) as (λ _. IsAlike (record_at new q) (record_at s q)) [
      | inl same ↦ alike_same _ _ same
      | inr parting ↦ parting_alike s q e a new parting
    ]

-- a segment has one holder
one_holder : (s : State) (w o g : ℕ) → o ≢ w → holds s o g ≡ true → holds s w g ≡ false
one_holder s w o g differ theirs =
    ap (is_held_by w) (held_is o (holder_at s g) theirs) ∙ ne_eqb o w differ

kind_length : (s : State) (w : ℕ) (e : Event) (a : Answer) (new : State) → Kind s w e a new
    → length new.records ≡ length s.records
kind_length s w e a new (quiet same hands) = ap length same
kind_length s w e a new (delivers same hands is) = ap length same
kind_length s w e a new (puts p r now hands was is sets) = ap length now ∙ length-set s.records p r
kind_length s w e a new (parts p now hands alive empty changed) =
    ap length now ∙ length-set s.records p _
kind_length s w e a new (settles g now hands is) =
    ap length now ∙ length-map-range_with_len (settled s g) 0 (length s.records)

-- a parted record stays where another, that isn't parted, is set
pub parted_apart : (s : State) (p q : ℕ) (r : Record) → is_parted (record_at s q).life ≡ true
    → is_parted (record_at s p).life ≡ false
    → get_or (set s.records p r) q never_used ≡ record_at s q
parted_apart s p q r away unparted =
    get_or-set_other s.records p q r never_used
    (λ e. true≢false (sym away ∙ ap (λ n. is_parted (record_at s n).life) e ∙ unparted))

-- and where what is sent is taken in, if it isn't sent
pub unsent_settled : (s : State) (g q : ℕ) → is_sent_to s g q ≡ false
    → settled s g q ≡ record_at s q
unsent_settled s g q kept = ap (λ b. if b then living (record_at s q) home else record_at s q) kept

in_hand_unsent : (s : State) (g w q : ℕ) → hand_of s w ≡ Some q → is_sent_to s g q ≡ false
in_hand_unsent s g w q h =
    and_right (segment_of q == g) _
    (and_right (is_parted (record_at s q).life) _ (not_from_true _ (hand_any s w q h)))

kind_in_hand : (s : State) (w o : ℕ) (e : Event) (a : Answer) (new : State) (q : ℕ) → IsSound s
    → hand_of s o ≡ Some q → Kind s w e a new → record_at new q ≡ record_at s q
kind_in_hand s w o e a new q sound h (quiet same hands) = ap (λ rs. get_or rs q never_used) same
kind_in_hand s w o e a new q sound h (delivers same hands is) =
    ap (λ rs. get_or rs q never_used) same
kind_in_hand s w o e a new q sound h (puts p r now hands was is sets) =
    ap (λ rs. get_or rs q never_used) now ∙ parted_apart s p q r ((sound.places q).in_hand o h) was
kind_in_hand s w o e a new q sound h (parts p now hands alive empty changed) =
    ap (λ rs. get_or rs q never_used) now
    ∙ parted_apart s p q _ ((sound.places q).in_hand o h) (live_unparted _ alive)
kind_in_hand s w o e a new q sound h (settles g now hands is) =
    ap (λ rs. get_or rs q never_used) now ∙ settled_at s g q
    ∙ unsent_settled s g q (in_hand_unsent s g o q h)

pub others_stay : OthersStay
others_stay s w e a new o sound differ h =
    let leaves = workers_keep_apart s w e a new sound h in
    let kind = kind_of s w e a new h in
    let same : IsSameHeld s new o = record {
      policy = steps_keep_policy s w e a new h;
      places = ap (range_with_len 0) (kind_length s w e a new kind);
      holding = λ g. leaves.holding o g differ;
      records = λ q theirs. alike_away s w e a new q leaves (one_holder s w o _ differ theirs);
      classes = λ page theirs. leaves.classes page (one_holder s w o _ differ theirs);
    } in
    record {
      held = same;
      hand = leaves.hands o differ;
      in_hand = λ q has. kind_in_hand s w o e a new q sound has kind;
      decides = held_is_enough s new o same;
    }
