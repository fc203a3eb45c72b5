-- What is sent to a segment stays at each step that doesn't move it.
use Rattle.std.proofs.Common.{◌≡◌, inl, inr, ℕ, zero, suc, ◌==◌, ◌&&◌, ◌||◌, ◌<◌, Bool, true}
use Rattle.std.proofs.Common.{false, not, get_or, set, List, [], ◌∷◌, length, Option}
use Rattle.std.proofs.Common.{Some, None, refl, sym, ap, subst, ◌∙◌}
use Rattle.std.specs.List.{list_any}
use Rattle.std.proofs.lemmas.Bool.{cases_Bool, cases_eq, ne_eqb, eq-eqb, eqb-true, true≢false}
use Rattle.std.proofs.lemmas.Bool.{and_left, and_right, and_parts, not_from_true}
use Rattle.std.proofs.lemmas.Grind.{get_or-set_at}
use Rattle.std.proofs.lemmas.List.{get_or-set_other}
use Rattle.hg_place.specs.Places.{segment_of}
use Rattle.hg_machine.specs.declared.Event.{Event}
use Rattle.hg_machine.specs.declared.Answer.{Answer}
use Rattle.hg_machine.specs.Life.{Record, never_used, is_parted}
use Rattle.hg_machine.specs.State.{State, record_at, hand_of}
use Rattle.hg_machine.specs.Holders.{is_number}
use Rattle.hg_machine.specs.Changes.{part}
use Rattle.hg_machine.specs.Sweeps.{is_sent_to, is_sent, settled}
use Rattle.hg_machine.proofs.Keeps.{set_cases, hand_any, live_unparted}
use Rattle.hg_machine.proofs.Takes.{settled_at}
use Rattle.hg_frame.specs.Remotes.{is_of_segment, moves_sent, RemotesStay}
use Rattle.hg_frame.proofs.StepKinds.{living, Kind, quiet, delivers, puts, parts, settles, kind_of}
use Rattle.hg_frame.proofs.WorkersLemmas.{parted_apart, unsent_settled}

-- whether a place is sent to a segment, by its record and all hands
abbrev sent_by : ℕ → ℕ → Record → List (Option ℕ) → Bool
sent_by g q r hands = segment_of q == g && (is_parted r.life && not (list_any (is_number q) hands))

-- a hand that is changed, where neither before nor after it has the place
any_set : (q : ℕ) (hands : List (Option ℕ)) (w : ℕ) (x : Option ℕ)
    → is_number q (get_or hands w None) ≡ false → is_number q x ≡ false
    → list_any (is_number q) (set hands w x) ≡ list_any (is_number q) hands
any_set q [] w x was is = refl
any_set q (h ∷ hands) zero x was is = ap (λ b. b || list_any (is_number q) hands) (is ∙ sym was)
any_set q (h ∷ hands) (suc w) x was is = ap (λ b. is_number q h || b) (any_set q hands w x was is)

-- of an unparted place none is sent
unparted_unsent : (g q : ℕ) (r : Record) (hands : List (Option ℕ)) → is_parted r.life ≡ false
    → sent_by g q r hands ≡ false
unparted_unsent g q r hands e =
    and_right (segment_of q == g) _ (and_left _ (not (list_any (is_number q) hands)) e)

-- nor of one in a hand
in_hand_unsent : (g q : ℕ) (r : Record) (hands : List (Option ℕ))
    → list_any (is_number q) hands ≡ true → sent_by g q r hands ≡ false
in_hand_unsent g q r hands e =
    and_right (segment_of q == g) _ (and_right (is_parted r.life) _ (not_from_true _ e))

-- what a hand has that isn't of the segment isn't a place of it
elsewhere : (g q : ℕ) (o : Option ℕ) → is_of_segment g o ≡ false → (segment_of q == g) ≡ true
    → is_number q o ≡ false
elsewhere g q None e of = refl
elsewhere g q (Some p) e of =
    ne_eqb p q (λ same. true≢false (sym of ∙ ap (λ n. segment_of n == g) (sym same) ∙ e))

-- a hand is emptied that had nothing of the segment
emptied : (g q : ℕ) (r : Record) (hands : List (Option ℕ)) (w : ℕ)
    → is_of_segment g (get_or hands w None) ≡ false
    → sent_by g q r (set hands w None) ≡ sent_by g q r hands
emptied g q r hands w other =
    elim (cases_Bool (segment_of q == g)) as
    (λ _. sent_by g q r (set hands w None) ≡ sent_by g q r hands) [
      | inl of ↦
          ap (λ b. segment_of q == g && (is_parted r.life && not b))
          (any_set q hands w None (elsewhere g q (get_or hands w None) other of) refl)
      | inr apart ↦ and_left _ _ apart ∙ sym (and_left _ _ apart)
    ]

-- a record is set, of a place that isn't parted and isn't after it
put_sent : (s : State) (g p q : ℕ) (r : Record) → is_parted (record_at s p).life ≡ false
    → is_parted r.life ≡ false
    → sent_by g q (get_or (set s.records p r) q never_used) s.hands ≡ is_sent_to s g q
put_sent s g p q r was is =
    elim (set_cases s.records p q r never_used) as
    (λ _. sent_by g q (get_or (set s.records p r) q never_used) s.hands ≡ is_sent_to s g q) [
      | inl at ↦
          ap (λ x. sent_by g q x s.hands) at.1
          ∙ unparted_unsent g q r s.hands is
          ∙ sym
          (unparted_unsent g q (record_at s q) s.hands
          (ap (λ n. is_parted (record_at s n).life) at.0 ∙ was))
      | inr same ↦ ap (λ x. sent_by g q x s.hands) same
    ]

-- a live block is parted into a hand that was empty
part_sent : (s : State) (w g p q : ℕ) (r : Record) → w < length s.hands → hand_of s w ≡ None
    → is_parted (record_at s p).life ≡ false
    → sent_by g q (get_or (set s.records p r) q never_used) (set s.hands w (Some p))
    ≡ is_sent_to s g q
part_sent s w g p q r below empty was =
    elim (cases_eq q p) as
    (λ _.
    sent_by g q (get_or (set s.records p r) q never_used) (set s.hands w (Some p))
    ≡ is_sent_to s g q) [
      | inl e ↦
          let new : State = record s { hands = set s.hands w (Some p) } in
          let has : hand_of new w ≡ Some q =
          get_or-set_at s.hands w w (Some p) None refl below ∙ ap Some (sym e) in
          in_hand_unsent g q (get_or (set s.records p r) q never_used) (set s.hands w (Some p))
          (hand_any new w q has)
          ∙ sym
          (unparted_unsent g q (record_at s q) s.hands
          (ap (λ n. is_parted (record_at s n).life) e ∙ was))
      | inr ne ↦
          ap (λ x. sent_by g q x (set s.hands w (Some p)))
          (get_or-set_other s.records p q r never_used ne)
          ∙ ap (λ b. segment_of q == g && (is_parted (record_at s q).life && not b))
          (any_set q s.hands w (Some p) (ap (is_number q) empty) (ne_eqb p q (λ k. ne (sym k))))
    ]

-- what is sent elsewhere is taken in
else_settled : (s : State) (g taken q : ℕ) → (taken == g) ≡ false → (segment_of q == g) ≡ true
    → settled s taken q ≡ record_at s q
else_settled s g taken q other of =
    unsent_settled s taken q
    (and_left _ (is_sent s q)
    (ne_eqb (segment_of q) taken
    (λ k. true≢false (sym (eq-eqb taken g (sym k ∙ eqb-true _ _ of)) ∙ other))))

settle_sent : (s : State) (g taken q : ℕ) → (taken == g) ≡ false
    → sent_by g q (settled s taken q) s.hands ≡ is_sent_to s g q
settle_sent s g taken q other =
    elim (cases_Bool (segment_of q == g)) as
    (λ _. sent_by g q (settled s taken q) s.hands ≡ is_sent_to s g q) [
      | inl of ↦ ap (λ x. sent_by g q x s.hands) (else_settled s g taken q other of)
      | inr apart ↦ and_left _ _ apart ∙ sym (and_left _ _ apart)
    ]

-- records and hands decide what is sent
by_both : (s new : State) (g q : ℕ) (rs : List Record) (hands : List (Option ℕ)) → new.records ≡ rs
    → new.hands ≡ hands
    → sent_by g q (get_or rs q never_used) hands ≡ is_sent_to s g q
    → is_sent_to new g q ≡ is_sent_to s g q
by_both s new g q rs hands now held is =
    ap (λ x. sent_by g q (get_or x q never_used) new.hands) now
    ∙ ap (sent_by g q (get_or rs q never_used)) held ∙ is

kind_sent : (s : State) (w : ℕ) (e : Event) (a : Answer) (new : State) (g q : ℕ)
    → w < length s.hands → moves_sent s w e g ≡ false → Kind s w e a new
    → is_sent_to new g q ≡ is_sent_to s g q
kind_sent s w e a new g q below none (quiet same hands) =
    by_both s new g q s.records s.hands same hands refl
kind_sent s w e a new g q below none (delivers same hands is) =
    by_both s new g q s.records (set s.hands w None) same hands
    (emptied g q (record_at s q) s.hands w (ap (λ x. moves_sent s w x g) (sym is) ∙ none))
kind_sent s w e a new g q below none (puts p r now hands was is sets) =
    by_both s new g q (set s.records p r) s.hands now hands (put_sent s g p q r was is)
kind_sent s w e a new g q below none (parts p now hands alive empty changed) =
    let r = living (record_at s p) (part (record_at s p).life) in
    by_both s new g q (set s.records p r) (set s.hands w (Some p)) now hands
    (part_sent s w g p q r below empty (live_unparted _ alive))
kind_sent s w e a new g q below none (settles taken now hands is) =
    let other : (taken == g) ≡ false = ap (λ x. moves_sent s w x g) (sym is) ∙ none in
    by_both s new g q _ s.hands now hands
    (ap (λ x. sent_by g q x s.hands) (settled_at s taken q) ∙ settle_sent s g taken q other)

kind_records : (s : State) (w : ℕ) (e : Event) (a : Answer) (new : State) (g q : ℕ)
    → moves_sent s w e g ≡ false → (segment_of q == g) ≡ true
    → is_parted (record_at s q).life ≡ true → Kind s w e a new → record_at new q ≡ record_at s q
kind_records s w e a new g q none of away (quiet same hands) =
    ap (λ rs. get_or rs q never_used) same
kind_records s w e a new g q none of away (delivers same hands is) =
    ap (λ rs. get_or rs q never_used) same
kind_records s w e a new g q none of away (puts p r now hands was is sets) =
    ap (λ rs. get_or rs q never_used) now ∙ parted_apart s p q r away was
kind_records s w e a new g q none of away (parts p now hands alive empty changed) =
    ap (λ rs. get_or rs q never_used) now ∙ parted_apart s p q _ away (live_unparted _ alive)
kind_records s w e a new g q none of away (settles taken now hands is) =
    ap (λ rs. get_or rs q never_used) now ∙ settled_at s taken q
    ∙ else_settled s g taken q (ap (λ x. moves_sent s w x g) (sym is) ∙ none) of

pub remotes_stay : RemotesStay
remotes_stay s w e a new g sound below none h =
    let kind = kind_of s w e a new h in record {
      sent = λ q.
          kind_sent s w e a new g q (subst (λ n. w < n) (sym sound.whole.hands) below) none kind;
      records = λ q sent.
          let here = and_parts (segment_of q == g) _ sent in
          kind_records s w e a new g q none here.0
          (and_parts (is_parted (record_at s q).life) _ here.1).0 kind;
    }
