-- A Deliver by the joined seats of worker and list.
use Rattle.std.proofs.Common.{zero, suc, ◌≡◌, ◌≢◌, ℕ, ◌+◌, ◌==◌, ◌&&◌, ◌||◌, ◌<◌, inl, inr, true}
use Rattle.std.proofs.Common.{false, not, is_none}
use Rattle.std.proofs.Common.{List, [], ◌∷◌, length, get_or, set, Option, Some, None, refl, sym, ap}
use Rattle.std.proofs.Common.{subst, ◌∙◌, arith}
use Rattle.std.specs.List.{list_any, count_by}
use Rattle.std.proofs.lemmas.Bool.{cases_eq, eq-eqb, ne_eqb, and_right, not_from_true}
use Rattle.std.proofs.lemmas.Grind.{get_or-set_at}
use Rattle.std.proofs.lemmas.List.{get_or-set_other}
use Rattle.std.proofs.lemmas.Option.{none-some}
use Rattle.hg_place.specs.Places.{segment_of}
use Rattle.hg_place.specs.Words.{bit_of}
use Rattle.hg_machine.specs.declared.Event.TheVariants as event
use Rattle.hg_machine.specs.declared.Answer.TheVariants as answer
use Rattle.hg_machine.specs.First.{first_of}
use Rattle.hg_machine.specs.Life.{is_parted}
use Rattle.hg_machine.specs.State.{State, record_at, hand_of}
use Rattle.hg_machine.specs.Holders.{is_number}
use Rattle.hg_machine.specs.Policy.{Policy}
use Rattle.hg_machine.specs.Soundness.{IsSound}
use Rattle.hg_machine.specs.Sweeps.{is_sent_to}
use Rattle.hg_machine.specs.Changes.{with_hand}
use Rattle.hg_machine.proofs.Keeps.{hand_any}
use Rattle.hg_machine.proofs.Serves.{served_step}
use Rattle.hg_agreement.specs.Views.{View}
use Rattle.hg_agreement.specs.Agreement.{Agrees}
use Rattle.hg_agreement.proofs.Firsts.{count_cons}
use Rattle.hg_frame.specs.Remotes.{is_of_segment}
use Rattle.hg_roles.specs.Roles.{Role, of_worker, of_remote, of_pool, of_segment, RemoteAgrees}
use Rattle.hg_roles.specs.Roles.{name_of}
use Rattle.hg_roles.specs.Joined.{emptied, DeliversDecide}
use Rattle.hg_roles.proofs.RoleFrames.{Quiet}
use Rattle.hg_roles.proofs.Both.{Leaves, both_decide}
use Rattle.hg_roles.proofs.TakeLemmas.{other_list}

number_not : (q : ℕ) (o : Option ℕ) → o ≢ Some q → is_number q o ≡ false
number_not q None differ = refl
number_not q (Some k) differ = ne_eqb k q (λ e. differ (ap Some e))

-- no hand of these has the place
in_none : (q : ℕ) (hands : List (Option ℕ)) → ((v : ℕ) → get_or hands v None ≢ Some q)
    → list_any (is_number q) hands ≡ false
in_none q [] none = refl
in_none q (h ∷ hands) none =
    ap (λ b. b || list_any (is_number q) hands) (number_not q h (none 0))
    ∙ in_none q hands (λ v. none (suc v))

-- a hand is emptied that had another place
else_emptied : (q : ℕ) (hands : List (Option ℕ)) (w : ℕ) → is_number q (get_or hands w None) ≡ false
    → list_any (is_number q) (set hands w None) ≡ list_any (is_number q) hands
else_emptied q [] w was = refl
else_emptied q (h ∷ hands) zero was = ap (λ b. b || list_any (is_number q) hands) (sym was)
else_emptied q (h ∷ hands) (suc w) was = ap (λ b. is_number q h || b) (else_emptied q hands w was)

module _ (m : State) (sound : IsSound m) (w p g : ℕ) (hand : hand_of m w ≡ Some p)
    (of : segment_of p ≡ g) (low : w < length m.hands)
    (sent : List ℕ) (remote : RemoteAgrees m g sent) where
  abbrev after : State
  after = with_hand m w None

  gone : (v : ℕ) → hand_of after v ≢ Some p
  gone v has = elim (cases_eq v w) as (λ _. ⊥) [
    | inl e ↦ none-some p (sym (get_or-set_at m.hands w v None None e low) ∙ has)
    | inr ne ↦
        ne
        ((sound.places p).one_hand v w (sym (get_or-set_other m.hands w v None None ne) ∙ has) hand)
  ]

  one_more : RemoteAgrees after g (p ∷ sent)
  one_more q =
      count_cons (λ k. k == q) p sent
      ∙ elim (cases_eq p q) as
      (λ _. bit_of (p == q) + count_by (λ k. k == q) sent ≡ bit_of (is_sent_to after g q)) [
        | inl e ↦
            let now : is_sent_to after g q ≡ true =
            ap
            (λ n.
            segment_of n == g
            && (is_parted (record_at m n).life && not (list_any (is_number n) after.hands))) (sym e)
            ∙ ap
            (λ b. b && (is_parted (record_at m p).life && not (list_any (is_number p) after.hands)))
            (eq-eqb _ g of)
            ∙ ap (λ b. b && not (list_any (is_number p) after.hands))
            ((sound.places p).in_hand w hand)
            ∙ ap not (in_none p after.hands gone) in
            let was : is_sent_to m g q ≡ false =
            and_right (segment_of q == g) _
            (and_right (is_parted (record_at m q).life) _
            (not_from_true _ (hand_any m w q (hand ∙ ap Some e)))) in
            let a : bit_of (p == q) ≡ 1 = ap bit_of (eq-eqb p q e) in
            let b : count_by (λ k. k == q) sent ≡ 0 = remote q ∙ ap bit_of was in
            let c : bit_of (is_sent_to after g q) ≡ 1 = ap bit_of now in
            omega arith
        | inr ne ↦
            let same : is_sent_to after g q ≡ is_sent_to m g q =
            ap (λ b. segment_of q == g && (is_parted (record_at m q).life && not b))
            (else_emptied q m.hands w (ap (is_number q) hand ∙ ne_eqb p q ne)) in
            let a : bit_of (p == q) ≡ 0 = ap bit_of (ne_eqb p q ne) in
            let b : count_by (λ k. k == q) sent ≡ bit_of (is_sent_to m g q) = remote q in
            let c : bit_of (is_sent_to after g q) ≡ bit_of (is_sent_to m g q) = ap bit_of same in
            omega arith
      ]

deliver_leaves : (m : State) (before : View) (p g : ℕ) (sent : List ℕ) → IsSound m
    → before.worker < length m.hands → Agrees m before None → RemoteAgrees m g sent
    → before.hand ≡ Some p → segment_of p ≡ g
    → Leaves m before (emptied before) (of_remote g (p ∷ sent)) event.Deliver answer.Done
deliver_leaves m before p g sent sound low agreed remote hand of = record {
  step =
      served_step m before.worker event.Deliver answer.Done _
      (ap (λ o. first_of ((is_none o, answer.NothingInHand) ∷ [])) (agreed.hand ∙ hand)) refl refl;
  agrees = λ later. record {
    sound = later;
    policy = agreed.policy;
    holding = agreed.holding;
    classes = agreed.classes;
    standings = agreed.standings;
    blocks = agreed.blocks;
    hand = get_or-set_at m.hands before.worker before.worker None None refl low;
    word = tt;
  };
  leaves = λ later. one_more m sound before.worker p g (agreed.hand ∙ hand) of low sent remote;
}

deliver_quiet : (m : State) (w p g : ℕ) (policy : Policy) (sent : List ℕ) → hand_of m w ≡ Some p
    → segment_of p ≡ g → (role : Role)
    → name_of policy role ≢ name_of policy (of_remote g sent) → Quiet m w event.Deliver role
deliver_quiet m w p g policy sent hand of (of_worker view log) differ = tt
deliver_quiet m w p g policy sent hand of (of_remote h others) differ =
    ap (is_of_segment h) hand ∙ ap (λ n. n == h) of ∙ ne_eqb g h (other_list policy g h differ)
deliver_quiet m w p g policy sent hand of (of_pool pooled) differ = refl
deliver_quiet m w p g policy sent hand of (of_segment h) differ = tt

pub delivers_decide : DeliversDecide
delivers_decide policy words parts log before g p sent seat below hand of =
    both_decide policy words parts log before (emptied before) event.Deliver answer.Done
    (of_remote g sent) (of_remote g (p ∷ sent)) seat below refl refl
    (λ e. absurd (omega arith)) refl refl refl
    (λ q. refl)
    (λ m shows agreed remote.
    deliver_leaves m before p g sent shows.sound
    (subst (λ n. before.worker < n)
    (sym (shows.sound.whole.hands ∙ ap (λ x. x.workers) shows.same)) below) agreed remote hand of)
    (λ m shows agreed role differ.
    deliver_quiet m before.worker p g policy sent (agreed.hand ∙ hand) of role differ)
