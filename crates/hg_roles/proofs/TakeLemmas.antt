-- A Take by the joined seats of worker and list.
use Rattle.std.proofs.Common.{zero, suc, ◌≡◌, ◌≢◌, ℕ, ◌+◌, ◌==◌, ◌&&◌, ◌||◌, ◌<◌, ◌≤◌, inl, inr}
use Rattle.std.proofs.Common.{Bool, true, false, not, cond}
use Rattle.std.proofs.Common.{if◌then◌else◌, List, [], ◌∷◌, length, map, None, refl, sym, ap, subst}
use Rattle.std.proofs.Common.{◌∙◌, arith}
use Rattle.std.specs.List.{sum_by, count_by, list_any, range_with_len}
use Rattle.std.proofs.lemmas.Bool.{cases_Bool, cases_eq, cases_lt, eq-eqb, ne_eqb, true≢false}
use Rattle.std.proofs.lemmas.Bool.{and_parts, and_right, or_right}
use Rattle.std.proofs.lemmas.List.{get_or_past}
use Rattle.std.proofs.lemmas.List.Sums.{sum_by-append}
use Rattle.hg_place.specs.Places.{segment_of}
use Rattle.hg_place.specs.Words.{bit_of}
use Rattle.hg_place.specs.Standings.{standing_generation}
use Rattle.hg_place.specs.declared.standing.Standing.TheVariants.{Home}
use Rattle.hg_machine.specs.declared.Event.TheVariants as event
use Rattle.hg_machine.specs.declared.Answer.TheVariants as answer
use Rattle.hg_machine.specs.First.{first_of}
use Rattle.hg_machine.specs.Life.{Life, home, live, parted, Record, never_used, is_parted}
use Rattle.hg_machine.specs.Life.{contents_of}
use Rattle.hg_machine.specs.State.{State, record_at, places_in}
use Rattle.hg_machine.specs.Holders.{is_number}
use Rattle.hg_machine.specs.Policy.{Policy}
use Rattle.hg_machine.specs.Sweeps.{is_sent, is_sent_to, settled}
use Rattle.hg_machine.proofs.Enough.{sums}
use Rattle.hg_machine.proofs.Listed.{bit_true}
use Rattle.hg_machine.proofs.Serves.{served_step}
use Rattle.hg_machine.proofs.Takes.{settled_at}
use Rattle.hg_agreement.specs.Views.{View}
use Rattle.hg_agreement.specs.Agreement.{Agrees, standing_of, standing_by}
use Rattle.hg_agreement.proofs.Firsts.{count_cons, none_counted, some_counted}
use Rattle.hg_roles.specs.Roles.{Role, of_worker, of_remote, of_pool, of_segment, RemoteAgrees}
use Rattle.hg_roles.specs.Roles.{name_of}
use Rattle.hg_roles.specs.Joined.{come_home, TakesDecide}
use Rattle.hg_roles.proofs.RoleFrames.{Quiet}
use Rattle.hg_roles.proofs.Both.{Leaves, both_decide}

abbrev times : ℕ → List ℕ → ℕ
times q xs = count_by (λ other. other == q) xs

sum_cons : (f : ℕ → ℕ) (x : ℕ) (xs : List ℕ) → sum_by f (x ∷ xs) ≡ f x + sum_by f xs
sum_cons f x xs = sum_by-append f (x ∷ []) xs ∙ ap (λ k. k + sum_by f xs) (omega arith)

sum_zero : (xs : List ℕ) → sum_by (λ q. 0) xs ≡ 0
sum_zero [] = refl
sum_zero (x ∷ xs) = let c = sum_cons (λ q. 0) x xs in let rest = sum_zero xs in omega arith

sum_split : (f g : ℕ → ℕ) (xs : List ℕ) → sum_by (λ q. f q + g q) xs ≡ sum_by f xs + sum_by g xs
sum_split f g [] = refl
sum_split f g (x ∷ xs) =
    let a = sum_cons (λ q. f q + g q) x xs in
    let b = sum_cons f x xs in
    let c = sum_cons g x xs in
    let rest = sum_split f g xs in
    omega arith

none_in_range : (x a n : ℕ) → x < a → sum_by (λ q. bit_of (x == q)) (range_with_len a n) ≡ 0
none_in_range x a zero h = refl
none_in_range x a (suc n) h =
    let c = sum_cons (λ q. bit_of (x == q)) a (range_with_len (a + 1) n) in
    let z : bit_of (x == a) ≡ 0 = ap bit_of (ne_eqb x a (λ e. omega arith)) in
    let rest = none_in_range x (a + 1) n (omega arith) in
    omega arith

one_in_range : (x a n : ℕ) → a ≤ x → x < a + n
    → sum_by (λ q. bit_of (x == q)) (range_with_len a n) ≡ 1
one_in_range x a zero low high = absurd (omega arith)
one_in_range x a (suc n) low high =
    let c = sum_cons (λ q. bit_of (x == q)) a (range_with_len (a + 1) n) in
    elim (cases_eq x a) [
      | inl e ↦
          let z : bit_of (x == a) ≡ 1 = ap bit_of (eq-eqb x a e) in
          let rest = none_in_range x (a + 1) n (omega arith) in
          omega arith
      | inr ne ↦
          let z : bit_of (x == a) ≡ 0 = ap bit_of (ne_eqb x a ne) in
          let rest = one_in_range x (a + 1) n (omega arith) (omega arith) in
          omega arith
    ]

-- all of a range, counted on a list of numbers in it
all_counted : (xs : List ℕ) (n : ℕ) → ((x : ℕ) → list_any (λ k. k == x) xs ≡ true → x < n)
    → sum_by (λ q. times q xs) (range_with_len 0 n) ≡ length xs
all_counted [] n inside = sum_zero (range_with_len 0 n)
all_counted (x ∷ xs) n inside =
    let range = range_with_len 0 n in
    let a =
    sums (λ q. times q (x ∷ xs)) (λ q. bit_of (x == q) + times q xs) range
    (λ q. count_cons (λ k. k == q) x xs) in
    let b = sum_split (λ q. bit_of (x == q)) (λ q. times q xs) range in
    let below = inside x (ap (λ t. t || list_any (λ k. k == x) xs) (eq-eqb x x refl)) in
    let c = one_in_range x 0 n (omega arith) (omega arith) in
    let rest =
    all_counted xs n (λ y t. inside y (or_right (x == y) (list_any (λ k. k == y) xs) t)) in
    omega arith

cond_bit : (b : Bool) → cond b 1 0 ≡ bit_of b
cond_bit true = refl
cond_bit false = refl

bit_false : (b : Bool) → bit_of b ≡ 0 → b ≡ false
bit_false true e = absurd (omega arith)
bit_false false e = refl

generation_is : (generation : ℕ) (l : Life)
    → standing_generation (standing_by generation l) ≡ generation
generation_is generation home = refl
generation_is generation (live owner words) = refl
generation_is generation (parted owner words) = refl

module _ (m : State) (g : ℕ) (sent : List ℕ) (remote : RemoteAgrees m g sent) where
  -- what stands in the list is what is sent
  listed : (q : ℕ) → list_any (λ k. k == q) sent ≡ is_sent_to m g q
  listed q =
      elim (cases_Bool (list_any (λ k. k == q) sent)) as
      (λ _. list_any (λ k. k == q) sent ≡ is_sent_to m g q) [
        | inl t ↦
            t
            ∙ sym
            (bit_true (is_sent_to m g q)
            (subst (λ k. 1 ≤ k) (remote q) (some_counted (λ k. k == q) sent t)))
        | inr f ↦
            f
            ∙ sym
            (bit_false (is_sent_to m g q) (sym (remote q) ∙ none_counted (λ k. k == q) sent f))
      ]

  sent_within : (q : ℕ) → is_sent_to m g q ≡ true → q < length m.records
  sent_within q is =
      let away =
      (and_parts (is_parted (record_at m q).life) _
      (and_parts (segment_of q == g) (is_sent m q) is).1).0 in
      elim (cases_lt q (length m.records)) as (λ _. q < length m.records) [
        | inl below ↦ below
        | inr past ↦
            absurd
            (true≢false
            (sym away ∙ ap (λ r. is_parted r.life) (get_or_past m.records q never_used past)))
      ]

  counted : count_by (is_sent_to m g) (places_in m) ≡ length sent
  counted =
      sums (λ q. cond (is_sent_to m g q) 1 0) (λ q. times q sent) (places_in m)
      (λ q. cond_bit (is_sent_to m g q) ∙ sym (remote q))
      ∙ all_counted sent (length m.records) (λ q t. sent_within q (sym (listed q) ∙ t))

  abbrev after : State
  after = record m { records = map (settled m g) (places_in m) }

  -- a place's record after the step, by whether the place is sent
  abbrev brought : ℕ → Bool → Record
  brought q is_in =
      if is_in
      then record { generation = (record_at m q).generation; life = home }
      else record_at m q

  -- whether a place with this record is sent to the segment
  abbrev sent_with : ℕ → Record → Bool
  sent_with q r = segment_of q == g && (is_parted r.life && not (list_any (is_number q) m.hands))

  unsent : (q : ℕ) → sent_with q (settled m g q) ≡ false
  unsent q = elim (cases_Bool (is_sent_to m g q)) as (λ _. sent_with q (settled m g q) ≡ false) [
    | inl t ↦ ap (λ b. sent_with q (brought q b)) t ∙ and_right (segment_of q == g) false refl
    | inr f ↦ ap (λ b. sent_with q (brought q b)) f ∙ f
  ]

  none_left : RemoteAgrees after g []
  none_left q = sym (ap bit_of (ap (sent_with q) (settled_at m g q) ∙ unsent q))

  stand_by : (view : View) (q : ℕ) (is_in : Bool) → standing_of (record_at m q) ≡ view.standing q
      → standing_of (brought q is_in)
      ≡ (if is_in then Home (standing_generation (view.standing q)) else view.standing q)
  stand_by view q true was =
      ap Home
      (sym (generation_is (record_at m q).generation (record_at m q).life)
      ∙ ap standing_generation was)
  stand_by view q false was = was

  settled_stand : (view : View) (q : ℕ) → standing_of (record_at m q) ≡ view.standing q
      → standing_of (record_at after q) ≡ (come_home view sent).standing q
  settled_stand view q was =
      ap standing_of (settled_at m g q)
      ∙ ap (λ b. standing_of (brought q b)) (sym (listed q))
      ∙ stand_by view q (list_any (λ k. k == q) sent) was

  block_by : (view : View) (q : ℕ) (is_in : Bool) → contents_of (record_at m q).life ≡ view.block q
      → contents_of (brought q is_in).life ≡ (if is_in then [] else view.block q)
  block_by view q true was = refl
  block_by view q false was = was

  settled_block : (view : View) (q : ℕ) → contents_of (record_at m q).life ≡ view.block q
      → contents_of (record_at after q).life ≡ (come_home view sent).block q
  settled_block view q was =
      ap (λ (r : Record). contents_of r.life) (settled_at m g q)
      ∙ ap (λ b. contents_of (brought q b).life) (sym (listed q))
      ∙ block_by view q (list_any (λ k. k == q) sent) was

  take_leaves : (before : View) → Agrees m before None → before.holds g ≡ true
      → Leaves m before (come_home before sent) (of_remote g []) (event.Take g)
      (answer.Taken (length sent))
  take_leaves before agreed held = record {
    step =
        served_step m before.worker (event.Take g) (answer.Taken (length sent)) _
        (ap (λ b. first_of ((not b, answer.NotHeld) ∷ [])) (agreed.holding g ∙ held))
        (ap answer.Taken (sym counted)) refl;
    agrees = λ sound. record {
      sound = sound;
      policy = agreed.policy;
      holding = agreed.holding;
      classes = agreed.classes;
      standings = λ q here. settled_stand before q (agreed.standings q here);
      blocks = λ q here. settled_block before q (agreed.blocks q here);
      hand = agreed.hand;
      word = tt;
    };
    leaves = λ sound. none_left;
  }

-- a list of another name is of another segment
pub other_list : (policy : Policy) (g h : ℕ) → policy.workers + h ≢ policy.workers + g → g ≢ h
other_list policy g h differ e = differ (ap (λ n. policy.workers + n) (sym e))

take_quiet : (m : State) (w g : ℕ) (policy : Policy) (sent : List ℕ) (role : Role)
    → name_of policy role ≢ name_of policy (of_remote g sent) → Quiet m w (event.Take g) role
take_quiet m w g policy sent (of_worker view log) differ = tt
take_quiet m w g policy sent (of_remote h others) differ = ne_eqb g h (other_list policy g h differ)
take_quiet m w g policy sent (of_pool p) differ = refl
take_quiet m w g policy sent (of_segment h) differ = tt

pub takes_decide : TakesDecide
takes_decide policy words parts log before g sent seat below held =
    both_decide policy words parts log before (come_home before sent) (event.Take g)
    (answer.Taken (length sent))
    (of_remote g sent) (of_remote g []) seat below refl refl
    (λ e. absurd (omega arith)) refl refl refl
    (λ q. refl)
    (λ m shows agreed remote. take_leaves m g sent remote before agreed held)
    (λ m shows agreed role differ. take_quiet m before.worker g policy sent role differ)
