-- What a table asks of each step at a word.
use Rattle.std.proofs.Common.{◌≡◌, ℕ, ◌+◌, ◌-◌, ◌<◌, eqb, List, get_or, set, map, refl, sym}
use Rattle.std.proofs.Common.{subst, eq-eqb, ne_eqb, arith}
use Rattle.std.proofs.lemmas.List.{set-get_or}
use mathlib.Core.Option.{none, some}
use lib.ListN.{get_elem?}
use prog.Atomic.{either}
use Rattle.atomic_table.specs.Table.{step, keeps, stepped, Allows}
use Rattle.atomic_table.proofs.Lists.{set_again, exchanged}
use Rattle.hg_machine.specs.Policy.{Policy}
use Rattle.hg_history.specs.OneRun.{IsOneRun}
use Rattle.hg_history.proofs.Views.{map_at, map_set}
use Rattle.hg_roles.specs.Roles.{Call, Role}
use Rattle.hg_roles.specs.Served.{places_of_policy}
use Rattle.hg_table.specs.LifeRule.{LifeRule}
use Rattle.hg_table.specs.Steps.{WordStep, look, open_as, close_from, take_home, left_by}
use Rattle.hg_table.specs.Steps.{known_after, view_after, MayMakeBy}
use Rattle.hg_table.specs.Told.{IsShownTo}
use Rattle.hg_table.specs.View as lives
use Rattle.hg_table.proofs.Cuts.{are_apart}
use Rattle.hg_table.proofs.WordSteps.{shown_to, keeps_rule, keeps_rule_by, after}
use Rattle.hg_run_table.specs.declared.part.Part.{Part}
use Rattle.hg_run_table.specs.declared.part.SeatView.{SeatView}
use Rattle.hg_run_table.specs.Found.{IsAgreed, IsFound}
use Rattle.hg_run_table.specs.Owing.{DecidesAt, DecidesAlone}
use Rattle.hg_run_table.specs.Rule.{Table, lives_of, KeepsBoth}
use Rattle.hg_run_table.specs.Seated.{HaveRoles, seated}
use Rattle.hg_run_table.specs.Told.{Mine, looked, took, looked_deciding, exchanged_deciding, opened}
use Rattle.hg_run_table.specs.Told.{decided}
use Rattle.hg_run_table.proofs.Decided.{keeps_on}
use Rattle.hg_run_table.proofs.RolesOfViews.{part_at}

abbrev pub runs : List SeatView → List (List Part)
runs views = map (λ view. view.run) views

abbrev pub known : List SeatView → List lives.View
known views = map (λ view. view.lives) views

-- both rules, of a table in which the view of one seat is another
pub set_both : (policy : Policy) (words : List ℕ) (homes : _) (views : List SeatView) (id : ℕ)
    (new : SeatView)
    → LifeRule (places_of_policy policy)
    (record { words = words; homes = homes; views = set (known views) id new.lives })
    → IsOneRun (seated policy) words (set (runs views) id new.run)
    → KeepsBoth policy (record { words = words; homes = homes; views = set views id new })
set_both policy words homes views id new good one = record {
  lives =
      subst
      (λ (vs : List lives.View).
      LifeRule (places_of_policy policy) (record { words = words; homes = homes; views = vs }))
      (sym (map_set (λ (v : SeatView). v.lives) views id new)) good;
  run =
      subst (IsOneRun (seated policy) words) (sym (map_set (λ (v : SeatView). v.run) views id new))
      one;
}

-- an exchange leaves what it should
pub exchange_is : (old w : ℕ) → left_by (close_from old) w ≡ either (eqb w old) (old - 1) w
exchange_is old w =
    exchanged w old (old - 1) (λ z. left_by (close_from old) w ≡ z)
    (λ hit. rw (eq-eqb w old hit) refl) (λ miss. rw (ne_eqb w old miss) refl)

module _ (policy : Policy) (slots id : ℕ) (me : Mine) where
  pub lives_at : (views : List SeatView) → get_elem? views id ≡ some me.0
      → get_elem? (known views) id ≡ some me.0.lives
  lives_at views at = map_at (λ (v : SeatView). v.lives) views id me.0 at

  pub run_at : (views : List SeatView) → get_elem? views id ≡ some me.0
      → get_elem? (runs views) id ≡ some me.0.run
  run_at views at = map_at (λ (v : SeatView). v.run) views id me.0 at

  pub shown : (s : Table) → KeepsBoth policy s → get_elem? s.views id ≡ some me.0 → (at : ℕ)
      → IsShownTo at (get_or s.words at 0) me.0.lives
  shown s r seat at =
      shown_to (places_of_policy policy) (lives_of s) r.lives at id me.0.lives
      (lives_at s.views seat)

  -- some state agrees with the parts of the seat
  abbrev agreed : (s : Table) → KeepsBoth policy s → get_elem? s.views id ≡ some me.0 → IsAgreed me.0.run
  agreed s r seat = record {
    state = r.run.state;
    sound = r.run.shown.sound;
    agrees = λ roles has j role at.
        let p = part_at me.0.run roles has j role at in
        (r.run.agrees id j p.0 (me.0.run, run_at s.views seat, p.1)).like role p.2.named p.2.agrees;
  }

  -- and shows the word of a place
  found_at : (s : Table) → KeepsBoth policy s → get_elem? s.views id ≡ some me.0 → (place : ℕ)
      → place < places_of_policy policy → IsFound place (get_or s.words (place + 1) 0) me.0.run
  unfolding IsFound
  found_at s r seat place below =
      record { agreed = agreed s r seat; shown = r.run.shown.each place below }

  module _ (at : ℕ) (inside : at < places_of_policy policy + 1) where
    pub found_behind : (s : Table) → KeepsBoth policy s → get_elem? s.views id ≡ some me.0 → (place : ℕ)
        → at ≡ place + 1 → IsFound place (get_or s.words at 0) me.0.run
    found_behind s r seat place is =
        subst (λ (n : ℕ). IsFound place (get_or s.words n 0) me.0.run) (sym is)
        (found_at s r seat place (omega (arith, inside, is)))

    -- the life rule after a step by one of the parts
    pub stepped_lives : (by : ℕ) (kind : WordStep) → MayMakeBy by kind at me.0.lives → (s : Table)
        → KeepsBoth policy s → get_elem? s.views id ≡ some me.0
        → LifeRule (places_of_policy policy)
        (after (lives_of s) at (left_by kind (get_or s.words at 0)) id
        (view_after by kind at (get_or s.words at 0) me.0.lives))
    stepped_lives by kind may s r seat =
        keeps_rule_by (places_of_policy policy) (lives_of s) r.lives at id me.0.lives
        (lives_at s.views seat) inside by kind may

    -- and after a look
    pub seen_lives : (s : Table) → KeepsBoth policy s → get_elem? s.views id ≡ some me.0
        → LifeRule (places_of_policy policy)
        (after (lives_of s) at (get_or s.words at 0) id
        (map (known_after look at (get_or s.words at 0)) me.0.lives))
    seen_lives s r seat =
        keeps_rule (places_of_policy policy) (lives_of s) r.lives at id me.0.lives
        (lives_at s.views seat) inside look tt

    -- a load that decides nothing
    quiet : (view : lives.View) → (s : Table) → KeepsBoth policy s → get_elem? s.views id ≡ some me.0
        → LifeRule (places_of_policy policy) (after (lives_of s) at (get_or s.words at 0) id view)
        → KeepsBoth policy
        (stepped s at (get_or s.words at 0) id me.1 (record { lives = view; run = me.0.run }) keeps)
    quiet view s r seat good =
        let w : ℕ = get_or s.words at 0 in
        set_both policy (set s.words at w) s.homes s.views id
        (record { lives = view; run = me.0.run }) good
        (subst
        (λ (z : List ℕ × List (List Part)). IsOneRun (seated policy) z.0 z.1)
        (λ k. (
          sym (set-get_or s.words at 0) k,
          sym (set_again (runs s.views) id me.0.run (run_at s.views seat)) k,
        ))
        r.run)

    pub looks : (a b : ℕ)
        → Allows (KeepsBoth policy) slots id me at (λ w. w) (looked (step slots at a b none) me)
    looks a b s r _ seat _ =
        let w : ℕ = get_or s.words at 0 in
        let view : lives.View = map (known_after look at w) me.0.lives in (
          record { lives = view; run = me.0.run },
          keeps,
          tt,
          quiet view s r seat (seen_lives s r seat),
          ((shown s r seat at, refl, refl), refl, are_apart (places_of_policy policy) (lives_of s) r.lives id me.0.lives (lives_at s.views seat)),
        )

    pub takes : (by a b : ℕ) → MayMakeBy by take_home at me.0.lives
        → Allows (KeepsBoth policy) slots id me at (λ w. w) (took by (step slots at a b none) me)
    takes by a b may s r _ seat _ =
        let w : ℕ = get_or s.words at 0 in
        let view : lives.View = view_after by take_home at w me.0.lives in (
          record { lives = view; run = me.0.run },
          keeps,
          tt,
          quiet view s r seat (stepped_lives by take_home may s r seat),
          ((shown s r seat at, refl, refl), refl, found_behind s r seat),
        )

    module _ (roles : List Role) (made : ℕ → List (ℕ × Call)) (change : ℕ → Role → Role)
        (has : HaveRoles me.0.run roles) where
      -- a view with which both rules are kept
      record Kept (s : Table) (later : List ℕ) (found : ℕ) (view : lives.View) : Type 0 where
        pub run : List Part
        pub both :
            KeepsBoth policy
            (record {
              words = later;
              homes = s.homes;
              views = set s.views id (record { lives = view; run = run });
            })
        pub have : HaveRoles run (map (change found) roles)

      -- a step which leaves this word, and this of words and lives
      made_at : (leaves : ℕ → ℕ) → DecidesAt policy at me.0.lives leaves roles made change
          → (view : lives.View) → (s : Table) → KeepsBoth policy s
          → get_elem? s.views id ≡ some me.0
          → LifeRule (places_of_policy policy)
          (after (lives_of s) at (leaves (get_or s.words at 0)) id view)
          → Kept s (set s.words at (leaves (get_or s.words at 0))) (get_or s.words at 0) view
      made_at leaves owes view s r seat good =
          let w : ℕ = get_or s.words at 0 in
          let later : List ℕ = set s.words at (leaves w) in
          let now =
          keeps_on policy s.words later me.0.run roles (made w) (change w) has
          (owes s.words (shown s r seat at)) (runs s.views) id r.run (run_at s.views seat) in
          record {
            run = now.0;
            both =
                set_both policy later s.homes s.views id (record { lives = view; run = now.0 }) good
                now.1;
            have = now.2;
          }

      pub looks_deciding : (a b : ℕ)
          → DecidesAt policy at me.0.lives (λ w. w) roles made change
          → Allows (KeepsBoth policy) slots id me at (λ w. w)
          (looked_deciding roles change (step slots at a b none) me)
      looks_deciding a b owes s r _ seat _ =
          let w : ℕ = get_or s.words at 0 in
          let view : lives.View = map (known_after look at w) me.0.lives in
          let k = made_at (λ w. w) owes view s r seat (seen_lives s r seat) in (
            record { lives = view; run = k.run },
            keeps,
            tt,
            k.both,
            ((shown s r seat at, refl, refl), k.have, found_behind s r seat),
          )

      -- what an exchange keeps, by what it leaves
      exchanged_both : (kind : WordStep) (old : ℕ)
          → ((w : ℕ) → left_by kind w ≡ either (eqb w old) (old - 1) w)
          → (view : lives.View) → (s : Table)
          → (k : Kept s (set s.words at (left_by kind (get_or s.words at 0))) (get_or s.words at 0)
          view)
          → KeepsBoth policy
          (stepped s at (either (eqb (get_or s.words at 0) old) (old - 1) (get_or s.words at 0)) id
          me.1 (record { lives = view; run = k.run }) keeps)
      exchanged_both kind old same view s k =
          subst
          (λ z.
          KeepsBoth policy (stepped s at z id me.1 (record { lives = view; run = k.run }) keeps))
          (same (get_or s.words at 0)) k.both

      pub exchanges : (kind : ℕ → WordStep)
          → ((old w : ℕ) → left_by (kind old) w ≡ either (eqb w old) (old - 1) w) → (by old : ℕ)
          → MayMakeBy by (kind old) at me.0.lives
          → DecidesAt policy at me.0.lives (left_by (kind old)) roles made change
          → Allows (KeepsBoth policy) slots id me at (λ w. either (eqb w old) (old - 1) w)
          (exchanged_deciding roles change kind by (step slots at old (old - 1) none) me)
      exchanges kind same by old may owes s r _ seat _ =
          let w : ℕ = get_or s.words at 0 in
          let view : lives.View = view_after by (kind old) at w me.0.lives in
          let k =
          made_at (left_by (kind old)) owes view s r seat
          (stepped_lives by (kind old) may s r seat) in (
            record { lives = view; run = k.run },
            keeps,
            tt,
            exchanged_both (kind old) old (same old) view s k,
            ((shown s r seat at, refl, refl), k.have, found_behind s r seat),
          )

    -- a store tells the word that it leaves, and not the one that it finds
    pub opens : (roles : List Role) (made : ℕ → List (ℕ × Call)) (change : ℕ → Role → Role)
        → HaveRoles me.0.run roles → (by live : ℕ)
        → MayMakeBy by (open_as live) at me.0.lives
        → DecidesAt policy at me.0.lives (λ _. live) roles (λ _. made live) (λ _. change live)
        → Allows (KeepsBoth policy) slots id me at (λ _. live)
        (λ _. opened roles change by (step slots at live 0 none) me live)
    opens roles made change has by live may owes s r _ seat _ =
        let w : ℕ = get_or s.words at 0 in
        let view : lives.View = view_after by (open_as live) at w me.0.lives in
        let k =
        made_at roles (λ _. made live) (λ _. change live) has (λ _. live) owes view s r seat
        (stepped_lives by (open_as live) may s r seat) in (
          record { lives = view; run = k.run },
          keeps,
          tt,
          k.both,
          ((w, shown s r seat at), refl, refl, k.have),
        )

  -- at the spare word nothing hangs on what is found, and nothing is told of words and lives
  pub decides : (roles : List Role) (made : ℕ → List (ℕ × Call)) (change : ℕ → Role → Role)
      → HaveRoles me.0.run roles
      → ((word : ℕ) → DecidesAlone policy roles (made word) (change word))
      → Allows (KeepsBoth policy) slots id me 0 (λ w. w)
      (decided roles change (step slots 0 0 0 none) me)
  decides roles made change has owes s r _ seat _ =
      let w : ℕ = get_or s.words 0 0 in
      let now =
      keeps_on policy s.words s.words me.0.run roles (made w) (change w) has
      (owes w s.words) (runs s.views) id r.run (run_at s.views seat) in
      let same : set s.words 0 w ≡ s.words = set-get_or s.words 0 0 in (
        record { lives = me.0.lives; run = now.0 },
        keeps,
        tt,
        subst
            (λ (ws : List ℕ).
            KeepsBoth policy
            (record {
              words = ws;
              homes = s.homes;
              views = set s.views id (record { lives = me.0.lives; run = now.0 });
            }))
            (sym same)
            (set_both policy s.words s.homes s.views id
            (record { lives = me.0.lives; run = now.0 })
            (subst
            (λ (vs : List lives.View).
            LifeRule (places_of_policy policy)
            (record { words = s.words; homes = s.homes; views = vs }))
            (sym (set_again (known s.views) id me.0.lives (lives_at s.views seat))) r.lives)
            now.1),
        (refl, refl, now.2, agreed s r seat),
      )
