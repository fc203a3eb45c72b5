-- Two states that agree with one role agree with the same roles of its name.
use Rattle.std.proofs.Common.{◌≡◌, ℕ, ◌==◌, true, List, None, refl, sym, ap, subst, ◌∙◌}
use Rattle.std.proofs.Common.{arith}
use Rattle.std.specs.List.{count_by}
use Rattle.std.proofs.lemmas.Bool.{true≢false}
use Rattle.hg_place.specs.Words.{bit_of}
use Rattle.hg_place.specs.Places.{segment_of, segment_of_page}
use Rattle.hg_machine.specs.Policy.{Policy}
use Rattle.hg_machine.specs.State.{State, Holder, fresh, orphan, held, holder_at, hand_of}
use Rattle.hg_machine.specs.Holders.{holds, is_fresh, is_orphan}
use Rattle.hg_machine.specs.Soundness.{IsSound}
use Rattle.hg_frame.specs.Pool.{is_pooled}
use Rattle.hg_agreement.specs.Views.{View}
use Rattle.hg_agreement.specs.Agreement.{Agrees}
use Rattle.hg_roles.specs.Roles.{Pooled, Role, of_worker, of_remote, of_pool, of_segment}
use Rattle.hg_roles.specs.Roles.{PoolAgrees, RemoteAgrees, RoleAgrees, name_of}
use Rattle.hg_run_table.specs.declared.part.PartName.{PartName}
use Rattle.hg_run_table.specs.declared.part.PartName.TheVariants.{Worker, Remote, Pool, Segment}
use Rattle.hg_run_table.specs.Seated.{name_in, number_of_name}

-- the number of a name is that of the role
pub number_is : (policy : Policy) (role : Role)
    → number_of_name policy (name_in role) ≡ name_of policy role
number_is policy (of_worker view log) = refl
number_is policy (of_remote segment sent) = refl
number_is policy (of_pool pooled) = refl
number_is policy (of_segment segment) = refl

-- of two states, what the second has of a worker is what the first has
module _ (t m : State) where
  workers_alike : (one other : View) → one.worker ≡ other.worker → Agrees t one None
      → Agrees m one None → Agrees t other None → Agrees m other None
  workers_alike one other e a b c =
      let same : (g : ℕ) → one.holds g ≡ other.holds g =
      λ g. sym (a.holding g) ∙ ap (λ n. holds t n g) e ∙ c.holding g in record {
        sound = b.sound;
        policy = b.policy ∙ sym a.policy ∙ c.policy;
        holding = λ g.
            ap (λ n. holds m n g) (sym e) ∙ b.holding g ∙ sym (a.holding g)
            ∙ ap (λ n. holds t n g) e ∙ c.holding g;
        classes = λ page is.
            let h = same (segment_of_page page) ∙ is in
            b.classes page h ∙ sym (a.classes page h) ∙ c.classes page is;
        standings = λ place is.
            let h = same (segment_of place) ∙ is in
            b.standings place h ∙ sym (a.standings place h) ∙ c.standings place is;
        blocks = λ place is.
            let h = same (segment_of place) ∙ is in
            b.blocks place h ∙ sym (a.blocks place h) ∙ c.blocks place is;
        hand =
            ap (hand_of m) (sym e) ∙ b.hand ∙ sym a.hand ∙ ap (hand_of t) e ∙ c.hand;
        word = tt;
      }

  remotes_alike : (segment other : ℕ) (sent more : List ℕ) → segment ≡ other
      → RemoteAgrees t segment sent → RemoteAgrees m segment sent → RemoteAgrees t other more
      → RemoteAgrees m other more
  remotes_alike segment other sent more e a b c place =
      let b' = subst (λ g. RemoteAgrees m g sent) e b in
      let a' = subst (λ g. RemoteAgrees t g sent) e a in
      c place ∙ sym (a' place) ∙ b' place

  both_pooled : (h k : Holder) → is_fresh h ≡ is_fresh k
      → bit_of (is_orphan h) ≡ bit_of (is_orphan k) → is_pooled h ≡ is_pooled k
  both_pooled fresh fresh a b = refl
  both_pooled fresh orphan a b = absurd (true≢false a)
  both_pooled fresh (held w) a b = absurd (true≢false a)
  both_pooled orphan fresh a b = absurd (true≢false (sym a))
  both_pooled orphan orphan a b = refl
  both_pooled orphan (held w) a b = absurd (omega arith)
  both_pooled (held w) fresh a b = absurd (true≢false (sym a))
  both_pooled (held w) orphan a b = absurd (omega arith)
  both_pooled (held w) (held v) a b = refl

  module _ (sound : IsSound t) (sound' : IsSound m) (one other : Pooled) (a : PoolAgrees t one)
      (b : PoolAgrees m one) (c : PoolAgrees t other) where
    pooled_same : (g : ℕ) → is_pooled (holder_at m g) ≡ true → is_pooled (holder_at t g) ≡ true
    pooled_same g is =
        both_pooled (holder_at t g) (holder_at m g) (a.fresh g ∙ sym (b.fresh g))
        (sym (sound.orphans g)
        ∙ ap (λ (xs : List ℕ). count_by (λ k. k == g) xs) (a.orphans ∙ sym b.orphans)
        ∙ sound'.orphans g)
        ∙ is

    pools_alike : PoolAgrees m other
    pools_alike = record {
      orphans = b.orphans ∙ sym a.orphans ∙ c.orphans;
      fresh = λ g. b.fresh g ∙ sym (a.fresh g) ∙ c.fresh g;
      classes = λ page is.
          let h = pooled_same (segment_of_page page) is in
          b.classes page is ∙ sym (a.classes page h) ∙ c.classes page h;
      standings = λ place is.
          let h = pooled_same (segment_of place) is in
          b.standings place is ∙ sym (a.standings place h) ∙ c.standings place h;
      blocks = λ place is.
          let h = pooled_same (segment_of place) is in
          b.blocks place is ∙ sym (a.blocks place h) ∙ c.blocks place h;
    }

  -- names in numbers, one for each kind
  abbrev kind : PartName → ℕ
  kind (Worker n) = 0
  kind (Remote n) = 1
  kind Pool = 2
  kind (Segment n) = 3

  abbrev whose : PartName → ℕ
  whose (Worker n) = n
  whose (Remote n) = n
  whose Pool = 0
  whose (Segment n) = n

  differ : {A : Type 0} (a b : PartName) → a ≡ b → (kind a ≡ kind b → ⊥) → A
  differ a b e not = absurd (not (ap kind e))

  pub alike : (one other : Role) → name_in one ≡ name_in other → IsSound t → IsSound m
      → RoleAgrees one t → RoleAgrees one m → RoleAgrees other t → RoleAgrees other m
  alike (of_worker v l) (of_worker w k) e s s' a b c = workers_alike v w (ap whose e) a b c
  alike (of_remote g sent) (of_remote h more) e s s' a b c =
      remotes_alike g h sent more (ap whose e) a b c
  alike (of_pool p) (of_pool q) e s s' a b c = pools_alike s s' p q a b c
  alike (of_segment g) (of_segment h) e s s' a b c = tt
  alike (of_worker v l) (of_remote h more) e s s' a b c = differ _ _ e (λ k. omega arith)
  alike (of_worker v l) (of_pool q) e s s' a b c = differ _ _ e (λ k. omega arith)
  alike (of_worker v l) (of_segment h) e s s' a b c = tt
  alike (of_remote g sent) (of_worker w k) e s s' a b c = differ _ _ e (λ k. omega arith)
  alike (of_remote g sent) (of_pool q) e s s' a b c = differ _ _ e (λ k. omega arith)
  alike (of_remote g sent) (of_segment h) e s s' a b c = tt
  alike (of_pool p) (of_worker w k) e s s' a b c = differ _ _ e (λ k. omega arith)
  alike (of_pool p) (of_remote h more) e s s' a b c = differ _ _ e (λ k. omega arith)
  alike (of_pool p) (of_segment h) e s s' a b c = tt
  alike (of_segment g) (of_worker w k) e s s' a b c = differ _ _ e (λ k. omega arith)
  alike (of_segment g) (of_remote h more) e s s' a b c = differ _ _ e (λ k. omega arith)
  alike (of_segment g) (of_pool q) e s s' a b c = differ _ _ e (λ k. omega arith)
