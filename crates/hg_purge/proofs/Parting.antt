-- Each event that names what is of its worker's side alone leaves the sides apart.
use Rattle.std.proofs.Common.{◌≡◌, ℕ, inl, inr, Bool, false, set}
use Rattle.std.proofs.Common.{Option, Some, None, refl, sym, ap, subst, ◌∙◌}
use Rattle.std.proofs.lemmas.Bool.{eqb-true, true≢false, or_right}
use Rattle.std.proofs.lemmas.Option.{same_Some, none-some}
use Rattle.hg_place.specs.declared.Right.TheVariants as right
use Rattle.hg_place.specs.Places.{number_of, page_number, segment_of}
use Rattle.hg_machine.specs.declared.Event.{Event}
use Rattle.hg_machine.specs.declared.Event.TheVariants as event
use Rattle.hg_machine.specs.declared.Answer.{Answer}
use Rattle.hg_machine.specs.State.{State, fresh, orphan, held, hand_of}
use Rattle.hg_machine.specs.Holders.{holds, is_held_by}
use Rattle.hg_machine.specs.Refusal.{refusal}
use Rattle.hg_machine.specs.Request.{size_of}
use Rattle.hg_machine.specs.Served.{IsServed}
use Rattle.hg_machine.specs.Steps.{successor}
use Rattle.hg_machine.specs.Lists.{Kept}
use Rattle.hg_machine.proofs.Allowed.{allowed, no_denial}
use Rattle.hg_machine.proofs.Keeps.{set_cases}
use Rattle.hg_laws.proofs.MachineFacts.{segment_is, free_cases}
use Rattle.hg_purge.proofs.Agreeing.{after, IsFiled, IsSized, IsParted, IsApart, Names}
use Rattle.hg_purge.proofs.Facts.{next_in}
use Rattle.hg_purge.proofs.Filing.{given_filed, came_filed, taken_filed, delivered_filed}
use Rattle.hg_purge.proofs.Filing.{collected_filed}
use Rattle.hg_purge.proofs.Staying.{served_stays}

-- seen from a side that has nothing, each event names nothing of it
abbrev none_of : ℕ → Bool
none_of n = false

names_none : (s : State) (e : Event) → Names none_of none_of false s e
names_none s (event.Alloc actor arena bytes) = tt
names_none s (event.Free actor handle) = λ there. refl
names_none s event.Deliver = tt
names_none s (event.Take segment) = tt
names_none s event.Collect = tt
names_none s (event.Read actor handle index) = λ there. refl
names_none s (event.Write actor handle index value) = λ there. refl
names_none s (event.Look actor place) = λ there. refl
names_none s (event.Abandon segment) = tt
names_none s (event.Refill arena) = λ segment i. refl

-- so no event changes how many lists there are
sized_after : (k : Kept) (w : ℕ) (e : Event) (a : Answer) → IsFiled k.lists → IsSized k
    → refusal k.state w e ≡ None → IsServed k.state w e a → IsSized (after k w e a)
sized_after k w e a filed sized none is =
    let apart : IsApart none_of none_of k = record {
      parted = record { holding = λ v g h. refl; hands = λ v p h. refl };
      filed = filed;
      sized = sized;
    } in
    let stays = served_stays k apart w refl e a none is (names_none k.state e) in
    record {
      free = stays.lists.free.long ∙ sized.free ∙ sym stays.state.classes.long;
      local_free = stays.lists.local_free.long ∙ sized.local_free ∙ sym stays.state.classes.long;
      thread_free = stays.lists.thread_free.long ∙ sized.thread_free ∙ sym stays.state.classes.long;
    }

filed_after : (k : Kept) (w : ℕ) (e : Event) (a : Answer) → IsFiled k.lists
    → IsServed k.state w e a → IsFiled (after k w e a).lists
filed_after k w (event.Alloc actor arena bytes) a filed g =
    subst (λ x. IsFiled (after k w (event.Alloc actor arena bytes) x).lists) (sym g.1)
    (given_filed k.state k.lists (size_of bytes) (page_number g.0.place) filed)
filed_after k w (event.Free actor handle) a filed is =
    elim (free_cases (holds k.state w handle.place.segment) a is) as
    (λ _. IsFiled (after k w (event.Free actor handle) a).lists) [
      | inl done ↦
          subst (λ x. IsFiled (after k w (event.Free actor handle) x).lists) (sym done)
          (came_filed k.state k.lists (number_of handle.place) filed)
      | inr away ↦
          subst (λ x. IsFiled (after k w (event.Free actor handle) x).lists) (sym away) filed
    ]
filed_after k w event.Deliver a filed is =
    subst (λ x. IsFiled (after k w event.Deliver x).lists) (sym is)
    (delivered_filed k.lists (hand_of k.state w) filed)
filed_after k w (event.Take segment) a filed is =
    subst (λ x. IsFiled (after k w (event.Take segment) x).lists) (sym is)
    (taken_filed k.state k.lists segment filed)
filed_after k w event.Collect a filed is =
    subst (λ x. IsFiled (after k w event.Collect x).lists) (sym is)
    (collected_filed k.state k.lists w filed)
filed_after k w (event.Read actor handle index) a filed is =
    subst (λ x. IsFiled (after k w (event.Read actor handle index) x).lists) (sym is) filed
filed_after k w (event.Write actor handle index value) a filed is =
    subst (λ x. IsFiled (after k w (event.Write actor handle index value) x).lists) (sym is) filed
filed_after k w (event.Look actor place) a filed g =
    subst (λ x. IsFiled (after k w (event.Look actor place) x).lists) (sym g.1) filed
filed_after k w (event.Abandon segment) a filed is =
    subst (λ x. IsFiled (after k w (event.Abandon segment) x).lists) (sym is) filed
filed_after k w (event.Refill arena) a filed g =
    subst (λ x. IsFiled (after k w (event.Refill arena) x).lists) (sym g.1) filed

module _ (on own : ℕ → Bool) (s : State) (here : IsParted on own s) (w : ℕ) where
  -- a segment has no holder, or this one
  orphan_parted : (segment : ℕ)
      → IsParted on own (record s { holders = set s.holders segment orphan })
  orphan_parted segment = record {
    holding = λ v g h.
        elim (set_cases s.holders segment g orphan fresh) as (λ _. on g ≡ own v) [
          | inl there ↦ absurd (true≢false (sym h ∙ ap (is_held_by v) there.1))
          | inr other ↦ here.holding v g (sym (ap (is_held_by v) other) ∙ h)
        ];
    hands = here.hands;
  }

  held_parted : (segment : ℕ) → on segment ≡ own w
      → IsParted on own (record s { holders = set s.holders segment (held w) })
  held_parted segment mine = record {
    holding = λ v g h.
        elim (set_cases s.holders segment g (held w) fresh) as (λ _. on g ≡ own v) [
          | inl there ↦
              ap on there.0 ∙ mine
              ∙ ap own (eqb-true w v (sym (ap (is_held_by v) there.1) ∙ h))
          | inr other ↦ here.holding v g (sym (ap (is_held_by v) other) ∙ h)
        ];
    hands = here.hands;
  }

  -- a hand has nothing, or this
  hand_parted : (x : Option ℕ) → ((place : ℕ) → x ≡ Some place → on (segment_of place) ≡ own w)
      → IsParted on own (record s { hands = set s.hands w x })
  hand_parted x mine = record {
    holding = here.holding;
    hands = λ v place h.
        elim (set_cases s.hands w v x None) as (λ _. on (segment_of place) ≡ own v) [
          | inl there ↦ mine place (sym there.1 ∙ h) ∙ ap own (sym there.0)
          | inr other ↦ here.hands v place (sym other ∙ h)
        ];
  }

  abbrev Parts : Event → Answer → Type 0
  Parts e a = IsParted on own (successor s w e a)

  parted_after : (e : Event) (a : Answer) → refusal s w e ≡ None → IsServed s w e a
      → Names on own (own w) s e → Parts e a
  parted_after (event.Alloc actor arena bytes) a none g o =
      subst (Parts (event.Alloc actor arena bytes)) (sym g.1)
      (record { holding = here.holding; hands = here.hands })
  parted_after (event.Free actor handle) a none is o =
      elim (free_cases (holds s w handle.place.segment) a is) as
      (λ _. Parts (event.Free actor handle) a) [
        | inl done ↦
            subst (Parts (event.Free actor handle)) (sym done)
            (record { holding = here.holding; hands = here.hands })
        | inr away ↦
            let put = hand_parted (Some (number_of handle.place))
            (λ place e. ap (λ p. on (segment_of p)) (sym (same_Some _ _ e))
            ∙ ap on (segment_is handle.place)
            ∙ o (or_right (own w) _
            (allowed s actor.0 right.Free handle.place handle.generation
            (no_denial _ _ none).0).segment)) in
            subst (Parts (event.Free actor handle)) (sym away)
            (record { holding = here.holding; hands = put.hands })
      ]
  parted_after event.Deliver a none is o =
      let put = hand_parted None (λ place e. absurd (none-some place e)) in
      subst (Parts event.Deliver) (sym is) (record { holding = here.holding; hands = put.hands })
  parted_after (event.Take segment) a none is o =
      subst (Parts (event.Take segment)) (sym is)
      (record { holding = here.holding; hands = here.hands })
  parted_after event.Collect a none is o =
      subst (Parts event.Collect) (sym is) (record { holding = here.holding; hands = here.hands })
  parted_after (event.Read actor handle index) a none is o =
      subst (Parts (event.Read actor handle index)) (sym is) here
  parted_after (event.Write actor handle index value) a none is o =
      subst (Parts (event.Write actor handle index value)) (sym is)
      (record { holding = here.holding; hands = here.hands })
  parted_after (event.Look actor place) a none g o =
      subst (Parts (event.Look actor place)) (sym g.1) here
  parted_after (event.Abandon segment) a none is o =
      let left = orphan_parted segment in
      subst (Parts (event.Abandon segment)) (sym is)
      (record { holding = left.holding; hands = left.hands })
  parted_after (event.Refill arena) a none g o =
      let got = held_parted g.0 (o g.0 (next_in s arena g.0 g.2)) in
      subst (Parts (event.Refill arena)) (sym g.1)
      (record { holding = got.holding; hands = got.hands })

-- a served event leaves the sides apart
pub apart_after : (on own : ℕ → Bool) (k : Kept) (w : ℕ) (e : Event) (a : Answer)
    → IsApart on own k → refusal k.state w e ≡ None → IsServed k.state w e a
    → Names on own (own w) k.state e
    → IsApart on own (after k w e a)
apart_after on own k w e a apart none is o = record {
  parted = parted_after on own k.state apart.parted w e a none is o;
  filed = filed_after k w e a apart.filed is;
  sized = sized_after k w e a apart.filed apart.sized none is;
}
