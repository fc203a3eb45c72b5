-- What an event changes in a state with hidden words.
use Rattle.std.proofs.Common.{◌≡◌, ℕ, ◌<◌, Bool, true, false, if◌then◌else◌, inl, inr, length}
use Rattle.std.proofs.Common.{get_or, set, map, replicate, Some, refl, sym, ap, subst, ◌∙◌, arith}
use Rattle.std.proofs.Math.Path.{fun_ext}
use Rattle.std.specs.List.{range_with_len}
use Rattle.std.proofs.lemmas.Bool.{cases_eq}
use Rattle.std.proofs.lemmas.Grind.{get_or-set_at}
use Rattle.std.proofs.lemmas.List.{same_lists, length-set, get_or-set_other}
use Rattle.std.proofs.lemmas.List.FromFn.{length-map-range_with_len, get_or-map-range_with_len}
use Rattle.hg_place.specs.declared.Handle.{Handle}
use Rattle.hg_place.specs.Places.{number_of, segment_of}
use Rattle.hg_machine.specs.declared.Event.{Event}
use Rattle.hg_machine.specs.declared.Event.TheVariants as event
use Rattle.hg_machine.specs.declared.Answer.{Answer}
use Rattle.hg_machine.specs.declared.Answer.TheVariants as answer
use Rattle.hg_machine.specs.Life.{Life, home, live, Record, never_used}
use Rattle.hg_machine.specs.State.{State, record_at, with_record, places_in, pages_in}
use Rattle.hg_machine.specs.Holders.{holds}
use Rattle.hg_machine.specs.Request.{size_of}
use Rattle.hg_machine.specs.Changes.{given_out, part, write, with_life, with_hand}
use Rattle.hg_machine.specs.Sweeps.{is_sent_to, settled, cleared}
use Rattle.hg_machine.specs.Served.{IsServed}
use Rattle.hg_machine.specs.Steps.{successor}
use Rattle.hg_machine.proofs.Takes.{settled_at}
use Rattle.hg_choice.specs.Masks.{masked_life, masked_record, masked, is_hidden}
use Rattle.hg_choice.proofs.MaskedLives.{zeros_stay, life_part, life_write}
use Rattle.hg_choice.proofs.MaskedFacts.{mask, at_place, same_generation, same_places, same_sent_to}
use Rattle.hg_choice.proofs.MaskedFacts.{same_cleared}
use Rattle.hg_choice.proofs.MaskedServes.{masked_value, masked_event, masked_answer}

module _ (hides : ℕ → ℕ → Bool) where
  -- the records with another at a place, masked
  put_masked : (s : State) (p : ℕ) (r : Record)
      → map (masked_record hides (with_record s p r)) (places_in (with_record s p r))
      ≡ set (map (masked_record hides s) (places_in s)) p (mask hides p r)
  put_masked s p r =
      let n = length s.records in
      let long = length-map-range_with_len (masked_record hides (with_record s p r)) 0
      (length (set s.records p r)) in
      let short = length-map-range_with_len (masked_record hides s) 0 n in
      let as_long = length-set s.records p r in
      let put = length-set (map (masked_record hides s) (places_in s)) p (mask hides p r) in
      same_lists _ _ (long ∙ as_long ∙ sym (put ∙ short)) λ k d below.
      let inside : k < n = omega arith in
      let at : get_or (map (masked_record hides (with_record s p r))
      (places_in (with_record s p r))) k d
      ≡ mask hides k (get_or (set s.records p r) k never_used) =
      get_or-map-range_with_len (masked_record hides (with_record s p r)) 0
      (length (set s.records p r)) k k d (omega arith) (omega arith)
      in
      elim (cases_eq k p) as (λ _. get_or (map (masked_record hides (with_record s p r))
      (places_in (with_record s p r))) k d
      ≡ get_or (set (map (masked_record hides s) (places_in s)) p (mask hides p r)) k d) [
        | inl here ↦
            at
            ∙ ap (mask hides k) (get_or-set_at s.records p k r never_used here (omega arith))
            ∙ ap (λ q. mask hides q r) here
            ∙ sym (get_or-set_at (map (masked_record hides s) (places_in s)) p k (mask hides p r) d
            here (omega arith))
        | inr away ↦
            at
            ∙ ap (mask hides k) (get_or-set_other s.records p k r never_used away)
            ∙ sym (get_or-map-range_with_len (masked_record hides s) 0 n k k d inside (omega arith))
            ∙ sym (get_or-set_other (map (masked_record hides s) (places_in s)) p k (mask hides p r)
            d away)
      ]

  -- the state with another life at a place, masked
  life_put : (s : State) (p : ℕ) (l other : Life) → masked_life hides (segment_of p) l ≡ other
      → (masked hides (with_life s p l)).records ≡ (with_life (masked hides s) p other).records
  life_put s p l other same =
      put_masked s p (record { generation = (record_at s p).generation; life = l })
      ∙ ap (λ o. set (masked hides s).records p
      (record { generation = (record_at s p).generation; life = o })) same
      ∙ ap (λ g. set (masked hides s).records p (record { generation = g; life = other }))
      (sym (same_generation hides s p))

  given_masked : (s : State) (actor : ℕ) (handle : Handle) (size : ℕ)
      → given_out (masked hides s) actor handle size ≡ masked hides (given_out s actor handle size)
  given_masked s actor handle size =
      let p = number_of handle.place in
      ap (λ rs. record (given_out s actor handle size) { records = rs })
      (
      sym (
      put_masked s p (record {
        generation = handle.generation;
        life = live actor (replicate size 0);
      })
      ∙ ap (λ ws. set (masked hides s).records p
      (record { generation = handle.generation; life = live actor ws }))
      (zeros_stay (hides (segment_of p) actor) size)
      )
      )

  home_masked : (s : State) (p : ℕ)
      → with_life (masked hides s) p home ≡ masked hides (with_life s p home)
  home_masked s p = ap (λ rs. record s { records = rs }) (sym (life_put s p home home refl))

  parted_masked : (s : State) (w p : ℕ)
      → with_hand (with_life (masked hides s) p (part (record_at (masked hides s) p).life)) w
      (Some p) ≡ masked hides (with_hand (with_life s p (part (record_at s p).life)) w (Some p))
  parted_masked s w p =
      let l = (record_at s p).life in
      let same : masked_life hides (segment_of p) (part l)
      ≡ part (record_at (masked hides s) p).life =
      life_part hides (segment_of p) l ∙ ap (λ r. part r.life) (sym (at_place hides s p))
      in
      ap (λ rs. record (with_hand s w (Some p)) { records = rs })
      (sym (life_put s p (part l) (part (record_at (masked hides s) p).life) same))

  written_masked : (s : State) (p i value : ℕ)
      → with_life (masked hides s) p (write (record_at (masked hides s) p).life i
      (masked_value (is_hidden hides s p) value))
      ≡ masked hides (with_life s p (write (record_at s p).life i value))
  written_masked s p i value =
      let l = (record_at s p).life in
      let instead = masked_value (is_hidden hides s p) value in
      let same : masked_life hides (segment_of p) (write l i value)
      ≡ write (record_at (masked hides s) p).life i instead =
      life_write hides (segment_of p) l i value
      ∙ ap (λ r. write r.life i instead) (sym (at_place hides s p))
      in
      ap (λ rs. record s { records = rs }) (sym
      (life_put s p (write l i value) (write (record_at (masked hides s) p).life i instead)
      same))

  settle : (b : Bool) (p : ℕ) (r : Record)
      → (if b then record { generation = r.generation; life = home } else mask hides p r)
      ≡ mask hides p (if b then record { generation = r.generation; life = home } else r)
  settle true p r = refl
  settle false p r = refl

  taken_masked : (s : State) (segment : ℕ)
      → record (masked hides s) {
        records = map (settled (masked hides s) segment)
            (places_in (masked hides s));
      }
      ≡ masked hides (record s { records = map (settled s segment) (places_in s) })
  taken_masked s segment =
      let m = masked hides s in
      let t : State = record s { records = map (settled s segment) (places_in s) } in
      let each : (p : ℕ) → settled m segment p ≡ masked_record hides t p = λ p.
      ap (λ f. if f p then record { generation = (record_at m p).generation; life = home } else
      record_at m p) (same_sent_to hides s segment)
      ∙ ap (λ r. if is_sent_to s segment p then record { generation = r.generation; life = home }
      else r) (at_place hides s p)
      ∙ settle (is_sent_to s segment p) p (record_at s p)
      ∙ sym (ap (mask hides p) (settled_at s segment p))
      in
      let long : places_in m ≡ places_in t = same_places hides s
      ∙ sym (ap (range_with_len 0) (length-map-range_with_len (settled s segment) 0
      (length s.records))) in
      ap (λ f. record s { records = map f (places_in m) }) (fun_ext each)
      ∙ ap (λ ps. record s { records = map (masked_record hides t) ps }) long

  cleared_masked : (s : State) (w : ℕ)
      → record (masked hides s) { classes = map (cleared (masked hides s) w) (pages_in s) }
      ≡ masked hides (record s { classes = map (cleared s w) (pages_in s) })
  cleared_masked s w =
      ap (λ f. record (masked hides s) { classes = map f (pages_in s) }) (same_cleared hides s w)

  -- a served event leaves the masked state that it leaves
  abbrev IsMasked : State → ℕ → Event → Answer → Type 0
  IsMasked s w e a =
      successor (masked hides s) w (masked_event (is_hidden hides s) e)
      (masked_answer (is_hidden hides s) e a) ≡ masked hides (successor s w e a)

  either : (s : State) (w : ℕ) (e : Event) (b : Bool) (a : Answer)
      → a ≡ (if b then answer.Done else answer.Parted) → IsMasked s w e answer.Done
      → IsMasked s w e answer.Parted → IsMasked s w e a
  either s w e true a is done away = subst (IsMasked s w e) (sym is) done
  either s w e false a is done away = subst (IsMasked s w e) (sym is) away

  pub same_successor : (s : State) (w : ℕ) (e : Event) (a : Answer) → IsServed s w e a
      → IsMasked s w e a
  same_successor s w (event.Alloc actor arena bytes) a g =
      subst (IsMasked s w (event.Alloc actor arena bytes)) (sym g.1)
      (given_masked s actor.0 g.0 (size_of bytes))
  same_successor s w (event.Free actor handle) a is =
      either s w (event.Free actor handle) (holds s w handle.place.segment) a is
      (home_masked s (number_of handle.place)) (parted_masked s w (number_of handle.place))
  same_successor s w event.Deliver a is = subst (IsMasked s w event.Deliver) (sym is) refl
  same_successor s w (event.Take segment) a is =
      subst (IsMasked s w (event.Take segment)) (sym is) (taken_masked s segment)
  same_successor s w event.Collect a is =
      subst (IsMasked s w event.Collect) (sym is) (cleared_masked s w)
  same_successor s w (event.Read actor handle index) a is =
      subst (IsMasked s w (event.Read actor handle index)) (sym is) refl
  same_successor s w (event.Write actor handle index value) a is =
      subst (IsMasked s w (event.Write actor handle index value)) (sym is)
      (written_masked s (number_of handle.place) index value)
  same_successor s w (event.Look actor place) a g =
      subst (IsMasked s w (event.Look actor place)) (sym g.1) refl
  same_successor s w (event.Abandon segment) a is =
      subst (IsMasked s w (event.Abandon segment)) (sym is) refl
  same_successor s w (event.Refill arena) a g =
      subst (IsMasked s w (event.Refill arena)) (sym g.1) refl
