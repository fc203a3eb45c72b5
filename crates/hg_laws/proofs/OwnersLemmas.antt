-- A block is its allocation's actor's.
use Rattle.std.proofs.Common.{◌≡◌, ℕ, ◌*◌, inl, inr, Bool, true, false, not, cond, if◌then◌else◌}
use Rattle.std.proofs.Common.{List, [], ◌∷◌, length, get_or, set, replicate, Some, None}
use Rattle.std.proofs.Common.{unwrap_or, refl, sym, ap, subst, ◌∙◌}
use Rattle.std.proofs.lemmas.Bool.{not-false, true≢false}
use Rattle.hg_size.specs.Sizes.{size_for}
use Rattle.hg_place.specs.Places.{number_of, segment_of}
use Rattle.hg_machine.specs.declared.Event.{Event}
use Rattle.hg_machine.specs.declared.Event.TheVariants as event
use Rattle.hg_machine.specs.declared.Answer.{Answer}
use Rattle.hg_machine.specs.declared.Rule.{Rule}
use Rattle.hg_machine.specs.declared.Rule.TheVariants as rule
use Rattle.hg_machine.specs.declared.AllocVerdict.{AllocVerdict}
use Rattle.hg_machine.specs.declared.AllocVerdict.TheVariants as alloc
use Rattle.hg_machine.specs.Policy.{Policy, is_tenant, arena_of, admits}
use Rattle.hg_machine.specs.Life.{Life, home, live, parted, Record, never_used, is_home}
use Rattle.hg_machine.specs.State.{State, record_at, opening}
use Rattle.hg_machine.specs.Holders.{holds}
use Rattle.hg_machine.specs.Changes.{part, write}
use Rattle.hg_machine.specs.Charge.{charge}
use Rattle.hg_machine.specs.Denial.{is_admitted}
use Rattle.hg_machine.specs.Request.{words_for, size_of, verdict_on_size}
use Rattle.hg_machine.specs.Refusal.{refusal, alloc_refusal}
use Rattle.hg_machine.specs.Served.{IsServed}
use Rattle.hg_machine.specs.Steps.{successor, Step, Run}
use Rattle.hg_machine.specs.Sweeps.{is_sent_to}
use Rattle.hg_machine.proofs.Cases.{step_cases}
use Rattle.hg_machine.proofs.Suits.{number_some}
use Rattle.hg_machine.proofs.Keeps.{set_cases}
use Rattle.hg_machine.proofs.Opening.{all_same}
use Rattle.hg_machine.proofs.Preserves.{steps_keep_policy}
use Rattle.hg_machine.proofs.Takes.{settled_at}
use Rattle.hg_laws.specs.Owners.{HasOwner, OwnersAreTenants}
use Rattle.hg_laws.proofs.MachineFacts.{free_cases, room_arena}

-- what passes an allocation's verdict
past_both : (b c : Bool) (r q : Rule) (v : AllocVerdict) (s : State) (w arena : ℕ) → alloc_refusal s w arena (unwrap_or (cond b (Some (alloc.Denied r)) (cond c (Some (alloc.Denied q)) None)) v) ≡ None → (b ≡ false) × (c ≡ false)
past_both true c r q v s w arena e = absurd (cc)
past_both false true r q v s w arena e = absurd (cc)
past_both false false r q v s w arena e = (refl, refl)

home_owned : (p : Policy) (segment : ℕ) (l : Life) → is_home l ≡ true → HasOwner p segment l
home_owned p segment l e = record { tenant = λ used. absurd (true≢false (sym e ∙ used)); admitted = λ used. absurd (true≢false (sym e ∙ used)) }

part_owned : (p : Policy) (segment : ℕ) (l : Life) → HasOwner p segment l → HasOwner p segment (part l)
part_owned p segment home h = h
part_owned p segment (live owner words) h = record { tenant = h.tenant; admitted = h.admitted }
part_owned p segment (parted owner words) h = h

write_owned : (p : Policy) (segment index value : ℕ) (l : Life) → HasOwner p segment l → HasOwner p segment (write l index value)
write_owned p segment index value home h = h
write_owned p segment index value (live owner words) h = record { tenant = h.tenant; admitted = h.admitted }
write_owned p segment index value (parted owner words) h = h

settled_owned : (p : Policy) (segment : ℕ) (b : Bool) (r : Record) → HasOwner p segment r.life → HasOwner p segment (if b then record { generation = r.generation; life = home } else r).life
settled_owned p segment true r h = home_owned p segment home refl
settled_owned p segment false r h = h

abbrev Owned : Policy → ℕ → State → Type 0
Owned p place s = HasOwner p (segment_of place) (record_at s place).life

owned_set : (p : Policy) (rs : List Record) (at place : ℕ) (r : Record) → HasOwner p (segment_of place) (get_or rs place never_used).life → (place ≡ at → HasOwner p (segment_of place) r.life)
    → HasOwner p (segment_of place) (get_or (set rs at r) place never_used).life
owned_set p rs at place r was now = elim (set_cases rs at place r never_used) as (λ _. HasOwner p (segment_of place) (get_or (set rs at r) place never_used).life) [
  | inl here ↦ subst (λ x. HasOwner p (segment_of place) x.life) (sym here.1) (now here.0)
  | inr other ↦ subst (λ x. HasOwner p (segment_of place) x.life) (sym other) was
]

served_owned : (s : State) (w : ℕ) (e : Event) (a : Answer) (place : ℕ) → refusal s w e ≡ None → IsServed s w e a → Owned s.policy place s → Owned s.policy place (successor s w e a)
served_owned s w (event.Alloc actor arena bytes) a place none k was =
    let p = number_of k.0.place in
    let verdict = past_both (not (is_tenant s.policy actor.0)) (not (admits s.policy arena actor.0)) rule.Stranger rule.ForeignArena (verdict_on_size s.policy actor.0 (charge s w actor.0) (size_for (words_for bytes))) s w arena none in
    let lies : arena_of s.policy (segment_of p) ≡ Some arena = number_some arena _ (room_arena s w arena (size_of bytes) p k.2.room) in
    let admitted : is_admitted s.policy (arena_of s.policy (segment_of p)) actor.0 ≡ true = ap (λ o. is_admitted s.policy o actor.0) lies ∙ not-false _ verdict.1 in
    subst (λ z. Owned s.policy place (successor s w (event.Alloc actor arena bytes) z)) (sym k.1)
    (owned_set s.policy s.records p place (record { generation = k.0.generation; life = live actor.0 (replicate (size_of bytes) 0) }) was
    (λ e. subst (λ n. HasOwner s.policy (segment_of n) (live actor.0 (replicate (size_of bytes) 0))) (sym e) (record { tenant = λ used. not-false _ verdict.0; admitted = λ used. admitted })))
served_owned s w (event.Free actor handle) a place none is was =
    let p = number_of handle.place in
    elim (free_cases (holds s w handle.place.segment) a is) as (λ _. Owned s.policy place (successor s w (event.Free actor handle) a)) [
      | inl done ↦ subst (λ z. Owned s.policy place (successor s w (event.Free actor handle) z)) (sym done) (owned_set s.policy s.records p place _ was (λ e. home_owned s.policy (segment_of place) home refl))
      | inr away ↦ subst (λ z. Owned s.policy place (successor s w (event.Free actor handle) z)) (sym away)
          (owned_set s.policy s.records p place _ was (λ e. part_owned s.policy (segment_of place) (record_at s p).life (subst (λ n. HasOwner s.policy (segment_of place) (record_at s n).life) e was)))
    ]
served_owned s w event.Deliver a place none is was = subst (λ z. Owned s.policy place (successor s w event.Deliver z)) (sym is) was
served_owned s w (event.Take segment) a place none is was =
    subst (λ z. Owned s.policy place (successor s w (event.Take segment) z)) (sym is)
    (subst (λ r. HasOwner s.policy (segment_of place) r.life) (sym (settled_at s segment place)) (settled_owned s.policy (segment_of place) (is_sent_to s segment place) (record_at s place) was))
served_owned s w event.Collect a place none is was = subst (λ z. Owned s.policy place (successor s w event.Collect z)) (sym is) was
served_owned s w (event.Read actor handle index) a place none is was = subst (λ z. Owned s.policy place (successor s w (event.Read actor handle index) z)) (sym is) was
served_owned s w (event.Write actor handle index value) a place none is was =
    let p = number_of handle.place in
    subst (λ z. Owned s.policy place (successor s w (event.Write actor handle index value) z)) (sym is)
    (owned_set s.policy s.records p place _ was (λ e. write_owned s.policy (segment_of place) index value (record_at s p).life (subst (λ n. HasOwner s.policy (segment_of place) (record_at s n).life) e was)))
served_owned s w (event.Look actor at) a place none k was = subst (λ z. Owned s.policy place (successor s w (event.Look actor at) z)) (sym k.1) was
served_owned s w (event.Abandon segment) a place none is was = subst (λ z. Owned s.policy place (successor s w (event.Abandon segment) z)) (sym is) was
served_owned s w (event.Refill arena) a place none k was = subst (λ z. Owned s.policy place (successor s w (event.Refill arena) z)) (sym k.1) was

step_owned : (s : State) (w : ℕ) (e : Event) (a : Answer) (new : State) (place : ℕ) → Step s w e a new → Owned s.policy place s → Owned s.policy place new
step_owned s w e a new place h was = elim (step_cases s w e a new h) as (λ _. Owned s.policy place new) [
  | inl is ↦ subst (Owned s.policy place) (sym is.after) (served_owned s w e a place is.none is.serves was)
  | inr is ↦ subst (Owned s.policy place) (sym is.same) was
]

run_owned : (s : State) (events : List (ℕ × Event)) (answers : List Answer) (new : State) (place : ℕ) → Run s events answers new → Owned s.policy place s → Owned s.policy place new
run_owned s [] [] new place run was = subst (Owned s.policy place) (sym run) was
run_owned s [] (a ∷ rest) new place run was = absurd run
run_owned s (e ∷ es) [] new place run was = absurd run
run_owned s (e ∷ es) (a ∷ rest) new place run was =
    let kept = steps_keep_policy s e.0 e.1 a run.0 run.1 in
    subst (λ p. Owned p place new) kept (run_owned run.0 es rest new place run.2 (subst (λ p. Owned p place run.0) (sym kept) (step_owned s e.0 e.1 a run.0 place run.1 was)))

pub owners_are_tenants : OwnersAreTenants
owners_are_tenants policy events answers new place run =
    run_owned (opening policy) events answers new place run
    (home_owned policy (segment_of place) (record_at (opening policy) place).life (ap (λ r. is_home r.life) (all_same (length policy.segments * 8192) place never_used)))
