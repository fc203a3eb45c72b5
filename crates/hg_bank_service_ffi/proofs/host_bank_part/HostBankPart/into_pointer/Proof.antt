-- into_pointer.
use Rattle.std.proofs.Common.{◌≡◌, List, [], ◌∷◌, ◌++◌, refl, ap, ◌∙◌}
use mir.Syntax.{Fn}
use mir.Raw.{raw as bare}
use mir.Val.{Val, vptr}
use base.Logic.{SProp, ent, sep, ex, emp, never, never_e, id⊢, fst∗}
use seplogic.Ra.Ura.{Ura}
use prog.Wp.{WpFn}
use contract.Monad.{fact, fact_i}
use contract.Running.{tables}
use types.Logic.{Logic, sem}
use types.Kit.{‵, raw, ◌⊛◌, some, join, pick, show, done, prop, ◌$◌, ◌∵◌, !, qed, by, move, keep, drop, use0, use1, split, regoal, rewrite, fsplit, fjoin}
use types.Part.{whole, sub, agg}
use types.Run.{stop, fld, of_opd, no_more, and_then, returns, enter}
use types.ByLocal.{alloc_all, pass_all, free_all, look_at, get, get_in, sets}
use denote.RattleType.{RattleType, owns}
use denote.RawPtr.{Ptr, block_ptr, null_ptr, in_a_block}
use denote.Signature.{types_at}
use denote.Steps.{nothing, heard}
use denote.Memory.{lone}
use denote.Triple.Entry.{alive}
use denote.Triple.Walked.{Stays, stay_dropped, walk_of, Goes-dropped}
use Rattle.core.proofs.alloc.Calls.{Goes-blank, handle_tells}
use Rattle.std_alloc.specs.Box.Ownership.{box_owns}
use Rattle.std.proofs.raw_atomic.Walks.{proved_at, leaves}
use Rattle.std.specs.contracts.alloc.Global as heap
use Rattle.std.proofs.alloc.Global.TheLaws as heap_laws
use Rattle.std.specs.contracts.impls.GlobalAllocator.TheImpl.{ghosts}
use Rattle.hg_bank_service_replies.specs.contracts.part.BankPart as part
use Rattle.std.specs.Prelude.{Option, None, Some}
use Rattle.hg_ffi.specs.Owning.{may_free, owns_some}
use Rattle.hg_bank_service_ffi.specs.Owning.{bank_part_mark, owns_if_bank_part}
use Rattle.hg_ffi.proofs.Values.{both, al, pointer_good, pointer_in}
use Rattle.hg_ffi.proofs.Handles.{handle_val, handle_told, slot_at}
use Rattle.hg_bank_service_ffi.specs.contracts.host_bank_part.HostBankPart.into_pointer.{ended, clauses}
use Rattle.hg_bank_service_ffi.specs.contracts.host_bank_part.HostBankPart.into_pointer.Key.{name as #self}
use Rattle.hg_bank_service_ffi.proofs.host_bank_part.HostBankPart.into_pointer.Statement.{statement}
use Rattle.hg_bank_service_ffi.proofs.host_bank_part.HostBankPart.into_pointer.Code as code

module _ {M : Type 1} {𝓤 : Ura M} (𝓛 : Logic 𝓤) (R : RattleType) (p : Ptr) where
  -- where a value is owned there is one
  found : (value : Option R.Denot) → ent 𝓤 (sem 𝓛 (owns_some R p value)) (ex 𝓤 (λ (v : R.Denot). sep 𝓤 (fact 𝓤 (value ≡ Some v)) (sem 𝓛 (box_owns may_free R p v))))
  found None = never_e 𝓤 _
  found (Some v) = qed 𝓛 (‵ (box_owns may_free R p v) ∷ []) ∵ use0 𝓛 (raw (fact 𝓤 (Some v ≡ Some v))) (fact_i 𝓤 (Some v ≡ Some v) (emp 𝓤) refl) $
      show ! (λ (w : R.Denot). sep 𝓤 (fact 𝓤 (Some v ≡ Some w)) (sem 𝓛 (box_owns may_free R p w))) v $ join ! $ done !

pub into_pointer_spec : {M : Type 1} → statement M
into_pointer_spec 𝓤 𝓛 𝓜 𝓡 wired =
    let H = 𝓛.H in let 𝓣 = tables 𝓤 H 𝓜 𝓡 𝓡.env in let R : RattleType = part.the_row in let Z : RattleType = heap.the_row in let LZ = heap_laws.the_row_laws in
    let En = ended in let c = clauses 𝓛 𝓜.mem 𝓡.returns in let fn : Fn = code.function in
    let hs : Stays En.signature.params En.kept = (stay_dropped (slot_at 0 En.signature.params) En.kept.0, (stay_dropped (slot_at 1 En.signature.params) En.kept.1.0, tt)) in
    proved_at 𝓛 En hs c 𝓜 𝓡 (Goes-blank 𝓛 0 (slot_at 0 En.signature.params) En.kept.0 (λ κs x f. tt), (Goes-dropped 𝓛 0 (slot_at 1 En.signature.params) En.kept.1.0 (λ κs x f. refl), tt)) #self fn (code.unfolded 𝓤 H 𝓜 𝓡 wired) (λ z are.
    let Post : Val → SProp 𝓤 = (walk_of 𝓛 En hs c).post z in
    let vss = z.0.4 in let x = z.0.3.0 in let a = z.0.3.1.0 in let n = x.mark in let Asked : Type 0 = n ≡ bank_part_mark in
    let told = handle_told x.at n vss.0 are.0.0 in let fits = told.1 in
    qed 𝓛 ((raw (alive 𝓛 En.signature z.0.0 z.0.1) ⊛ ‵ (owns (types_at En.signature.params z.0.0) z.0.3 vss)) ∷ raw (fact 𝓤 Asked) ∷ []) ∵ move ! (1 ∷ []) $ heard ! Asked (λ is_open. split ! $ move ! (1 ∷ []) $
    fsplit ! $ fsplit ! $ drop ! $ rewrite ! 0 (λ (m : Prim.Native.Nat.ℕ). ‵ (owns_if_bank_part R m x.at x.part)) is_open refl $ use1 𝓛 (‵ (owns_some R x.at x.part)) (id⊢ 𝓤 _) $
    use1 𝓛 (some (λ (v : R.Denot). raw (fact 𝓤 (x.part ≡ Some v)) ⊛ ‵ (box_owns may_free R x.at v))) (found 𝓛 R x.at x.part) $ pick ! (λ v. split ! $ heard ! (x.part ≡ Some v) (λ is_some.
    in_a_block ! x.at (λ p. box_owns may_free R p v) (fst∗ 𝓤 (never 𝓤) (sem 𝓛 (may_free (bare (lone R.mir)) null_ptr))) (λ b o e. move ! (1 ∷ []) $ fsplit ! $
    handle_tells (al R Z LZ ghosts) ! a vss.1.0 (λ h ea good. let typed = pointer_good R Z LZ ghosts b o h good in
    -- [the allocator; nothing; the part with the right to free it; the tokens]
    regoal ! (λ (us : List Val). prop (WpFn 𝓤 H 𝓣.C 𝓣.Λ fn us Post)) (λ i. (told.0 ∙ ap (λ (p : Ptr). handle_val p n ∷ []) e) i ++ (ea i ++ [])) refl $
    enter ! 𝓣.C 𝓣.Λ fn (handle_val (block_ptr b o) n ∷ h ∷ []) Post $
    alloc_all ! (λ l. pass_all ! refl ((tt, (tt, (record { fits = fits }, tt))), (good, tt)) $
    sets ! (of_opd ! (get_in ! (fld ! refl (stop !)) (sub ! 0 refl (whole !)))) refl (tt, tt) $
    sets ! (of_opd ! (get ! refl)) refl (tt, tt) $
    sets ! (agg ! (and_then ! (get ! refl) (and_then ! (get ! refl) (no_more !)))) refl typed $
    returns ! (look_at ! 0 refl) $ free_all ! refl $ keep ! (2 ∷ 0 ∷ 3 ∷ []) $ pointer_in R Z LZ ghosts ! b o h a v $
    use0 𝓛 (raw (fact 𝓤 (x.part ≡ Some v))) (fact_i 𝓤 (x.part ≡ Some v) (emp 𝓤) is_some) $ nothing ! $ nothing ! $ fjoin ! $ nothing ! $ fjoin ! $ move ! (3 ∷ 0 ∷ 2 ∷ 1 ∷ []) $
    by ! (leaves 𝓛 En hs c z (both (vptr b o) h) (record { at = block_ptr b o; alloc = a; value = v }) (tt, (tt, tt)) (tt, (tt, tt))))))))))
