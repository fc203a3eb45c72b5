-- of_pointer.
use Rattle.std.proofs.Common.{◌≡◌, List, [], ◌∷◌, ◌++◌, refl, sym, subst, lit<}
use mir.Syntax.{Fn}
use mir.Val.{Val, vptr}
use base.Logic.{SProp, ent, emp, id⊢}
use base.Fml.{ftrue}
use prog.Wp.{WpFn}
use contract.Monad.{fact, fact_i}
use contract.Running.{tables}
use types.Kit.{‵, raw, ◌⊛◌, ◌$◌, ◌∵◌, !, qed, by, move, keep, drop, use0, use1, split, suffices, fsplit, fjoin}
use types.Part.{whole, sub, agg}
use types.Run.{stop, fld, of_opd, no_more, and_then, returns, enter}
use types.ByLocal.{alloc_all, pass_all, free_all, look_at, get, get_in, sets}
use denote.RattleType.{RattleType, owns}
use denote.RawPtr.{block_ptr}
use denote.Signature.{types_at}
use denote.Steps.{nothing}
use denote.Triple.Entry.{alive}
use denote.Triple.Walked.{Stays, stay_dropped, walk_of}
use Rattle.core.proofs.alloc.Calls.{Goes-blank}
use Rattle.std.proofs.raw_atomic.Walks.{proved_at, leaves}
use Rattle.std.specs.contracts.alloc.Global as heap
use Rattle.std.proofs.alloc.Global.TheLaws as heap_laws
use Rattle.std.specs.contracts.impls.GlobalAllocator.TheImpl.{ghosts}
use Rattle.hg_bank_service_replies.specs.contracts.part.BankPart as part
use Rattle.std.specs.Prelude.{Some}
use Rattle.hg_bank_service_ffi.specs.Owning.{bank_part_mark, owns_if_bank_part}
use Rattle.hg_ffi.proofs.Values.{both, pointer_good, pointer_out}
use Rattle.hg_ffi.proofs.Handles.{handle_val, handle_own, handle_made, slot_at}
use Rattle.hg_bank_service_ffi.proofs.Marked.{bank_part_marked}
use Rattle.hg_bank_service_ffi.specs.contracts.host_bank_part.HostBankPart.of_pointer.{ended, clauses}
use Rattle.hg_bank_service_ffi.specs.contracts.host_bank_part.HostBankPart.of_pointer.Key.{name as #self}
use Rattle.hg_bank_service_ffi.proofs.host_bank_part.HostBankPart.of_pointer.Statement.{statement}
use Rattle.hg_bank_service_ffi.proofs.host_bank_part.HostBankPart.of_pointer.Code as code

pub of_pointer_spec : {M : Type 1} → statement M
of_pointer_spec 𝓤 𝓛 𝓜 𝓡 wired =
    let H = 𝓛.H in let 𝓣 = tables 𝓤 H 𝓜 𝓡 𝓡.env in let R : RattleType = part.the_row in let Z : RattleType = heap.the_row in let LZ = heap_laws.the_row_laws in
    let En = ended in let c = clauses 𝓛 𝓜.mem 𝓡.returns in let fn : Fn = code.function in
    let hs : Stays En.signature.params En.kept = (stay_dropped (slot_at 0 En.signature.params) En.kept.0, tt) in
    proved_at 𝓛 En hs c 𝓜 𝓡 (Goes-blank 𝓛 0 (slot_at 0 En.signature.params) En.kept.0 (λ κs x f. tt), tt) #self fn (code.unfolded 𝓤 H 𝓜 𝓡 wired) (λ z are.
    let v = z.0.3.0 in let Post : Val → SProp 𝓤 = (walk_of 𝓛 En hs c).post z in let Run : List Val → SProp 𝓤 = λ ws. WpFn 𝓤 H 𝓣.C 𝓣.Λ fn ws Post in
    let Said : Type 0 = (bank_part_mark ≡ bank_part_mark) × (Some v.value ≡ Some v.value) in
    qed 𝓛 ((raw (alive 𝓛 En.signature z.0.0 z.0.1) ⊛ ‵ (owns (types_at En.signature.params z.0.0) z.0.3 z.0.4)) ∷ ‵ ftrue ∷ []) ∵ move ! (1 ∷ []) $ drop ! $ split ! $ move ! (1 ∷ []) $ fsplit ! $
    pointer_out R Z LZ ghosts ! v z.0.4.0 (λ b o h e ws fits.
    let w : Val = both (vptr b o) h in let typed = pointer_good R Z LZ ghosts b o h fits in
    -- [the part with the right to free it; the handle; nothing; the tokens]
    suffices ! (Run (w ∷ [])) (subst (λ (us : List Val). ent 𝓤 (Run (w ∷ [])) (Run us)) (sym (λ i. ws i ++ [])) (id⊢ 𝓤 (Run (w ∷ [])))) $
    enter ! 𝓣.C 𝓣.Λ fn (w ∷ []) Post $ alloc_all ! (λ l. pass_all ! refl (typed, tt) $
    sets ! (of_opd ! (get_in ! (fld ! refl (stop !)) (sub ! 0 refl (whole !)))) refl (tt, tt) $
    sets ! (of_opd ! (get ! refl)) refl (tt, tt) $
    sets ! (agg ! (and_then ! (get ! refl) (and_then ! bank_part_marked (no_more !)))) refl (tt, (tt, (record { fits = lit< tt }, tt))) $
    returns ! (look_at ! 0 refl) $ free_all ! refl $ keep ! (0 ∷ 3 ∷ []) $
    use1 𝓛 (‵ (owns_if_bank_part R bank_part_mark (block_ptr b o) (Some v.value))) (id⊢ 𝓤 _) $
    use0 𝓛 (‵ (handle_own (block_ptr b o) bank_part_mark (handle_val (block_ptr b o) bank_part_mark ∷ []))) (handle_made 𝓛 (block_ptr b o) bank_part_mark (lit< tt)) $ fjoin ! $
    use0 𝓛 (raw (fact 𝓤 Said)) (fact_i 𝓤 Said (emp 𝓤) (refl, refl)) $ nothing ! $ nothing ! $ fjoin ! $ move ! (3 ∷ 0 ∷ 2 ∷ 1 ∷ []) $
    by ! (leaves 𝓛 En hs c z (handle_val (block_ptr b o) bank_part_mark) (record { at = block_ptr b o; mark = bank_part_mark; part = Some v.value }) (tt, tt) (tt, tt)))))
