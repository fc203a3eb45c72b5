-- opened.
use Rattle.std.proofs.Common.{◌≡◌, ℕ, List, [], ◌∷◌, refl, sym, ap, ◌∙◌}
use mir.Syntax.{Fn, named}
use mir.Val.{Val, vptr}
use base.Logic.{SProp, emp}
use base.Fml.{Lft, ftrue, flft}
use types.Kit.{‵, raw, ◌⊛◌, later, at_ret, ◌$◌, ◌∵◌, !, qed, by, move, keep, split, join, use0, use1, use2, await, rewrite, fsplit, fjoin, feq_i}
use types.Run.{stop, fld, load, addr, of_opd, first, blocks, exec, returns, enter}
use types.ByLocal.{alloc_all, pass_all, free_all, look_at, get, through, sets, sets_last, env}
use types.Part.{sub, whole, look_in}
use contract.Monad.{fact, fact_i}
use contract.Running.{tables}
use denote.Exit.{yes}
use denote.RattleType.{RattleType, owns}
use denote.Signature.{types_at, plain}
use denote.Builtin.{RefOf}
use denote.Memory.{cell_at, shared_of}
use denote.Laws.{Is, shows}
use denote.Opens.{hide, twice_dup}
use denote.Ref.{shr_vals, shr_Tells}
use denote.RawPtr.{Ptr, InBlock, block_ptr, block_of, count_of, at_block}
use denote.Steps.{nothing, heard, peeks, looks, shuts}
use denote.Struct.Lending.{lent_at, in_block_says}
use denote.Triple.Walked.{Stays, stay_dropped, walk_of, Goes-dropped}
use Rattle.std.proofs.raw_atomic.Walks.{proved, leaves}
use Rattle.std.proofs.VecSteps.Shapes.{after}
use Rattle.hg_core.specs.contracts.serving.Core as core
use Rattle.hg_ffi.specs.Owning.{open_mark}
use Rattle.hg_ffi.proofs.Handles.{handle_val, handle_told}
use Rattle.hg_ffi.proofs.Lent.{Row, copied, sees}
use Rattle.hg_ffi.specs.contracts.lent_core.LentCore.opened.{ended, clauses}
use Rattle.hg_ffi.specs.contracts.lent_core.LentCore.opened.Key.{name as #self}
use Rattle.hg_ffi.proofs.lent_core.LentCore.opened.Statement.{statement}
use Rattle.hg_ffi.proofs.lent_core.LentCore.opened.Code as code

pub opened_spec : {M : Type 1} → statement M
opened_spec 𝓤 𝓛 𝓜 𝓡 wired =
    let H = 𝓛.H in let 𝓣 = tables 𝓤 H 𝓜 𝓡 𝓡.env in let R : RattleType = core.the_row in
    let En = ended in let c = clauses 𝓛 𝓜.mem 𝓡.returns in let fn : Fn = code.function in
    let self = RefOf (0 ∷ []) tt (plain (λ _. Row)) (λ _. tt) in let hs : Stays En.signature.params En.kept = (stay_dropped self yes, tt) in
    proved 𝓛 En hs c 𝓜 𝓡 (Goes-dropped 𝓛 1 self yes (λ κs x f. refl), tt) #self fn (code.unfolded 𝓤 H 𝓜 𝓡 wired)
    (λ κs. (shr_vals, tt)) (λ κs. (shr_Tells (named 0) κs.0 Row, tt)) (λ κs qs bounds a gh are.
    let b : ℕ = a.0.ref_ptr.0 in let o : ℕ = a.0.ref_ptr.1 in let κ : Lft = κs.0 in let d : Row.Denot = a.0.now in let p : Ptr = d.at in let x : R.Denot = d.core in
    let y : (walk_of 𝓛 En hs c).Ghost = ((κs, qs, bounds, a, (vptr b o ∷ [], tt)), gh) in let Post : Val → SProp 𝓤 = (walk_of 𝓛 En hs c).post y in
    let Asked : Type 0 = d.mark ≡ open_mark in let there : Val = vptr (block_of p) (count_of p) in
    qed 𝓛 (((‵ (flft κ qs.0) ⊛ ‵ ftrue) ⊛ ‵ (owns (types_at En.signature.params κs) a y.0.4)) ∷ raw (fact 𝓤 Asked) ∷ []) ∵ move ! (1 ∷ []) $ heard ! Asked (λ is_open.
    split ! $ split ! $ move ! (2 ∷ []) $ fsplit ! $ fsplit ! $ keep ! (1 ∷ 3 ∷ 4 ∷ []) $
    enter ! 𝓣.C 𝓣.Λ fn (vptr b o ∷ []) Post $ alloc_all ! (λ l. pass_all ! refl ((tt, tt), tt) $ let Ev = env fn.locals l in
    twice_dup ! (shared_of Row d b o) ((copied 𝓛).opens d b o).1 κ $ move ! (0 ∷ 2 ∷ []) $
    use2 𝓛 (later (‵ (lent_at R p x κ) ⊛ ‵ (flft κ qs.0))) (sees 𝓛 κ d b o is_open qs.0) $ await ! tt $ split ! $ fsplit ! $
    use1 𝓛 (raw (fact 𝓤 (InBlock p))) (in_block_says 𝓛 p) $ heard ! (InBlock p) (λ inb. hide ! $ move ! (2 ∷ 1 ∷ []) $
    looks ! tt Row ((copied 𝓛).opens) d b o (λ q vs. move ! (1 ∷ []) $ peeks ! Row (Is Row) (shows 𝓛 Row) d vs (λ so.
    let told : vs ≡ handle_val (block_ptr (block_of p) (count_of p)) d.mark ∷ [] = (handle_told p d.mark vs so.0).0 ∙ ap (λ (r : Ptr). handle_val r d.mark ∷ []) (at_block p inb) in
    -- [what it owns; its cell; the way back; the `&` to it; the `&` to the core; the other tokens]
    rewrite ! 1 (λ (ws : List Val). ‵ (cell_at q Row.mir ws b o)) told refl $ first ! $ blocks ! $
    sets ! (of_opd ! (load ! (through ! refl (fld ! refl (stop !))) (look_in ! 1 (sub ! 0 refl (whole !))))) refl (tt, tt) $
    sets ! (of_opd ! (get ! refl)) refl (tt, tt) $
    sets_last ! (addr ! (through ! refl (stop !))) refl (tt, tt) $ exec ! 𝓣.C 𝓣.Λ Ev (after 1 fn.body) (at_ret Ev Post) $ sets ! (of_opd ! (get ! refl)) refl (tt, tt) $
    rewrite ! 1 (λ (ws : List Val). ‵ (cell_at q Row.mir ws b o)) (sym told) refl $
    move ! (1 ∷ 0 ∷ 2 ∷ []) $ shuts ! tt Row q d vs b o $ move ! (0 ∷ 3 ∷ []) $ join ! $
    move ! (2 ∷ []) $ feq_i ! (List Val) (there ∷ []) (there ∷ []) refl $ fjoin ! $ use0 𝓛 (raw (fact 𝓤 (x ≡ x))) (fact_i 𝓤 (x ≡ x) (emp 𝓤) refl) $ nothing ! $ nothing ! $ fjoin ! $
    returns ! (look_at ! 0 refl) $ free_all ! refl $ keep ! (3 ∷ 0 ∷ 2 ∷ 1 ∷ []) $
    by ! (leaves 𝓛 En hs c y there (record { ref_ptr = (block_of p, count_of p); now = x }) (tt, tt) (tt, tt))))))))
