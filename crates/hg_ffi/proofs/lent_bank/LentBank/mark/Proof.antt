-- mark.
use Rattle.std.proofs.Common.{◌≡◌, ℕ, ◌^◌, ◌<◌, List, [], ◌∷◌, refl, sym, w64}
use mir.Syntax.{Fn, named}
use mir.Val.{Val, vint, vptr}
use base.Logic.{SProp, emp}
use base.Fml.{Lft, ftrue, flft}
use types.Kit.{‵, raw, ◌⊛◌, ◌$◌, ◌∵◌, !, qed, by, move, keep, split, join, use0, rewrite, fsplit, fjoin, feq_i, flt_i}
use types.Run.{stop, fld, load, of_opd, returns, enter}
use types.ByLocal.{alloc_all, pass_all, free_all, look_at, through, sets}
use types.Part.{sub, whole, look_in}
use contract.Monad.{fact, fact_i}
use contract.Running.{tables}
use denote.Exit.{yes}
use denote.RattleType.{owns}
use denote.Signature.{types_at, plain}
use denote.Builtin.{RefOf}
use denote.Memory.{cell_at}
use denote.Laws.{Is, shows}
use denote.Ref.{shr_vals, shr_Tells}
use denote.Steps.{nothing, peeks, looks, shuts}
use denote.Triple.Walked.{Stays, stay_dropped, walk_of, Goes-dropped}
use Rattle.std.proofs.raw_atomic.Walks.{proved, leaves}
use Rattle.hg_ffi.proofs.Handles.{handle_told}
use Rattle.hg_ffi.proofs.LentBanks.{Row, copied}
use Rattle.hg_ffi.specs.contracts.lent_bank.LentBank.mark.{ended, clauses}
use Rattle.hg_ffi.specs.contracts.lent_bank.LentBank.mark.Key.{name as #self}
use Rattle.hg_ffi.proofs.lent_bank.LentBank.mark.Statement.{statement}
use Rattle.hg_ffi.proofs.lent_bank.LentBank.mark.Code as code

pub mark_spec : {M : Type 1} → statement M
mark_spec 𝓤 𝓛 𝓜 𝓡 wired =
    let H = 𝓛.H in let 𝓣 = tables 𝓤 H 𝓜 𝓡 𝓡.env in
    let En = ended in let c = clauses 𝓛 𝓜.mem 𝓡.returns in let fn : Fn = code.function in
    let self = RefOf (0 ∷ []) tt (plain (λ _. Row)) (λ _. tt) in let hs : Stays En.signature.params En.kept = (stay_dropped self yes, tt) in
    proved 𝓛 En hs c 𝓜 𝓡 (Goes-dropped 𝓛 1 self yes (λ κs x f. refl), tt) #self fn (code.unfolded 𝓤 H 𝓜 𝓡 wired)
    (λ κs. (shr_vals, tt)) (λ κs. (shr_Tells (named 0) κs.0 Row, tt)) (λ κs qs bounds a gh are.
    let b : ℕ = a.0.ref_ptr.0 in let o : ℕ = a.0.ref_ptr.1 in let κ : Lft = κs.0 in let d : Row.Denot = a.0.now in let n : ℕ = d.mark in
    let y : (walk_of 𝓛 En hs c).Ghost = ((κs, qs, bounds, a, (vptr b o ∷ [], tt)), gh) in let Post : Val → SProp 𝓤 = (walk_of 𝓛 En hs c).post y in
    qed 𝓛 (((‵ (flft κ qs.0) ⊛ ‵ ftrue) ⊛ ‵ (owns (types_at En.signature.params κs) a y.0.4)) ∷ ‵ ftrue ∷ []) ∵
    split ! $ split ! $ move ! (2 ∷ []) $ fsplit ! $ fsplit ! $ keep ! (1 ∷ 3 ∷ 4 ∷ []) $
    enter ! 𝓣.C 𝓣.Λ fn (vptr b o ∷ []) Post $ alloc_all ! (λ l. pass_all ! refl ((tt, tt), tt) $
    looks ! tt Row ((copied 𝓛).opens) d b o (λ q vs. move ! (1 ∷ []) $ peeks ! Row (Is Row) (shows 𝓛 Row) d vs (λ so.
    let told = handle_told d.at n vs so.0 in let fits : n < 2 ^ 64 = told.1 in
    -- [what it owns; its cell; the way back; the `&` to it; the other tokens]
    rewrite ! 1 (λ (ws : List Val). ‵ (cell_at q Row.mir ws b o)) told.0 refl $
    sets ! (of_opd ! (load ! (through ! refl (fld ! refl (stop !))) (look_in ! 1 (sub ! 1 refl (whole !))))) refl (tt, record { fits = fits }) $
    rewrite ! 1 (λ (ws : List Val). ‵ (cell_at q Row.mir ws b o)) (sym told.0) refl $
    move ! (1 ∷ 0 ∷ 2 ∷ []) $ shuts ! tt Row q d vs b o $ move ! (0 ∷ 2 ∷ []) $ join ! $
    flt_i ! n (2 ^ 64) fits $ feq_i ! (List Val) (vint w64 n ∷ []) (vint w64 n ∷ []) refl $ fjoin ! $
    use0 𝓛 (raw (fact 𝓤 (n ≡ n))) (fact_i 𝓤 (n ≡ n) (emp 𝓤) refl) $ nothing ! $ nothing ! $ fjoin ! $
    returns ! (look_at ! 0 refl) $ free_all ! refl $ keep ! (3 ∷ 0 ∷ 2 ∷ 1 ∷ []) $
    by ! (leaves 𝓛 En hs c y (vint w64 n) n (tt, tt) (tt, tt))))))
