-- What a core that is lent can be read by. Assumes `Logic`.
use Rattle.std.specs.Prelude.{◌≡◌, ◌==◌, Bool, true, false, ℕ, List, [], ◌∷◌}
use mathlib.Core.Path.{refl, sym}
use seplogic.Ra.Ura.{Ura}
use base.Fraction.{full_share}
use base.Share as half
use base.Logic.{ent, sep, ex, upd_i, id⊢}
use base.Fml.{Lft, Share, Fml, ftrue, fsep, fseps, fex, fwand, fupd, fdead, fbor, flent, flft, Incl-refl}
use base.Shift.{Keyless}
use contract.BorrowLft.{meet_⊑_left, ⊑_static}
use mir.Raw.{raw as bare}
use mir.Val.{Val}
use types.Logic.{Logic, sem}
use types.Kit.{‵, ◌⊛◌, some, later, ◌$◌, ◌∵◌, !, qed, move, keep, use0, use1, use2, use3, split, join, fsplit, fsplit3, fjoin, fpick, fpack, pick, show, assume, suffices, await, updating, now, rewrite, done}
use types.Tokens.{lft_new, bor_new, bor_open, obor_alter, bor_fracture}
use denote.RattleType.{RattleType}
use denote.Laws.{Is, Tells, shows}
use denote.Memory.{lone, cell_at, part_at, part_of, hidden_shr}
use denote.Copied.{Copied, whole-copied}
use denote.Moves.{moves_from}
use denote.Opens.{Cuts-Halves, unhide}
use denote.RawPtr.{Ptr, lies_at}
use denote.Shadow.{makes_shadow}
use denote.SharingLaws.{contraction, nothing_shr_laws}
use denote.Sharing.{ShrLaws, nothing}
use denote.Steps.{nothing as empty, peeks}
use denote.Struct.Struct.{Struct}
use denote.Struct.Owning.{shape}
use denote.Struct.Lending.{lent_at, lent_at_shr_laws, Lends-lies, Lends-first}
use Rattle.hg_core.specs.contracts.serving.Core as core
use Rattle.hg_core.proofs.serving.Core.TheLaws as core_laws
use Rattle.hg_ffi.specs.Owning.{open_mark, may_free, when, owns_if_open, lent_for, lent_if_open}
use Rattle.hg_ffi.specs.contracts.lent_core.LentCore as lent
use Rattle.hg_ffi.proofs.Handles.{handle_val, handle_told}

abbrev pub Row : RattleType
Row = lent.the_row

abbrev R : RattleType
R = core.the_row

abbrev Words : RattleType
Words = Struct (shape lent.the_type)

abbrev words : Row.Denot → Words.Denot
words d = (d.at, (d.mark, tt))

view_laws : (d : Row.Denot) → ShrLaws (lent_at R d.at d.core)
view_laws d = lent_at_shr_laws R core_laws.the_row_laws.shr_laws d.at d.core

pub when_keyless : (b : Bool) (F : Fml) → Keyless F → Keyless (when b F)
when_keyless true F k = k
when_keyless false F k = tt

tells : Tells Row (Is Row) (λ d. handle_val d.at d.mark ∷ [])
tells d vs is = (handle_told d.at d.mark vs is.0).0

module _ {M : Type 1} {𝓤 : Ura M} (𝓛 : Logic 𝓤) where
  open 𝓛 use {H, A}

  abbrev Twice : Fml → Type 1
  Twice F = ent 𝓤 (sem 𝓛 F) (sep 𝓤 (sem 𝓛 F) (sem 𝓛 F))

  when_twice : (b : Bool) (F : Fml) → Twice F → Twice (when b F)
  when_twice true F twice = twice
  when_twice false F twice = contraction 𝓛 nothing nothing_shr_laws []

  part_twice : (life : Lft) → Twice (fex Share (λ q. flft life q))
  part_twice life = let part = λ (q : Share). flft life q in
      qed 𝓛 (‵ (fex Share part) ∷ []) ∵ fpick ! (λ q.
      use1 𝓛 (‵ (part (half.left q)) ⊛ ‵ (part (half.right q))) (𝓛.lfts.lft_split life q) $ split ! $
      fpack ! Share part (half.left q) $ move ! (1 ∷ []) $ fpack ! Share part (half.right q) $ done !)

  heap_twice : (d : Row.Denot) → Twice (lent_if_open R d.mark d.at d.core d.life)
  heap_twice d = let part = fex Share (λ q. flft d.life q) in let view = lent_at R d.at d.core in
      when_twice (d.mark == open_mark) (lent_for R d.at d.core d.life) (qed 𝓛 (‵ (fsep part (view d.life)) ∷ []) ∵ fsplit ! $
      use1 𝓛 (‵ part ⊛ ‵ part) (part_twice d.life) $ split ! $ move ! (2 ∷ []) $
      use1 𝓛 (‵ (view d.life) ⊛ ‵ (view d.life)) (contraction 𝓛 view (view_laws d) d.life) $ split ! $
      move ! (2 ∷ 0 ∷ []) $ fjoin ! $ move ! (2 ∷ 1 ∷ []) $ fjoin ! $ done !)

  twice : (d : Row.Denot) (vs : List Val) → Twice (Row.own_val d vs)
  twice d vs = let Heap = lent_if_open R d.mark d.at d.core d.life in let Own = Words.own_val (words d) vs in
      qed 𝓛 (‵ (fsep Own Heap) ∷ []) ∵ fsplit ! $ peeks ! Words (Is Words) (shows 𝓛 Words) (words d) vs (λ so.
      move ! (1 ∷ []) $ use1 𝓛 (‵ Heap ⊛ ‵ Heap) (heap_twice d) $ split ! $ move ! (2 ∷ 0 ∷ []) $ fjoin ! $ move ! (1 ∷ []) $
      use0 𝓛 (‵ Own) (makes_shadow 𝓛 Own (λ _. (tt, (tt, ((tt, tt), tt)))) so) $ fjoin ! $ done !)

  pub copied : Copied 𝓛 Row
  copied = whole-copied 𝓛 Row (λ d b o. refl) (λ d. handle_val d.at d.mark) tells (record { twice = twice })

  module _ (κ : Lft) (d : Row.Denot) (b o : ℕ) (is_open : d.mark ≡ open_mark) where
    abbrev view : Lft → Fml
    view = lent_at R d.at d.core

    abbrev At : Share → Fml
    At s = part_at Row s d b o

    abbrev Heap : ℕ → Fml
    Heap m = lent_if_open R m d.at d.core d.life

    -- what a part of the 16 bytes holds beside its part of the lifetime makes it whole again
    again : (s r : Share) (vs : List Val) → ent 𝓤 (sep 𝓤 (sem 𝓛 (view d.life)) (sep 𝓤 (sem 𝓛 (Words.own_val (words d) vs)) (sem 𝓛 (cell_at s Row.mir vs b o))))
        (sem 𝓛 (fwand (fsep (fdead κ) (fseps (flft d.life r ∷ []))) (fupd (At s))))
    unfolding fseps part_of
    again s r vs = qed 𝓛 (‵ (view d.life) ∷ ‵ (Words.own_val (words d) vs) ∷ ‵ (cell_at s Row.mir vs b o) ∷ []) ∵
        assume ! (‵ (fsep (fdead κ) (fsep (flft d.life r) ftrue))) $ suffices ! (sem 𝓛 (At s)) (upd_i 𝓤 (sem 𝓛 (At s))) $
        fsplit3 ! $ keep ! (1 ∷ 3 ∷ 4 ∷ 5 ∷ []) $ fpack ! Share (λ q. flft d.life q) r $ fjoin ! $
        use1 𝓛 (‵ (Heap open_mark)) (id⊢ 𝓤 _) $ rewrite ! 0 (λ (m : ℕ). ‵ (Heap m)) (sym is_open) refl $ move ! (1 ∷ 0 ∷ []) $ fjoin ! $
        move ! (1 ∷ 0 ∷ []) $ fjoin ! $ fpack ! (List Val) (λ us. fsep (cell_at s Row.mir us b o) (Row.own_val d us)) vs $ done !

    -- a `&` to one that is open shows the core as long as the `&` lasts
    pub sees : (q : Share) → ent 𝓤 (sep 𝓤 (sem 𝓛 (hidden_shr Row κ d b o)) (A.lft κ q)) (H.⇛ (sep 𝓤 (sem 𝓛 (view κ)) (A.lft κ q)))
    unfolding fseps part_of
    sees q = let part = λ (r : Share). flft d.life r in
        qed 𝓛 (‵ (hidden_shr Row κ d b o) ∷ ‵ (flft κ q) ∷ []) ∵ updating ! $ unhide ! $
        use2 𝓛 (later (some (λ (s : Share). ‵ (fbor κ (At s))) ⊛ ‵ (flft κ q))) (𝓛.shr_bors.shr_bor_carve κ ((κ, q) ∷ []) At (Cuts-Halves 𝓛 At (copied.cuts d b o)) (λ x m. m)) $
        await ! tt $ split ! $ pick ! (λ s. bor_open ! tt $ move ! (1 ∷ []) $ fpick ! (λ vs. fsplit ! $ move ! (1 ∷ []) $ fsplit ! $ move ! (1 ∷ []) $
        rewrite ! 0 (λ (m : ℕ). ‵ (Heap m)) is_open refl $ use1 𝓛 (‵ (lent_for R d.at d.core d.life)) (id⊢ 𝓤 _) $ fsplit ! $ fpick ! (λ r. move ! (1 ∷ []) $
        use1 𝓛 (‵ (view d.life) ⊛ ‵ (view d.life)) (contraction 𝓛 view (view_laws d) d.life) $ split ! $
        -- [the view, twice; the part of its lifetime; what pointer and mark own; their cell; the open borrow]
        move ! (0 ∷ 3 ∷ 4 ∷ []) $ use3 𝓛 (‵ (fwand (fsep (fdead κ) (fseps (part r ∷ []))) (fupd (At s)))) (again s r vs) $
        empty ! $ move ! (3 ∷ 0 ∷ []) $ fjoin ! $ move ! (3 ∷ 0 ∷ 1 ∷ []) $ obor_alter ! tt (part r ∷ []) $
        use1 𝓛 (‵ (fbor κ (part r)) ⊛ ‵ ftrue) (id⊢ 𝓤 _) $ split ! $ bor_fracture ! tt part r $ move ! (0 ∷ 3 ∷ []) $
        use2 𝓛 (‵ (view κ)) (moves_from 𝓛 view (view_laws d) κ d.life d.life (meet_⊑_left d.life κ)) $ now ! $ keep ! (0 ∷ 2 ∷ []) $ done !)))

  -- who owns an open core can lend it for a lifetime, and has it again once that has ended
  pub lends : (p : Ptr) (x : R.Denot) → ent 𝓤 (sem 𝓛 (owns_if_open R open_mark p x))
      (H.⇛ (ex 𝓤 (λ (a : ℕ). sep 𝓤 (A.lft (a ∷ []) full_share) (sep 𝓤 (sem 𝓛 (lent_at R p x (a ∷ []))) (sem 𝓛 (flent (a ∷ []) (owns_if_open R open_mark p x)))))))
  lends p x = let Owned = owns_if_open R open_mark p x in
      qed 𝓛 (‵ Owned ∷ []) ∵ updating ! $ lft_new ! tt (λ a. let life : Lft = a ∷ [] in move ! (1 ∷ []) $ bor_new ! tt life $ move ! (0 ∷ 2 ∷ []) $
      use2 𝓛 (later (‵ (lent_at R p x life) ⊛ ‵ (flft life full_share)))
      (Lends-first 𝓛 (lies_at R full_share p x) (may_free (bare (lone R.mir)) p) (lent_at R p x) R.lives
      (Lends-lies 𝓛 R R.lives p x (core_laws.the_row_laws.shares 𝓛 x)) life ((life, full_share) ∷ []) (⊑_static life) (Incl-refl life)) $ await ! tt $ split ! $
      -- [the view; the lifetime; what comes back]
      now ! $ show ! (λ (c : ℕ). sep 𝓤 (A.lft (c ∷ []) full_share) (sep 𝓤 (sem 𝓛 (lent_at R p x (c ∷ []))) (sem 𝓛 (flent (c ∷ []) Owned)))) a $
      move ! (0 ∷ 2 ∷ []) $ join ! $ move ! (1 ∷ []) $ done !)
