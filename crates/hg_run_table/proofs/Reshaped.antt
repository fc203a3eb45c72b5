-- What a table asks where seats join and split.
use Rattle.std.proofs.Common.{◌≡◌, ℕ, List, [], ◌∷◌, ◌++◌, take, drop, set, sym, subst, ap, ◌∙◌}
use Rattle.std.proofs.lemmas.List.{take-append-drop, map-append}
use mathlib.Core.Option.{some}
use lib.ListN.{get_elem?}
use Rattle.atomic_table.specs.Table.{Splits, Joins}
use Rattle.atomic_table.proofs.Lists.{set_else}
use Rattle.hg_machine.specs.Policy.{Policy}
use Rattle.hg_history.specs.OneRun.{IsOneRun}
use Rattle.hg_history.proofs.Seats.{joined_keeps, split_keeps}
use Rattle.hg_history.proofs.Views.{map_at, map_set}
use Rattle.hg_roles.specs.Served.{places_of_policy}
use Rattle.hg_table.specs.LifeRule.{LifeRule}
use Rattle.hg_table.specs.View as lives
use Rattle.hg_table.proofs.ManyParts.{cuts, joins_all, splits_all}
use Rattle.hg_run_table.specs.declared.part.SeatView.{SeatView}
use Rattle.hg_run_table.specs.Reshaping.{LivesCut, front, one_part, lives_kept, lives_given}
use Rattle.hg_run_table.specs.Reshaping.{MayCutLives, kept, given, both, spent}
use Rattle.hg_run_table.specs.Rule.{lives_of, KeepsBoth}
use Rattle.hg_run_table.specs.Seated.{seated}
use Rattle.hg_run_table.proofs.Allowed.{runs, known}

module _ (policy : Policy) (id : ℕ) where
  -- the life rule of a cut
  cut_lives : (cut : LivesCut) (view : lives.View) → MayCutLives cut view
      → Splits (LifeRule (places_of_policy policy)) id view (lives_kept cut view)
      (lives_given cut view)
  cut_lives (front count) view may =
      subst
      (λ (v : lives.View).
      Splits (LifeRule (places_of_policy policy)) id v (take count view) (drop count view))
      (take-append-drop count view)
      (splits_all (places_of_policy policy) id (take count view) (drop count view))
  cut_lives (one_part cut) view may = cuts (places_of_policy policy) id cut view may

  pub splits : (cut : LivesCut) (stay : ℕ) (view : SeatView) → MayCutLives cut view.lives
      → Splits (KeepsBoth policy) id view (kept cut stay view) (given cut stay view)
  splits cut stay view may s r at = record {
    lives =
        subst
        (λ (vs : List lives.View).
        LifeRule (places_of_policy policy)
        (record { words = s.words; homes = s.homes; views = vs }))
        (sym
        (map-append (λ (v : SeatView). v.lives) (set s.views id (kept cut stay view))
        (given cut stay view ∷ [])
        ∙ ap (λ (vs : List lives.View). vs ++ lives_given cut view.lives ∷ [])
        (map_set (λ (v : SeatView). v.lives) s.views id (kept cut stay view))))
        (cut_lives cut view.lives may (lives_of s) r.lives
        (map_at (λ (v : SeatView). v.lives) s.views id view at));
    run =
        subst (IsOneRun (seated policy) s.words)
        (sym
        (map-append (λ (v : SeatView). v.run) (set s.views id (kept cut stay view))
        (given cut stay view ∷ [])
        ∙ ap (λ vs. vs ++ drop stay view.run ∷ [])
        (map_set (λ (v : SeatView). v.run) s.views id (kept cut stay view))))
        (split_keeps (seated policy) s.words (runs s.views) id (take stay view.run)
        (drop stay view.run) r.run
        (map_at (λ (v : SeatView). v.run) s.views id view at
        ∙ ap some (sym (take-append-drop stay view.run))));
  }

  pub joins : (other : ℕ) (one more : SeatView)
      → Joins (KeepsBoth policy) id one other more (both one more) spent
  joins other one more s r at differ theirs =
      let at' : get_elem? s.views other ≡ some more =
      sym (set_else s.views id other (both one more) differ) ∙ theirs in
      let their_lives : get_elem? (known s.views) other ≡ some more.lives =
      map_at (λ (v : SeatView). v.lives) s.views other more at' in
      record {
        lives =
            subst
            (λ (vs : List lives.View).
            LifeRule (places_of_policy policy)
            (record { words = s.words; homes = s.homes; views = vs }))
            (sym
            (map_set (λ (v : SeatView). v.lives) (set s.views id (both one more)) other spent
            ∙ ap (λ (vs : List lives.View). set vs other [])
            (map_set (λ (v : SeatView). v.lives) s.views id (both one more))))
            (joins_all (places_of_policy policy) id other one.lives more.lives (lives_of s) r.lives
            (map_at (λ (v : SeatView). v.lives) s.views id one at) differ
            (set_else (known s.views) id other (one.lives ++ more.lives) differ ∙ their_lives));
        run =
            subst (IsOneRun (seated policy) s.words)
            (sym
            (map_set (λ (v : SeatView). v.run) (set s.views id (both one more)) other spent
            ∙ ap (λ vs. set vs other [])
            (map_set (λ (v : SeatView). v.run) s.views id (both one more))))
            (joined_keeps (seated policy) s.words (runs s.views) id other one.run more.run r.run
            (map_at (λ (v : SeatView). v.run) s.views id one at) differ
            (map_at (λ (v : SeatView). v.run) s.views other more at'));
      }
