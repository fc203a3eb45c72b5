-- What a worker has in hand is what stands at its number.
use Rattle.std.proofs.Common.{◌≡◌, ℕ, ◌<◌, ◌≤◌, length, map, slice_index_or, Option, None, sym, ap}
use Rattle.std.proofs.Common.{◌∙◌, arith}
use Rattle.std.specs.Box.{boxed_slice_items}
use Rattle.std.specs.Option.{option_map}
use Rattle.std.proofs.lemmas.List.{get_or-map, get_or_past, get_or_read, length-map}
use Rattle.hg_place.specs.declared.Place.{Place}
use Rattle.hg_place.specs.Places.{number_of}
use Rattle.hg_machine.specs.State.{hand_of}
use Rattle.hg_events.specs.Core.{Core}
use Rattle.hg_core.specs.declared.stores.Stores.TheInside.{Inside}
use Rattle.hg_core.specs.Keeping.{state_in}
use Rattle.hg_core.specs.Stored.{core_of}

module _ (a : Inside) (s : Core) where
  pub no_hand : (worker : ℕ) → core_of a ≡ s → length (boxed_slice_items a.hands) ≤ worker
      → None ≡ hand_of (state_in s) worker
  no_hand worker view past =
      let hands = boxed_slice_items a.hands in
      sym (get_or_past (map (option_map number_of) hands) worker None
      (omega (arith, past, length-map hands (option_map number_of))))
      ∙ ap (λ (x : Core). slice_index_or x.hands worker None) view

  pub hand_told : (at worker : ℕ) (hand : Option Place) → core_of a ≡ s → at ≡ worker
      → at < length (boxed_slice_items a.hands)
      → hand ≡ slice_index_or (boxed_slice_items a.hands) at hand
      → option_map number_of hand ≡ hand_of (state_in s) worker
  hand_told at worker hand view same inside there =
      let hands = boxed_slice_items a.hands in
      ap (option_map number_of) (get_or_read hands at hand inside there None)
      ∙ sym (get_or-map (option_map number_of) hands at None None inside)
      ∙ ap (λ n. slice_index_or (core_of a).hands n None) same
      ∙ ap (λ (x : Core). slice_index_or x.hands worker None) view
