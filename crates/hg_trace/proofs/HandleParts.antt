-- A handle is that of its place and generation.
use Rattle.std.proofs.Common.{◌≡◌, ℕ, max, sym, ap, ◌∙◌}
use Rattle.std.proofs.Math.Nat.{max-eq_right}
use Rattle.hg_place.specs.declared.Place.{Place}
use Rattle.hg_place.specs.declared.Handle.{Handle}
use Rattle.hg_place.proofs.PlaceNumbers.{same_handle_parts}
use Rattle.hg_trace.specs.Handles.{handle_from}

pub handle_is : (handle : Handle) (place : Place) (g : ℕ) → handle.place ≡ place → handle.generation ≡ g → handle ≡ handle_from place g
handle_is handle place g at generation =
    same_handle_parts handle (handle_from place g) at (sym (max-eq_right handle.given_out) ∙ ap (λ n. max 1 n) generation)
