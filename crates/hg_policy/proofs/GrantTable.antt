-- What one entry of a table of rights says.
use Rattle.std.proofs.Common.{◌≡◌, ◌≢◌, ℕ, ◌<◌, false, not, ◌&&◌, ◌==◌, List, [], ◌∷◌, length, map, take, get_or, suc, zero, refl, sym, ap, ◌∙◌, inl, inr, arith}
use Rattle.std.proofs.lemmas.Bool.{cases_Bool, eqb-true}
use Rattle.std.proofs.lemmas.List.{get_or-map, get_or-take, length-map, ext_get_or}
use Rattle.hg_place.specs.declared.Right.{Right}
use Rattle.hg_place.specs.declared.Right.TheVariants as right
use Rattle.hg_machine.specs.Policy as meaning
use Rattle.hg_machine.specs.Policy.{has_right, no_rights}
use Rattle.hg_policy.specs.declared.rights.Rights.{Rights}
use Rattle.hg_policy.specs.declared.granted.Standing.{Standing}
use Rattle.hg_policy.specs.Rights.{rights_of, nothing}
use Rattle.hg_policy.specs.Kept.{rows_of}

pub ne-eqb : (a b : ℕ) → a ≢ b → (a == b) ≡ false
ne-eqb a b other =
    elim (cases_Bool (a == b)) [
      | inl same ↦ absurd (other (eqb-true a b same))
      | inr differs ↦ differs
    ]

get_or-map_any : {X Y : Type 0} (f : X → Y) (xs : List X) (i : ℕ) (d : X) → get_or (map f xs) i (f d) ≡ f (get_or xs i d)
get_or-map_any f [] i d = refl
get_or-map_any f (x ∷ xs) zero d = refl
get_or-map_any f (x ∷ xs) (suc i) d = get_or-map_any f xs i d

row-at : (tenants : ℕ) (held : List Rights) (j : ℕ) → j < tenants → get_or (map rights_of (take tenants held)) j no_rights ≡ rights_of (get_or held j nothing)
row-at tenants held j within =
    get_or-map_any rights_of (take tenants held) j nothing ∙ ap rights_of (get_or-take tenants held j nothing within)

pub has_none : (r : Right) → has_right no_rights r ≡ false
has_none right.Read = refl
has_none right.Write = refl
has_none right.List = refl
has_none right.Free = refl

-- how an actor stands of which no line tells
abbrev pub no_standing : Standing
no_standing = record { granted = nothing; forbidden = nothing; allowed = nothing; allowed_is = λ r. has_none r ∙ sym (ap (λ b. b && not b) (has_none r)) }

-- what one entry of a table says, by a half of what is kept
pub rows_of-at : (tenants : ℕ) (half : Standing → Rights) (table : List (List Standing)) (i j : ℕ) (held : List Standing)
    → i < length table → held ≡ get_or table i held → j < tenants → half no_standing ≡ nothing
    → get_or (get_or (rows_of tenants (map (map half) table)) i []) j no_rights ≡ rights_of (half (get_or held j no_standing))
rows_of-at tenants half table i j held in_table is_held in_tenants none =
    let row : List Rights → List meaning.Rights = λ held. map rights_of (take tenants held) in
    let here : get_or (map (map half) table) i [] ≡ map half held = get_or-map (map half) table i held [] in_table ∙ ap (map half) (sym is_held) in
    let long : i < length (map (map half) table) = omega (arith, in_table, length-map table (map half)) in
    ap (λ by_actor. get_or by_actor j no_rights) (get_or-map row (map (map half) table) i [] [] long ∙ ap row here)
    ∙ row-at tenants (map half held) j in_tenants
    ∙ ap rights_of (ap (get_or (map half held) j) (sym none) ∙ get_or-map_any half held j no_standing)

-- a half of what was put side by side
pub half-is : (half : Standing → Rights) (both : List Standing) (held : List Rights) → length both ≡ length held
    → ((j : ℕ) → j < length both → half (get_or both j no_standing) ≡ get_or held j nothing) → map half both ≡ held
half-is half both held long each =
    ext_get_or nothing (map half both) held (length-map both half ∙ long)
    (λ j within.
    let below : j < length both = omega (arith, within, length-map both half) in
    get_or-map half both j no_standing nothing below ∙ each j below)
