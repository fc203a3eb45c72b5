-- Names in a map and in the list that it stands for.
use Rattle.std.proofs.Common.{◌≡◌, ℕ, Bool, false, List, [], ◌∷◌, not, map, length, Option, Some, None, is_some, string_bytes, suc, refl, sym, ap, ◌∙◌}
use Rattle.std.specs.Str.{bytes_eq}
use Rattle.std.specs.Map.{keys_of, lookup}
use Rattle.std.specs.List.{prefix_len, position, list_any}
use Rattle.std.proofs.lemmas.Bool.{true≢false}
use Rattle.std.proofs.lemmas.List.{length-map}
use Rattle.std.proofs.lemmas.Map.Made.{is_some-lookup}
use Rattle.hg_machine.specs.Policy.{Tenant}
use Rattle.hg_policy.specs.Kept.{Named, names_of, tenants_of}
use Rattle.hg_policy.specs.Names.{is_among}
use Rattle.hg_policy.specs.Names.{tenant_names}

prefix_len-map : {X Y : Type 0} (p : Y → Bool) (f : X → Y) (xs : List X) → prefix_len p (map f xs) ≡ prefix_len (λ x. p (f x)) xs
prefix_len-map p f [] = refl
prefix_len-map p f (x ∷ xs) = rw (prefix_len-map p f xs) refl

pub position-map : {X Y : Type 0} (p : Y → Bool) (f : X → Y) (xs : List X) → position p (map f xs) ≡ position (λ x. p (f x)) xs
position-map p f xs = rw (prefix_len-map (λ y. not (p y)) f xs, length-map xs f) refl

module _ (name : List ℕ) where
  pub position-names : {A : Type 0} (named : Named A) → position (λ key. bytes_eq name (string_bytes key)) (keys_of named) ≡ position (λ other. bytes_eq name other) (names_of named)
  position-names named =
      position-map (λ key. bytes_eq name (string_bytes key)) (λ one. one.0) named
      ∙ sym (position-map (λ other. bytes_eq name other) (λ one. string_bytes one.0) named)

  pub position-tenants : (named : Named ℕ) → position (λ key. bytes_eq name (string_bytes key)) (keys_of named) ≡ position (λ tenant. bytes_eq name tenant.name) (tenants_of named)
  position-tenants named =
      position-map (λ key. bytes_eq name (string_bytes key)) (λ one. one.0) named
      ∙ sym (position-map (λ (tenant : Tenant). bytes_eq name tenant.name) (λ one. record { name = string_bytes one.0; limit = one.1 }) named)

pub list_any-map : {X Y : Type 0} (p : Y → Bool) (f : X → Y) (xs : List X) → list_any p (map f xs) ≡ list_any (λ x. p (f x)) xs
list_any-map p f [] = refl
list_any-map p f (x ∷ xs) = rw (list_any-map p f xs) refl

-- what a map has at a text
pub among-names : {A : Type 0} (name : List ℕ) (named : Named A) → is_some (lookup (λ key. bytes_eq name (string_bytes key)) named) ≡ is_among name (names_of named)
among-names name named =
    is_some-lookup (λ key. bytes_eq name (string_bytes key)) named
    ∙ list_any-map (λ key. bytes_eq name (string_bytes key)) (λ one. one.0) named
    ∙ sym (list_any-map (λ other. bytes_eq name other) (λ one. string_bytes one.0) named)

pub names-tenants : (named : Named ℕ) → tenant_names (tenants_of named) ≡ names_of named
names-tenants [] = refl
names-tenants (one ∷ named) = ap (λ names. string_bytes one.0 ∷ names) (names-tenants named)

pub none_from : {A : Type 0} (o : Option A) → is_some o ≡ false → o ≡ None
none_from None h = refl
none_from (Some x) h = absurd (true≢false h)

pub length-tenants : (named : Named ℕ) → length (tenants_of named) ≡ length named
length-tenants [] = refl
length-tenants (one ∷ named) = ap suc (length-tenants named)
