-- Steps of loops over places, types and numbers.
use Rattle.std.proofs.Common.{◌≡◌, ℕ, ◌+◌, ◌<◌, Bool, true, cond, List, [], ◌∷◌, ◌++◌, length, map, filter, take, get_or, ◌||◌, refl, sym, ap, ◌∙◌, inl, inr, append_assoc}
use Rattle.std.specs.List.{flat_map, list_any}
use Rattle.std.proofs.lemmas.Bool.{cases_Bool}
use Rattle.std.proofs.lemmas.List.{map-append, map_push, take_more}
use Rattle.std.proofs.lemmas.List.Folds.{list_any_more, list_any_at}
use Rattle.fab_kinds.specs.declared.kind.Kind.{Kind}
use Rattle.fab_kinds.specs.declared.kind.Kind.TheVariants as kinds
use Rattle.fab_syntax.specs.Plain.{PlainModule}
use Rattle.fab_prim.specs.Modules.{module_of_kind}
use Rattle.fab_gen_tile.proofs.Steps.{flat_last}

-- one place more, seen as another thing
pub seen_more : {X Y A : Type 0} (f : Y → List A) (g : X → Y) (xs : List X) (i : ℕ) (d : X) → i < length xs →
    flat_map f (map g (take (i + 1) xs)) ≡ flat_map f (map g (take i xs)) ++ f (g (get_or xs i d))
seen_more f g xs i d within =
    ap (flat_map f) (ap (map g) (take_more xs i d within) ∙ map-append g (take i xs) (get_or xs i d ∷ []))
    ∙ flat_last f (map g (take i xs)) (g (get_or xs i d))

pub map_seen_more : {X Y A : Type 0} (f : Y → A) (g : X → Y) (xs : List X) (i : ℕ) (d : X) → i < length xs →
    map f (map g (take (i + 1) xs)) ≡ map f (map g (take i xs)) ++ f (g (get_or xs i d)) ∷ []
map_seen_more f g xs i d within =
    ap (map f) (ap (map g) (take_more xs i d within) ∙ map-append g (take i xs) (get_or xs i d ∷ []))
    ∙ map-append f (map g (take i xs)) (g (get_or xs i d) ∷ [])

pub seen_twice : {X Y A : Type 0} (f : Y → A) (g : X → Y) (xs : List X) → map f (map g xs) ≡ map (λ x. f (g x)) xs
seen_twice f g [] = refl
seen_twice f g (x ∷ xs) = ap (λ more. f (g x) ∷ more) (seen_twice f g xs)

-- what was pushed, seen as another thing
pub pushed : {X Y : Type 0} (f : X → Y) (old new : List X) (x : X) (front : List Y) (y : Y) → new ≡ old ++ x ∷ [] → map f old ≡ front → f x ≡ y → map f new ≡ front ++ y ∷ []
pushed f old new x front y is so_far same = ap (map f) is ∙ map_push f old x ∙ (λ j. so_far j ++ same j ∷ [])

pub four_pushed : {X : Type 0} (old : List X) (a b c d : X) → (((old ++ a ∷ []) ++ b ∷ []) ++ c ∷ []) ++ d ∷ [] ≡ old ++ a ∷ b ∷ c ∷ d ∷ []
four_pushed old a b c d = simp append_assoc

-- whether one of the things seen passes a test
any_seen : {X Y : Type 0} (p : Y → Bool) (g : X → Y) (xs : List X) → list_any p (map g xs) ≡ list_any (λ x. p (g x)) xs
any_seen p g [] = refl
any_seen p g (x ∷ xs) = ap (λ b. p (g x) || b) (any_seen p g xs)

pub any_seen_more : {X Y : Type 0} (p : Y → Bool) (g : X → Y) (xs : List X) (i : ℕ) (d : X) → i < length xs →
    list_any p (map g (take (i + 1) xs)) ≡ (list_any p (map g (take i xs)) || p (g (get_or xs i d)))
any_seen_more p g xs i d within =
    any_seen p g (take (i + 1) xs) ∙ list_any_more (λ x. p (g x)) xs i d within ∙ ap (λ b. b || p (g (get_or xs i d))) (sym (any_seen p g (take i xs)))

pub any_seen_at : {X Y : Type 0} (p : Y → Bool) (g : X → Y) (xs : List X) (i : ℕ) (d : X) → i < length xs → p (g (get_or xs i d)) ≡ true → list_any p (map g xs) ≡ true
any_seen_at p g xs i d within passes = any_seen p g xs ∙ list_any_at (λ x. p (g x)) xs i d within passes

-- ---- kinds

abbrev pub primitive_if : Bool → Kind → List PlainModule
primitive_if used kind = cond used (module_of_kind kind ∷ []) []

three_kinds : (p : Kind → Bool) → primitive_if (p kinds.Lut4c) kinds.Lut4c ++ (primitive_if (p kinds.Io) kinds.Io ++ primitive_if (p kinds.Mux8) kinds.Mux8)
    ≡ map module_of_kind (filter p (kinds.Lut4c ∷ kinds.Io ∷ kinds.Mux8 ∷ []))
three_kinds p =
    elim (cases_Bool (p kinds.Lut4c)) [
      | inl a ↦ rw a (ap (λ ms. module_of_kind kinds.Lut4c ∷ ms) two)
      | inr a ↦ rw a two
    ]
  where
    one : primitive_if (p kinds.Mux8) kinds.Mux8 ≡ map module_of_kind (filter p (kinds.Mux8 ∷ []))
    one = elim (cases_Bool (p kinds.Mux8)) [
      | inl c ↦ rw c refl
      | inr c ↦ rw c refl
    ]

    two : primitive_if (p kinds.Io) kinds.Io ++ primitive_if (p kinds.Mux8) kinds.Mux8 ≡ map module_of_kind (filter p (kinds.Io ∷ kinds.Mux8 ∷ []))
    two = elim (cases_Bool (p kinds.Io)) [
      | inl b ↦ rw b (ap (λ ms. module_of_kind kinds.Io ∷ ms) one)
      | inr b ↦ rw b one
    ]

pub kinds_used : (p : Kind → Bool) (old : List PlainModule) →
    ((old ++ primitive_if (p kinds.Lut4c) kinds.Lut4c) ++ primitive_if (p kinds.Io) kinds.Io) ++ primitive_if (p kinds.Mux8) kinds.Mux8
    ≡ old ++ map module_of_kind (filter p (kinds.Lut4c ∷ kinds.Io ∷ kinds.Mux8 ∷ []))
kinds_used p old =
    append_assoc (old ++ primitive_if (p kinds.Lut4c) kinds.Lut4c) (primitive_if (p kinds.Io) kinds.Io) (primitive_if (p kinds.Mux8) kinds.Mux8)
    ∙ append_assoc old (primitive_if (p kinds.Lut4c) kinds.Lut4c) (primitive_if (p kinds.Io) kinds.Io ++ primitive_if (p kinds.Mux8) kinds.Mux8)
    ∙ ap (λ ms. old ++ ms) (three_kinds p)
