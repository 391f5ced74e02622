-- A design of items is fine: each net is driven once, what is read is driven, and there are no clocks.
use Rattle.std.proofs.Common.{◌≡◌, ℕ, ◌+◌, ◌≤◌, ◌*◌, Bool, true, false, not, cond, List, [], ◌∷◌, ◌++◌, length, map, filter, None, nat_eq, refl, sym, ap, ◌∙◌, ◌⊎◌, inl, inr, arith}
use Rattle.std.specs.List.{AllByRecursion as Each, count_by, flat_map, list_any}
use Rattle.std.specs.Str.{bytes_eq}
use Rattle.std.proofs.lemmas.Bool.{cases_Bool, false≢true}
use Rattle.std.proofs.lemmas.List.{map-append}
use Rattle.fab_blif_models.specs.Words.{Word}
use Rattle.fab_lines.specs.Items.{is_among}
use Rattle.fab_blif.specs.Flat.{PlainNet}
use Rattle.fab_blif.specs.Design.{PlainDesign, PlainClock, design_of, nets_of}
use Rattle.fab_blif.specs.Judged.{is_of, EachHasOne, inner_drivers, input_ports, readers, is_driven, least, undriven_line}
use Rattle.fab_blif.specs.Clocks.{clock_uses, is_clock, first_use, named_faults, data_faults, clock_faults}
use Rattle.fab_blif.specs.Refusals.{IsFineDesign}
use Rattle.fab_blif.proofs.Below.{all_named, name_back, name_in}
use Rattle.fab_blif.proofs.Each.{each_joined}
use Rattle.fab_sample_laws.specs.Items.{Item, cover_outputs, latch_outputs}
use Rattle.fab_sample_laws.proofs.Sameness.{same_bytes, bytes_same, nat_same, same_nat, count_first, count_joined}
use Rattle.fab_sample_laws.proofs.PlacedItems.{plain, num, There, design, inner_words, inner_nets, port_nets, read_words, read_nets, no_clocks, model_placed, outputs_there, latches_there, ports_there, few_nets}

-- no name stands twice
abbrev pub IsOnce : List Word → Type 0
IsOnce names = (name : Word) → count_by (bytes_eq name) names ≤ 1

-- ---- counts

count_mapped : {X Y : Type 0} (p : Y → Bool) (f : X → Y) (xs : List X) → count_by p (map f xs) ≡ count_by (λ x. p (f x)) xs
count_mapped p f [] = refl
count_mapped p f (x ∷ xs) = count_first p (f x) (map f xs) ∙ ap (λ n. cond (p (f x)) 1 0 + n) (count_mapped p f xs) ∙ sym (count_first (λ y. p (f y)) x xs)

any_mapped : {X Y : Type 0} (p : Y → Bool) (f : X → Y) (xs : List X) → list_any p (map f xs) ≡ list_any (λ x. p (f x)) xs
any_mapped p f [] = refl
any_mapped p f (x ∷ xs) = elim (cases_Bool (p (f x))) [
  | inl t ↦ rw t refl
  | inr g ↦ rw g (any_mapped p f xs)
]

at_most_one : (b : Bool) → cond {A = ℕ} b 1 0 ≤ 1
at_most_one true = omega arith
at_most_one false = omega arith

-- what stands for one where some pass
one_if_any : {X : Type 0} (p : X → Bool) (xs : List X) → cond (list_any p xs) 1 0 ≤ count_by p xs
one_if_any p [] = omega arith
one_if_any p (x ∷ xs) = elim (cases_Bool (p x)) [
  | inl t ↦ omega (arith, count_first p x xs, ap (λ (b : Bool). cond {A = ℕ} b 1 0) t, at_most_one (list_any p (x ∷ xs)))
  | inr f ↦ (
      let same : list_any p (x ∷ xs) ≡ list_any p xs = rw f refl in
      omega (arith, count_first p x xs, one_if_any p xs, ap (λ (b : Bool). cond {A = ℕ} b 1 0) f, ap (λ (b : Bool). cond {A = ℕ} b 1 0) same))
]

-- where all that pass have one name
count_under : (p : Word → Bool) (Q : Word → Type 0) (name : Word) → ((other : Word) → Q other → p other ≡ true → bytes_eq name other ≡ true)
    → (names : List Word) → Each Q names → count_by p names ≤ count_by (bytes_eq name) names
count_under p Q name one [] all = omega arith
count_under p Q name one (x ∷ names) all =
    let rest = count_under p Q name one names all.1 in
    let first = count_first p x names in
    let second = count_first (bytes_eq name) x names in
    elim (cases_Bool (p x)) [
      | inl t ↦ omega (arith, rest, first, second, ap (λ (b : Bool). cond {A = ℕ} b 1 0) t, ap (λ (b : Bool). cond {A = ℕ} b 1 0) (one x all.0 t))
      | inr f ↦ omega (arith, rest, first, second, ap (λ (b : Bool). cond {A = ℕ} b 1 0) f)
    ]

count_once : (p : Word → Bool) (Q : Word → Type 0) → ((name other : Word) → Q name → Q other → p name ≡ true → p other ≡ true → bytes_eq name other ≡ true)
    → (names : List Word) → Each Q names → IsOnce names → count_by p names ≤ 1
count_once p Q one names all once = elim (some_passes names all) [
  | inl none ↦ omega (arith, none)
  | inr some ↦ omega (arith, count_under p Q some.0 (λ other there is. one some.0 other some.1 there some.2 is) names all, once some.0)
]
  where
    some_passes : (xs : List Word) → Each Q xs → (count_by p xs ≤ 0) ⊎ ((name : Word) × Q name × (p name ≡ true))
    some_passes [] each = inl (omega arith)
    some_passes (x ∷ xs) each = elim (cases_Bool (p x)) [
      | inl t ↦ inr (x, each.0, t)
      | inr f ↦ elim (some_passes xs each.1) [
        | inl none ↦ inl (omega (arith, none, count_first p x xs, ap (λ (b : Bool). cond {A = ℕ} b 1 0) f))
        | inr some ↦ inr some
      ]
    ]

-- ---- numbers of names

pub num_one : (nets : List PlainNet) (a b : Word) → There nets a → There nets b → num nets a ≡ num nets b → a ≡ b
num_one nets a b here there same = sym (name_back nets (plain a) here) ∙ ap (name_in nets) same ∙ name_back nets (plain b) there

-- ---- a design of items

module _ (inputs outputs : List Word) (items : List Item) where
  abbrev pub nets : List PlainNet
  nets = nets_of (model_placed inputs outputs items)

  abbrev pub made : PlainDesign
  made = design nets inputs outputs items

  abbrev pub drive_words : List Word
  drive_words = inner_words nets inputs outputs items ++ inputs

  pub drive_there : Each (There nets) drive_words
  drive_there =
      let all = all_named (model_placed inputs outputs items) in
      each_joined (There nets) (flat_map cover_outputs items ++ flat_map latch_outputs items) inputs
      (each_joined (There nets) (flat_map cover_outputs items) (flat_map latch_outputs items) (outputs_there nets 4 items all.1.1) (latches_there nets 4 items all.1.1))
      (ports_there nets inputs all.0)

  -- each net has one driver
  pub one_driver : IsOnce drive_words → EachHasOne made
  one_driver once net =
      let p : Word → Bool = λ name. nat_eq net (num nets name) in
      let inner : count_by (is_of net) (inner_drivers made) ≡ count_by p (inner_words nets inputs outputs items) =
      sym (count_mapped (nat_eq net) (λ u. u.net) (inner_drivers made)) ∙ ap (count_by (nat_eq net)) (inner_nets nets inputs outputs items)
      ∙ count_mapped (nat_eq net) (num nets) (inner_words nets inputs outputs items) in
      let ports : count_by (is_of net) (input_ports made) ≡ count_by p inputs =
      sym (count_mapped (nat_eq net) (λ u. u.net) (input_ports made)) ∙ ap (count_by (nat_eq net)) (port_nets nets inputs outputs items)
      ∙ count_mapped (nat_eq net) (num nets) inputs in
      let both = count_joined p (inner_words nets inputs outputs items) inputs in
      let one = count_once p (There nets)
      (λ a b here there is also. bytes_same a b (num_one nets a b here there (sym (nat_same net (num nets a) is) ∙ nat_same net (num nets b) also))) drive_words drive_there once in
      omega (arith, inner, ports, both, one, one_if_any (is_of net) (input_ports made))

  -- ---- what is read is driven

  abbrev is_driven_word : Word → Bool
  is_driven_word name = is_among drive_words name

  driven_of : (name : Word) → is_driven_word name ≡ true → is_driven made (num nets name) ≡ true
  driven_of name among =
      let joined : map (λ u. u.net) (inner_drivers made ++ input_ports made) ≡ map (num nets) drive_words =
      map-append (λ u. u.net) (inner_drivers made) (input_ports made)
      ∙ (λ j. inner_nets nets inputs outputs items j ++ port_nets nets inputs outputs items j)
      ∙ words_both (inner_words nets inputs outputs items) inputs in
      sym (any_mapped (nat_eq (num nets name)) (λ u. u.net) (inner_drivers made ++ input_ports made))
      ∙ ap (list_any (nat_eq (num nets name))) joined
      ∙ any_mapped (nat_eq (num nets name)) (num nets) drive_words
      ∙ found drive_words among
    where
      words_both : (xs ys : List Word) → map (num nets) xs ++ map (num nets) ys ≡ map (num nets) (xs ++ ys)
      words_both [] ys = refl
      words_both (x ∷ xs) ys = ap (λ (l : List ℕ). num nets x ∷ l) (words_both xs ys)

      found : (names : List Word) → is_among names name ≡ true → list_any (λ other. nat_eq (num nets name) (num nets other)) names ≡ true
      found [] is = absurd (false≢true is)
      found (x ∷ names) is = elim (cases_Bool (bytes_eq name x)) [
        | inl t ↦ rw (same_nat (num nets name) (num nets x) (ap (num nets) (same_bytes name x t))) refl
        | inr f ↦ (
            let rest : is_among names name ≡ true = rw f at is in
            elim (cases_Bool (nat_eq (num nets name) (num nets x))) [
              | inl t ↦ rw t refl
              | inr g ↦ rw g (found names rest)
            ])
      ]

  none_left : {X : Type 0} (net_of : X → ℕ) (used : List X) (names : List Word) → map net_of used ≡ map (num nets) names → Each (λ name. is_driven_word name ≡ true) names
      → filter (λ u. not (is_driven made (net_of u))) used ≡ []
  none_left net_of [] names same all = refl
  none_left net_of (u ∷ used) [] same all = absurd cc
  none_left net_of (u ∷ used) (name ∷ names) same all =
      let here : net_of u ≡ num nets name = cc in
      let rest : map net_of used ≡ map (num nets) names = cc in
      let driven : is_driven made (net_of u) ≡ true = ap (is_driven made) here ∙ driven_of name all.0 in
      rw driven (none_left net_of used names rest all.1)

  pub all_driven : Each (λ name. is_driven_word name ≡ true) (read_words nets inputs outputs items) → undriven_line made ≡ None
  all_driven all =
      ap (λ l. least (map (λ u. u.line) l)) (none_left (λ u. u.net) (readers made) (read_words nets inputs outputs items) (read_nets nets inputs outputs items) all)

  -- ---- no clocks

  clocks_quiet : (told : PlainDesign) → told.clocks ≡ [] → clock_faults told ≡ []
  clocks_quiet told none =
      ap (λ (l : List PlainClock). named_faults (is_driven told) (is_clock told) (first_use (clock_uses told.nets told.clocks)) told.nets l ++ data_faults (is_clock told) (readers told ++ inner_drivers told)) none
      ∙ flat_none _ (λ u. rw (other u.net) refl) (readers told ++ inner_drivers told)
    where
      other : (net : ℕ) → is_clock told net ≡ false
      other net = ap (λ (l : List PlainClock). list_any (is_of net) (clock_uses told.nets l)) none

      flat_none : {X Y : Type 0} (f : X → List Y) → ((x : X) → f x ≡ []) → (xs : List X) → flat_map f xs ≡ []
      flat_none f none [] = refl
      flat_none f none (x ∷ xs) = (λ j. none x j ++ flat_none f none xs j)

  -- the whole design
  pub fine_design : IsOnce drive_words → Each (λ name. is_driven_word name ≡ true) (read_words nets inputs outputs items) → length inputs + length outputs + 4 * length items ≤ 16384
      → IsFineDesign (design_of (model_placed inputs outputs items))
  fine_design once driven few = record {
    once = one_driver once;
    driven = all_driven driven;
    small = (let most = few_nets inputs outputs items in omega (arith, most, few));
    clocks = clocks_quiet made (no_clocks nets inputs outputs items);
  }
