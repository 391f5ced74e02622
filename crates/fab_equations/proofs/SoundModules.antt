-- What soundness gives of a module by its number.
use Rattle.std.proofs.Common.{◌≡◌, ℕ, zero, suc, ◌+◌, ◌≤◌, true, if◌then◌else◌, List, [], ◌∷◌, ◌++◌, length, map, take, drop, reverse, All, slice_get, Option, Some, None, is_some, refl, sym, ap, subst, ◌∙◌, inl, inr, arith}
use Rattle.std.proofs.lemmas.Bool.{cases_Bool}
use Rattle.std.proofs.lemmas.List.{append_assoc, append-nil, reverse-append, reverse-reverse, length-reverse, take-append-drop}
use Rattle.std.proofs.lemmas.List.Folds.{find-append}
use Rattle.std.proofs.lemmas.Option.{slice_get_within, get_or_from_slice_get}
use Rattle.std.proofs.lemmas.Slice.Eq.{bytes_eq-Decides}
use Rattle.std.specs.List.{flat_map}
use Rattle.std.specs.Str.{bytes_eq}
use Rattle.std.specs.Option.{option_or}
use Rattle.fab_base.specs.declared.words.Reason.TheVariants.{NameTwice}
use Rattle.fab_syntax.specs.declared.tree.Port.{Port}
use Rattle.fab_syntax.specs.Plain.{PlainItem, wire, reg, assign, latch, clocked, instance, PlainModule}
use Rattle.fab_syntax.specs.Declarations.{module_named, one_if_same, times_instance}
use Rattle.fab_syntax.specs.Sound.{IsSound, Mention, net, item_mentions, mentions_in, refusals, text_refusals, InstanceFits, InstancesFitBehind, PortIsDriven, ItemIsDriven}
use Rattle.fab_syntax.proofs.SoundNames.{each_names_fit, times_declared, declared_once, instance_once}
use Rattle.fab_values.specs.Declarations.{declarations, item_declarations, port_declaration}
use Rattle.fab_equations.specs.Numbers.{number_named}
use Rattle.fab_equations.specs.Children.{modules_before}
use Rattle.fab_equations.specs.inner.Building.{times_among, DeclaresOnce, Spot}
use Rattle.fab_equations.proofs.NamedOnce.{times-append}
use Rattle.fab_equations.proofs.ListPlaces.{at_end, kept_in}

all_at : {X : Type 0} (P : X → Type 0) (xs : List X) (k : ℕ) (x : X) → All P xs → slice_get xs k ≡ Some x → P x
all_at P xs k x all at = subst P (get_or_from_slice_get xs k x x at) (all k x (slice_get_within xs k x at))

-- ---- names are declared once

declared-append : (name : List ℕ) (xs ys : List Mention) → times_declared name (xs ++ ys) ≡ times_declared name xs + times_declared name ys
declared-append name [] ys = omega arith
declared-append name (x ∷ xs) ys = omega (arith, declared-append name xs ys)

ports_count : (name : List ℕ) (ports : List Port) → times_among (map port_declaration ports) name ≡ times_declared name (map (λ (port : Port). net port.name) ports)
ports_count name [] = refl
ports_count name (port ∷ ports) = ap (λ n. one_if_same port.name name + n) (ports_count name ports)

items_count : (name : List ℕ) (items : List PlainItem) → times_among (item_declarations items) name ≤ times_declared name (flat_map item_mentions items)
items_count name [] = omega arith
items_count name (wire shape other ∷ items) = omega (arith, items_count name items)
items_count name (reg shape other ∷ items) = omega (arith, items_count name items)
items_count name (assign target e ∷ items) = omega (arith, items_count name items, declared-append name (item_mentions (assign target e)) (flat_map item_mentions items))
items_count name (latch target gate e ∷ items) = omega (arith, items_count name items, declared-append name (item_mentions (latch target gate e)) (flat_map item_mentions items))
items_count name (clocked clock target e ∷ items) = omega (arith, items_count name items, declared-append name (item_mentions (clocked clock target e)) (flat_map item_mentions items))
items_count name (instance module_name i joins ∷ items) =
    omega (arith, items_count name items, declared-append name (item_mentions (instance module_name i joins)) (flat_map item_mentions items))

once_in : (m : PlainModule) → refusals [] (mentions_in m) ≡ [] → DeclaresOnce (declarations m)
once_in m none name =
    omega (
      arith,
      declared_once name (mentions_in m) none,
      times-append (map port_declaration m.ports) (item_declarations m.items) name,
      ports_count name m.ports,
      items_count name m.items,
      declared-append name (map (λ (port : Port). net port.name) m.ports) (flat_map item_mentions m.items),
    )

names_fit : (text : List PlainModule) (number : ℕ) (m : PlainModule) → IsSound text → slice_get text number ≡ Some m → refusals [] (mentions_in m) ≡ []
names_fit text number m sound at = all_at (λ (n : PlainModule). refusals [] (mentions_in n) ≡ []) text number m (each_names_fit [] text sound.names) at

pub declares_once : (text : List PlainModule) (number : ℕ) (m : PlainModule) → IsSound text → slice_get text number ≡ Some m → DeclaresOnce (declarations m)
declares_once text number m sound at = once_in m (names_fit text number m sound at)

pub once_here : (spot : Spot) → DeclaresOnce (declarations spot.here)
once_here spot = declares_once spot.text spot.number spot.here spot.sound spot.stands

pub instances_once : (spot : Spot) (name : List ℕ) → times_instance spot.here.items name ≤ 1
instances_once spot name =
    instance_once name spot.here.ports spot.here.items (declared_once name (mentions_in spot.here) (names_fit spot.text spot.number spot.here spot.sound spot.stands))

-- ---- instances and drivers fit

fits_behind : (before rest : List PlainModule) → InstancesFitBehind before rest → (number : ℕ) (m : PlainModule) → slice_get rest number ≡ Some m →
    All (InstanceFits (before ++ take number rest) m) m.items
fits_behind before [] fit number m at = cc
fits_behind before (n ∷ rest) fit zero m at =
    let same : n ≡ m = cc in
    subst (λ (k : PlainModule). All (InstanceFits (before ++ []) k) k.items) same (subst (λ ms. All (InstanceFits ms n) n.items) (sym (append-nil before)) fit.0)
fits_behind before (n ∷ rest) fit (suc number) m at =
    subst (λ ms. All (InstanceFits ms m) m.items) (append_assoc before (n ∷ []) (take number rest)) (fits_behind (before ++ n ∷ []) rest fit.1 number m at)

pub instances_fit : (spot : Spot) → All (InstanceFits (take spot.number spot.text) spot.here) spot.here.items
instances_fit spot = fits_behind [] spot.text spot.sound.instances spot.number spot.here spot.stands

pub drivers_fit : (spot : Spot) → All (PortIsDriven spot.text spot.here) spot.here.ports × All (ItemIsDriven spot.text spot.here) spot.here.items
drivers_fit spot =
    all_at (λ (m : PlainModule). All (PortIsDriven spot.text m) m.ports × All (ItemIsDriven spot.text m) m.items) spot.text spot.number spot.here spot.sound.drivers spot.stands

-- ---- a module before another by its name

-- each has a name of its own, the latest first
abbrev pub AreNew : (before : List PlainModule) → Type 0
AreNew [] = Unit {0}
AreNew (m ∷ before) = (module_named before m.name ≡ None) × AreNew before

new_if : (o : Option PlainModule) → (if is_some o then NameTwice ∷ [] else []) ≡ [] → o ≡ None
new_if None e = refl
new_if (Some m) e = cc

front_empty : {X : Type 0} (xs ys : List X) → xs ++ ys ≡ [] → xs ≡ []
front_empty [] ys e = refl
front_empty (x ∷ xs) ys e = cc

back_empty : {X : Type 0} (xs ys : List X) → xs ++ ys ≡ [] → ys ≡ []
back_empty [] ys e = e
back_empty (x ∷ xs) ys e = cc

reverse_more : (m : PlainModule) (ms : List PlainModule) → reverse (m ∷ ms) ≡ reverse ms ++ m ∷ []
reverse_more m ms = reverse-append (m ∷ []) ms

new_behind : (before rest : List PlainModule) → text_refusals before rest ≡ [] → AreNew before → (n : ℕ) → AreNew (reverse (take n rest) ++ before)
new_behind before rest none new zero = new
new_behind before [] none new (suc n) = new
new_behind before (m ∷ rest) none new (suc n) =
    let own : module_named before m.name ≡ None = new_if (module_named before m.name) (front_empty _ _ none) in
    let later : refusals [] (mentions_in m) ++ text_refusals (m ∷ before) rest ≡ [] = back_empty (if is_some (module_named before m.name) then NameTwice ∷ [] else []) _ none in
    subst AreNew (sym (ap (λ ms. ms ++ before) (reverse_more m (take n rest)) ∙ append_assoc (reverse (take n rest)) (m ∷ []) before))
    (new_behind (m ∷ before) rest (back_empty (refusals [] (mentions_in m)) _ later) (own, new) n)

none_reversed : (name : List ℕ) (before : List PlainModule) → module_named before name ≡ None → module_named (reverse before) name ≡ None
none_reversed name [] none = none
none_reversed name (m ∷ before) none =
    elim (cases_Bool (bytes_eq m.name name)) [
      | inl t ↦ (let is = rw t at none in cc)
      | inr f ↦ (
          let rest : module_named (reverse before) name ≡ None = none_reversed name before (rw f at none) in
          let last : module_named (m ∷ []) name ≡ None = rw f refl in
          ap (λ ms. module_named ms name) (reverse_more m before) ∙ find-append (λ (n : PlainModule). bytes_eq n.name name) (reverse before) (m ∷ [])
          ∙ (λ j. option_or (rest j) (last j)))
    ]

pub record IsBelow (text before : List PlainModule) (name : List ℕ) (k : ℕ) : Type 0 where
  pub below : PlainModule
  pub at : slice_get text k ≡ Some below
  pub named : module_named before name ≡ Some below
  pub stands : module_named text name ≡ Some below

found_number : (before : List PlainModule) (name : List ℕ) (k : ℕ) → AreNew before → number_named before name ≡ Some k →
    (below : PlainModule) × (slice_get (reverse before) k ≡ Some below) × (module_named (reverse before) name ≡ Some below)
found_number [] name k new is = cc
found_number (m ∷ before) name k new is =
    elim (cases_Bool (bytes_eq name m.name)) [
      | inl t ↦ (
          let same : name ≡ m.name = (bytes_eq-Decides name m.name).0 t in
          let back : bytes_eq m.name name ≡ true = (bytes_eq-Decides m.name name).1 (sym same) in
          let number : Some (length before) ≡ Some k = rw t at is in
          let place : k ≡ length (reverse before) = (let e : length before ≡ k = cc in sym e ∙ sym (length-reverse before)) in
          let none : module_named (reverse before) name ≡ None = none_reversed name before (ap (module_named before) same ∙ new.0) in
          let last : module_named (m ∷ []) name ≡ Some m = rw back refl in (
            m,
            (λ j. slice_get (reverse_more m before j) (place j)) ∙ at_end (reverse before) m [],
            ap (λ ms. module_named ms name) (reverse_more m before) ∙ find-append (λ (n : PlainModule). bytes_eq n.name name) (reverse before) (m ∷ [])
                ∙ (λ j. option_or (none j) (last j)),
          ))
      | inr f ↦ (
          let rest = found_number before name k new.1 (rw f at is) in (
            rest.0,
            ap (λ ms. slice_get ms k) (reverse_more m before) ∙ kept_in (reverse before) (m ∷ []) k rest.0 rest.1,
            ap (λ ms. module_named ms name) (reverse_more m before) ∙ find-append (λ (n : PlainModule). bytes_eq n.name name) (reverse before) (m ∷ [])
                ∙ ap (λ o. option_or o (module_named (m ∷ []) name)) rest.2,
          ))
    ]

-- a module of a number before another is the one of the whole text with its name
pub below_is : (text : List PlainModule) (number : ℕ) (name : List ℕ) (k : ℕ) → IsSound text → number_named (modules_before text number) name ≡ Some k →
    IsBelow text (take number text) name k
below_is text number name k sound is =
    let front = take number text in
    let new : AreNew (reverse front) = subst AreNew (append-nil (reverse front)) (new_behind [] text sound.names tt number) in
    let found = found_number (reverse front) name k new is in
    let same : reverse (reverse front) ≡ front = reverse-reverse front in
    let at : slice_get front k ≡ Some found.0 = ap (λ ms. slice_get ms k) (sym same) ∙ found.1 in
    let named : module_named front name ≡ Some found.0 = ap (λ ms. module_named ms name) (sym same) ∙ found.2 in
    let whole : text ≡ front ++ drop number text = sym (take-append-drop number text) in
    record {
      below = found.0;
      at = ap (λ ms. slice_get ms k) whole ∙ kept_in front (drop number text) k found.0 at;
      named = named;
      stands = ap (λ ms. module_named ms name) whole ∙ find-append (λ (n : PlainModule). bytes_eq n.name name) front (drop number text)
          ∙ ap (λ o. option_or o (module_named (drop number text) name)) named;
    }
