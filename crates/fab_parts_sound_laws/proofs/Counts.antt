-- How often a name is driven: how often it stands in the list of the names that items drive.
use Rattle.std.proofs.Common.{◌≡◌, ◌≢◌, ℕ, zero, suc, ◌+◌, ◌<◌, Bool, true, false, List, [], ◌∷◌, ◌++◌, get_or, length, Option, Some, None, refl, sym, ap, ◌∙◌, arith, Contains, if◌then◌else◌}
use Rattle.std.specs.List.{flat_map}
use Rattle.std.specs.Str.{bytes_eq}
use Rattle.std.proofs.lemmas.List.Elements.{All-head, All-tail}
use Rattle.std.proofs.lemmas.Slice.Eq.{bytes_eq-Decides}
use Rattle.fab_syntax.specs.declared.tree.Port.{Port}
use Rattle.fab_syntax.specs.Plain.{PlainExpr, PlainJoin, PlainItem, PlainModule, variable, wire, reg, assign, latch, clocked, instance}
use Rattle.fab_syntax.specs.Declarations.{module_named, is_input_of, one_if_same, one_if_variable, times_joined_out, times_driven_by, times_driven, times_held}
use Rattle.fab_syntax.specs.Sound.{PortIsDriven, ItemIsDriven}
use Rattle.fab_tile_drives_laws.proofs.fab_meaning_Declared.{bytes_apart}
use Rattle.fab_parts_sound_laws.proofs.Lists.{pairs_head, pairs_tail}
use Rattle.fab_parts_sound_laws.proofs.Names.{Differ, AreApart, IsNoneOf}

-- ---- names that are driven

-- what an expression drives that is joined to an output
abbrev pub driven_name : Option PlainExpr → List (List ℕ)
driven_name (Some (variable name)) = name ∷ []
driven_name _ = []

-- the names that the output ports among the joins of an instance drive
abbrev pub joined_names : Option PlainModule → List PlainJoin → List (List ℕ)
joined_names of [] = []
joined_names of (join ∷ joins) = (if is_input_of of join.port then [] else driven_name join.to) ++ joined_names of joins

abbrev pub item_drives : List PlainModule → PlainItem → List (List ℕ)
item_drives text (wire shape name) = []
item_drives text (reg shape name) = []
item_drives text (assign target e) = target ∷ []
item_drives text (latch target gate e) = target ∷ []
item_drives text (clocked clock target e) = target ∷ []
item_drives text (instance module_name i joins) = joined_names (module_named text module_name) joins

abbrev pub driven_names : List PlainModule → List PlainItem → List (List ℕ)
driven_names text items = flat_map (item_drives text) items

-- those that a process drives
abbrev pub item_holds : PlainItem → List (List ℕ)
item_holds (latch target gate e) = target ∷ []
item_holds (clocked clock target e) = target ∷ []
item_holds _ = []

abbrev pub held_names : List PlainItem → List (List ℕ)
held_names items = flat_map item_holds items

-- ---- how often a name is among others

abbrev pub times : List (List ℕ) → (name : List ℕ) → ℕ
times [] name = 0
times (other ∷ names) name = one_if_same other name + times names name

one_same : (name : List ℕ) → one_if_same name name ≡ 1
one_same name = let same : bytes_eq name name ≡ true = (bytes_eq-Decides name name).1 refl in rw same refl

one_other : (other name : List ℕ) → other ≢ name → one_if_same other name ≡ 0
one_other other name differ = let apart : bytes_eq other name ≡ false = bytes_apart other name differ in rw apart refl

pub times_none : (names : List (List ℕ)) (name : List ℕ) → IsNoneOf names name → times names name ≡ 0
times_none [] name none = refl
times_none (other ∷ names) name none =
    let here : one_if_same other name ≡ 0 = one_other other name (All-head (λ o. o ≢ name) other names none) in
    let later : times names name ≡ 0 = times_none names name (All-tail (λ o. o ≢ name) other names none) in
    omega arith

once_at : (names : List (List ℕ)) (name : List ℕ) (k : ℕ) → AreApart names → k < length names → get_or names k name ≡ name → times names name ≡ 1
once_at [] name k apart within is = absurd (omega arith)
once_at (other ∷ names) name zero apart within is =
    let differ : IsNoneOf names name = λ k d few same. pairs_head Differ other names apart k d few (is ∙ sym same) in
    let here : one_if_same other name ≡ 1 = ap (λ o. one_if_same o name) is ∙ one_same name in
    let later : times names name ≡ 0 = times_none names name differ in
    omega arith
once_at (other ∷ names) name (suc k) apart within is =
    let few : k < length names = omega arith in
    let differ : other ≢ name = λ same. pairs_head Differ other names apart k name few (same ∙ sym is) in
    let here : one_if_same other name ≡ 0 = one_other other name differ in
    let later : times names name ≡ 1 = once_at names name k (pairs_tail Differ other names apart) few is in
    omega arith

pub times_once : (names : List (List ℕ)) (name : List ℕ) → AreApart names → Contains names name → times names name ≡ 1
times_once names name apart there = once_at names name there.0 apart there.1 there.2

times-append : (xs ys : List (List ℕ)) (name : List ℕ) → times (xs ++ ys) name ≡ times xs name + times ys name
times-append [] ys name = omega arith
times-append (x ∷ xs) ys name = omega (arith, times-append xs ys name)

-- ---- how often it is driven

joined_times : (input : Bool) (to : Option PlainExpr) (name : List ℕ) → (if input then 0 else one_if_variable to name) ≡ times (if input then [] else driven_name to) name
joined_times true to name = refl
joined_times false None name = refl
joined_times false (Some (variable other)) name = omega arith
joined_times false (Some _) name = refl

joins_times : (of : Option PlainModule) (joins : List PlainJoin) (name : List ℕ) → times_joined_out of joins name ≡ times (joined_names of joins) name
joins_times of [] name = refl
joins_times of (join ∷ joins) name =
    let here = joined_times (is_input_of of join.port) join.to name in
    let later = joins_times of joins name in
    omega (arith, here, later, times-append (if is_input_of of join.port then [] else driven_name join.to) (joined_names of joins) name)

item_times : (text : List PlainModule) (item : PlainItem) (name : List ℕ) → times_driven_by text item name ≡ times (item_drives text item) name
item_times text (wire shape other) name = refl
item_times text (reg shape other) name = refl
item_times text (assign target e) name = omega arith
item_times text (latch target gate e) name = omega arith
item_times text (clocked clock target e) name = omega arith
item_times text (instance module_name i joins) name = joins_times (module_named text module_name) joins name

pub driven_times : (text : List PlainModule) (items : List PlainItem) (name : List ℕ) → times_driven text items name ≡ times (driven_names text items) name
driven_times text [] name = refl
driven_times text (item ∷ items) name =
    omega (arith, item_times text item name, driven_times text items name, times-append (item_drives text item) (driven_names text items) name)

pub held_times : (items : List PlainItem) (name : List ℕ) → times_held items name ≡ times (held_names items) name
held_times [] name = refl
held_times (wire shape other ∷ items) name = held_times items name
held_times (reg shape other ∷ items) name = held_times items name
held_times (assign target e ∷ items) name = held_times items name
held_times (latch target gate e ∷ items) name = ap (λ n. one_if_same target name + n) (held_times items name)
held_times (clocked clock target e ∷ items) name = ap (λ n. one_if_same target name + n) (held_times items name)
held_times (instance module_name i joins ∷ items) name = held_times items name

-- ---- drivers of ports and items

-- what the drivers of a port have to be, by the names that are driven and those that are held
abbrev pub IsPortAmong : (driven held : List (List ℕ)) → (input : Bool) → List ℕ → Type 0
IsPortAmong driven held true name = IsNoneOf driven name
IsPortAmong driven held false name = Contains driven name × IsNoneOf held name

abbrev pub IsItemAmong : (driven held : List (List ℕ)) → PlainItem → Type 0
IsItemAmong driven held (wire shape name) = Contains driven name × IsNoneOf held name
IsItemAmong driven held (reg shape name) = Contains driven name × Contains held name
IsItemAmong driven held _ = Unit {0}

module _ (text : List PlainModule) (m : PlainModule) (driven : AreApart (driven_names text m.items)) where
  once : (name : List ℕ) → Contains (driven_names text m.items) name → times_driven text m.items name ≡ 1
  once name there = driven_times text m.items name ∙ times_once (driven_names text m.items) name driven there

  pub port_driven : (port : Port) → IsPortAmong (driven_names text m.items) (held_names m.items) port.input port.name → PortIsDriven text m port
  port_driven port among = by_direction port.input among
    where
      by_direction : (input : Bool) → IsPortAmong (driven_names text m.items) (held_names m.items) input port.name → PortIsDriven text m (record port { input = input })
      by_direction true among = driven_times text m.items port.name ∙ times_none (driven_names text m.items) port.name among
      by_direction false among = (once port.name among.0, held_times m.items port.name ∙ times_none (held_names m.items) port.name among.1)

  pub item_driven : AreApart (held_names m.items) → (item : PlainItem) → IsItemAmong (driven_names text m.items) (held_names m.items) item → ItemIsDriven text m item
  item_driven held (wire shape name) among = (once name among.0, held_times m.items name ∙ times_none (held_names m.items) name among.1)
  item_driven held (reg shape name) among = (once name among.0, held_times m.items name ∙ times_once (held_names m.items) name held among.1)
  item_driven held (assign target e) among = tt
  item_driven held (latch target gate e) among = tt
  item_driven held (clocked clock target e) among = tt
  item_driven held (instance module_name i joins) among = tt
