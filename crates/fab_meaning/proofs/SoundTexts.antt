-- Sound texts drive each name once: from the rules on names, instances and drivers.
use Rattle.std.proofs.Common.{◌≡◌, ◌⊎◌, ℕ, zero, suc, ◌+◌, ◌<◌, ◌≤◌, Bool, true, false, List, [], ◌∷◌, ◌++◌, map, find, length, get_or, Option, Some, None, if◌then◌else◌, All, Contains, append_assoc, append-nil, refl, sym, ap, ◌∙◌, subst, inl, inr, arith}
use Rattle.std.specs.Option.{IsSomeAnd}
use Rattle.std.specs.Str.{bytes_eq}
use Rattle.std.proofs.lemmas.Bool.{cases_Bool, cases_lt}
use Rattle.std.proofs.lemmas.List.Folds.{find-append}
use Rattle.std.proofs.lemmas.List.Elements.{All-nil, All-cons, All-head, All-tail, All-weaker, All-contains}
use Rattle.std.proofs.lemmas.Slice.Eq.{bytes_eq-Decides}
use Rattle.fab_syntax.specs.declared.tree.Shape.{Shape}
use Rattle.fab_syntax.specs.declared.tree.Port.{Port}
use Rattle.fab_syntax.specs.Plain.{PlainExpr, PlainJoin, PlainItem, PlainModule, variable, wire, reg, assign, latch, clocked, instance}
use Rattle.fab_syntax.specs.Declarations.{module_named, width, declared_shape, item_shape, is_input, is_input_of, one_if_same, one_if_variable, times_joined_out, times_driven_by, times_driven, times_instance, times_joined}
use Rattle.fab_syntax.specs.Sound.{item_mentions, mentions_in, refusals, port_named, FitsPort, JoinFits, IsJoinedOnce, InstanceFits, InstancesFitBehind, IsAssignedOnce, DirectionFits, PortIsDriven, ItemIsDriven, DriversFit, IsSound}
use Rattle.fab_syntax.proofs.SoundNames.{each_names_fit, declared_once, instance_once, driven_has_shape}
use Rattle.fab_meaning.specs.Sound.{JoinsOnce, DrivesOnce}

-- a value that is there, with what holds of it
pub some_value : {X : Type 0} (o : Option X) (P : X → Type 0) → IsSomeAnd o P → (x : X) × (o ≡ Some x) × P x
some_value None P h = absurd h
some_value (Some x) P h = (x, refl, h)

-- one more in front
pub contains_later : {X : Type 0} (x y : X) (xs : List X) → Contains xs y → Contains (x ∷ xs) y
contains_later x y xs c = (suc c.0, omega arith, c.2)

pub contains_first : {X : Type 0} (x y : X) (xs : List X) → x ≡ y → Contains (x ∷ xs) y
contains_first x y xs e = (zero, omega arith, e)

pub same_names : (a b : List ℕ) → bytes_eq a b ≡ true → a ≡ b
same_names a b e = (bytes_eq-Decides a b).0 e

-- ---- names

-- a name that is no input and has a shape is driven once, and an input is not driven
module _ (text : List PlainModule) (m : PlainModule) (name : List ℕ) where
  input_undriven : (ports : List Port) → All (PortIsDriven text m) ports → is_input ports name ≡ true → times_driven text m.items name ≡ 0
  input_undriven [] all input = cc
  input_undriven (port ∷ ports) all input =
      elim (cases_Bool (bytes_eq port.name name)) [
        | inl y ↦ (let enters : port.input ≡ true = rw y at input in
            let none : DirectionFits text m true port.name =
            subst (λ (b : Bool). DirectionFits text m b port.name) enters (All-head (PortIsDriven text m) port ports all) in
            subst (λ (n : List ℕ). times_driven text m.items n ≡ 0) (same_names port.name name y) none)
        | inr n ↦ input_undriven ports (All-tail (PortIsDriven text m) port ports all) (rw n at input)
      ]

  item_driven : (items : List PlainItem) → All (ItemIsDriven text m) items → (shape : Shape) → item_shape items name ≡ Some shape → times_driven text m.items name ≡ 1
  item_driven [] all shape e = cc
  item_driven (wire wide other ∷ items) all shape e =
      elim (cases_Bool (bytes_eq other name)) [
        | inl y ↦ subst (λ (n : List ℕ). times_driven text m.items n ≡ 1) (same_names other name y) (All-head (ItemIsDriven text m) (wire wide other) items all).0
        | inr n ↦ item_driven items (All-tail (ItemIsDriven text m) (wire wide other) items all) shape (rw n at e)
      ]
  item_driven (reg wide other ∷ items) all shape e =
      elim (cases_Bool (bytes_eq other name)) [
        | inl y ↦ subst (λ (n : List ℕ). times_driven text m.items n ≡ 1) (same_names other name y) (All-head (ItemIsDriven text m) (reg wide other) items all).0
        | inr n ↦ item_driven items (All-tail (ItemIsDriven text m) (reg wide other) items all) shape (rw n at e)
      ]
  item_driven (assign target x ∷ items) all shape e = item_driven items (All-tail (ItemIsDriven text m) (assign target x) items all) shape e
  item_driven (latch target gate x ∷ items) all shape e = item_driven items (All-tail (ItemIsDriven text m) (latch target gate x) items all) shape e
  item_driven (clocked clock target x ∷ items) all shape e = item_driven items (All-tail (ItemIsDriven text m) (clocked clock target x) items all) shape e
  item_driven (instance of i joins ∷ items) all shape e = item_driven items (All-tail (ItemIsDriven text m) (instance of i joins) items all) shape e

  pub name_driven : (ports : List Port) → All (PortIsDriven text m) ports → All (ItemIsDriven text m) m.items →
      (shape : Shape) → declared_shape ports m.items name ≡ Some shape → is_input ports name ≡ false → times_driven text m.items name ≡ 1
  name_driven [] all items shape e input = item_driven m.items items shape e
  name_driven (port ∷ ports) all items shape e input =
      elim (cases_Bool (bytes_eq port.name name)) [
        | inl y ↦ (let leaves : port.input ≡ false = rw y at input in
            let once : IsAssignedOnce text m port.name =
            subst (λ (b : Bool). DirectionFits text m b port.name) leaves (All-head (PortIsDriven text m) port ports all) in
            subst (λ (n : List ℕ). times_driven text m.items n ≡ 1) (same_names port.name name y) once.0)
        | inr n ↦ name_driven ports (All-tail (PortIsDriven text m) port ports all) items shape (rw n at e) (rw n at input)
      ]

  at_most_once : refusals [] (mentions_in m) ≡ [] → All (PortIsDriven text m) m.ports → All (ItemIsDriven text m) m.items → times_driven text m.items name ≤ 1
  at_most_once none ports items =
      elim (cases_lt 0 (times_driven text m.items name)) [
        | inl y ↦ (let declared = driven_has_shape name text m none (omega arith) in
            elim (cases_Bool (is_input m.ports name)) [
              | inl input ↦ omega (arith, input_undriven m.ports ports input)
              | inr output ↦ omega (arith, name_driven m.ports ports items declared.0 declared.1 output)
            ])
        | inr n ↦ omega arith
      ]

-- ---- joins

pub port_holds : (Q : Port → Type 0) (ports : List Port) (name : List ℕ) (port : Port) → All Q ports → port_named ports name ≡ Some port → Q port × (port.name ≡ name)
port_holds Q [] name port all e = cc
port_holds Q (first ∷ ports) name port all e =
    elim (cases_Bool (bytes_eq first.name name)) [
      | inl y ↦ (let found : port_named (first ∷ ports) name ≡ Some first = rw y refl in
          let same : first ≡ port = cc in
          (subst Q same (All-head Q first ports all), sym (ap (λ (p : Port). p.name) same) ∙ same_names first.name name y))
      | inr n ↦ (let passed : port_named (first ∷ ports) name ≡ port_named ports name = rw n refl in
          port_holds Q ports name port (All-tail Q first ports all) (sym passed ∙ e))
    ]

joined_port : (m below : PlainModule) (joins : List PlainJoin) (name : List ℕ) → All (JoinFits m below) joins → 1 ≤ times_joined joins name →
    (port : Port) × (port_named below.ports name ≡ Some port)
joined_port m below [] name all h = absurd (omega arith)
joined_port m below (join ∷ joins) name all h =
    elim (cases_Bool (bytes_eq join.port name)) [
      | inl y ↦ (let found = some_value (port_named below.ports join.port) (λ (port : Port). FitsPort m port.input (width port.shape) join.to)
          (All-head (JoinFits m below) join joins all) in
          (found.0, subst (λ (n : List ℕ). port_named below.ports n ≡ Some found.0) (same_names join.port name y) found.1))
      | inr n ↦ (let later : 1 ≤ 0 + times_joined joins name = rw n at h in
          joined_port m below joins name (All-tail (JoinFits m below) join joins all) (omega arith))
    ]

joins_once : (m below : PlainModule) (joins : List PlainJoin) → All (JoinFits m below) joins → All (IsJoinedOnce joins) below.ports → (name : List ℕ) → times_joined joins name ≤ 1
joins_once m below joins fit once name =
    elim (cases_lt 0 (times_joined joins name)) [
      | inl y ↦ (let port = joined_port m below joins name fit (omega arith) in
          let holds = port_holds (IsJoinedOnce joins) below.ports name port.0 once port.1 in
          subst (λ (n : List ℕ). times_joined joins n ≤ 1) holds.1 holds.0.0)
      | inr n ↦ omega arith
    ]

item_joins_once : (before : List PlainModule) (m : PlainModule) (item : PlainItem) → InstanceFits before m item → JoinsOnce item
item_joins_once before m (wire shape other) h = tt
item_joins_once before m (reg shape other) h = tt
item_joins_once before m (assign target e) h = tt
item_joins_once before m (latch target gate e) h = tt
item_joins_once before m (clocked clock target e) h = tt
item_joins_once before m (instance of i joins) h =
    let below = some_value (module_named before of) (λ (below : PlainModule). All (JoinFits m below) joins × All (IsJoinedOnce joins) below.ports) h in
    joins_once m below.0 joins below.2.0 below.2.1

-- ---- an instance fits in the whole text as it fits behind the modules before it

named_longer : (before rest : List PlainModule) (name : List ℕ) (m : PlainModule) → module_named before name ≡ Some m → module_named (before ++ rest) name ≡ Some m
named_longer [] rest name m e = cc
named_longer (first ∷ before) rest name m e =
    elim (cases_Bool (bytes_eq first.name name)) [ inl y ↦ rw y (rw y at e) | inr n ↦ rw n (named_longer before rest name m (rw n at e)) ]

fits_longer : (before rest : List PlainModule) (m : PlainModule) (item : PlainItem) → InstanceFits before m item → InstanceFits (before ++ rest) m item
fits_longer before rest m (wire shape other) h = tt
fits_longer before rest m (reg shape other) h = tt
fits_longer before rest m (assign target e) h = tt
fits_longer before rest m (latch target gate e) h = tt
fits_longer before rest m (clocked clock target e) h = tt
fits_longer before rest m (instance of i joins) h =
    let Fits : PlainModule → Type 0 = λ below. All (JoinFits m below) joins × All (IsJoinedOnce joins) below.ports in
    let below = some_value (module_named before of) Fits h in
    subst (λ (o : Option PlainModule). IsSomeAnd o Fits) (sym (named_longer before rest of below.0 below.1)) below.2

instances_fit_from : (before rest : List PlainModule) → InstancesFitBehind before rest → All (λ m. All (InstanceFits (before ++ rest) m) m.items) rest
instances_fit_from before [] h = All-nil (λ m. All (InstanceFits (before ++ []) m) m.items)
instances_fit_from before (m ∷ rest) h =
    let whole : List PlainModule = before ++ m ∷ rest in
    let P : PlainModule → Type 0 = λ n. All (InstanceFits whole n) n.items in
    All-cons P m rest (All-weaker (InstanceFits before m) (InstanceFits whole m) (λ item f. fits_longer before (m ∷ rest) m item f) m.items h.0)
    (subst (λ (text : List PlainModule). All (λ n. All (InstanceFits text n) n.items) rest) (append_assoc before (m ∷ []) rest) (instances_fit_from (before ++ m ∷ []) rest h.1))

pub instances_fit : (text : List PlainModule) → InstancesFitBehind [] text → All (λ m. All (InstanceFits text m) m.items) text
instances_fit text h = instances_fit_from [] text h

-- ---- together

module_once : (text : List PlainModule) (m : PlainModule) → refusals [] (mentions_in m) ≡ [] → All (InstanceFits text m) m.items →
    All (PortIsDriven text m) m.ports × All (ItemIsDriven text m) m.items → DrivesOnce text m
module_once text m none instances drivers = record {
  inputs = λ name input. input_undriven text m name m.ports drivers.0 input;
  names = λ name. at_most_once text m name none drivers.0 drivers.1;
  instances = λ name. instance_once name m.ports m.items (declared_once name (mentions_in m) none);
  joins = All-weaker (InstanceFits text m) JoinsOnce (item_joins_once text m) m.items instances;
}

all_three : {X : Type 0} (P Q R S : X → Type 0) → ((x : X) → P x → Q x → R x → S x) → (xs : List X) → All P xs → All Q xs → All R xs → All S xs
all_three P Q R S step [] p q r = All-nil S
all_three P Q R S step (x ∷ xs) p q r =
    All-cons S x xs (step x (All-head P x xs p) (All-head Q x xs q) (All-head R x xs r))
    (all_three P Q R S step xs (All-tail P x xs p) (All-tail Q x xs q) (All-tail R x xs r))

pub sound_drives_once : (text : List PlainModule) → IsSound text → All (DrivesOnce text) text
sound_drives_once text sound =
    all_three (λ m. refusals [] (mentions_in m) ≡ []) (λ m. All (InstanceFits text m) m.items)
    (λ m. All (PortIsDriven text m) m.ports × All (ItemIsDriven text m) m.items) (DrivesOnce text) (module_once text) text
    (each_names_fit [] text sound.names) (instances_fit text sound.instances) sound.drivers
