-- Input ports are those declared as inputs.
use Rattle.std.proofs.Common.{◌≡◌, ◌⊎◌, ℕ, zero, suc, ◌+◌, Bool, true, false, if◌then◌else◌, List, [], ◌∷◌, ◌++◌, map, All, slice_get, Some, refl, ap, subst, ◌∙◌, inl, inr}
use Rattle.std.proofs.lemmas.Bool.{cases_Bool}
use Rattle.std.proofs.lemmas.List.Elements.{All-head, All-tail}
use Rattle.std.specs.Str.{bytes_eq}
use Rattle.fab_syntax.specs.declared.tree.Port.{Port}
use Rattle.fab_syntax.specs.Plain.{PlainItem, wire, reg, assign, latch, clocked, instance, PlainModule}
use Rattle.fab_syntax.specs.Declarations.{is_input, times_driven}
use Rattle.fab_syntax.specs.Sound.{port_named, PortIsDriven, ItemIsDriven, DirectionFits}
use Rattle.fab_values.specs.Declarations.{Declaration, width, found_from, port_declaration, item_declarations}
use Rattle.fab_values.specs.declared.names.Local.{Local}
use Rattle.fab_values.specs.declared.names.Role.{Role}
use Rattle.fab_values.specs.declared.names.Role.TheVariants as roles
use Rattle.fab_equations.proofs.NamedOnce.{bytes_swap}

abbrev pub is_input_role : Role → Bool
is_input_role roles.Input = true
is_input_role _ = false

-- a name of a port is found with the role of the port
pub port_found : (first : ℕ) (ports : List Port) (more : List Declaration) (name : List ℕ) (port : Port) → port_named ports name ≡ Some port →
    (local : Local) × (found_from first (map port_declaration ports ++ more) name ≡ Some local) × (local.role ≡ (port_declaration port).role) × (is_input ports name ≡ port.input)
port_found first [] more name port e = cc
port_found first (p ∷ ports) more name port e =
    elim (cases_Bool (bytes_eq p.name name)) [
      | inl t ↦ (
          let s : bytes_eq name p.name ≡ true = bytes_swap name p.name ∙ t in
          let is : Some p ≡ Some port = rw t at e in
          let same : p ≡ port = cc in
          (record { first = first; shape = p.shape; role = (port_declaration p).role }, rw s refl, ap (λ (q : Port). (port_declaration q).role) same, rw t (ap (λ (q : Port). q.input) same)))
      | inr f ↦ (
          let s : bytes_eq name p.name ≡ false = bytes_swap name p.name ∙ f in
          let rest = port_found (first + width p.shape) ports more name port (rw f at e) in
          (rest.0, rw s rest.1, rest.2, rw f rest.3))
    ]

-- wires and registers are no inputs
item_role : (first : ℕ) (items : List PlainItem) (name : List ℕ) (local : Local) → found_from first (item_declarations items) name ≡ Some local → false ≡ is_input_role local.role
item_role first [] name local e = cc
item_role first (wire shape other ∷ items) name local e =
    elim (cases_Bool (bytes_eq name other)) [
      | inl t ↦ (let here : Local = record { first = first; shape = shape; role = roles.Wire } in
          let is : Some here ≡ Some local = rw t at e in let same : here ≡ local = cc in ap (λ (l : Local). is_input_role l.role) same)
      | inr f ↦ item_role (first + width shape) items name local (rw f at e)
    ]
item_role first (reg shape other ∷ items) name local e =
    elim (cases_Bool (bytes_eq name other)) [
      | inl t ↦ (let here : Local = record { first = first; shape = shape; role = roles.Reg } in
          let is : Some here ≡ Some local = rw t at e in let same : here ≡ local = cc in ap (λ (l : Local). is_input_role l.role) same)
      | inr f ↦ item_role (first + width shape) items name local (rw f at e)
    ]
item_role first (assign target e ∷ items) name local is = item_role first items name local is
item_role first (latch target gate e ∷ items) name local is = item_role first items name local is
item_role first (clocked clock target e ∷ items) name local is = item_role first items name local is
item_role first (instance module_name i joins ∷ items) name local is = item_role first items name local is

port_role : (port : Port) → port.input ≡ is_input_role (port_declaration port).role
port_role port = elim port.input as (λ b. b ≡ is_input_role (if b then roles.Input else roles.Output)) [ true ↦ refl | false ↦ refl ]

-- a declared name is an input port where it has that role
pub input_role : (first : ℕ) (ports : List Port) (items : List PlainItem) (name : List ℕ) (local : Local) →
    found_from first (map port_declaration ports ++ item_declarations items) name ≡ Some local → is_input ports name ≡ is_input_role local.role
input_role first [] items name local e = item_role first items name local e
input_role first (p ∷ ports) items name local e =
    elim (cases_Bool (bytes_eq p.name name)) [
      | inl t ↦ (
          let s : bytes_eq name p.name ≡ true = bytes_swap name p.name ∙ t in
          let here : Local = record { first = first; shape = p.shape; role = (port_declaration p).role } in
          let is : Some here ≡ Some local = rw s at e in
          let same : here ≡ local = cc in
          rw t (port_role p ∙ ap (λ (l : Local). is_input_role l.role) same))
      | inr f ↦ (
          let s : bytes_eq name p.name ≡ false = bytes_swap name p.name ∙ f in
          rw f (input_role (first + width p.shape) ports items name local (rw s at e)))
    ]

-- ---- what is declared is driven, or an input

direction : (text : List PlainModule) (m : PlainModule) (port : Port) → PortIsDriven text m port →
    (times_driven text m.items port.name ≡ 1) ⊎ ((port_declaration port).role ≡ roles.Input)
direction text m port fits = by port.input fits
  where
    by : (b : Bool) → DirectionFits text m b port.name → (times_driven text m.items port.name ≡ 1) ⊎ ((if b then roles.Input else roles.Output) ≡ roles.Input)
    by true fits = inr refl
    by false fits = inl fits.0

item_driven : (text : List PlainModule) (m : PlainModule) (items : List PlainItem) → All (ItemIsDriven text m) items → (number : ℕ) (d : Declaration) →
    slice_get (item_declarations items) number ≡ Some d → times_driven text m.items d.name ≡ 1
item_driven text m [] fit number d at = cc
item_driven text m (wire shape name ∷ items) fit zero d at =
    let x : Declaration = record { name = name; shape = shape; role = roles.Wire } in
    let same : x ≡ d = cc in
    subst (λ (y : Declaration). times_driven text m.items y.name ≡ 1) same (All-head (ItemIsDriven text m) (wire shape name) items fit).0
item_driven text m (wire shape name ∷ items) fit (suc number) d at = item_driven text m items (All-tail (ItemIsDriven text m) (wire shape name) items fit) number d at
item_driven text m (reg shape name ∷ items) fit zero d at =
    let x : Declaration = record { name = name; shape = shape; role = roles.Reg } in
    let same : x ≡ d = cc in
    subst (λ (y : Declaration). times_driven text m.items y.name ≡ 1) same (All-head (ItemIsDriven text m) (reg shape name) items fit).0
item_driven text m (reg shape name ∷ items) fit (suc number) d at = item_driven text m items (All-tail (ItemIsDriven text m) (reg shape name) items fit) number d at
item_driven text m (assign target e ∷ items) fit number d at = item_driven text m items (All-tail (ItemIsDriven text m) (assign target e) items fit) number d at
item_driven text m (latch target gate e ∷ items) fit number d at = item_driven text m items (All-tail (ItemIsDriven text m) (latch target gate e) items fit) number d at
item_driven text m (clocked clock target e ∷ items) fit number d at = item_driven text m items (All-tail (ItemIsDriven text m) (clocked clock target e) items fit) number d at
item_driven text m (instance module_name i joins ∷ items) fit number d at =
    item_driven text m items (All-tail (ItemIsDriven text m) (instance module_name i joins) items fit) number d at

pub driven_or_input : (text : List PlainModule) (m : PlainModule) (ports : List Port) (items : List PlainItem) → All (PortIsDriven text m) ports → All (ItemIsDriven text m) items →
    (number : ℕ) (d : Declaration) → slice_get (map port_declaration ports ++ item_declarations items) number ≡ Some d →
    (times_driven text m.items d.name ≡ 1) ⊎ (d.role ≡ roles.Input)
driven_or_input text m [] items ports_fit items_fit number d at = inl (item_driven text m items items_fit number d at)
driven_or_input text m (p ∷ ports) items ports_fit items_fit zero d at =
    let same : port_declaration p ≡ d = cc in
    subst (λ (y : Declaration). (times_driven text m.items y.name ≡ 1) ⊎ (y.role ≡ roles.Input)) same (direction text m p (All-head (PortIsDriven text m) p ports ports_fit))
driven_or_input text m (p ∷ ports) items ports_fit items_fit (suc number) d at =
    driven_or_input text m ports items (All-tail (PortIsDriven text m) p ports ports_fit) items_fit number d at
