-- One more instance in a module.
use Rattle.std.proofs.Common.{◌≡◌, ◌⊎◌, ℕ, zero, suc, ◌+◌, ◌<◌, Bool, true, false, if◌then◌else◌, ◌||◌, List, [], ◌∷◌, ◌++◌, length, map, take, replicate, slice_get, All, Vec, Option, Some, None, refl, sym, ap, subst, ◌∙◌, inl, inr, arith}
use Rattle.std.proofs.lemmas.Bool.{cases_Bool}
use Rattle.std.proofs.lemmas.List.{length-append, map-append, take_at}
use Rattle.std.proofs.lemmas.List.Elements.{All-head, All-tail, All-contains}
use Rattle.std.proofs.lemmas.Option.{slice_get_within}
use Rattle.std.proofs.lemmas.Slice.Eq.{bytes_eq-Decides}
use Rattle.std.specs.List.{list_any}
use Rattle.std.specs.Map.{lookup}
use Rattle.std.specs.Option.{IsSomeAnd}
use Rattle.std.specs.Str.{bytes_eq}
use Rattle.indexmap.specs.IndexSet.{insert_key}
use Rattle.fab_syntax.specs.declared.tree.Port.{Port}
use Rattle.fab_syntax.specs.Plain.{PlainExpr, PlainJoin, PlainItem, wire, reg, assign, latch, clocked, instance, PlainModule}
use Rattle.fab_syntax.specs.Declarations.{module_named, one_if_same, times_driven, times_joined, times_joined_out, times_instance}
use Rattle.fab_syntax.specs.Sound.{JoinFits, IsJoinedOnce, InstanceFits}
use Rattle.fab_values.specs.Declarations.{Declaration, declarations, item_declarations, port_declaration, width}
use Rattle.fab_values.specs.declared.names.Role.TheVariants as roles
use Rattle.fab_equations.specs.Instances.{in_64_bits}
use Rattle.fab_equations.specs.Counting.{instances_count, count_or_none}
use Rattle.fab_equations.specs.Children.{Child, children, modules_before, instances_of_children}
use Rattle.fab_equations.specs.Tables.{firsts_from, InputsAreJoined, IsChildTable}
use Rattle.fab_equations.specs.inner.Building.{Spot, AreDriven, AreJoined, IsInstance, AreJoinedSoFar, IsItem, IsInside, IsBefore}
use Rattle.fab_equations.specs.declared.counts.Count.{Count}
use Rattle.fab_equations.specs.declared.tables.LocalDriver.{LocalDriver}
use Rattle.fab_equations.specs.declared.tables.ChildTable.{ChildTable}
use Rattle.fab_equations.specs.declared.tables.Table.{Table}
use Rattle.fab_equations.specs.declared.before.Before.{Before}
use Rattle.fab_equations.specs.declared.driving.Inside.{Inside}
use Rattle.fab_equations.proofs.Counted.{saturate_both}
use Rattle.fab_equations.proofs.ListPlaces.{at_place, stands_in}
use Rattle.fab_equations.proofs.DrivenNames.{driven_same, driven_append}
use Rattle.fab_equations.proofs.SoundModules.{IsBelow, below_is, declares_once, instances_fit, instances_once}

pub children-append : (xs ys : List PlainItem) → children (xs ++ ys) ≡ children xs ++ children ys
children-append [] ys = refl
children-append (wire shape name ∷ xs) ys = children-append xs ys
children-append (reg shape name ∷ xs) ys = children-append xs ys
children-append (assign target e ∷ xs) ys = children-append xs ys
children-append (latch target gate e ∷ xs) ys = children-append xs ys
children-append (clocked clock target e ∷ xs) ys = children-append xs ys
children-append (instance module_name name joins ∷ xs) ys = ap (λ cs. children (instance module_name name joins ∷ []) ++ cs) (children-append xs ys)

instances-append : (before : List PlainModule) (xs ys : List Child) → instances_of_children before (xs ++ ys) ≡ instances_of_children before xs + instances_of_children before ys
instances-append before [] ys = omega arith
instances-append before (x ∷ xs) ys = omega (arith, instances-append before xs ys)

pub firsts_length : (first : ℕ) (ds : List Declaration) → length (firsts_from first ds) ≡ length ds
firsts_length first [] = refl
firsts_length first (d ∷ ds) = ap suc (firsts_length (first + width d.shape) ds)

pub in_copies : {X : Type 0} (n k : ℕ) (x : X) → k < n → slice_get (replicate n x) k ≡ Some x
in_copies zero k x l = absurd (omega arith)
in_copies (suc n) zero x l = refl
in_copies (suc n) (suc k) x l = in_copies n k x (omega arith)

-- the last of a list, or one before
pub pushed_cases : {X : Type 0} (xs : List X) (x y : X) (k : ℕ) → slice_get (xs ++ x ∷ []) k ≡ Some y → (slice_get xs k ≡ Some y) ⊎ ((k ≡ length xs) × (x ≡ y))
pushed_cases [] x y zero at = inr (refl, cc)
pushed_cases [] x y (suc k) at = cc
pushed_cases (z ∷ xs) x y zero at = inl at
pushed_cases (z ∷ xs) x y (suc k) at = elim (pushed_cases xs x y k at) [ inl old ↦ inl old | inr last ↦ inr (ap suc last.0, last.1) ]

-- ---- names of instances

instance-append : (name : List ℕ) (xs ys : List PlainItem) → times_instance (xs ++ ys) name ≡ times_instance xs name + times_instance ys name
instance-append name [] ys = omega arith
instance-append name (wire shape other ∷ xs) ys = instance-append name xs ys
instance-append name (reg shape other ∷ xs) ys = instance-append name xs ys
instance-append name (assign target e ∷ xs) ys = instance-append name xs ys
instance-append name (latch target gate e ∷ xs) ys = instance-append name xs ys
instance-append name (clocked clock target e ∷ xs) ys = instance-append name xs ys
instance-append name (instance module_name other joins ∷ xs) ys = omega (arith, instance-append name xs ys)

none_named : (name : List ℕ) (items : List PlainItem) → times_instance items name ≡ 0 → list_any (bytes_eq name) (map (λ (child : Child). child.name) (children items)) ≡ false
none_named name [] none = refl
none_named name (wire shape other ∷ items) none = none_named name items none
none_named name (reg shape other ∷ items) none = none_named name items none
none_named name (assign target e ∷ items) none = none_named name items none
none_named name (latch target gate e ∷ items) none = none_named name items none
none_named name (clocked clock target e ∷ items) none = none_named name items none
none_named name (instance module_name other joins ∷ items) none =
    elim (cases_Bool (bytes_eq name other)) [
      | inl t ↦ (
          let back : bytes_eq other name ≡ true = (bytes_eq-Decides other name).1 (sym ((bytes_eq-Decides name other).0 t)) in
          let one : one_if_same other name ≡ 1 = rw back refl in absurd (omega arith))
      | inr f ↦ rw f (none_named name items (omega arith))
    ]

any_of_keys : {A : Type 0} (name : List ℕ) (keys : List (Vec ℕ A)) → list_any (λ key. bytes_eq name key.items) keys ≡ list_any (bytes_eq name) (map (λ key. key.items) keys)
any_of_keys name [] = refl
any_of_keys name (key ∷ keys) = ap (λ b. bytes_eq name key.items || b) (any_of_keys name keys)

-- a new name is put behind the others
pub names_step : {A : Type 0} (spot : Spot) (so_far : List PlainItem) (of name : List ℕ) (joins : List PlainJoin) (es : List PlainExpr) (old new : List (Vec ℕ A)) (key : Vec ℕ A) →
    IsItem spot so_far (instance of name joins) es → key.items ≡ name → new ≡ insert_key (λ a b. bytes_eq a.items b.items) old key →
    map (λ key. key.items) old ≡ map (λ (child : Child). child.name) (children so_far) →
    map (λ key. key.items) new ≡ map (λ (child : Child). child.name) (children (so_far ++ instance of name joins ∷ []))
names_step spot so_far of name joins es old new key item named inserts are =
    let count : times_instance spot.here.items name ≡ times_instance so_far name + times_instance (instance of name joins ∷ item.rest) name =
    ap (λ items. times_instance items name) item.parts ∙ instance-append name so_far (instance of name joins ∷ item.rest) in
    let itself : one_if_same name name ≡ 1 = (let t : bytes_eq name name ≡ true = (bytes_eq-Decides name name).1 refl in rw t refl) in
    let none : times_instance so_far name ≡ 0 = omega (arith, count, instances_once spot name, itself) in
    let absent : list_any (λ k. bytes_eq key.items k.items) old ≡ false =
    ap (λ n. list_any (λ (k : Vec ℕ _). bytes_eq n k.items) old) named ∙ any_of_keys name old ∙ ap (list_any (bytes_eq name)) are ∙ none_named name so_far none in
    let put : new ≡ old ++ key ∷ [] = inserts ∙ ap (λ b. if b then old else old ++ key ∷ []) absent in
    ap (map (λ k. k.items)) put ∙ map-append (λ k. k.items) old (key ∷ []) ∙ (λ j. are j ++ named j ∷ [])
    ∙ sym (map-append (λ (child : Child). child.name) (children so_far) (children (instance of name joins ∷ [])))
    ∙ ap (map (λ (child : Child). child.name)) (sym (children-append so_far (instance of name joins ∷ [])))

-- ---- the instance and its joins

abbrev pub child_of : (of name : List ℕ) → List PlainJoin → Child
child_of of name joins = record { module_name = of; name = name; joins = joins }

some_and : {X : Type 0} (o : Option X) (P : X → Type 0) (x : X) → o ≡ Some x → IsSomeAnd o P → P x
some_and o P x is holds = let h : IsSomeAnd (Some x) P = subst (λ p. IsSomeAnd p P) is holds in h

-- an input of the module below is joined once
input_joined : (joins : List PlainJoin) (ports : List Port) (items : List PlainItem) → All (IsJoinedOnce joins) ports → (number : ℕ) (d : Declaration) →
    slice_get (map port_declaration ports ++ item_declarations items) number ≡ Some d → d.role ≡ roles.Input → times_joined joins d.name ≡ 1
input_joined joins [] items once number d at input = no_item items number at
  where
    no_item : (items : List PlainItem) (number : ℕ) → slice_get (item_declarations items) number ≡ Some d → times_joined joins d.name ≡ 1
    no_item [] number at = cc
    no_item (wire shape name ∷ items) zero at =
        let x : Declaration = record { name = name; shape = shape; role = roles.Wire } in
        let same : x ≡ d = cc in let role : roles.Wire ≡ roles.Input = ap (λ (y : Declaration). y.role) same ∙ input in cc
    no_item (wire shape name ∷ items) (suc number) at = no_item items number at
    no_item (reg shape name ∷ items) zero at =
        let x : Declaration = record { name = name; shape = shape; role = roles.Reg } in
        let same : x ≡ d = cc in let role : roles.Reg ≡ roles.Input = ap (λ (y : Declaration). y.role) same ∙ input in cc
    no_item (reg shape name ∷ items) (suc number) at = no_item items number at
    no_item (assign target e ∷ items) number at = no_item items number at
    no_item (latch target gate e ∷ items) number at = no_item items number at
    no_item (clocked clock target e ∷ items) number at = no_item items number at
    no_item (instance module_name i js ∷ items) number at = no_item items number at
input_joined joins (p ∷ ports) items once zero d at input =
    let same : port_declaration p ≡ d = cc in
    let is_in : p.input ≡ true = in_role p (ap (λ (y : Declaration). y.role) same ∙ input) in
    subst (λ (y : Declaration). times_joined joins y.name ≡ 1) same ((All-head (IsJoinedOnce joins) p ports once).1 is_in)
  where
    in_role : (p : Port) → (port_declaration p).role ≡ roles.Input → p.input ≡ true
    in_role p role = by p.input role
      where
        by : (b : Bool) → (if b then roles.Input else roles.Output) ≡ roles.Input → b ≡ true
        by true e = refl
        by false e = cc
input_joined joins (p ∷ ports) items once (suc number) d at input = input_joined joins ports items (All-tail (IsJoinedOnce joins) p ports once) number d at input

module _ (spot : Spot) (so_far : List PlainItem) (of name : List ℕ) (joins : List PlainJoin) (es : List PlainExpr) (before : Before)
    (item : IsItem spot so_far (instance of name joins) es) (known : IsBefore spot.text spot.number before) (k : ℕ)
    (number : lookup (λ key. bytes_eq of key.items) before.numbers.entries ≡ Some k) where
  abbrev pub behind : List PlainModule
  behind = modules_before spot.text spot.number

  pub below_here : IsBelow spot.text (take spot.number spot.text) of k
  below_here = below_is spot.text spot.number of k spot.sound (sym (known.numbers of) ∙ number)

  own_fits : All (JoinFits spot.here below_here.below) joins × All (IsJoinedOnce joins) below_here.below.ports
  own_fits =
      some_and (module_named (take spot.number spot.text) of) (λ (below : PlainModule). All (JoinFits spot.here below) joins × All (IsJoinedOnce joins) below.ports) below_here.below below_here.named
      (All-contains (InstanceFits (take spot.number spot.text) spot.here) spot.here.items (instance of name joins) (instances_fit spot)
      (stands_in so_far (instance of name joins) item.rest spot.here.items item.parts))

  all_children : children so_far ++ child_of of name joins ∷ children item.rest ≡ children spot.here.items
  all_children = sym (ap children item.parts ∙ children-append so_far (instance of name joins ∷ item.rest))

  pub instance_here : (place : ℕ) → place ≡ length (children so_far) → IsInstance spot place (child_of of name joins) below_here.below
  instance_here place is = record {
    is = at_place (children so_far) (child_of of name joins) (children item.rest) (children spot.here.items) place all_children is;
    stands = below_here.stands;
    once = declares_once spot.text k below_here.below spot.sound below_here.at;
    fit = own_fits.0;
  }

  -- before the first join
  pub none_joined : (table : Table) (drivers : List LocalDriver) (inputs : List (Option ℕ)) (wide : ℕ) → slice_get before.tables.items k ≡ Some table →
      wide ≡ length table.firsts.items → inputs ≡ replicate wide None → AreDriven spot (times_driven spot.text so_far) drivers →
      AreJoinedSoFar spot so_far (child_of of name joins) below_here.below [] drivers inputs
  none_joined table drivers inputs wide at long unset are =
      let is = known.fit k below_here.below table below_here.at at in
      let many : wide ≡ length (declarations below_here.below) = long ∙ ap length is.firsts ∙ firsts_length 0 (declarations below_here.below) in
      record {
        drivers_are = driven_same spot (times_driven spot.text so_far) _ drivers (λ n. omega arith) are;
        inputs_are = λ number d there input.
            (None, ap (λ xs. slice_get xs number) unset ∙ in_copies wide number None (omega (arith, many, slice_get_within (declarations below_here.below) number d there)), inl refl);
      }

  pub names_below : (table : Table) → slice_get before.tables.items k ≡ Some table → table.names ≡ declarations below_here.below
  names_below table at = (known.fit k below_here.below table below_here.at at).names

  inputs_joined : (inputs : List (Option ℕ)) → AreJoined spot joins joins (declarations below_here.below) inputs → InputsAreJoined spot.text joins (declarations below_here.below) inputs
  inputs_joined inputs are number d at input =
      let told = are number d at input in
      let once : times_joined joins d.name ≡ 1 = input_joined joins below_here.below.ports below_here.below.items own_fits.1 number d at input in
      (told.0, told.1, elim told.2 [ inl unset ↦ absurd (omega (arith, unset, once)) | inr is ↦ is ])

  table_here : (table : ChildTable) (place : ℕ) → place ≡ length (children so_far) → table.«module» ≡ k →
      table.offset ≡ in_64_bits (1 + instances_of_children behind (children so_far)) → AreJoined spot joins joins (declarations below_here.below) table.inputs.items →
      IsChildTable spot.text behind (children spot.here.items) place table
  table_here table place is numbered offset inputs =
      let front : take place (children spot.here.items) ≡ children so_far =
      ap (take place) (sym all_children) ∙ take_at (children so_far) (child_of of name joins ∷ children item.rest) place (sym is) in
      record {
        child = child_of of name joins;
        below = below_here.below;
        is = (instance_here place is).is;
        stands = below_here.stands;
        numbered = ap (slice_get spot.text) numbered ∙ below_here.at;
        offset = offset ∙ ap (λ cs. in_64_bits (1 + instances_of_children behind cs)) (sym front);
        inputs = inputs_joined table.inputs.items inputs;
      }

  own_count : (instances : ℕ) → instances ≡ (count_or_none (lookup (λ key. bytes_eq of key.items) before.counts.entries)).instances → instances ≡ in_64_bits (instances_count behind of)
  own_count instances is = is ∙ ap (λ (count : Count). count.instances) (known.counts of)

  pub child_step : (inside new : Inside) (instances : ℕ) (table : ChildTable) → IsInside spot so_far inside →
      instances ≡ (count_or_none (lookup (λ key. bytes_eq of key.items) before.counts.entries)).instances →
      AreJoinedSoFar spot so_far (child_of of name joins) below_here.below joins new.drivers.items table.inputs.items →
      map (λ key. key.items) new.child_names.keys ≡ map (λ (child : Child). child.name) (children (so_far ++ instance of name joins ∷ [])) →
      new.next_offset ≡ in_64_bits (inside.next_offset + instances) → new.children.items ≡ inside.children.items ++ table ∷ [] →
      table.«module» ≡ k → table.offset ≡ inside.next_offset → IsInside spot (so_far ++ instance of name joins ∷ []) new
  child_step inside new instances table old count are names next pushed numbered offset =
      let own : children (so_far ++ instance of name joins ∷ []) ≡ children so_far ++ child_of of name joins ∷ [] = children-append so_far (instance of name joins ∷ []) in
      record {
        drivers = driven_same spot _ (times_driven spot.text (so_far ++ instance of name joins ∷ [])) new.drivers.items
            (λ n. ap (λ o. times_driven spot.text so_far n + times_joined_out o joins n) (sym below_here.stands) ∙ sym (driven_append spot.text so_far (instance of name joins) n)) are.drivers_are;
        child_names = names;
        offset = next ∙ (λ j. in_64_bits (old.offset j + own_count instances count j))
            ∙ saturate_both (1 + instances_of_children behind (children so_far)) (instances_count behind of)
            ∙ ap in_64_bits (let sum : (1 + instances_of_children behind (children so_far)) + instances_count behind of ≡ 1 + instances_of_children behind (children so_far ++ child_of of name joins ∷ []) =
            omega (arith, instances-append behind (children so_far) (child_of of name joins ∷ [])) in sum)
            ∙ ap (λ cs. in_64_bits (1 + instances_of_children behind cs)) (sym own);
        children_count = ap length pushed ∙ length-append inside.children.items (table ∷ []) ∙ ap (λ n. n + 1) old.children_count
            ∙ sym (length-append (children so_far) (child_of of name joins ∷ [])) ∙ ap length (sym own);
        children_fit = λ number child at.
            elim (pushed_cases inside.children.items table child number (ap (λ xs. slice_get xs number) (sym pushed) ∙ at)) [
              | inl earlier ↦ old.children_fit number child earlier
              | inr last ↦ subst (IsChildTable spot.text behind (children spot.here.items) number) last.1
                  (table_here table number (last.0 ∙ old.children_count) numbered (offset ∙ old.offset) are.inputs_are)
            ];
      }
