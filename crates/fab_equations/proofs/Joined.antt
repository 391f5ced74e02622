-- What is joined to an input: the table of the instance above tells it.
use Rattle.std.proofs.Common.{◌≡◌, ℕ, zero, suc, ◌+◌, ◌<◌, ◌≤◌, true, List, [], ◌∷◌, ◌++◌, length, map, slice_get, get_or, Option, Some, None, refl, sym, ap, subst, ◌∙◌, inl, inr, arith}
use Rattle.std.specs.Str.{bytes_eq}
use Rattle.std.proofs.lemmas.Bool.{cases_Bool}
use Rattle.std.proofs.lemmas.Option.{slice_get_within, slice_get_read}
use Rattle.std.proofs.lemmas.Slice.Eq.{bytes_eq-Decides}
use Rattle.fab_syntax.specs.Declarations.{is_input, module_named}
use Rattle.fab_syntax.specs.declared.tree.Port.{Port}
use Rattle.fab_syntax.specs.Plain.{PlainModule}
use Rattle.fab_syntax.specs.Sound.{IsSound}
use Rattle.fab_values.specs.fab_meaning.proofs.Counted.{counts_one}
use Rattle.fab_values.specs.fab_meaning.proofs.Dependence.{same_name}
use Rattle.fab_values.specs.Declarations.{Declaration, declarations, port_declaration}
use Rattle.fab_values.specs.declared.names.Role.TheVariants as roles
use Rattle.fab_equations.specs.Children.{Child, children}
use Rattle.fab_equations.specs.Instances.{Instance, instances}
use Rattle.fab_equations.specs.Numbering.{IsInstanceOfNumber, IsChildOf, offset_in}
use Rattle.fab_equations.specs.Tables.{IsJoined}
use Rattle.fab_equations.specs.Lookups.{IsHere, IsInput, IsJoinedAbove}
use Rattle.fab_equations.specs.declared.lookups.Here.{Here}
use Rattle.fab_equations.specs.declared.tables.ChildTable.{ChildTable}
use Rattle.fab_equations.proofs.Numbering.{same_value, instances_stand, children_follow}
use Rattle.fab_equations.proofs.Places.{times_named}
use Rattle.fab_equations.proofs.Points.{named_once}
use Rattle.fab_equations.proofs.Located.{declared_counts}

-- ---- an input is declared as one

input_role : (ports : List Port) (rest : List Declaration) (number : ℕ) (d : Declaration) → times_named (map port_declaration ports ++ rest) d.name ≤ 1 →
    is_input ports d.name ≡ true → slice_get (map port_declaration ports ++ rest) number ≡ Some d → d.role ≡ roles.Input
input_role [] rest number d once input e = cc
input_role (port ∷ ports) rest zero d once input e =
    let same : port_declaration port ≡ d = cc in
    let named : port.name ≡ d.name = ap (λ (x : Declaration). x.name) same in
    let first : bytes_eq port.name d.name ≡ true = subst (λ (n : List ℕ). bytes_eq port.name n ≡ true) named (same_name port.name) in
    let is : port.input ≡ true = rw first at input in
    sym (ap (λ (x : Declaration). x.role) same) ∙ rw is refl
input_role (port ∷ ports) rest (suc number) d once input e =
    elim (cases_Bool (bytes_eq port.name d.name)) [
      | inl t ↦ absurd (omega (arith, counts_one port.name d.name ((bytes_eq-Decides port.name d.name).0 t), declared_counts (map port_declaration ports ++ rest) number d e, once))
      | inr f ↦ (let later : is_input ports d.name ≡ true = rw f at input in
          input_role ports rest number d (omega (arith, once)) later e)
    ]

pub role_of_input : (text : List PlainModule) → IsSound text → (number declared : ℕ) (i : Instance) → IsInstanceOfNumber text number i → (d : Declaration) →
    slice_get (declarations i.here) declared ≡ Some d → is_input i.here.ports d.name ≡ true → d.role ≡ roles.Input
role_of_input text sound number declared i numbered d e input =
    let once = named_once text sound i.path i.here (instances_stand text sound number i numbered).0 in
    input_role i.here.ports _ declared d (once d.name) input e

-- ---- the table of the instance above

module _ (text : List PlainModule) (number declared : ℕ) (input : IsInput text number declared) (behind : 0 < number) (here : Here) (is : IsHere text number here) where
  pub above_within : here.placed.parent < length (instances text)
  above_within =
      let under = is.placed.under behind in
      slice_get_within (instances text) here.placed.parent under.above under.is

  module _ (up : Here) (above : IsHere text here.placed.parent up) where
    same_above : (is.placed.under behind).above ≡ above.placed.i
    same_above =
        let under = is.placed.under behind in
        same_value (slice_get (instances text) here.placed.parent) under.above above.placed.i under.is above.placed.is

    pub child_within : here.placed.child < length up.table.now.children.items
    child_within =
        omega (arith, (is.placed.under behind).within, above.table.children_count, ap (λ (i : Instance). length (children i.here.items)) same_above)

    -- what the table of the child says of the input
    pub record IsTold (table : ChildTable) : Type 0 where
      pub within : declared < length table.inputs.items
      pub child : IsChildOf text above.placed.i here.placed.child input.i
      pub joined : (to : Option ℕ) → to ≡ get_or table.inputs.items declared to → IsJoined text child.child.joins input.d.name to

    pub told : (table : ChildTable) → table ≡ get_or up.table.now.children.items here.placed.child table → IsTold table
    told table e =
        let i = above.placed.i in
        let under = is.placed.under behind in
        let tables = up.table.now.children.items in
        let at = slice_get_read tables (length tables) here.placed.child table refl child_within e in
        let t = above.table.children_fit here.placed.child table at in
        let follows = children_follow text is.sound here.placed.parent i above.placed.is here.placed.child (omega (arith, child_within, above.table.children_count)) in
        let place : number ≡ here.placed.parent + offset_in text i here.placed.child =
        under.follows ∙ ap (λ (x : Instance). here.placed.parent + offset_in text x here.placed.child) same_above in
        let same : follows.0 ≡ input.i =
        same_value (slice_get (instances text) number) follows.0 input.i (ap (slice_get (instances text)) place ∙ follows.1) input.is in
        let of : IsChildOf text i here.placed.child input.i = subst (IsChildOf text i here.placed.child) same follows.2 in
        let same_child : t.child ≡ of.child = same_value (slice_get (children i.here.items) here.placed.child) t.child of.child t.is of.is in
        let stands : module_named text of.child.module_name ≡ Some t.below = ap (λ (c : Child). module_named text c.module_name) (sym same_child) ∙ t.stands in
        let below : t.below ≡ input.i.here = same_value (module_named text of.child.module_name) t.below input.i.here stands of.of in
        let there : slice_get (declarations t.below) declared ≡ Some input.d = ap (λ (m : PlainModule). slice_get (declarations m) declared) below ∙ input.declares in
        let to = t.inputs declared input.d there input.role in
        record {
          within = slice_get_within table.inputs.items declared to.0 to.1;
          child = of;
          joined = λ o read.
              let has = slice_get_read table.inputs.items (length table.inputs.items) declared o refl (slice_get_within table.inputs.items declared to.0 to.1) read in
              let same_to : to.0 ≡ o = same_value (slice_get table.inputs.items declared) to.0 o to.1 has in
              subst (λ (x : Option ℕ). IsJoined text of.child.joins input.d.name x) same_to
              (subst (λ (c : Child). IsJoined text c.joins input.d.name to.0) same_child to.2);
        }

    pub joined_above : (table : ChildTable) → table ≡ get_or up.table.now.children.items here.placed.child table → (expr : ℕ) → Some expr ≡ get_or table.inputs.items declared (Some expr) →
        IsJoinedAbove text number declared (record { instance = here.placed.parent; expr = expr; bit = 0 })
    joined_above table e expr read =
        let t = told table e in
        record {
          sound = is.sound;
          input = input;
          less = omega (arith, (is.placed.under behind).follows);
          above = above.placed.i;
          above_is = above.placed.is;
          place = here.placed.child;
          child = t.child;
          joined = t.joined (Some expr) read;
        }

    pub not_none : (table : ChildTable) → table ≡ get_or up.table.now.children.items here.placed.child table → (to : Option ℕ) → to ≡ get_or table.inputs.items declared to → to ≡ None → ⊥
    not_none table e to read none =
        let joined = (told table e).joined to read in
        let some : Some joined.number ≡ None = sym joined.is ∙ none in
        cc
