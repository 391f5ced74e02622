-- A text to which words can be carried has the two clocks.
use Rattle.std.proofs.Common.{◌≡◌, ◌≢◌, ◌+◌, ℕ, Bool, true, false, List, [], ◌∷◌, ◌++◌, map, Option, Some, None, if◌then◌else◌, sym, ap, ◌∙◌, refl, inl, inr, subst}
use Rattle.std.proofs.lemmas.Bool.{cases_Bool, false≢true}
use Rattle.std.specs.Str.{bytes_eq}
use Rattle.std.proofs.lemmas.Slice.Eq.{bytes_eq-Decides}
use Rattle.fab_syntax.specs.declared.tree.Port.{Port}
use Rattle.fab_syntax.specs.Plain.{PlainItem, PlainModule, wire, reg, assign, latch, clocked, instance}
use Rattle.fab_syntax.specs.Declarations.{is_input, is_input_of, width}
use Rattle.fab_meaning.proofs.Dependence.{same_name}
use Rattle.fab_meaning.specs.Points.{module_at}
use Rattle.fab_meaning.specs.Runs.{clock_name, user_clock_name}
use Rattle.fab_values.specs.Declarations.{declared_at, found_from, found_in, item_declarations, port_declaration}
use Rattle.fab_values.specs.declared.names.Local.{Local}
use Rattle.fab_values.specs.declared.names.Role.TheVariants as roles
use Rattle.fab_load_runs_laws.specs.Runs.{HasClocks}
use Rattle.fab_sim.specs.fab_state_points_Standing.{HasStream}

-- wires and registers are no inputs
item_is_none : (first : ℕ) (items : List PlainItem) (name : List ℕ) (local : Local) → found_from first (item_declarations items) name ≡ Some local → local.role ≡ roles.Input → ⊥
item_is_none first [] name local is input = absurd cc
item_is_none first (wire shape other ∷ items) name local is input = elim (cases_Bool (bytes_eq name other)) [
  | inl t ↦ let same = rw t at is in absurd cc
  | inr f ↦ item_is_none (first + width shape) items name local (rw f at is) input
]
item_is_none first (reg shape other ∷ items) name local is input = elim (cases_Bool (bytes_eq name other)) [
  | inl t ↦ let same = rw t at is in absurd cc
  | inr f ↦ item_is_none (first + width shape) items name local (rw f at is) input
]
item_is_none first (item ∷ items) name local is input = item_is_none first items name local is input

same_names : (a b : List ℕ) → bytes_eq a b ≡ true → bytes_eq b a ≡ true
same_names a b t = subst (λ x. bytes_eq x a ≡ true) ((bytes_eq-Decides a b).0 t) (same_name a)

other_names : (a b : List ℕ) → bytes_eq a b ≡ false → bytes_eq b a ≡ false
other_names a b f = elim (cases_Bool (bytes_eq b a)) [
  | inl t ↦ absurd (false≢true (sym f ∙ same_names b a t))
  | inr g ↦ g
]

-- what is declared as an input is one of the ports
port_is_input : (first : ℕ) (ports : List Port) (items : List PlainItem) (name : List ℕ) (local : Local) →
    found_from first (map port_declaration ports ++ item_declarations items) name ≡ Some local → local.role ≡ roles.Input → is_input ports name ≡ true
port_is_input first [] items name local is input = absurd (item_is_none first items name local is input)
port_is_input first (port ∷ ports) items name local is input = elim (cases_Bool (bytes_eq name port.name)) [
  | inl t ↦ elim (cases_Bool port.input) [
    | inl there ↦ rw (same_names name port.name t) there
    | inr none ↦ let same = rw (t, none) at is in absurd cc
  ]
  | inr f ↦ rw (other_names name port.name f) (port_is_input (first + width port.shape) ports items name local (rw f at is) input)
]

declared_is_input : (m : Option PlainModule) (name : List ℕ) (local : Local) → found_in (declared_at m) name ≡ Some local → local.role ≡ roles.Input → is_input_of m name ≡ true
declared_is_input None name local is input = absurd cc
declared_is_input (Some m) name local is input = port_is_input 0 m.ports m.items name local is input

pub stream_has_clocks : (text : List PlainModule) → HasStream text → HasClocks text
stream_has_clocks text has = record {
  loader_clock = declared_is_input (module_at text []) clock_name has.loader.local has.loader.is has.loader.role_is;
  user_clock = declared_is_input (module_at text []) user_clock_name has.user.local has.user.is has.user.role_is;
}
