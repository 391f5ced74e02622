-- What the modules of a text declare, and how often they drive it: look-ups and counts that a reader of a text can make.
-- Section numbers are those of IEEE 1364-2005.
use Rattle.std.specs.Prelude.{ℕ, ◌+◌, Bool, false, List, [], ◌∷◌, find, Option, Some, None, if◌then◌else◌}
use Rattle.std.specs.Str.{bytes_eq}
use Rattle.fab_syntax.specs.declared.tree.Shape.{Shape}
use Rattle.fab_syntax.specs.declared.tree.Shape.TheVariants.{Scalar, Vector}
use Rattle.fab_syntax.specs.declared.tree.Port.{Port}
use Rattle.fab_syntax.specs.Plain.{PlainExpr, variable, PlainJoin, PlainItem, wire, reg, assign, latch, clocked, instance, PlainModule}

abbrev pub module_named : List PlainModule → List ℕ → Option PlainModule
module_named text name = find (λ m. bytes_eq m.name name) text

-- ---- declarations (4.2, 4.3, 12.3.3)

abbrev pub width : Shape → ℕ
width Scalar = 1
width (Vector n) = n

abbrev pub item_shape : List PlainItem → List ℕ → Option Shape
item_shape [] name = None
item_shape (wire shape other ∷ items) name = if bytes_eq other name then Some shape else item_shape items name
item_shape (reg shape other ∷ items) name = if bytes_eq other name then Some shape else item_shape items name
item_shape (_ ∷ items) name = item_shape items name

-- with which shape a name is declared among ports and items
abbrev pub declared_shape : List Port → List PlainItem → List ℕ → Option Shape
declared_shape [] items name = item_shape items name
declared_shape (port ∷ ports) items name = if bytes_eq port.name name then Some port.shape else declared_shape ports items name

abbrev pub width_if_any : Option Shape → ℕ
width_if_any None = 0
width_if_any (Some shape) = width shape

abbrev pub declared_width : List Port → List PlainItem → List ℕ → ℕ
declared_width ports items name = width_if_any (declared_shape ports items name)

-- how many bits a name of a module has; 0 where the module does not declare it
abbrev pub width_in : Option PlainModule → List ℕ → ℕ
width_in None name = 0
width_in (Some m) name = declared_width m.ports m.items name

abbrev pub is_input : List Port → List ℕ → Bool
is_input [] name = false
is_input (port ∷ ports) name = if bytes_eq port.name name then port.input else is_input ports name

abbrev pub is_input_of : Option PlainModule → List ℕ → Bool
is_input_of None name = false
is_input_of (Some m) name = is_input m.ports name

-- ---- how often a name is driven, is joined or names an instance

abbrev pub one_if_same : (other name : List ℕ) → ℕ
one_if_same other name = if bytes_eq other name then 1 else 0

abbrev pub one_if_variable : Option PlainExpr → (name : List ℕ) → ℕ
one_if_variable (Some (variable other)) name = one_if_same other name
one_if_variable _ name = 0

-- how often the output ports among the joins of an instance drive a name
abbrev pub times_joined_out : Option PlainModule → List PlainJoin → (name : List ℕ) → ℕ
times_joined_out of [] name = 0
times_joined_out of (join ∷ joins) name = (if is_input_of of join.port then 0 else one_if_variable join.to name) + times_joined_out of joins name

-- how often an item drives a name of the module in which it stands
abbrev pub times_driven_by : List PlainModule → PlainItem → (name : List ℕ) → ℕ
times_driven_by text (wire shape other) name = 0
times_driven_by text (reg shape other) name = 0
times_driven_by text (assign target e) name = one_if_same target name
times_driven_by text (latch target gate e) name = one_if_same target name
times_driven_by text (clocked clock target e) name = one_if_same target name
times_driven_by text (instance module_name i joins) name = times_joined_out (module_named text module_name) joins name

abbrev pub times_driven : List PlainModule → List PlainItem → (name : List ℕ) → ℕ
times_driven text [] name = 0
times_driven text (item ∷ items) name = times_driven_by text item name + times_driven text items name

-- how often of these by a process, a latch or a flip-flop
abbrev pub times_held : List PlainItem → (name : List ℕ) → ℕ
times_held [] name = 0
times_held (latch target gate e ∷ items) name = one_if_same target name + times_held items name
times_held (clocked clock target e ∷ items) name = one_if_same target name + times_held items name
times_held (_ ∷ items) name = times_held items name

-- how often a name is the name of an instance
abbrev pub times_instance : List PlainItem → (name : List ℕ) → ℕ
times_instance [] name = 0
times_instance (instance module_name i joins ∷ items) name = one_if_same i name + times_instance items name
times_instance (_ ∷ items) name = times_instance items name

-- how often a port stands among joins
abbrev pub times_joined : List PlainJoin → (port : List ℕ) → ℕ
times_joined [] port = 0
times_joined (join ∷ joins) port = one_if_same join.port port + times_joined joins port
