-- The declarations of a module in their order, and the bits and points that they have.
use Rattle.std.specs.Prelude.{ℕ, zero, suc, ◌+◌, Bool, List, [], ◌∷◌, ◌++◌, map, take, drop, position, Option, Some, None, if◌then◌else◌}
use Rattle.std.specs.List.{flat_map}
use Rattle.std.specs.Str.{bytes_eq}
use Rattle.fab_syntax.specs.declared.tree.Shape.{Shape}
use Rattle.fab_syntax.specs.declared.tree.Port.{Port}
use Rattle.fab_syntax.specs.Plain.{PlainItem, wire, reg, PlainModule}
pub use Rattle.fab_syntax.specs.Declarations.{width}
use Rattle.fab_meaning.specs.Points.{Path, Point, point}
use Rattle.fab_values.specs.declared.names.Role.{Role}
use Rattle.fab_values.specs.declared.names.Role.TheVariants as roles
use Rattle.fab_values.specs.declared.names.Local.{Local}

pub record Declaration : Type 0 where
  pub name : List ℕ
  pub shape : Shape
  pub role : Role

abbrev pub port_declaration : Port → Declaration
port_declaration port = record { name = port.name; shape = port.shape; role = if port.input then roles.Input else roles.Output }

abbrev pub item_declarations : List PlainItem → List Declaration
item_declarations [] = []
item_declarations (wire shape name ∷ items) = record { name = name; shape = shape; role = roles.Wire } ∷ item_declarations items
item_declarations (reg shape name ∷ items) = record { name = name; shape = shape; role = roles.Reg } ∷ item_declarations items
item_declarations (_ ∷ items) = item_declarations items

-- the declarations of a module: its ports, and then its wires and registers in the order of its items
abbrev pub declarations : PlainModule → List Declaration
declarations m = map port_declaration m.ports ++ item_declarations m.items

-- how many bits they have together
abbrev pub bits_of : List Declaration → ℕ
bits_of [] = 0
bits_of (d ∷ ds) = width d.shape + bits_of ds

-- where the bits of a name begin, if this many come before all of these, and how it is declared
abbrev pub found_from : (first : ℕ) → List Declaration → (name : List ℕ) → Option Local
found_from first [] name = None
found_from first (d ∷ ds) name =
    if bytes_eq name d.name then Some (record { first = first; shape = d.shape; role = d.role }) else found_from (first + width d.shape) ds name

abbrev pub found_in : List Declaration → (name : List ℕ) → Option Local
found_in ds name = found_from 0 ds name

-- the number of a name among declarations; none where it is not declared
abbrev pub number_of : List Declaration → (name : List ℕ) → Option ℕ
number_of ds name = position (λ d. bytes_eq name d.name) ds

-- the bits of a name among those of all declared names; none where it is not declared
abbrev pub bits_named : List Declaration → List Bool → (name : List ℕ) → List Bool
bits_named [] bits name = []
bits_named (d ∷ ds) bits name = if bytes_eq name d.name then take (width d.shape) bits else bits_named ds (drop (width d.shape) bits) name

-- ---- the points of an instance

-- the bits of a declared name
abbrev pub bits_from : (path : Path) (name : List ℕ) (count bit : ℕ) → List Point
bits_from path name zero bit = []
bits_from path name (suc count) bit = point path name bit ∷ bits_from path name count (suc bit)

-- the points of declarations, by declaration and then by bit
abbrev pub declared_points : Path → List Declaration → List Point
declared_points path ds = flat_map (λ d. bits_from path d.name (width d.shape) 0) ds

-- what the module that stands at a path declares
abbrev pub declared_at : Option PlainModule → List Declaration
declared_at None = []
declared_at (Some m) = declarations m
