-- The words of the contracts inside the rules on instances, drivers and clocks: tests that a program can compute.
use Rattle.std.specs.Prelude.{ℕ, List, [], ◌∷◌, Option, Some, None, Bool, true, false, not, ◌&&◌, ◌||◌, nat_eq, nat_lt, nat_le, ◌++◌, if◌then◌else◌, slice_get}
use Rattle.std.specs.List.{list_all, list_any}
use Rattle.std.specs.Str.{bytes_eq}
use Rattle.std.specs.Borrow.{Bor}
use Rattle.fab_syntax.specs.declared.tree.Port.{Port}
use Rattle.fab_syntax.specs.Plain.{PlainExpr, PlainJoin, variable, PlainItem, wire, reg, assign, latch, clocked, instance, PlainModule}
use Rattle.fab_syntax.specs.Declarations.{module_named, width, is_input_of, times_driven, times_held, times_joined}
use Rattle.fab_syntax.specs.Sound.{expression_width, width_of_name}
use Rattle.fab_sound.specs.inner.Checks.{found, count_at, net_of}
use Rattle.indexmap.specs.IndexMap.{IndexMap}
use Rattle.fab_sound.specs.declared.tables.Declared.{Declared}
use Rattle.fab_sound.specs.declared.tables.Library.{Library}
use Rattle.fab_sound.specs.declared.tables.Declared.TheVariants.{Input, Output, Inner, Instance}

-- whether what is declared is an input
abbrev pub is_input_entry : Option Declared → Bool
is_input_entry (Some (Input shape)) = true
is_input_entry _ = false

-- ---- drivers, given how often each name is driven, and how often by a process

-- the name that a join drives, if it drives one
abbrev pub variable_name : Option PlainExpr → Option (List ℕ)
variable_name (Some (variable name)) = Some name
variable_name _ = None

abbrev pub join_drives : (below : Option PlainModule) → PlainJoin → Option (List ℕ)
join_drives below join = if is_input_of below join.port then None else variable_name join.to

abbrev pub is_driven_once : (driven held : List ℕ → ℕ) → (name : List ℕ) → (by_process : ℕ) → Bool
is_driven_once driven held name by_process = nat_eq (driven name) 1 && nat_eq (held name) by_process

abbrev pub port_is_driven : (driven held : List ℕ → ℕ) → Port → Bool
port_is_driven driven held port = if port.input then nat_eq (driven port.name) 0 else is_driven_once driven held port.name 0

abbrev pub item_is_driven : (driven held : List ℕ → ℕ) → PlainItem → Bool
item_is_driven driven held (wire shape name) = is_driven_once driven held name 0
item_is_driven driven held (reg shape name) = is_driven_once driven held name 1
item_is_driven driven held _ = true

abbrev pub module_is_driven : List PlainModule → PlainModule → Bool
module_is_driven text m =
    list_all (port_is_driven (times_driven text m.items) (times_held m.items)) m.ports
    && list_all (item_is_driven (times_driven text m.items) (times_held m.items)) m.items

-- ---- instances

-- whether what is joined fits a port so wide, given the widths of names
abbrev pub fits_port : (names : List ℕ → ℕ) → (input : Bool) → (wide : ℕ) → Option PlainExpr → Bool
fits_port names true wide (Some e) = nat_eq (expression_width names e) wide
fits_port names true wide None = false
fits_port names false wide None = true
fits_port names false wide (Some (variable name)) = nat_eq (names name) wide
fits_port names false wide (Some _) = false

-- the same of a port as its module declares it, if it does
abbrev pub fits_declared : (names : List ℕ → ℕ) → Option Declared → Option PlainExpr → Bool
fits_declared names (Some (Input shape)) to = fits_port names true (width shape) to
fits_declared names (Some (Output shape)) to = fits_port names false (width shape) to
fits_declared names (Some (Inner shape)) to = false
fits_declared names (Some Instance) to = false
fits_declared names None to = false

abbrev pub join_passes : PlainModule → (below : PlainModule) → PlainJoin → Bool
join_passes m below join = fits_declared (width_of_name m) (net_of below.ports below.items join.port) join.to

-- given how often each port is joined
abbrev pub is_joined_once : (counts : List ℕ → ℕ) → Port → Bool
is_joined_once counts port = if port.input then nat_eq (counts port.name) 1 else nat_le (counts port.name) 1

abbrev pub joins_pass : PlainModule → (below : Option PlainModule) → List PlainJoin → Bool
joins_pass m None joins = false
joins_pass m (Some below) joins = list_all (join_passes m below) joins && list_all (is_joined_once (times_joined joins)) below.ports

abbrev pub instance_passes : (before : List PlainModule) → PlainModule → PlainItem → Bool
instance_passes before m (wire shape name) = true
instance_passes before m (reg shape name) = true
instance_passes before m (assign target e) = true
instance_passes before m (latch target gate e) = true
instance_passes before m (clocked clock target e) = true
instance_passes before m (instance module_name i joins) = joins_pass m (module_named before module_name) joins

abbrev pub instances_pass : (before rest : List PlainModule) → Bool
instances_pass before [] = true
instances_pass before (m ∷ rest) = list_all (instance_passes before m) m.items && instances_pass (before ++ m ∷ []) rest

-- ---- clocks, given which ports of which modules serve as clocks, and which names are scalar inputs

-- whether a name is one of those that a map counts
abbrev pub is_counted : {S : Type 0} → IndexMap (Bor (List ℕ)) ℕ S → (name : List ℕ) → Bool
is_counted counts name = nat_lt 0 (count_at counts name)

-- the same, where there may be no map
abbrev pub is_counted_below : {S : Type 0} → Option (IndexMap (Bor (List ℕ)) ℕ S) → (name : List ℕ) → Bool
is_counted_below None name = false
is_counted_below (Some counts) name = is_counted counts name

-- the map of the module that stands at a place, if there is one
abbrev pub counts_at : {S : Type 0} → List (IndexMap (Bor (List ℕ)) ℕ S) → Option ℕ → Option (IndexMap (Bor (List ℕ)) ℕ S)
counts_at maps None = None
counts_at maps (Some place) = slice_get maps place

-- whether a port of the module of a name serves as a clock, by the maps of the first modules of a library
abbrev pub serves_in : {S : Type 0} → Library → List (IndexMap (Bor (List ℕ)) ℕ S) → (module_name port : List ℕ) → Bool
serves_in library maps module_name port = is_counted_below (counts_at maps (found library.numbers module_name)) port

abbrev pub is_variable : Option PlainExpr → (name : List ℕ) → Bool
is_variable (Some (variable other)) name = bytes_eq other name
is_variable _ name = false

-- whether a join makes a name a clock
abbrev pub join_serves : (serves : List ℕ → Bool) → (name : List ℕ) → PlainJoin → Bool
join_serves serves name join = serves join.port && is_variable join.to name

abbrev pub item_serves : (serves : (module_name port : List ℕ) → Bool) → (name : List ℕ) → PlainItem → Bool
item_serves serves name (wire shape other) = false
item_serves serves name (reg shape other) = false
item_serves serves name (assign target e) = false
item_serves serves name (latch target gate e) = false
item_serves serves name (clocked clock target e) = bytes_eq clock name
item_serves serves name (instance module_name i joins) = list_any (join_serves (serves module_name) name) joins

abbrev pub is_scalar_variable : (scalar : List ℕ → Bool) → Option PlainExpr → Bool
is_scalar_variable scalar (Some (variable name)) = scalar name
is_scalar_variable scalar _ = false

-- whether a scalar input is joined to a port, if that serves as a clock
abbrev pub join_clocks : (scalar serves : List ℕ → Bool) → PlainJoin → Bool
join_clocks scalar serves join = not (serves join.port) || is_scalar_variable scalar join.to

abbrev pub item_clocks : (scalar : List ℕ → Bool) → (serves : (module_name port : List ℕ) → Bool) → PlainItem → Bool
item_clocks scalar serves (wire shape name) = true
item_clocks scalar serves (reg shape name) = true
item_clocks scalar serves (assign target e) = true
item_clocks scalar serves (latch target gate e) = true
item_clocks scalar serves (clocked clock target e) = scalar clock
item_clocks scalar serves (instance module_name i joins) = list_all (join_clocks scalar (serves module_name)) joins
