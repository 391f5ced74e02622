-- The serial port as a module, and a top that joins it to the top of another text.
use Rattle.std.specs.Prelude.{◌≡◌, ◌≢◌, ℕ, Bool, true, false, not, ◌||◌, List, [], ◌∷◌, ◌++◌, map, filter, codes, All, option_to_list, Some, None}
use Rattle.std.specs.Str.{bytes_eq}
use Rattle.fab_bits.specs.Bits.{digits}
use Rattle.fab_syntax.specs.declared.tree.Shape.{Shape}
use Rattle.fab_syntax.specs.declared.tree.Shape.TheVariants.{Scalar, Vector}
use Rattle.fab_syntax.specs.declared.tree.Op.TheVariants.{And, Equal, Minus}
use Rattle.fab_syntax.specs.declared.tree.Port.{Port}
use Rattle.fab_syntax.specs.Plain.{PlainExpr, constant, variable, part, concatenation, none, more, operation, conditional, PlainJoin, PlainItem, PlainModule, wire, reg, assign, clocked, instance}
use Rattle.fab_syntax.specs.Declarations.{module_named, declared_shape, is_input}
use Rattle.fab_syntax.specs.Sound.{IsSound, ServesAsClock, IsScalarInput}
use Rattle.fab_meaning.specs.Points.{last_of}
use Rattle.fab_meaning.specs.Ports.{scalar}
use Rattle.fab_meaning.specs.Runs.{clock_name, user_clock_name}
use Rattle.fab_meaning.specs.Loading.{write_strobe_name, write_data_name}

-- ---- names

abbrev pub serial_module_name : List ℕ
serial_module_name = codes "SerialPort"

abbrev pub serial_top_name : List ℕ
serial_top_name = codes "eFPGA_serial"

abbrev pub fabric_top_name : List ℕ
fabric_top_name = codes "eFPGA"

-- the two instances in the new top
abbrev pub serial_instance_name : List ℕ
serial_instance_name = codes "fab_serial"

abbrev pub fabric_instance_name : List ℕ
fabric_instance_name = codes "fab_fabric"

-- the inputs that carry bits
abbrev pub serial_strobe_name : List ℕ
serial_strobe_name = codes "SerialStrobe"

abbrev pub serial_data_name : List ℕ
serial_data_name = codes "SerialData"

-- the registers of the port
abbrev pub word_name : List ℕ
word_name = codes "word"

abbrev pub count_name : List ℕ
count_name = codes "count"

abbrev pub full_name : List ℕ
full_name = codes "full"

-- ---- the port

-- a number of 5 bits
abbrev pub count_of : ℕ → PlainExpr
count_of n = constant (digits 5 n)

-- the word moved up by one place, with the bit that comes at place 0
abbrev pub moved_word : PlainExpr
moved_word = concatenation (more (part word_name 30 0) (more (variable serial_data_name) none))

-- SerialStrobe ? {word[30:0], SerialData} : word
abbrev pub next_word : PlainExpr
next_word = conditional (variable serial_strobe_name) moved_word (variable word_name)

-- The bits that are to come, modulo 32; a tick without a bit begins anew: SerialStrobe ? (count - 5'b00001) : 5'b00000
abbrev pub next_count : PlainExpr
next_count = conditional (variable serial_strobe_name) (operation Minus (variable count_name) (count_of 1)) (count_of 0)

-- The bit that comes is the last of its word: SerialStrobe & (count == 5'b00001)
abbrev pub next_full : PlainExpr
next_full = operation And (variable serial_strobe_name) (operation Equal (variable count_name) (count_of 1))

abbrev pub port_of : (input : Bool) → Shape → (name : List ℕ) → Port
port_of input shape name = record { input = input; shape = shape; name = name }

abbrev pub serial_module : PlainModule
serial_module = record {
  name = serial_module_name;
  ports = scalar true clock_name ∷ scalar true serial_strobe_name ∷ scalar true serial_data_name ∷ scalar false write_strobe_name ∷ port_of false (Vector 32) write_data_name ∷ [];
  items =
      reg (Vector 32) word_name ∷ reg (Vector 5) count_name ∷ reg Scalar full_name
      ∷ clocked clock_name word_name next_word ∷ clocked clock_name count_name next_count ∷ clocked clock_name full_name next_full
      ∷ assign write_strobe_name (variable full_name) ∷ assign write_data_name (variable word_name) ∷ [];
}

-- ---- the new top

-- a port that is joined to what has its own name
abbrev pub same_join : (name : List ℕ) → PlainJoin
same_join name = record { port = name; to = Some (variable name) }

-- whether a port of the top is one of the pads: none of its two clocks, and none of the two inputs that carry words
abbrev pub is_pad : Port → Bool
is_pad port = not (bytes_eq port.name clock_name || (bytes_eq port.name user_clock_name || (bytes_eq port.name write_strobe_name || bytes_eq port.name write_data_name)))

abbrev pub serial_ports : (ports : List Port) → List Port
serial_ports ports = scalar true clock_name ∷ scalar true user_clock_name ∷ scalar true serial_strobe_name ∷ scalar true serial_data_name ∷ filter is_pad ports

abbrev pub serial_joins : List PlainJoin
serial_joins = map same_join (clock_name ∷ serial_strobe_name ∷ serial_data_name ∷ write_strobe_name ∷ write_data_name ∷ [])

-- Two wires lead from the port to the fabric. All ports are joined by equal names.
abbrev pub serial_items : PlainModule → List PlainItem
serial_items top =
    wire Scalar write_strobe_name ∷ wire (Vector 32) write_data_name
    ∷ instance serial_module_name serial_instance_name serial_joins
    ∷ instance top.name fabric_instance_name (map (λ (port : Port). same_join port.name) top.ports) ∷ []

abbrev pub serial_top : PlainModule → PlainModule
serial_top top = record { name = serial_top_name; ports = serial_ports top.ports; items = serial_items top }

-- A text with a serial port in front of its top.
abbrev pub serial_text : List PlainModule → List PlainModule
serial_text text = text ++ (serial_module ∷ map serial_top (option_to_list (last_of text)))

-- ---- which texts can have one

-- a name that the new top gives away
abbrev pub IsFree : List ℕ → Type 0
IsFree name = (name ≢ serial_strobe_name) × (name ≢ serial_data_name) × (name ≢ serial_instance_name) × (name ≢ fabric_instance_name)

pub record CanHaveSerialPort (text : List PlainModule) : Type 0 where
  pub sound : IsSound text
  -- the names of both modules are free,
  pub no_port : module_named text serial_module_name ≡ None
  pub no_top : module_named text serial_top_name ≡ None
  -- the last module is the top of a fabric, with its clocks and the inputs that carry words,
  pub top : PlainModule
  pub top_is : last_of text ≡ Some top
  pub called : top.name ≡ fabric_top_name
  pub clock : IsScalarInput top clock_name
  pub user_clock : IsScalarInput top user_clock_name
  pub strobe : IsScalarInput top write_strobe_name
  pub no_clock : ServesAsClock text top write_strobe_name → ⊥
  pub word : (is_input top.ports write_data_name ≡ true) × (declared_shape top.ports top.items write_data_name ≡ Some (Vector 32))
  -- and of its ports none takes a name that the new top needs.
  pub free : All (λ (port : Port). IsFree port.name) top.ports
