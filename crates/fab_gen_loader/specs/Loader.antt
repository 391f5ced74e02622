-- The module of the loader, and when a module is a loader of so many rows.
use Rattle.std.specs.Prelude.{◌≡◌, ℕ, ◌<◌, Bool, true, false, List, [], ◌∷◌, ◌++◌, codes, decimal, slice_index_or, Some}
use Rattle.fab_bits.specs.Bits.{number, digits, first_bits}
use Rattle.fab_syntax.specs.declared.tree.Shape.{Shape}
use Rattle.fab_syntax.specs.declared.tree.Shape.TheVariants.{Scalar, Vector}
use Rattle.fab_syntax.specs.declared.tree.Port.{Port}
use Rattle.fab_syntax.specs.Plain.{PlainExpr, PlainItem, PlainModule, variable, reg, assign, clocked}
use Rattle.fab_prim.specs.fab_meaning.specs.Value.{value}
use Rattle.fab_prim.specs.fab_meaning.specs.Points.{Path, point, flop, Drives, module_at}
use Rattle.fab_prim.specs.fab_meaning.specs.Settled.{Assignment, names_at}
use Rattle.fab_prim.specs.fab_meaning.specs.Runs.{clock_name}
use Rattle.fab_prim.specs.fab_meaning.specs.Loading.{write_strobe_name, write_data_name}
use Rattle.fab_model.specs.Tiles.{counted}
use Rattle.fab_gen_loader.specs.Machine.{Machine, tick}

-- ---- names

abbrev pub loader_module_name : List ℕ
loader_module_name = codes "ConfigLoader"

abbrev pub address_port : List ℕ
address_port = codes "Address"

abbrev pub strobe_port : List ℕ
strobe_port = codes "Strobe"

-- the frame data of a row of tiles
abbrev pub row_port : (row : ℕ) → List ℕ
row_port row = codes "Row" ++ decimal row

-- the registers
abbrev pub state_name : List ℕ
state_name = codes "state"

abbrev pub count_name : List ℕ
count_name = codes "count"

abbrev pub address_register_name : List ℕ
address_register_name = codes "address"

abbrev pub strobe_register_name : List ℕ
strobe_register_name = codes "strobe"

abbrev pub row_register_name : (row : ℕ) → List ℕ
row_register_name row = codes "row" ++ decimal row

-- ---- ports and items

abbrev pub port : (input : Bool) → Shape → List ℕ → Port
port input shape name = record { input = input; shape = shape; name = name }

abbrev pub loader_ports : (rows : ℕ) → List Port
loader_ports rows =
    port true Scalar clock_name ∷ port true Scalar write_strobe_name ∷ port true (Vector 32) write_data_name
    ∷ port false (Vector 32) address_port ∷ port false Scalar strobe_port ∷ counted rows (λ row. port false (Vector 32) (row_port row))

abbrev pub registers : (rows : ℕ) → List PlainItem
registers rows =
    reg (Vector 2) state_name ∷ reg (Vector 5) count_name ∷ reg (Vector 32) address_register_name ∷ reg Scalar strobe_register_name
    ∷ counted rows (λ row. reg (Vector 32) (row_register_name row))

-- what each register takes at a tick
pub record NextValues : Type 0 where
  pub state : PlainExpr
  pub count : PlainExpr
  pub address : PlainExpr
  pub strobe : PlainExpr
  pub row : (row : ℕ) → PlainExpr

abbrev pub processes : (rows : ℕ) → NextValues → List PlainItem
processes rows next =
    clocked clock_name state_name next.state ∷ clocked clock_name count_name next.count
    ∷ clocked clock_name address_register_name next.address ∷ clocked clock_name strobe_register_name next.strobe
    ∷ counted rows (λ row. clocked clock_name (row_register_name row) (next.row row))

abbrev pub outputs : (rows : ℕ) → List PlainItem
outputs rows =
    assign address_port (variable address_register_name) ∷ assign strobe_port (variable strobe_register_name)
    ∷ counted rows (λ row. assign (row_port row) (variable (row_register_name row)))

abbrev pub loader_of : (rows : ℕ) → NextValues → PlainModule
loader_of rows next = record {
  name = loader_module_name;
  ports = loader_ports rows;
  items = registers rows ++ (processes rows next ++ outputs rows);
}

-- ---- the machine in a text

abbrev pub bits_at : Assignment → Path → List ℕ → (width : ℕ) → List Bool
bits_at now path name width = first_bits width (λ bit. now (point path name bit))

-- what the registers of the loader at a path show
abbrev pub machine_at : Assignment → Path → (rows : ℕ) → Machine
machine_at now path rows = record {
  state = number (bits_at now path state_name 2);
  count = number (bits_at now path count_name 5);
  address = bits_at now path address_register_name 32;
  strobe = now (point path strobe_register_name 0);
  rows = counted rows (λ row. bits_at now path (row_register_name row) 32);
}

-- the machine after a tick
abbrev pub machine_next : Assignment → Path → (rows : ℕ) → Machine
machine_next now path rows =
    tick rows (machine_at now path rows) (now (point path write_strobe_name 0)) (bits_at now path write_data_name 32)

-- a register is flip-flops of CLK that take these bits
pub record RegisterTakes (text : List PlainModule) (path : Path) (now : Assignment) (register : List ℕ) (bits : List Bool) : Type 0 where
  pub next : PlainExpr
  pub drives : (bit : ℕ) → Drives text (point path register bit) (flop path clock_name next bit)
  pub gives : value (names_at text now path) next ≡ bits

-- wherever the module stands, its registers take what the machine comes to
pub record TakesNext (rows : ℕ) (text : List PlainModule) (path : Path) (now : Assignment) : Type 0 where
  pub state : RegisterTakes text path now state_name (digits 2 (machine_next now path rows).state)
  pub count : RegisterTakes text path now count_name (digits 5 (machine_next now path rows).count)
  pub address : RegisterTakes text path now address_register_name (machine_next now path rows).address
  pub strobe : RegisterTakes text path now strobe_register_name ((machine_next now path rows).strobe ∷ [])
  pub each_row : (row : ℕ) → row < rows → RegisterTakes text path now (row_register_name row) (slice_index_or (machine_next now path rows).rows row [])

abbrev pub StepsAsTheMachine : (rows : ℕ) → PlainModule → Type 0
StepsAsTheMachine rows m = (text : List PlainModule) (path : Path) (now : Assignment) → module_at text path ≡ Some m → TakesNext rows text path now

-- A module is a loader of so many rows: its ports, registers and outputs are these, and whatever its expressions are, it steps as the machine.
pub record IsLoader (rows : ℕ) (m : PlainModule) : Type 0 where
  pub next : NextValues
  pub is : m ≡ loader_of rows next
  pub steps : StepsAsTheMachine rows m
