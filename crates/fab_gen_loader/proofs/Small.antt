-- How large the module of a loader is.
use Rattle.std.proofs.Common.{◌≡◌, ℕ, zero, suc, ◌+◌, ◌-◌, ◌*◌, ◌<◌, ◌≤◌, List, [], ◌∷◌, ◌++◌, All, length, codes, sym, subst, arith, Bool, true, false}
use Rattle.std.proofs.lemmas.List.{length-append, append-nil}
use Rattle.std.proofs.lemmas.List.Elements.{All-nil, All-cons, All-append}
use Rattle.std.proofs.lemmas.Fmt.{length-decimal-le}
use Rattle.std.specs.Fmt.{decimal}
use Rattle.fab_syntax.specs.declared.tree.Shape.TheVariants.{Scalar, Vector}
use Rattle.fab_syntax.specs.declared.tree.Port.{Port}
use Rattle.fab_syntax.specs.Plain.{PlainItem, PlainModule, reg, assign, clocked, variable}
use Rattle.fab_syntax.specs.Spelling.{port_text, port_end, ports_text, item_text, items_text, module_text, clocked_head}
use Rattle.fab_prim.specs.fab_meaning.specs.Runs.{clock_name}
use Rattle.fab_prim.specs.fab_meaning.specs.Loading.{write_strobe_name, write_data_name}
use Rattle.fab_model.specs.Tiles.{counted}
use Rattle.fab_gen_loader.specs.Loader.{port, row_port, address_port, strobe_port, strobe_register_name, state_name, count_name, loader_ports, registers, processes, outputs, row_register_name, address_register_name}
use Rattle.fab_gen_loader.specs.Expressions.{next_state, next_count, next_address, next_strobe, next_row, next_values, loader_module}
use Rattle.fab_gen_loader.specs.Bounds.{IsShallow, IsSmall}

-- ---- depth

all_counted : {X : Type 0} (P : X → Type 0) (n : ℕ) (f : ℕ → X) → ((i : ℕ) → P (f i)) → All P (counted n f)
unfolding counted
all_counted P zero f each = All-nil P
all_counted P (suc n) f each = All-cons P (f 0) (counted n (λ i. f (suc i))) (each 0) (all_counted P n (λ i. f (suc i)) (λ i. each (suc i)))

four : {X : Type 0} (P : X → Type 0) (a b c d : X) (rest : List X) → P a → P b → P c → P d → All P rest → All P (a ∷ b ∷ c ∷ d ∷ rest)
four P a b c d rest first second third fourth others =
    All-cons P a (b ∷ c ∷ d ∷ rest) first (All-cons P b (c ∷ d ∷ rest) second (All-cons P c (d ∷ rest) third (All-cons P d rest fourth others)))

shallow_registers : (rows : ℕ) → All IsShallow (registers rows)
shallow_registers rows = four IsShallow _ _ _ _ _ tt tt tt tt (all_counted IsShallow rows (λ row. reg (Vector 32) (row_register_name row)) (λ row. tt))

shallow_processes : (rows : ℕ) → All IsShallow (processes rows (next_values rows))
shallow_processes rows =
    four IsShallow _ _ _ _ _ (omega arith) (omega arith) (omega arith) (omega arith)
    (all_counted IsShallow rows (λ row. clocked clock_name (row_register_name row) (next_row rows row)) (λ row. omega arith))

shallow_outputs : (rows : ℕ) → All IsShallow (outputs rows)
shallow_outputs rows =
    let f : ℕ → PlainItem = λ row. assign (row_port row) (variable (row_register_name row)) in
    let strobe = assign strobe_port (variable strobe_register_name) in
    All-cons IsShallow (assign address_port (variable address_register_name)) (strobe ∷ counted rows f) (omega arith)
    (All-cons IsShallow strobe (counted rows f) (omega arith) (all_counted IsShallow rows f (λ row. omega arith)))

shallow_items : (rows : ℕ) → All IsShallow (loader_module rows).items
shallow_items rows =
    All-append IsShallow (registers rows) (processes rows (next_values rows) ++ outputs rows) (shallow_registers rows)
    (All-append IsShallow (processes rows (next_values rows)) (outputs rows) (shallow_processes rows) (shallow_outputs rows))

-- ---- bytes

short_end : (ports : List Port) → length (port_end ports) ≤ 2
short_end [] = omega arith
short_end (port ∷ ports) = omega arith

-- one port more
short_port : (b : ℕ) (port : Port) (rest : List Port) → length (port_text port) + 4 ≤ b → length (ports_text (port ∷ rest)) ≤ b + length (ports_text rest)
short_port b port rest here =
    let end : length (port_end rest) ≤ 2 = short_end rest in
    let parts = length-append (port_text port) (port_end rest ++ ports_text rest) in
    let ends = length-append (port_end rest) (ports_text rest) in
    omega (arith, parts, ends, here, end)

-- the ports of rows, each short
short_ports : (n b : ℕ) (f : ℕ → Port) → ((i : ℕ) → i < n → length (port_text (f i)) + 4 ≤ b) → length (ports_text (counted n f)) ≤ n * b
unfolding counted
short_ports zero b f each = omega arith
short_ports (suc n) b f each =
    let rest : length (ports_text (counted n (λ i. f (suc i)))) ≤ n * b = short_ports n b (λ i. f (suc i)) (λ i within. each (suc i) (omega arith)) in
    let here = short_port b (f 0) (counted n (λ i. f (suc i))) (each 0 (omega arith)) in
    omega (arith, rest, here)

-- one item more
short_item : (b : ℕ) (item : PlainItem) (rest : List PlainItem) → length (item_text item) + 3 ≤ b → length (items_text (item ∷ rest)) ≤ b + length (items_text rest)
short_item b item rest here = let parts = length-append (item_text item) (10 ∷ items_text rest) in omega (arith, parts, here)

-- the items of rows, each short
short_rows : (n b : ℕ) (f : ℕ → PlainItem) (rest : List PlainItem) → ((i : ℕ) → i < n → length (item_text (f i)) + 3 ≤ b) →
    length (items_text (counted n f ++ rest)) ≤ n * b + length (items_text rest)
unfolding counted
short_rows zero b f rest each = omega arith
short_rows (suc n) b f rest each =
    let others : length (items_text (counted n (λ i. f (suc i)) ++ rest)) ≤ n * b + length (items_text rest) = short_rows n b (λ i. f (suc i)) rest (λ i within. each (suc i) (omega arith)) in
    let here = short_item b (f 0) (counted n (λ i. f (suc i)) ++ rest) (each 0 (omega arith)) in
    omega (arith, others, here)

-- a small number has at most two digits
two_digits : (n : ℕ) → n < 100 → length (decimal n) ≤ 2
two_digits n small = length-decimal-le 2 n (omega arith) small (omega arith)

row_port_short : (row : ℕ) → row < 31 → length (port_text (port false (Vector 32) (row_port row))) + 4 ≤ 100
row_port_short row small =
    let number = two_digits row (omega arith) in
    let high = two_digits 31 (omega arith) in
    simp length-append (omega (arith, number, high))

row_register_short : (row : ℕ) → row < 31 → length (item_text (reg (Vector 32) (row_register_name row))) + 3 ≤ 100
row_register_short row small =
    let number = two_digits row (omega arith) in
    let high = two_digits 31 (omega arith) in
    simp length-append (omega (arith, number, high))

row_output_short : (row : ℕ) → row < 31 → length (item_text (assign (row_port row) (variable (row_register_name row)))) + 3 ≤ 100
row_output_short row small =
    let number = two_digits row (omega arith) in
    simp length-append (omega (arith, number))

row_process_short : (rows row : ℕ) → row < 31 → length (item_text (clocked clock_name (row_register_name row) (next_row rows row))) + 3 ≤ 300
unfolding clocked_head
row_process_short rows row small =
    let number = two_digits row (omega arith) in
    let two = two_digits 2 (omega arith) in
    let five = two_digits 5 (omega arith) in
    simp length-append (omega (arith, number, two, five))

-- ---- the module

state_process_short : length (item_text (clocked clock_name state_name next_state)) + 3 ≤ 500
unfolding clocked_head
state_process_short =
    let bit = two_digits 20 (omega arith) in
    let two = two_digits 2 (omega arith) in
    let five = two_digits 5 (omega arith) in
    let whole = two_digits 32 (omega arith) in
    simp length-append (omega (arith, bit, two, five, whole))

count_process_short : (rows : ℕ) → length (item_text (clocked clock_name count_name (next_count rows))) + 3 ≤ 500
unfolding clocked_head
count_process_short rows =
    let bit = two_digits 20 (omega arith) in
    let two = two_digits 2 (omega arith) in
    let five = two_digits 5 (omega arith) in
    simp length-append (omega (arith, bit, two, five))

address_process_short : length (item_text (clocked clock_name address_register_name next_address)) + 3 ≤ 500
unfolding clocked_head
address_process_short =
    let bit = two_digits 20 (omega arith) in
    let two = two_digits 2 (omega arith) in
    simp length-append (omega (arith, bit, two))

strobe_process_short : length (item_text (clocked clock_name strobe_register_name next_strobe)) + 3 ≤ 500
unfolding clocked_head
strobe_process_short =
    let two = two_digits 2 (omega arith) in
    let five = two_digits 5 (omega arith) in
    simp length-append (omega (arith, two, five))

vector_short : (width : ℕ) (name : List ℕ) → 0 < width → width < 100 → length name ≤ 10 → length (item_text (reg (Vector width) name)) + 3 ≤ 100
vector_short width name some small short =
    let high = two_digits (width - 1) (omega arith) in
    simp length-append (omega (arith, high, short))

vector_port_short : (input : Bool) (name : List ℕ) → length name ≤ 20 → length (port_text (port input (Vector 32) name)) + 4 ≤ 100
vector_port_short true name short = let high = two_digits 31 (omega arith) in simp length-append (omega (arith, high, short))
vector_port_short false name short = let high = two_digits 31 (omega arith) in simp length-append (omega (arith, high, short))

four_items : (b n : ℕ) (first second third fourth : PlainItem) (rest : List PlainItem) → length (item_text first) + 3 ≤ b → length (item_text second) + 3 ≤ b →
    length (item_text third) + 3 ≤ b → length (item_text fourth) + 3 ≤ b → length (items_text rest) ≤ n →
    length (items_text (first ∷ second ∷ third ∷ fourth ∷ rest)) ≤ 4 * b + n
four_items b n first second third fourth rest one two three four others =
    omega (
      arith,
      short_item b first (second ∷ third ∷ fourth ∷ rest) one,
      short_item b second (third ∷ fourth ∷ rest) two,
      short_item b third (fourth ∷ rest) three,
      short_item b fourth rest four,
      others,
    )

module _ (rows : ℕ) (few : rows ≤ 31) where
  short_registers : (rest : List PlainItem) (n : ℕ) → length (items_text rest) ≤ n → length (items_text (registers rows ++ rest)) ≤ 3500 + n
  short_registers rest n short =
      let f : ℕ → PlainItem = λ row. reg (Vector 32) (row_register_name row) in
      let each = short_rows rows 100 f rest (λ row within. row_register_short row (omega arith)) in
      let strobe : length (item_text (reg Scalar strobe_register_name)) + 3 ≤ 100 = omega arith in
      let all =
      four_items 100 (3100 + n) (reg (Vector 2) state_name) (reg (Vector 5) count_name) (reg (Vector 32) address_register_name) (reg Scalar strobe_register_name) (counted rows f ++ rest)
      (vector_short 2 state_name (omega arith) (omega arith) (omega arith)) (vector_short 5 count_name (omega arith) (omega arith) (omega arith))
      (vector_short 32 address_register_name (omega arith) (omega arith) (omega arith)) strobe (omega (arith, each, short)) in
      omega (arith, all)

  short_processes : (rest : List PlainItem) (n : ℕ) → length (items_text rest) ≤ n → length (items_text (processes rows (next_values rows) ++ rest)) ≤ 11300 + n
  short_processes rest n short =
      let f : ℕ → PlainItem = λ row. clocked clock_name (row_register_name row) (next_row rows row) in
      let each = short_rows rows 300 f rest (λ row within. row_process_short rows row (omega arith)) in
      let all =
      four_items 500 (9300 + n) (clocked clock_name state_name next_state) (clocked clock_name count_name (next_count rows))
      (clocked clock_name address_register_name next_address) (clocked clock_name strobe_register_name next_strobe) (counted rows f ++ rest)
      state_process_short (count_process_short rows) address_process_short strobe_process_short (omega (arith, each, short)) in
      omega (arith, all)

  short_outputs : length (items_text (outputs rows)) ≤ 3300
  short_outputs =
      let f : ℕ → PlainItem = λ row. assign (row_port row) (variable (row_register_name row)) in
      let strobe = assign strobe_port (variable strobe_register_name) in
      let each : length (items_text (counted rows f)) ≤ rows * 100 + 0 = subst (λ items. length (items_text items) ≤ rows * 100 + 0) (append-nil (counted rows f)) (short_rows rows 100 f [] (λ row within. row_output_short row (omega arith))) in
      let first = short_item 100 (assign address_port (variable address_register_name)) (strobe ∷ counted rows f) (omega arith) in
      let second = short_item 100 strobe (counted rows f) (omega arith) in
      omega (arith, each, first, second)

  short_loader_ports : length (ports_text (loader_ports rows)) ≤ 3600
  short_loader_ports =
      let f : ℕ → Port = λ row. port false (Vector 32) (row_port row) in
      let strobe = port false Scalar strobe_port in
      let address = port false (Vector 32) address_port in
      let word = port true (Vector 32) write_data_name in
      let write = port true Scalar write_strobe_name in
      let each = short_ports rows 100 f (λ row within. row_port_short row (omega arith)) in
      let fifth = short_port 100 strobe (counted rows f) (omega arith) in
      let fourth = short_port 100 address (strobe ∷ counted rows f) (vector_port_short false address_port (omega arith)) in
      let third = short_port 100 word (address ∷ strobe ∷ counted rows f) (vector_port_short true write_data_name (omega arith)) in
      let second = short_port 100 write (word ∷ address ∷ strobe ∷ counted rows f) (omega arith) in
      let first = short_port 100 (port true Scalar clock_name) (write ∷ word ∷ address ∷ strobe ∷ counted rows f) (omega arith) in
      omega (arith, each, first, second, third, fourth, fifth)

  short_module : length (module_text (loader_module rows)) ≤ 65536
  short_module =
      let m = loader_module rows in
      let ports = short_loader_ports in
      let items : length (items_text m.items) ≤ 18100 =
      short_registers (processes rows (next_values rows) ++ outputs rows) 14600 (short_processes (outputs rows) 3300 short_outputs) in
      let behind = length-append (ports_text m.ports) (codes ");\n" ++ (items_text m.items ++ codes "endmodule\n")) in
      let last = length-append (items_text m.items) (codes "endmodule\n") in
      omega (arith, ports, items, behind, last)

pub is_small : (rows : ℕ) (m : PlainModule) → rows ≤ 31 → m ≡ loader_module rows → IsSmall m
is_small rows m few is = subst IsSmall (sym is) (record { shallow = shallow_items rows; short = short_module rows few })
