-- The loaders that the generator writes are printable.
use Rattle.std.proofs.Common.{ℕ, ◌-◌, [], ◌++◌, refl, codes, lit<, lit≤, false, All}
use Rattle.std.proofs.lemmas.List.Elements.{All-append, All-cons, All-nil}
use Rattle.fab_syntax.specs.declared.tree.Port.{Port}
use Rattle.fab_syntax.specs.declared.tree.Shape.TheVariants.{Vector}
use Rattle.fab_syntax.specs.Plain.{PlainItem, variable, reg, assign, clocked}
use Rattle.fab_model.specs.declared.mode.Mode.{Mode}
use Rattle.fab_model.specs.declared.mode.Mode.TheVariants as modes
use Rattle.fab_model.specs.Tiles.{counted}
use Rattle.fab_meaning.specs.Runs.{clock_name}
use Rattle.fab_meaning.specs.Loading.{write_data_name}
use Rattle.fab_gen_loader.specs.Loader.{address_port, count_name, loader_ports, outputs, port, processes, registers, row_port, state_name, strobe_port, strobe_register_name, address_register_name, row_register_name}
use Rattle.fab_gen_loader.specs.Expressions.{both, loader_module, next_address, next_count, next_row, next_state, next_strobe, next_values, rows_left, takes_in}
use Rattle.fab_drives_laws.specs.fab_fabric_text_defs_Texts.{loaders_of}
use Rattle.fab_grammar_defs.specs.Printable.{IsItem, IsModule, IsPrintable}
use Rattle.fab_tile_drives_laws.proofs.Endings.{all_counted}
use Rattle.fab_tokens.specs.Tokens.{IsIdentifier, keyword_of}
use Rattle.fab_text_reads_laws.proofs.Each.{IsPort, ports_of, items_of, all_ports, all_items}
use Rattle.fab_text_reads_laws.proofs.Tested.{name_of, tested_item, written_of}
use Rattle.fab_text_reads_laws.proofs.TileWords.{numbered_name}

row_port_named : (row : ℕ) → IsIdentifier (row_port row)
row_port_named row = numbered_name (codes "Row") row refl refl

row_named : (row : ℕ) → IsIdentifier (row_register_name row)
row_named row = numbered_name (codes "row") row refl refl

-- ---- ports

ports_all : (rows : ℕ) → All IsPort (loader_ports rows)
unfolding keyword_of
ports_all rows =
    let each : ℕ → Port = λ (row : ℕ). port false (Vector 32) (row_port row) in
    all_ports (loader_ports rows) (
      (tt, name_of (codes "CLK") refl),
      (
        (tt, name_of (codes "WriteStrobe") refl),
        (
          ((lit< tt, lit≤ tt), name_of (codes "WriteData") refl),
          (
            ((lit< tt, lit≤ tt), name_of (codes "Address") refl),
            ((tt, name_of (codes "Strobe") refl), ports_of (counted rows each) (all_counted IsPort rows each (λ row few. ((lit< tt, lit≤ tt), row_port_named row)))),
          ),
        ),
      ),
    )

-- ---- items

-- the row whose turn it is
row_printable : (rows row : ℕ) → IsPrintable (next_row rows row)
unfolding keyword_of
row_printable rows row =
    ((written_of (both (takes_in 2) (rows_left (rows - row))) refl, written_of (variable write_data_name) refl, row_named row), lit≤ tt)

registers_all : (rows : ℕ) → All IsItem (registers rows)
unfolding keyword_of
registers_all rows =
    let each : ℕ → PlainItem = λ (row : ℕ). reg (Vector 32) (row_register_name row) in
    all_items (registers rows) (
      ((lit< tt, lit≤ tt), name_of (codes "state") refl),
      (
        ((lit< tt, lit≤ tt), name_of (codes "count") refl),
        (
          ((lit< tt, lit≤ tt), name_of (codes "address") refl),
          ((tt, name_of (codes "strobe") refl), items_of (counted rows each) (all_counted IsItem rows each (λ row few. ((lit< tt, lit≤ tt), row_named row)))),
        ),
      ),
    )

processes_all : (rows : ℕ) → All IsItem (processes rows (next_values rows))
unfolding keyword_of
processes_all rows =
    let each : ℕ → PlainItem = λ (row : ℕ). clocked clock_name (row_register_name row) (next_row rows row) in
    all_items (processes rows (next_values rows)) (
      tested_item (clocked clock_name state_name next_state) refl,
      (
        tested_item (clocked clock_name count_name (next_count rows)) refl,
        (
          tested_item (clocked clock_name address_register_name next_address) refl,
          (
            tested_item (clocked clock_name strobe_register_name next_strobe) refl,
            items_of (counted rows each) (all_counted IsItem rows each (λ row few. (name_of clock_name refl, row_named row, row_printable rows row))),
          ),
        ),
      ),
    )

outputs_all : (rows : ℕ) → All IsItem (outputs rows)
unfolding keyword_of
outputs_all rows =
    let each : ℕ → PlainItem = λ (row : ℕ). assign (row_port row) (variable (row_register_name row)) in
    all_items (outputs rows) (
      tested_item (assign address_port (variable address_register_name)) refl,
      (tested_item (assign strobe_port (variable strobe_register_name)) refl, items_of (counted rows each) (all_counted IsItem rows each (λ row few. (row_port_named row, (row_named row, lit≤ tt))))),
    )

pub loader_printable : (rows : ℕ) → IsModule (loader_module rows)
unfolding keyword_of
loader_printable rows = (
  name_of (codes "ConfigLoader") refl,
  ports_of (loader_ports rows) (ports_all rows),
  items_of (registers rows ++ (processes rows (next_values rows) ++ outputs rows))
      (All-append IsItem (registers rows) (processes rows (next_values rows) ++ outputs rows) (registers_all rows)
      (All-append IsItem (processes rows (next_values rows)) (outputs rows) (processes_all rows) (outputs_all rows))),
)

-- those of each mode
pub loaders_printable : (mode : Mode) (rows : ℕ) → All IsModule (loaders_of mode rows)
loaders_printable modes.Frames rows = All-cons IsModule (loader_module rows) [] (loader_printable rows) (All-nil IsModule)
loaders_printable modes.Chain rows = All-nil IsModule
