-- The module of a tile is printable.
use Rattle.std.proofs.Common.{◌≡◌, ◌⊎◌, ℕ, zero, suc, ◌+◌, ◌-◌, ◌*◌, ◌<◌, ◌≤◌, Bool, true, false, List, [], ◌∷◌, ◌++◌, map, length, get_or, refl, ap, subst, inl, inr, arith, lit<, lit≤, codes, Option, Some, None, All, cond, slice_get, nat_eq}
use Rattle.std.specs.List.{flat_map, enumerate_from, list_all, list_any}
use Rattle.std.specs.Option.{ForSome}
use Rattle.std.specs.Str.{bytes_eq}
use Rattle.std.proofs.lemmas.Bool.{cases_Bool}
use Rattle.std.proofs.lemmas.Option.{slice_get_within, get_or_from_slice_get}
use Rattle.std.proofs.lemmas.Slice.Eq.{bytes_eq-Decides}
use Rattle.std.proofs.lemmas.List.Elements.{All-append, All-cons, All-nil, All-map, All-weaker, All-head, All-tail}
use Rattle.fab_kinds.specs.declared.kind.Kind.{Kind}
use Rattle.fab_kinds.specs.declared.kind.Kind.TheVariants.{Lut4c, Io, Mux8}
use Rattle.fab_kinds.specs.Pins.{input_names, output_names, pin_names, bit_count}
use Rattle.fab_meaning.specs.Runs.{user_clock_name}
use Rattle.fab_meaning.proofs.Modules.{each_all}
use Rattle.fab_syntax.specs.declared.tree.Shape.TheVariants.{Scalar}
use Rattle.fab_syntax.specs.declared.tree.Port.{Port}
use Rattle.fab_syntax.specs.Plain.{constant, variable, wire}
use Rattle.fab_select.specs.Selection.{select_bits}
use Rattle.fab_meaning.specs.Ports.{config_name, scalar}
use Rattle.fab_prim.specs.Ports.{clock_names, top_inputs, top_outputs}
use Rattle.fab_prim.specs.Modules.{module_name}
use Rattle.fab_model.specs.declared.mode.Mode.{Mode}
use Rattle.fab_model.specs.declared.mode.Mode.TheVariants as modes
use Rattle.fab_model.specs.declared.tiles.WireRow.{WireRow}
use Rattle.fab_model.specs.declared.tiles.Bel.{Bel}
use Rattle.fab_model.specs.Rows.{dest_bits, side_bits, is_jump, is_named, bit_name}
use Rattle.fab_model.specs.Tiles.{PlainTile, IsTile, bel_bits, counted, matrix_names, numbered_pairs, tile_bits, tile_wires, bits_before}
use Rattle.fab_gen_tile.specs.Words.{IsFreeName}
use Rattle.fab_gen_tile.specs.Names.{bits_name, config_instance_name, frame_data_name, frame_strobe_name, begin_name, end_name, port_join, matrix_instance_name, pad_name, same_join}
use Rattle.fab_gen_tile.specs.Borders.{begin_assigns, beginning_assign, border, border_ports, dest_assign, fixed_bit, passing_assign, row_assigns, side_border}
use Rattle.fab_gen_tile.specs.ConfigModule.{chain_end, config_ports}
use Rattle.fab_gen_tile.specs.TileModule.{bel_instance, bel_instances, bel_joins, bels_ports, bits_join, bits_wire, config_instances, config_joins, no_config, matrix_instances, matrix_joins, matrix_input_names, matrix_output_names, side_names, pad_join, pad_ports, pin_join, tile_items, tile_module, tile_ports}
use Rattle.fab_tile_drives_laws.proofs.Endings.{all_counted, all_flat_map}
use Rattle.fab_tile_drives_laws.proofs.PinPorts.{bits_within}
use Rattle.fab_tiles_sound_laws.proofs.Standing.{each_placed}
use Rattle.fab_tokens.specs.Literals.{is_word_byte}
use Rattle.fab_tokens.specs.Tokens.{IsIdentifier, keyword_of}
use Rattle.fab_grammar_defs.specs.Words.{is_foreign}
use Rattle.fab_grammar_defs.specs.Printable.{IsItem, IsModule, IsPrintable}
use Rattle.fab_text_reads_laws.specs.Laws.{IsWritten}
use Rattle.fab_text_reads_laws.proofs.Each.{IsPort, IsJoin, ports_of, joins_of, items_of, all_ports, all_joins, all_items}
use Rattle.fab_text_reads_laws.proofs.Words.{marked, any_first, begins}
use Rattle.fab_text_reads_laws.proofs.Tested.{name_of}
use Rattle.fab_text_reads_laws.proofs.TileWords.{bel_named, bit_identifier, border_named, matrix_named, module_named, pad_named, IsPin, pin_identifier, pins}
use Rattle.fab_text_reads_laws.proofs.TileTexts.{bit_ports_printable, chain_end_item, config_is, side_identifiers}

pub variable_printable : (name : List ℕ) → IsIdentifier name → IsPrintable (variable name)
variable_printable name named = (named, lit≤ tt)

pub join_is : (port name : List ℕ) → IsIdentifier port → IsIdentifier name → IsJoin (port_join port (variable name))
join_is port name port_named named = (port_named, variable_printable name named)

pub same_is : (name : List ℕ) → IsIdentifier name → IsJoin (same_join name)
same_is name named = join_is name name named named

-- no foreign word has a byte that is no small letter
unlike : (word foreign : List ℕ) → list_any marked word ≡ true → list_any marked foreign ≡ false → bytes_eq word foreign ≡ false
unlike word foreign some none = elim (cases_Bool (bytes_eq word foreign)) [
  | inl same ↦ (let is : list_any marked word ≡ list_any marked foreign = ap (λ (w : List ℕ). list_any marked w) ((bytes_eq-Decides word foreign).0 same) in absurd cc)
  | inr other ↦ other
]

pub not_foreign : (word : List ℕ) → list_any marked word ≡ true → is_foreign word ≡ false
unfolding is_foreign
not_foreign word some =
    rw (
      unlike word (codes "inout") some refl,
      unlike word (codes "negedge") some refl,
      unlike word (codes "initial") some refl,
      unlike word (codes "else") some refl,
      unlike word (codes "case") some refl,
      unlike word (codes "function") some refl,
      unlike word (codes "task") some refl,
      unlike word (codes "generate") some refl,
      unlike word (codes "parameter") some refl,
      unlike word (codes "integer") some refl,
      unlike word (codes "tri") some refl,
      unlike word (codes "for") some refl,
    ) refl

-- ---- names that are written out

pub clock_is : IsIdentifier user_clock_name
unfolding keyword_of
clock_is = name_of user_clock_name refl

pub data_is : IsIdentifier frame_data_name
unfolding keyword_of
data_is = name_of frame_data_name refl

pub strobe_is : IsIdentifier frame_strobe_name
unfolding keyword_of
strobe_is = name_of frame_strobe_name refl

bits_is : IsIdentifier bits_name
unfolding keyword_of
bits_is = name_of bits_name refl

-- ---- ports

pad_port : (place : ℕ) (input : Bool) (port : List ℕ) → place < 26 → list_all is_word_byte port ≡ true → IsPort (scalar input (pad_name place port))
pad_port place input port few bytes = (tt, pad_named place port few bytes)

pads_printable : (place : ℕ) (kind : Kind) → place < 26 → All IsPort (pad_ports place kind)
pads_printable place Lut4c few = All-nil IsPort
pads_printable place Mux8 few = All-nil IsPort
pads_printable place Io few =
    all_ports (pad_ports place Io) (pad_port place true (codes "O_top") few refl, (pad_port place false (codes "I_top") few refl, (pad_port place false (codes "T_top") few refl, tt)))

pub either : {X : Type 0} (P : X → Type 0) (test : Bool) (x y : X) → P x → P y → P (cond test x y)
either P true x y p q = p
either P false x y p q = q

module _ (row : WireRow) (sources : ForSome row.source IsFreeName) (dests : ForSome row.dest IsFreeName) where
  pub begin_is : (bit : ℕ) → IsIdentifier (begin_name row bit)
  begin_is bit = border_named (codes "fab_o_") row.source bit refl refl refl sources

  pub end_is : (bit : ℕ) → IsIdentifier (end_name row bit)
  end_is bit = border_named (codes "fab_i_") row.dest bit refl refl refl dests

  borders_printable : All IsPort (border_ports row)
  borders_printable =
      either (All IsPort) (is_jump row.dir) [] _ (All-nil IsPort)
      (All-append IsPort (counted (side_border row row.source) (λ bit. scalar false (begin_name row bit))) _
      (all_counted IsPort (side_border row row.source) (λ bit. scalar false (begin_name row bit)) (λ bit few. (tt, begin_is bit)))
      (all_counted IsPort (side_border row row.dest) (λ bit. scalar true (end_name row bit)) (λ bit few. (tt, end_is bit))))

  -- ---- what a row assigns

  passing_is : (bit : ℕ) → IsItem (passing_assign row bit)
  passing_is bit = (begin_is bit, variable_printable (end_name row (bit + row.count)) (end_is (bit + row.count)))

  bit_is : (side : Option (List ℕ)) (bit : ℕ) → ForSome side IsFreeName → is_named side ≡ true → IsIdentifier (bit_name side bit)
  bit_is None bit free some = absurd cc
  bit_is (Some name) bit free some = bit_identifier name bit (free name refl)

  begins_printable : (source dest : Option (List ℕ)) → row.source ≡ source → All IsItem (begin_assigns row source dest)
  begins_printable None dest is = All-nil IsItem
  begins_printable (Some source) dest is =
      let some : is_named row.source ≡ true = ap is_named is in
      let begins : (first output : ℕ) → IsItem (beginning_assign row first output) = λ first output. (begin_is (first + output), variable_printable (bit_name row.source output) (bit_is row.source output sources some)) in
      from_dest dest begins
    where
      from_dest : (dest : Option (List ℕ)) → ((first output : ℕ) → IsItem (beginning_assign row first output)) → All IsItem (begin_assigns row (Some source) dest)
      from_dest None begins = all_counted IsItem (border row) (beginning_assign row 0) (λ bit few. begins 0 bit)
      from_dest (Some dest) begins =
          All-append IsItem (counted ((row.span - 1) * row.count) (passing_assign row)) _
          (all_counted IsItem ((row.span - 1) * row.count) (passing_assign row) (λ bit few. passing_is bit))
          (all_counted IsItem row.count (beginning_assign row ((row.span - 1) * row.count)) (λ bit few. begins ((row.span - 1) * row.count) bit))

  value_is : (jump named : Bool) (bit : ℕ) → is_named row.source ≡ named → IsPrintable (cond jump (cond named (variable (bit_name row.source bit)) (constant (fixed_bit row.dest ∷ []))) (variable (end_name row bit)))
  value_is true true bit is = variable_printable (bit_name row.source bit) (bit_is row.source bit sources is)
  value_is true false bit is = ((lit< tt, lit≤ tt), lit≤ tt)
  value_is false named bit is = variable_printable (end_name row bit) (end_is bit)

  some_side : (side other : Option (List ℕ)) (bit : ℕ) → bit < side_bits row side other → is_named side ≡ true
  some_side None other bit few = absurd (omega (arith, few))
  some_side (Some name) other bit few = refl

  assigns_printable : All IsItem (row_assigns row)
  assigns_printable =
      All-append IsItem (cond (is_jump row.dir) [] (begin_assigns row row.source row.dest)) (counted (dest_bits row) (dest_assign row))
      (either (All IsItem) (is_jump row.dir) [] (begin_assigns row row.source row.dest) (All-nil IsItem) (begins_printable row.source row.dest refl))
      (all_counted IsItem (dest_bits row) (dest_assign row) (λ bit few.
      (bit_is row.dest bit dests (some_side row.dest row.source bit few), value_is (is_jump row.dir) (is_named row.source) bit refl)))

-- ---- BELs

bits_joined : (low bits : ℕ) → low + bits ≤ 640 → All IsJoin (bits_join low bits)
bits_joined low zero few = All-nil IsJoin
bits_joined low (suc n) few = all_joins (bits_join low (suc n)) ((config_is, ((bits_is, omega (arith, few), omega (arith, few)), lit≤ tt)), tt)

-- what holds of the left part, and of the right part
left_part : {X : Type 0} (P : X → Type 0) (xs ys : List X) → All P (xs ++ ys) → All P xs
left_part P [] ys all = All-nil P
left_part P (x ∷ xs) ys all = All-cons P x xs (All-head P x (xs ++ ys) all) (left_part P xs ys (All-tail P x (xs ++ ys) all))

right_part : {X : Type 0} (P : X → Type 0) (xs ys : List X) → All P (xs ++ ys) → All P ys
right_part P [] ys all = all
right_part P (x ∷ xs) ys all = right_part P xs ys (All-tail P x (xs ++ ys) all)

module _ (place low : ℕ) (bel : Bel) (few : place < 26) (within : low + bit_count bel.kind ≤ 640) (free : (bel.prefix ≡ []) ⊎ IsFreeName bel.prefix) where
  pins_joined : (pins : List (List ℕ)) → All IsPin pins → All IsJoin (map (pin_join bel) pins)
  pins_joined pins all = All-map IsJoin (pin_join bel) pins (All-weaker IsPin (λ pin. IsJoin (pin_join bel pin)) (λ pin is. join_is pin (bel.prefix ++ pin) is.2 (pin_identifier bel.prefix pin free is)) pins all)

  all_pins : All IsPin (input_names bel.kind ++ output_names bel.kind)
  all_pins = each_all IsPin (pin_names bel.kind) (pins bel.kind)

  clocks_joined : (kind : Kind) → All IsJoin (map same_join (clock_names kind))
  clocks_joined Lut4c = all_joins (map same_join (clock_names Lut4c)) (same_is user_clock_name clock_is, tt)
  clocks_joined Io = all_joins (map same_join (clock_names Io)) (same_is user_clock_name clock_is, tt)
  clocks_joined Mux8 = All-nil IsJoin

  pad_joined : (port : List ℕ) → IsIdentifier port → list_all is_word_byte port ≡ true → IsJoin (pad_join place port)
  pad_joined port named bytes = join_is port (pad_name place port) named (pad_named place port few bytes)

  tops_joined : (kind : Kind) → All IsJoin (map (pad_join place) (top_inputs kind))
  unfolding keyword_of
  tops_joined Lut4c = All-nil IsJoin
  tops_joined Io = all_joins (map (pad_join place) (top_inputs Io)) (pad_joined (codes "O_top") (name_of (codes "O_top") refl) refl, tt)
  tops_joined Mux8 = All-nil IsJoin

  outs_joined : (kind : Kind) → All IsJoin (map (pad_join place) (top_outputs kind))
  unfolding keyword_of
  outs_joined Lut4c = All-nil IsJoin
  outs_joined Io =
      all_joins (map (pad_join place) (top_outputs Io)) (pad_joined (codes "I_top") (name_of (codes "I_top") refl) refl, (pad_joined (codes "T_top") (name_of (codes "T_top") refl) refl, tt))
  outs_joined Mux8 = All-nil IsJoin

  joins_printable : All IsJoin (bel_joins place low bel)
  joins_printable =
      All-append IsJoin (map (pin_join bel) (input_names bel.kind)) _ (pins_joined (input_names bel.kind) (left_part IsPin (input_names bel.kind) (output_names bel.kind) all_pins))
      (All-append IsJoin (map same_join (clock_names bel.kind)) _ (clocks_joined bel.kind)
      (All-append IsJoin (bits_join low (bit_count bel.kind)) _ (bits_joined low (bit_count bel.kind) within)
      (All-append IsJoin (map (pad_join place) (top_inputs bel.kind)) _ (tops_joined bel.kind)
      (All-append IsJoin (map (pin_join bel) (output_names bel.kind)) _ (pins_joined (output_names bel.kind) (right_part IsPin (input_names bel.kind) (output_names bel.kind) all_pins))
      (outs_joined bel.kind)))))

  kind_is : (kind : Kind) → IsIdentifier (module_name kind) × (is_foreign (module_name kind) ≡ false)
  unfolding keyword_of is_foreign
  kind_is Lut4c = (name_of (codes "LUT4c_frame_config") refl, refl)
  kind_is Io = (name_of (codes "IO_1_bidirectional_frame_config_pass") refl, refl)
  kind_is Mux8 = (name_of (codes "MUX8LUT_frame_config") refl, refl)

  bel_printable : IsItem (bel_instance place low bel)
  bel_printable = let kind = kind_is bel.kind in (kind.0, kind.1, bel_named place few, joins_of (bel_joins place low bel) joins_printable)

-- the name of a module of a tile
pub made_is : (tile : PlainTile) → IsWritten tile → (front : List ℕ) → list_all is_word_byte front ≡ true → begins front ≡ true → list_any marked front ≡ true
    → IsIdentifier (front ++ tile.name) × (is_foreign (front ++ tile.name) ≡ false)
made_is tile written front bytes first some = (module_named front tile.name bytes first some written.name, not_foreign (front ++ tile.name) (any_first marked front tile.name some))

-- ---- the module

module _ (mode : Mode) (tile : PlainTile) (is : IsTile tile) (few_bels : length tile.bels ≤ 26) (written : IsWritten tile) where
  bels_printable : All IsItem (bel_instances tile.bels)
  bels_printable =
      All-map IsItem (λ (placed : ℕ × Bel). bel_instance placed.0 (bits_before tile.bels placed.0) placed.1) (enumerate_from 0 tile.bels)
      (each_placed (λ (placed : ℕ × Bel). IsItem (bel_instance placed.0 (bits_before tile.bels placed.0) placed.1)) tile.bels (λ place bel found.
      let there = slice_get_within tile.bels place bel found in
      let inside = bits_within tile.bels place bel found in
      let few = written.few_bits in
      bel_printable place (bits_before tile.bels place) bel (omega (arith, there, few_bels)) (omega (arith, inside, few)) (prefix_at place bel found)))
    where
      prefix_at : (place : ℕ) (bel : Bel) → slice_get tile.bels place ≡ Some bel → (bel.prefix ≡ []) ⊎ IsFreeName bel.prefix
      prefix_at place bel found =
          let there = slice_get_within tile.bels place bel found in
          subst (λ (b : Bel). (b.prefix ≡ []) ⊎ IsFreeName b.prefix) (get_or_from_slice_get tile.bels place bel bel found) (written.named.prefixes place bel there)

  pads_of_bels : All IsPort (bels_ports tile.bels)
  pads_of_bels =
      all_flat_map IsPort (λ (placed : ℕ × Bel). pad_ports placed.0 placed.1.kind) (enumerate_from 0 tile.bels)
      (each_placed (λ (placed : ℕ × Bel). All IsPort (pad_ports placed.0 placed.1.kind)) tile.bels (λ place bel found.
      let there = slice_get_within tile.bels place bel found in
      pads_printable place bel.kind (omega (arith, there, few_bels))))

  ports_printable : All IsPort (tile_ports mode tile)
  ports_printable =
      let rest = flat_map border_ports tile.rows ++ bels_ports tile.bels in
      all_ports (tile_ports mode tile) (
        (tt, clock_is),
        ports_of (config_ports mode ++ rest)
            (All-append IsPort (config_ports mode) rest (bit_ports_printable mode)
            (All-append IsPort (flat_map border_ports tile.rows) (bels_ports tile.bels)
            (all_flat_map IsPort border_ports tile.rows (λ k d few. borders_printable (get_or tile.rows k d) (written.named.sources k d few) (written.named.dests k d few)))
            pads_of_bels)),
      )

  wires_printable : All IsItem (map (wire Scalar) (matrix_names tile))
  wires_printable = All-map IsItem (wire Scalar) (matrix_names tile) (All-weaker IsIdentifier (λ name. IsItem (wire Scalar name)) (λ name named. (tt, named)) (matrix_names tile) (matrix_named tile written.named))

  bits_wired : (bits : ℕ) → bits ≤ 640 → All IsItem (bits_wire bits)
  bits_wired zero few = All-nil IsItem
  bits_wired (suc n) few = all_items (bits_wire (suc n)) (((omega arith, omega (arith, few)), bits_is), tt)

  rows_printable : All IsItem (flat_map row_assigns tile.rows)
  rows_printable = all_flat_map IsItem row_assigns tile.rows (λ k d few. assigns_printable (get_or tile.rows k d) (written.named.sources k d few) (written.named.dests k d few))

  config_joined : All IsJoin (config_joins mode)
  config_joined =
      let same = λ (port : Port). same_join port.name in
      let whole = port_join config_name (variable bits_name) in
      All-append IsJoin (map same (config_ports mode)) (whole ∷ [])
      (All-map IsJoin same (config_ports mode) (All-weaker IsPort (λ port. IsJoin (same port)) (λ port is. same_is port.name is.1) (config_ports mode) (bit_ports_printable mode)))
      (All-cons IsJoin whole [] (join_is config_name bits_name config_is bits_is) (All-nil IsJoin))

  unconfigured : (mode : Mode) → All IsItem (no_config mode)
  unconfigured modes.Frames = All-nil IsItem
  unconfigured modes.Chain = All-cons IsItem (chain_end 0) [] (chain_end_item 0) (All-nil IsItem)

  configured : (bits : ℕ) → All IsItem (config_instances mode tile bits)
  unfolding keyword_of
  configured zero = unconfigured mode
  configured (suc n) =
      let name = made_is tile written (codes "config_") refl refl refl in
      all_items (config_instances mode tile (suc n)) ((name.0, name.1, name_of config_instance_name refl, joins_of (config_joins mode) config_joined), tt)

  sides_joined : (output : Bool) → All IsJoin (map same_join (side_names output (tile_wires tile)))
  sides_joined output =
      All-map IsJoin same_join (side_names output (tile_wires tile))
      (All-weaker IsIdentifier (λ name. IsJoin (same_join name)) same_is (side_names output (tile_wires tile)) (side_identifiers tile is written output))

  matrix_joined : All IsJoin (matrix_joins tile)
  matrix_joined =
      let few = written.few_bits in
      All-append IsJoin (map same_join (matrix_input_names tile)) _ (sides_joined false)
      (All-append IsJoin (bits_join (bel_bits tile) (select_bits nat_eq (numbered_pairs tile))) _ (bits_joined (bel_bits tile) (select_bits nat_eq (numbered_pairs tile)) (omega (arith, few)))
      (sides_joined true))

  switched : (outputs : List (List ℕ)) → All IsItem (matrix_instances tile outputs)
  unfolding keyword_of
  switched [] = All-nil IsItem
  switched (output ∷ outputs) =
      let name = made_is tile written (codes "matrix_") refl refl refl in
      all_items (matrix_instances tile (output ∷ outputs)) ((name.0, name.1, name_of matrix_instance_name refl, joins_of (matrix_joins tile) matrix_joined), tt)

  pub tile_printable : IsModule (tile_module mode tile)
  tile_printable = (
    (made_is tile written (codes "tile_") refl refl refl).0,
    ports_of (tile_ports mode tile) ports_printable,
    items_of (tile_items mode tile)
        (All-append IsItem (map (wire Scalar) (matrix_names tile)) _ wires_printable
        (All-append IsItem (bits_wire (tile_bits tile)) _ (bits_wired (tile_bits tile) written.few_bits)
        (All-append IsItem (flat_map row_assigns tile.rows) _ rows_printable
        (All-append IsItem (config_instances mode tile (tile_bits tile)) _ (configured (tile_bits tile))
        (All-append IsItem (matrix_instances tile (matrix_output_names tile)) (bel_instances tile.bels) (switched (matrix_output_names tile)) bels_printable))))),
  )
