-- The top module of a fabric is printable.
use Rattle.std.proofs.Common.{◌≡◌, ℕ, ◌+◌, ◌-◌, ◌<◌, ◌≤◌, Bool, true, false, ◌&&◌, List, [], ◌∷◌, ◌++◌, map, length, get_or, slice_get, refl, sym, ap, subst, arith, lit<, lit≤, codes, Option, Some, None, All, Contains, cond, nat_eq, append-nil}
use Rattle.std.specs.Fmt.{decimal}
use Rattle.std.specs.List.{flat_map, enumerate_from, list_all}
use Rattle.std.specs.Option.{ForSome, option_and_then}
use Rattle.std.proofs.lemmas.Option.{slice_get_within, get_or_from_slice_get}
use Rattle.std.proofs.lemmas.List.Elements.{All-append, All-cons, All-nil, All-map, All-weaker, All-contains}
use Rattle.fab_kinds.specs.declared.kind.Kind.{Kind}
use Rattle.fab_kinds.specs.declared.kind.Kind.TheVariants.{Lut4c, Io, Mux8}
use Rattle.fab_meaning.specs.Runs.{user_clock_name, clock_name}
use Rattle.fab_syntax.specs.declared.tree.Shape.TheVariants.{Scalar, Vector}
use Rattle.fab_syntax.specs.Plain.{PlainItem, PlainJoin, variable, wire}
use Rattle.fab_meaning.specs.Ports.{scalar}
use Rattle.fab_prim.specs.Ports.{top_inputs, top_outputs}
use Rattle.fab_model.specs.declared.mode.Mode.{Mode}
use Rattle.fab_model.specs.declared.mode.Mode.TheVariants as modes
use Rattle.fab_model.specs.declared.tiles.WireRow.{WireRow}
use Rattle.fab_model.specs.declared.tiles.Bel.{Bel}
use Rattle.fab_model.specs.Rows.{border_bits, is_jump}
use Rattle.fab_model.specs.Tiles.{PlainTile, counted}
use Rattle.fab_model.specs.Grid.{PlainFabric, tile_at}
use Rattle.fab_model.specs.Joins.{comes, goes}
use Rattle.fab_model.specs.Cascade.{PlacedRow, fitting, nth_row, opposite, partner_at, partner_in, previous_row, step}
use Rattle.fab_fabric.specs.Fabric.{IsFabric}
use Rattle.fab_fabric.specs.Names.{place_name}
use Rattle.fab_gen_tile.specs.Words.{IsFreeName}
use Rattle.fab_gen_tile.specs.Names.{begin_name, border_name, end_name, frame_data_name, frame_strobe_name, chain_in_name, chain_out_name, port_join, letter, pad_name, same_join}
use Rattle.fab_gen_tile.specs.Borders.{side_border}
use Rattle.fab_meaning.specs.Loading.{write_data_name, write_strobe_name}
use Rattle.fab_gen_loader.specs.Loader.{loader_module_name, address_port, row_port, strobe_port}
use Rattle.fab_drives_laws.specs.fab_fabric_text_defs_Names.{begin_wire_name, chain_wire_name, column_strobe_name, loader_instance_name, pad_port_name, top_module_name}
use Rattle.fab_drives_laws.specs.fab_fabric_text_defs_Places.{PlacedTile, placed_tiles}
use Rattle.fab_drives_laws.specs.fab_fabric_text_defs_Mode.{text_mode}
use Rattle.fab_drives_laws.specs.fab_fabric_text_defs_Chain.{chain_from, chain_source}
use Rattle.fab_drives_laws.specs.fab_fabric_text_defs_Top.{carrying_items, chain_wire, column_strobes, config_joins, data_port, end_value, loader_instance, loader_joins, loader_wires, numbered_row, pad_joins, pad_ports, row_begin_wires, row_joins, tile_begin_wires, tile_instance, tile_joins, tile_pads, top_items, top_module}
use Rattle.fab_drives_laws.proofs.Modules.{tile_of_types}
use Rattle.fab_drives_laws.proofs.Places.{IsThere, all_placed}
use Rattle.fab_tile_drives_laws.proofs.Endings.{all_counted, all_flat_map}
use Rattle.fab_tile_drives_laws.proofs.Members.{contains_first, contains_later}
use Rattle.fab_tiles_sound_laws.proofs.Standing.{each_placed}
use Rattle.fab_tiles_sound_laws.proofs.fab_parts_sound_laws_Sized.{length-digits}
use Rattle.fab_tokens.specs.Literals.{is_word_byte}
use Rattle.fab_tokens.specs.Tokens.{IsIdentifier, keyword_of}
use Rattle.fab_grammar_defs.specs.Words.{is_foreign}
use Rattle.fab_grammar_defs.specs.Printable.{IsItem, IsModule, IsPrintable}
use Rattle.fab_text_reads_laws.specs.Laws.{IsWritten}
use Rattle.fab_text_reads_laws.proofs.Each.{IsPort, IsJoin, ports_of, joins_of, items_of, all_ports, all_joins, all_items}
use Rattle.fab_text_reads_laws.proofs.Words.{all_both, both_true, decimal_bytes, marked_before}
use Rattle.fab_text_reads_laws.proofs.Tested.{name_of}
use Rattle.fab_text_reads_laws.proofs.TileWords.{border_bytes, letter_byte, numbered_name, pad_named}
use Rattle.fab_text_reads_laws.proofs.TileTexts.{chain_in_is, chain_out_is}
use Rattle.fab_text_reads_laws.proofs.TileModules.{begin_is, end_is, either, join_is, made_is, same_is, variable_printable, clock_is, data_is, strobe_is}

-- ---- names

-- a place and bytes of words behind it
at_place : (x y : ℕ) (rest : List ℕ) → list_all is_word_byte rest ≡ true → IsIdentifier (place_name x y ++ rest)
at_place x y rest bytes =
    marked_before (place_name x y) rest (all_both is_word_byte (codes "X" ++ decimal x ++ codes "Y") (decimal y) (all_both is_word_byte (codes "X" ++ decimal x) (codes "Y") (all_both is_word_byte (codes "X") (decimal x) refl (decimal_bytes x)) refl) (decimal_bytes y))
    refl refl bytes

place_is : (x y : ℕ) → IsIdentifier (place_name x y)
place_is x y = subst (λ (name : List ℕ). IsIdentifier name) (append-nil (place_name x y)) (at_place x y [] refl)

pad_is : (x y bel : ℕ) (port : List ℕ) → bel < 26 → list_all is_word_byte port ≡ true → IsIdentifier (pad_port_name x y bel port)
pad_is x y bel port few bytes =
    at_place x y (codes "_" ++ letter bel ∷ (codes "_" ++ port))
    (both_true (is_word_byte (letter bel)) (list_all is_word_byte (codes "_" ++ port)) (letter_byte bel few) (all_both is_word_byte (codes "_") port refl bytes))

wire_is : (x y : ℕ) (row : WireRow) (bit : ℕ) → ForSome row.source IsFreeName → IsIdentifier (begin_wire_name x y row bit)
wire_is x y row bit free = at_place x y (codes "_" ++ border_name row.source bit) (all_both is_word_byte (codes "_") (border_name row.source bit) refl (border_bytes row.source bit free))

chain_wire_is : (x y : ℕ) → IsIdentifier (chain_wire_name x y)
chain_wire_is x y = at_place x y (codes "_fab_chain") refl

-- what comes to a tile by a chain
source_is : (before : List ℕ) (all : List PlacedTile) (x y : ℕ) → IsIdentifier before → IsIdentifier (chain_from before all x y)
source_is before [] x y is = is
source_is before (placed ∷ more) x y is =
    either IsIdentifier (nat_eq placed.x x && nat_eq placed.y y) before (chain_from (chain_wire_name placed.x placed.y) more x y) is
    (source_is (chain_wire_name placed.x placed.y) more x y (chain_wire_is placed.x placed.y))

row_is : (y : ℕ) → IsIdentifier (row_port y)
row_is y = numbered_name (codes "Row") y refl refl

column_is : (x : ℕ) → IsIdentifier (column_strobe_name x)
column_is x = numbered_name (codes "fab_strobe_") x refl refl

loader_clock_is : IsIdentifier clock_name
unfolding keyword_of
loader_clock_is = name_of clock_name refl

write_is : IsIdentifier write_strobe_name
unfolding keyword_of
write_is = name_of write_strobe_name refl

write_data_is : IsIdentifier write_data_name
unfolding keyword_of
write_data_is = name_of write_data_name refl

address_is : IsIdentifier address_port
unfolding keyword_of
address_is = name_of address_port refl

strobe_name_is : IsIdentifier strobe_port
unfolding keyword_of
strobe_name_is = name_of strobe_port refl

-- ---- ports

words_printable : (mode : Mode) → IsPort (data_port mode)
words_printable modes.Frames = ((lit< tt, lit≤ tt), write_data_is)
words_printable modes.Chain = (tt, write_data_is)

pads_of : (x y place : ℕ) → place < 26 → (kind : Kind) → All IsPort (map (λ port. scalar true (pad_port_name x y place port)) (top_inputs kind) ++ map (λ port. scalar false (pad_port_name x y place port)) (top_outputs kind))
pads_of x y place few Lut4c = All-nil IsPort
pads_of x y place few Mux8 = All-nil IsPort
pads_of x y place few Io =
    all_ports (map (λ port. scalar true (pad_port_name x y place port)) (top_inputs Io) ++ map (λ port. scalar false (pad_port_name x y place port)) (top_outputs Io))
    ((tt, pad_is x y place (codes "O_top") few refl), ((tt, pad_is x y place (codes "I_top") few refl), ((tt, pad_is x y place (codes "T_top") few refl), tt)))

-- what a placed tile is
record Fits (placed : PlacedTile) : Type 0 where
  written : IsWritten placed.tile
  few_bels : length placed.tile.bels ≤ 26

pads_printable : (placed : PlacedTile) → Fits placed → All IsPort (tile_pads placed)
pads_printable placed fits =
    all_flat_map IsPort (pad_ports placed.x placed.y) (enumerate_from 0 placed.tile.bels)
    (each_placed (λ (numbered : ℕ × Bel). All IsPort (pad_ports placed.x placed.y numbered)) placed.tile.bels (λ place bel found.
    let there = slice_get_within placed.tile.bels place bel found in
    let few = fits.few_bels in
    pads_of placed.x placed.y place (omega (arith, there, few)) bel.kind))

-- ---- the loader

rows_joined : (rows : ℕ) → All IsJoin (loader_joins rows)
rows_joined rows =
    let each : ℕ → PlainJoin = λ (y : ℕ). same_join (row_port y) in
    all_joins (loader_joins rows) (
      same_is clock_name loader_clock_is,
      (
        same_is write_strobe_name write_is,
        (
          same_is write_data_name write_data_is,
          (
            same_is address_port address_is,
            (same_is strobe_port strobe_name_is, joins_of (counted rows each) (all_counted IsJoin rows each (λ y few. same_is (row_port y) (row_is y)))),
          ),
        ),
      ),
    )

wires_of_loader : (rows : ℕ) → All IsItem (loader_wires rows)
wires_of_loader rows =
    let each : ℕ → PlainItem = λ (y : ℕ). wire (Vector 32) (row_port y) in
    all_items (loader_wires rows) (((lit< tt, lit≤ tt), address_is), ((tt, strobe_name_is), items_of (counted rows each) (all_counted IsItem rows each (λ y few. ((lit< tt, lit≤ tt), row_is y)))))

loader_is : (rows : ℕ) → IsItem (loader_instance rows)
unfolding keyword_of is_foreign
loader_is rows = (name_of loader_module_name refl, refl, name_of loader_instance_name refl, joins_of (loader_joins rows) (rows_joined rows))

-- ---- strobes

strobes_is : (x : ℕ) → IsItem (column_strobes x)
strobes_is x =
    let long = length-digits 5 x in
    let zeros = length-digits 20 0 in
    (column_is x, (((strobe_name_is, ((address_is, lit≤ tt, lit≤ tt), (omega (arith, long), omega (arith, long)))), (address_is, lit≤ tt, lit≤ tt), (omega (arith, zeros), omega (arith, zeros))), lit≤ tt))

-- ---- what carries the bits

carried_printable : (mode : Mode) (fabric : PlainFabric) → All IsItem (carrying_items mode fabric)
carried_printable modes.Frames fabric =
    let strobe_wire = λ (x : ℕ). wire (Vector 20) (column_strobe_name x) in
    All-append IsItem (loader_wires fabric.rows) _ (wires_of_loader fabric.rows)
    (All-cons IsItem (loader_instance fabric.rows) _ (loader_is fabric.rows)
    (All-append IsItem (counted fabric.columns strobe_wire) _ (all_counted IsItem fabric.columns strobe_wire (λ x few. ((lit< tt, lit≤ tt), column_is x)))
    (all_counted IsItem fabric.columns column_strobes (λ x few. strobes_is x))))
carried_printable modes.Chain fabric =
    All-map IsItem chain_wire (placed_tiles fabric)
    (λ k d few. let placed = get_or (placed_tiles fabric) k d in (tt, chain_wire_is placed.x placed.y))

-- ---- the row next door

nth_in : (test : WireRow → Bool) (rows : List WireRow) (first i : ℕ) (found : ℕ × WireRow) → nth_row test rows first i ≡ Some found → Contains rows found.1
nth_in test [] first i found so = absurd cc
nth_in test (row ∷ rows) first i found so = by (test row) (nat_eq i 0) (λ given. nth_in test rows (first + 1) (i - 1) found given) (λ given. nth_in test rows (first + 1) i found given) so where
  by : (passes last : Bool) → (nth_row test rows (first + 1) (i - 1) ≡ Some found → Contains rows found.1) → (nth_row test rows (first + 1) i ≡ Some found → Contains rows found.1)
      → cond passes (cond last (Some (first, row)) (nth_row test rows (first + 1) (i - 1))) (nth_row test rows (first + 1) i) ≡ Some found → Contains (row ∷ rows) found.1
  by true true less same_left given = let same : (first, row) ≡ found = cc in subst (λ (r : WireRow). Contains (row ∷ rows) r) (ap (λ (f : ℕ × WireRow). f.1) same) (contains_first row rows)
  by true false less same_left given = contains_later row rows found.1 (less given)
  by false last less same_left given = contains_later row rows found.1 (same_left given)

fitting_row : (width x y : ℕ) (tile : PlainTile) (found : ℕ × WireRow) (placed : PlacedRow) → fitting width x y tile found ≡ Some placed → placed.row ≡ found.1
fitting_row width x y tile found placed so = by (nat_eq (border_bits found.1) width) so where
  by : (fits : Bool) → cond fits (Some (record { place = record { x = x; y = y; row = found.0 }; tile = tile; row = found.1 })) None ≡ Some placed → placed.row ≡ found.1
  by true so = let same : record { place = record { x = x; y = y; row = found.0 }; tile = tile; row = found.1 } ≡ placed = cc in ap (λ (p : PlacedRow). p.row) (sym same)
  by false so = absurd cc

and_gives : {X Y : Type 0} (f : X → Option Y) (o : Option X) (y : Y) → option_and_then f o ≡ Some y → (x : X) × (o ≡ Some x) × (f x ≡ Some y)
and_gives f None y so = absurd cc
and_gives f (Some x) y so = (x, refl, so)

-- a port of a pad of the tile at a place, joined to the port of the top
abbrev pad_join : (x y place : ℕ) → (port : List ℕ) → PlainJoin
pad_join x y place port = port_join (pad_name place port) (variable (pad_port_name x y place port))

module _ (fabric : PlainFabric) (is : IsFabric fabric) (written : All IsWritten fabric.types) where
  source_free : (tile : PlainTile) (row : WireRow) → IsWritten tile → Contains tile.rows row → ForSome row.source IsFreeName
  source_free tile row here among = All-contains (λ (r : WireRow). ForSome r.source IsFreeName) tile.rows row here.named.sources among

  previous_free : (here previous : PlacedRow) → previous_row fabric here ≡ Some previous → ForSome previous.row.source IsFreeName
  previous_free here previous so =
      let stepped = and_gives (partner_at comes goes fabric here) (step (opposite here.row.dir) here.place.x here.place.y) previous so in
      let at = stepped.0 in
      let found = and_gives (partner_in comes goes here at) (tile_at fabric at.0 at.1) previous stepped.2 in
      let tile = found.0 in
      let row = and_gives (fitting (border_bits here.row) at.0 at.1 tile) (nth_row (goes here.row.dir) tile.rows 0 _) previous found.2 in
      let same = fitting_row (border_bits here.row) at.0 at.1 tile row.0 previous row.2 in
      let among : Contains tile.rows previous.row = subst (λ (r : WireRow). Contains tile.rows r) (sym same) (nth_in (goes here.row.dir) tile.rows 0 _ row.0 row.1) in
      source_free tile previous.row (All-contains IsWritten fabric.types tile written (tile_of_types fabric at.0 at.1 tile found.1)) among

  fits_at : (placed : PlacedTile) → IsThere fabric placed → Fits placed
  fits_at placed there =
      let among = tile_of_types fabric placed.x placed.y placed.tile there in
      record { written = All-contains IsWritten fabric.types placed.tile written among; few_bels = All-contains (λ (t : PlainTile). length t.bels ≤ 26) fabric.types placed.tile is.few_bels among }

  all_fit : All Fits (placed_tiles fabric)
  all_fit = All-weaker (IsThere fabric) Fits fits_at (placed_tiles fabric) (all_placed fabric)

  -- ---- wires between tiles

  begins_of : (placed : PlacedTile) → Fits placed → All IsItem (tile_begin_wires placed)
  begins_of placed fits =
      all_flat_map IsItem (row_begin_wires placed.x placed.y) placed.tile.rows (λ k d few.
      let row = get_or placed.tile.rows k d in
      either (All IsItem) (is_jump row.dir) [] (counted (side_border row row.source) (λ bit. wire Scalar (begin_wire_name placed.x placed.y row bit))) (All-nil IsItem)
      (all_counted IsItem (side_border row row.source) (λ bit. wire Scalar (begin_wire_name placed.x placed.y row bit)) (λ bit below. (tt, wire_is placed.x placed.y row bit (fits.written.named.sources k d few)))))

  -- ---- tiles

  end_printable : (found : Option PlacedRow) (here : PlacedRow) (bit : ℕ) → previous_row fabric here ≡ found → IsPrintable (end_value found bit)
  end_printable None here bit so = ((lit< tt, lit≤ tt), lit≤ tt)
  end_printable (Some previous) here bit so = variable_printable (begin_wire_name previous.place.x previous.place.y previous.row bit) (wire_is previous.place.x previous.place.y previous.row bit (previous_free here previous so))

  row_joined : (placed : PlacedTile) → Fits placed → (number : ℕ) (row : WireRow) → slice_get placed.tile.rows number ≡ Some row → All IsJoin (row_joins fabric placed (number, row))
  row_joined placed fits number row found =
      let there = slice_get_within placed.tile.rows number row found in
      let same = get_or_from_slice_get placed.tile.rows number row row found in
      let sources : ForSome row.source IsFreeName = subst (λ (r : WireRow). ForSome r.source IsFreeName) same (fits.written.named.sources number row there) in
      let dests : ForSome row.dest IsFreeName = subst (λ (r : WireRow). ForSome r.dest IsFreeName) same (fits.written.named.dests number row there) in
      let here = numbered_row placed number row in
      let begins : ℕ → PlainJoin = λ (bit : ℕ). port_join (begin_name row bit) (variable (begin_wire_name placed.x placed.y row bit)) in
      let ends : ℕ → PlainJoin = λ (bit : ℕ). port_join (end_name row bit) (end_value (previous_row fabric here) bit) in
      either (All IsJoin) (is_jump row.dir) [] (counted (side_border row row.source) begins ++ counted (side_border row row.dest) ends) (All-nil IsJoin)
      (All-append IsJoin (counted (side_border row row.source) begins) (counted (side_border row row.dest) ends)
      (all_counted IsJoin (side_border row row.source) begins (λ bit few. join_is (begin_name row bit) (begin_wire_name placed.x placed.y row bit) (begin_is row sources dests bit) (wire_is placed.x placed.y row bit sources)))
      (all_counted IsJoin (side_border row row.dest) ends (λ bit few. (end_is row sources dests bit, end_printable (previous_row fabric here) here bit refl))))

  pad_joined : (x y place : ℕ) (port : List ℕ) → place < 26 → list_all is_word_byte port ≡ true → IsJoin (pad_join x y place port)
  pad_joined x y place port few bytes = join_is (pad_name place port) (pad_port_name x y place port) (pad_named place port few bytes) (pad_is x y place port few bytes)

  pads_by : (x y place : ℕ) → place < 26 → (kind : Kind) → All IsJoin (map (pad_join x y place) (top_inputs kind) ++ map (pad_join x y place) (top_outputs kind))
  pads_by x y place few Lut4c = All-nil IsJoin
  pads_by x y place few Mux8 = All-nil IsJoin
  pads_by x y place few Io =
      all_joins (map (pad_join x y place) (top_inputs Io) ++ map (pad_join x y place) (top_outputs Io))
      (pad_joined x y place (codes "O_top") few refl, (pad_joined x y place (codes "I_top") few refl, (pad_joined x y place (codes "T_top") few refl, tt)))

  bits_joined : (mode : Mode) (placed : PlacedTile) → All IsJoin (config_joins mode fabric placed)
  bits_joined modes.Frames placed =
      all_joins (config_joins modes.Frames fabric placed)
      (join_is frame_data_name (row_port placed.y) data_is (row_is placed.y), (join_is frame_strobe_name (column_strobe_name placed.x) strobe_is (column_is placed.x), tt))
  bits_joined modes.Chain placed =
      let x = placed.x in
      let y = placed.y in
      all_joins (config_joins modes.Chain fabric placed) (
        same_is clock_name loader_clock_is,
        (
          same_is write_strobe_name write_is,
          (
            join_is chain_in_name (chain_source fabric x y) chain_in_is (source_is write_data_name (placed_tiles fabric) x y write_data_is),
            (join_is chain_out_name (chain_wire_name x y) chain_out_is (chain_wire_is x y), tt),
          ),
        ),
      )

  joins_of_tile : (placed : PlacedTile) → Fits placed → All IsJoin (tile_joins fabric placed)
  joins_of_tile placed fits =
      let mode = text_mode fabric in
      let rest = flat_map (row_joins fabric placed) (enumerate_from 0 placed.tile.rows) ++ flat_map (pad_joins placed.x placed.y) (enumerate_from 0 placed.tile.bels) in
      all_joins (tile_joins fabric placed) (
        same_is user_clock_name clock_is,
        joins_of (config_joins mode fabric placed ++ rest)
            (All-append IsJoin (config_joins mode fabric placed) rest (bits_joined mode placed)
            (All-append IsJoin (flat_map (row_joins fabric placed) (enumerate_from 0 placed.tile.rows)) (flat_map (pad_joins placed.x placed.y) (enumerate_from 0 placed.tile.bels))
            (all_flat_map IsJoin (row_joins fabric placed) (enumerate_from 0 placed.tile.rows) (each_placed (λ (numbered : ℕ × WireRow). All IsJoin (row_joins fabric placed numbered)) placed.tile.rows (row_joined placed fits)))
            (all_flat_map IsJoin (pad_joins placed.x placed.y) (enumerate_from 0 placed.tile.bels)
            (each_placed (λ (numbered : ℕ × Bel). All IsJoin (pad_joins placed.x placed.y numbered)) placed.tile.bels (λ place bel found.
            let there = slice_get_within placed.tile.bels place bel found in
            let few = fits.few_bels in
            pads_by placed.x placed.y place (omega (arith, there, few)) bel.kind))))),
      )

  tile_is : (placed : PlacedTile) → Fits placed → IsItem (tile_instance fabric placed)
  tile_is placed fits =
      let name = made_is placed.tile fits.written (codes "tile_") refl refl refl in
      (name.0, name.1, place_is placed.x placed.y, joins_of (tile_joins fabric placed) (joins_of_tile placed fits))

  pub top_printable : IsModule (top_module fabric)
  unfolding keyword_of
  top_printable = (
    name_of top_module_name refl,
    (
      (tt, loader_clock_is),
      (
        (tt, clock_is),
        (
          (tt, write_is),
          (
            words_printable (text_mode fabric),
            ports_of (flat_map tile_pads (placed_tiles fabric))
                (all_flat_map IsPort tile_pads (placed_tiles fabric) (λ k d few. pads_printable (get_or (placed_tiles fabric) k d) (all_fit k d few))),
          ),
        ),
      ),
    ),
    items_of (top_items fabric)
        (All-append IsItem (carrying_items (text_mode fabric) fabric) _ (carried_printable (text_mode fabric) fabric)
        (All-append IsItem (flat_map tile_begin_wires (placed_tiles fabric)) _ (all_flat_map IsItem tile_begin_wires (placed_tiles fabric) (λ k d few. begins_of (get_or (placed_tiles fabric) k d) (all_fit k d few)))
        (All-map IsItem (tile_instance fabric) (placed_tiles fabric) (All-weaker Fits (λ placed. IsItem (tile_instance fabric placed)) tile_is (placed_tiles fabric) all_fit)))),
  )
