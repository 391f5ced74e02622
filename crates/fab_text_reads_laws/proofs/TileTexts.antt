-- The modules of a tile are printable.
use Rattle.std.proofs.Common.{◌≡◌, ◌⊎◌, ℕ, zero, suc, ◌+◌, ◌^◌, ◌<◌, ◌≤◌, Bool, true, false, not, List, [], ◌∷◌, map, filter, length, slice_get, reverse, refl, sym, ap, subst, ◌∙◌, inl, inr, arith, lit<, lit≤, codes, Option, Some, None, All, slice_index_or, nat_eq, leb}
use Rattle.std.proofs.lemmas.Bool.{cases_Bool, cases_lt}
use Rattle.std.proofs.lemmas.Bool.Decides.{nat_tests, Decides-eqb}
use Rattle.std.proofs.lemmas.List.{length-map, length-reverse}
use Rattle.std.proofs.lemmas.Option.{slice_get_within}
use Rattle.std.proofs.lemmas.List.Elements.{All-append, All-cons, All-nil, All-map, All-filter, All-head, All-tail, All-weaker}
use Rattle.fab_bits.specs.Bits.{digits}
use Rattle.fab_bits.specs.Widths.{width_from, select_width}
use Rattle.fab_bits.proofs.Least.{select_enough, some_width}
use Rattle.fab_select.specs.declared.pair.Pair.{Pair}
use Rattle.fab_select.specs.Selection.{inputs_of, field_low, field_width, select_bits}
use Rattle.fab_syntax.specs.declared.tree.Shape.TheVariants.{Scalar, Vector}
use Rattle.fab_syntax.specs.declared.tree.Op.TheVariants.{Equal}
use Rattle.fab_syntax.specs.Plain.{PlainExpr, PlainItem, constant, variable, operation, concatenation, plain_exprs, assign, reg}
use Rattle.fab_meaning.specs.Runs.{clock_name}
use Rattle.fab_meaning.specs.Loading.{write_strobe_name}
use Rattle.fab_meaning.specs.Ports.{config_name, config_port, scalar}
use Rattle.fab_matrix.specs.Matrix.{chain, field, output_value, selection}
use Rattle.fab_matrix.proofs.Fields.{field_within}
use Rattle.fab_model.specs.declared.mode.Mode.{Mode}
use Rattle.fab_model.specs.declared.mode.Mode.TheVariants as modes
use Rattle.fab_model.specs.Tables.{HasTable}
use Rattle.fab_model.specs.Tiles.{PlainTile, TileWire, IsPair, IsTile, counted, is_matrix_output, matrix_names, numbered_pairs, tile_bits, tile_wires, wire_name, wire_passes}
use Rattle.fab_gen_tile.specs.TileModule.{is_on_side, matrix_input_names, side_names}
use Rattle.fab_gen_tile.specs.Names.{frame_data_name, frame_strobe_name, chain_in_name, chain_out_name, latch_name, vector}
use Rattle.fab_gen_tile.specs.ConfigModule.{all_latches, before_bit, bit_flop, bit_latch, chain_end, chain_ports, config_module, config_ports, frame_ports, keeping_items}
use Rattle.fab_gen_tile.specs.MatrixModule.{matrix_module, named_pairs, numbered_outputs}
use Rattle.fab_gen_loader.proofs.Counted.{length-counted}
use Rattle.fab_tile_drives_laws.proofs.Endings.{all_counted}
use Rattle.fab_tiles_sound_laws.proofs.fab_parts_sound_laws_Lists.{all_reverse}
use Rattle.fab_tile_drives_laws.proofs.NamedPairs.{bits_same, inputs_same}
use Rattle.fab_tiles_sound_laws.proofs.fab_parts_sound_laws_Sized.{length-digits}
use Rattle.fab_tiles_sound_laws.proofs.fab_parts_sound_laws_TileMatrices.{outputs_named}
use Rattle.fab_tokens.specs.Tokens.{IsIdentifier, keyword_of}
use Rattle.fab_grammar_defs.specs.Printable.{AreWritten, HasPart, IsItem, IsModule, IsPrintable, nested, nested_parts, IsWritten as IsSpelled}
use Rattle.fab_text_reads_laws.specs.Laws.{IsWritten}
use Rattle.fab_text_reads_laws.proofs.Each.{IsPort, ports_of, items_of, all_ports}
use Rattle.fab_text_reads_laws.proofs.Tested.{name_of}
use Rattle.fab_text_reads_laws.proofs.TileWords.{matrix_named, module_named, numbered_name, wires_named}

config_identifier : IsIdentifier config_name
unfolding keyword_of
config_identifier = name_of config_name refl

-- ---- widths of select bits

width_by : (tries width n : ℕ) → n ≤ 256 → width ≤ 8 → width_from tries width n ≤ 8
width_by zero width n few small = small
width_by (suc tries) width n few small = elim (cases_Bool (leb n (2 ^ width))) [
  | inl enough ↦ rw enough small
  | inr short ↦ rw short (width_by tries (width + 1) n few (elim (cases_lt width 8) [
    | inl less ↦ omega arith
    | inr not_less ↦
        let is : width ≡ 8 = omega (arith, small, not_less) in
        let all : leb n (2 ^ 8) ≡ true = grind (arith, nat_tests) in
        absurd (let no : leb n (2 ^ 8) ≡ false = subst (λ (w : ℕ). leb n (2 ^ w) ≡ false) is short in cc)
  ]))
]

few_widths : (n : ℕ) → n ≤ 256 → select_width n ≤ 8
unfolding select_width
few_widths n few = width_by n 0 n few (omega arith)

-- ---- expressions of a matrix

field_spelled : (low width : ℕ) → low + width ≤ 640 → IsSpelled (field low width)
field_spelled low width few = (config_identifier, omega (arith, few), omega (arith, few))

test_spelled : (low width i : ℕ) → low + width ≤ 640 → 0 < width → width ≤ 8 → IsSpelled (operation Equal (field low width) (constant (digits width i)))
test_spelled low width i few some small =
    let long = length-digits width i in
    (field_spelled low width few, (omega (arith, long, some), omega (arith, long, small)))

chain_spelled : (low width i : ℕ) (first : List ℕ) (inputs : List (List ℕ)) → low + width ≤ 640 → 0 < width → width ≤ 8 → IsIdentifier first → All IsIdentifier inputs → IsSpelled (chain low width i first inputs)
chain_spelled low width i first [] few some small named all = named
chain_spelled low width i first (input ∷ inputs) few some small named all =
    (test_spelled low width i few some small, All-head IsIdentifier input inputs all, chain_spelled low width (i + 1) first inputs few some small named (All-tail IsIdentifier input inputs all))

chain_nested : (low width i : ℕ) (first : List ℕ) (inputs : List (List ℕ)) → nested true (chain low width i first inputs) ≤ length inputs + 2
chain_nested low width i first [] = omega arith
chain_nested low width i first (input ∷ inputs) = let rest = chain_nested low width (i + 1) first inputs in omega (arith, rest)

-- the outer parentheses are left out
outer_nested : (low width i : ℕ) (first : List ℕ) (inputs : List (List ℕ)) → nested false (chain low width i first inputs) ≤ length inputs + 2
outer_nested low width i first [] = omega arith
outer_nested low width i first (input ∷ inputs) = let rest = chain_nested low width (i + 1) first inputs in omega (arith, rest)

selection_printable : (low width : ℕ) (inputs : List (List ℕ)) → (2 ≤ length inputs → low + width ≤ 640) → (2 ≤ length inputs → 0 < width) → width ≤ 8 → length inputs ≤ 256 → All IsIdentifier inputs → IsPrintable (selection low width inputs)
selection_printable low width [] few some small short all = ((lit< tt, lit≤ tt), lit≤ tt)
selection_printable low width (input ∷ []) few some small short all = (All-head IsIdentifier input [] all, lit≤ tt)
selection_printable low width (first ∷ second ∷ inputs) few some small short all =
    let more = All-tail IsIdentifier first (second ∷ inputs) all in
    let deep = outer_nested low width 1 first (second ∷ inputs) in
    (chain_spelled low width 1 first (second ∷ inputs) (few (omega arith)) (some (omega arith)) small (All-head IsIdentifier first (second ∷ inputs) all) more, omega (arith, deep, short))

-- what holds of all inputs of pairs holds of those of an output
inputs_within : {K : Type 0} (P : List ℕ → Type 0) (same : K → K → Bool) (pairs : List (K × List ℕ)) (output : K) → All (λ pair. P pair.1) pairs → All P (inputs_of same pairs output)
inputs_within {K} P same pairs output all =
    All-map P (λ (pair : K × List ℕ). pair.1) (filter (λ (pair : K × List ℕ). same pair.0 output) pairs)
    (All-filter (λ (pair : K × List ℕ). same pair.0 output) (λ (pair : K × List ℕ). P pair.1) pairs all)

all_under : {X Y : Type 0} (P : Y → Type 0) (f : X → Y) (xs : List X) → All P (map f xs) → All (λ x. P (f x)) xs
all_under P f [] all = All-nil (λ x. P (f x))
all_under P f (x ∷ xs) all = All-cons (λ y. P (f y)) x xs (All-head P (f x) (map f xs) all) (all_under P f xs (All-tail P (f x) (map f xs) all))

-- ---- the module of the matrix

some_or_none : {X : Type 0} (o : Option X) → ((x : X) × (o ≡ Some x)) ⊎ (o ≡ None)
some_or_none None = inr refl
some_or_none (Some x) = inl (x, refl)

-- a wire that passes a test is there
passes_within : (test : TileWire → Bool) (tile : PlainTile) (number : ℕ) → wire_passes test tile number ≡ true → number < length (tile_wires tile)
passes_within test tile number passes = elim (some_or_none (slice_get (tile_wires tile) number)) [
  | inl some ↦ slice_get_within (tile_wires tile) number some.0 some.1
  | inr none ↦ (let fails : false ≡ true = rw none at passes in absurd cc)
]

module _ (tile : PlainTile) (is : IsTile tile) (written : IsWritten tile) where
  pub side_identifiers : (output : Bool) → All IsIdentifier (side_names output (tile_wires tile))
  side_identifiers output =
      All-map IsIdentifier wire_name (filter (is_on_side output) (tile_wires tile))
      (All-filter (is_on_side output) (λ wire. IsIdentifier (wire_name wire)) (tile_wires tile) (wires_named tile written.named))

  outputs_identifiers : All (λ (output : ℕ × List ℕ). IsIdentifier output.1) (numbered_outputs tile)
  outputs_identifiers =
      all_under IsIdentifier (λ (output : ℕ × List ℕ). output.1) (numbered_outputs tile) (subst (λ (names : List (List ℕ)). All IsIdentifier names) (sym (outputs_named tile)) (side_identifiers true))

  pairs_identifiers : All (λ (pair : ℕ × List ℕ). IsIdentifier pair.1) (named_pairs tile)
  pairs_identifiers =
      All-map (λ (pair : ℕ × List ℕ). IsIdentifier pair.1) (λ (pair : Pair). (pair.output, slice_index_or (matrix_names tile) pair.input [])) tile.pairs
      (All-weaker (IsPair tile) (λ (pair : Pair). IsIdentifier (slice_index_or (matrix_names tile) pair.input []))
      (λ pair is_pair.
      let few = passes_within (λ wire. not (is_matrix_output wire)) tile pair.input is_pair.input in
      let long : length (matrix_names tile) ≡ length (tile_wires tile) = length-map (tile_wires tile) wire_name in
      matrix_named tile written.named pair.input [] (omega (arith, few, long))) tile.pairs is.pairs)

  bits_few : select_bits nat_eq (named_pairs tile) ≤ 640
  bits_few = let same = bits_same (matrix_names tile) tile.pairs in let few = written.few_bits in omega (arith, same, few)

  output_printable : (output : ℕ) → IsPrintable (output_value nat_eq (named_pairs tile) output)
  output_printable output =
      let inputs = inputs_of nat_eq (named_pairs tile) output in
      let count : length inputs ≡ length (inputs_of nat_eq (numbered_pairs tile) output) =
      ap length (inputs_same (matrix_names tile) tile.pairs output) ∙ length-map (inputs_of nat_eq (numbered_pairs tile) output) _ in
      let short : length inputs ≤ 256 = let few = written.few_inputs output in omega (arith, few, count) in
      let small = few_widths (length inputs) short in
      let enough = select_enough (length inputs) in
      selection_printable (field_low nat_eq (named_pairs tile) output) (field_width nat_eq (named_pairs tile) output) inputs within
      (λ two. some_width (field_width nat_eq (named_pairs tile) output) (length inputs) two enough) small short
      (inputs_within IsIdentifier nat_eq (named_pairs tile) output pairs_identifiers)
    where
      within : 2 ≤ length (inputs_of nat_eq (named_pairs tile) output) → field_low nat_eq (named_pairs tile) output + field_width nat_eq (named_pairs tile) output ≤ 640
      within two =
          let inside = field_within nat_eq Decides-eqb output (named_pairs tile) (omega (arith, two)) in
          omega (arith, inside, bits_few)

  matrix_config_port : (bits : ℕ) → bits ≤ 640 → All IsPort (config_port bits)
  matrix_config_port zero few = All-nil IsPort
  matrix_config_port (suc n) few = All-cons IsPort (record { input = true; shape = Vector (suc n); name = config_name }) [] ((omega arith, omega (arith, few)), config_identifier) (All-nil IsPort)

  pub matrix_printable : IsModule (matrix_module tile)
  matrix_printable =
      let value : ℕ × List ℕ → PlainItem = λ (output : ℕ × List ℕ). assign output.1 (output_value nat_eq (named_pairs tile) output.0) in
      let inputs = All-map IsPort (scalar true) (matrix_input_names tile) (All-weaker IsIdentifier (λ name. IsPort (scalar true name)) (λ name named. (tt, named)) (matrix_input_names tile) (side_identifiers false)) in
      let outputs = All-map IsPort (λ (output : ℕ × List ℕ). scalar false output.1) (numbered_outputs tile)
      (All-weaker (λ (output : ℕ × List ℕ). IsIdentifier output.1) (λ (output : ℕ × List ℕ). IsPort (scalar false output.1)) (λ output named. (tt, named)) (numbered_outputs tile) outputs_identifiers) in (
        module_named (codes "matrix_") tile.name refl refl refl written.name,
        ports_of _ (All-append IsPort (map (scalar true) (matrix_input_names tile)) _ inputs (All-append IsPort (config_port (select_bits nat_eq (named_pairs tile))) _ (matrix_config_port (select_bits nat_eq (named_pairs tile)) bits_few) outputs)),
        items_of _ (All-map IsItem value (numbered_outputs tile)
            (All-weaker (λ (output : ℕ × List ℕ). IsIdentifier output.1) (λ (output : ℕ × List ℕ). IsItem (value output)) (λ output named. (named, output_printable output.0)) (numbered_outputs tile) outputs_identifiers)),
      )

-- ---- the module of the configuration bits

pub config_is : IsIdentifier config_name
config_is = config_identifier

latch_is : (bit : ℕ) → IsIdentifier (latch_name bit)
latch_is bit = numbered_name (codes "q") bit refl refl

-- ---- the ports by which its bits come

pub chain_in_is : IsIdentifier chain_in_name
unfolding keyword_of
chain_in_is = name_of chain_in_name refl

pub chain_out_is : IsIdentifier chain_out_name
unfolding keyword_of
chain_out_is = name_of chain_out_name refl

pub bit_ports_printable : (mode : Mode) → All IsPort (config_ports mode)
unfolding keyword_of
bit_ports_printable modes.Frames = all_ports frame_ports (((lit< tt, lit≤ tt), name_of frame_data_name refl), (((lit< tt, lit≤ tt), name_of frame_strobe_name refl), tt))
bit_ports_printable modes.Chain =
    all_ports chain_ports ((tt, name_of clock_name refl), ((tt, name_of write_strobe_name refl), ((tt, chain_in_is), ((tt, chain_out_is), tt))))

-- ---- a chain

before_is : (bit : ℕ) → IsIdentifier (before_bit bit)
before_is zero = chain_in_is
before_is (suc bit) = latch_is bit

flop_item : (bit : ℕ) → IsItem (bit_flop bit)
unfolding keyword_of
flop_item bit = (name_of clock_name refl, latch_is bit, ((name_of write_strobe_name refl, before_is bit, latch_is bit), lit≤ tt))

pub chain_end_item : (bits : ℕ) → IsItem (chain_end bits)
chain_end_item bits = (chain_out_is, (before_is bits, lit≤ tt))

-- ---- all bits together

-- an expression without brackets
abbrev IsPlainSpelled : PlainExpr → Type 0
IsPlainSpelled e = IsSpelled e × (nested false e ≡ 0)

parts_spelled : (es : List PlainExpr) → All IsPlainSpelled es → AreWritten (plain_exprs es) × (nested_parts (plain_exprs es) ≡ 0)
parts_spelled [] all = (tt, refl)
parts_spelled (e ∷ es) all =
    let here = All-head IsPlainSpelled e es all in
    let rest = parts_spelled es (All-tail IsPlainSpelled e es all) in
    let none = here.1 in
    let others = rest.1 in
    ((here.0, rest.0), omega (arith, none, others))

some_part : (es : List PlainExpr) → 0 < length es → HasPart (plain_exprs es)
some_part [] some = absurd (omega (arith, some))
some_part (e ∷ es) some = tt

concatenation_printable : (es : List PlainExpr) → 0 < length es → All IsPlainSpelled es → IsPrintable (concatenation (plain_exprs es))
concatenation_printable es some all =
    let parts = parts_spelled es all in
    let flat = parts.1 in
    ((some_part es some, parts.0), omega (arith, flat))

module _ (tile : PlainTile) (table : HasTable tile) (written : IsWritten tile) (some : 0 < tile_bits tile) where
  latch_item : (bit : ℕ) → bit < tile_bits tile → IsItem (bit_latch tile bit)
  unfolding keyword_of
  latch_item bit few =
      let long = table.as_many in
      let place = table.in_frames bit (0, 0) (omega (arith, few, long)) in
      let frame = place.0 in
      let datum = place.1 in
      let strobe : IsIdentifier frame_strobe_name = name_of frame_strobe_name refl in
      let word : IsIdentifier frame_data_name = name_of frame_data_name refl in
      (latch_is bit, ((strobe, omega (arith, frame), omega (arith, frame)), lit≤ tt), ((word, omega (arith, datum), omega (arith, datum)), lit≤ tt))

  latches : IsPrintable (all_latches (tile_bits tile))
  latches =
      let names : List PlainExpr = counted (tile_bits tile) (λ bit. variable (latch_name bit)) in
      let long : length (reverse names) ≡ tile_bits tile = length-reverse names ∙ length-counted (tile_bits tile) (λ bit. variable (latch_name bit)) in
      concatenation_printable (reverse names) (omega (arith, long, some))
      (all_reverse IsPlainSpelled names (all_counted IsPlainSpelled (tile_bits tile) (λ bit. variable (latch_name bit)) (λ bit few. (latch_is bit, refl))))

  keeping_printable : (mode : Mode) → All IsItem (keeping_items mode tile)
  keeping_printable modes.Frames = all_counted IsItem (tile_bits tile) (bit_latch tile) latch_item
  keeping_printable modes.Chain =
      All-append IsItem (counted (tile_bits tile) bit_flop) (chain_end (tile_bits tile) ∷ []) (all_counted IsItem (tile_bits tile) bit_flop (λ bit below. flop_item bit))
      (All-cons IsItem (chain_end (tile_bits tile)) [] (chain_end_item (tile_bits tile)) (All-nil IsItem))

  pub config_printable : (mode : Mode) → IsModule (config_module mode tile)
  config_printable mode =
      let few = written.few_bits in
      let whole = vector false (tile_bits tile) config_name in (
        module_named (codes "config_") tile.name refl refl refl written.name,
        ports_of _ (All-append IsPort (config_ports mode) (whole ∷ []) (bit_ports_printable mode)
            (All-cons IsPort whole [] ((some, omega (arith, few)), config_identifier) (All-nil IsPort))),
        items_of _ (All-append IsItem (counted (tile_bits tile) (λ bit. reg Scalar (latch_name bit))) _
            (all_counted IsItem (tile_bits tile) (λ bit. reg Scalar (latch_name bit)) (λ bit below. (tt, latch_is bit)))
            (All-append IsItem (keeping_items mode tile) _ (keeping_printable mode)
            (All-cons IsItem _ [] (config_identifier, latches) (All-nil IsItem)))),
      )
