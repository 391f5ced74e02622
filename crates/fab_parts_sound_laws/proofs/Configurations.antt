-- The module of a tile's configuration bits fits in both modes.
use Rattle.std.proofs.Common.{◌≡◌, ◌≢◌, ℕ, ◌+◌, ◌*◌, ◌<◌, ◌≤◌, false, List, [], ◌∷◌, ◌++◌, map, reverse, get_or, length, refl, sym, ◌∙◌, arith, All, AllPairs, Contains, append-nil, decimal, nat_eq}
use Rattle.std.specs.List.{flat_map}
use Rattle.std.proofs.lemmas.Bool.Decides.{Decides-eqb}
use Rattle.std.proofs.lemmas.Fmt.{decimal_injective}
use Rattle.std.proofs.lemmas.List.{length-map, get_or-map, length-reverse, map-append}
use Rattle.std.proofs.lemmas.List.Concat.{flat_map-append}
use Rattle.std.proofs.lemmas.List.Elements.{All-nil, All-cons, All-append, All-contains, All-map, All-head, All-tail, All-weaker, Contains-append_left, Contains-append_right}
use Rattle.std.proofs.lemmas.List.Folds.{Any-from_list_any}
use Rattle.std.proofs.lemmas.Map.Made.{IsDistinct-from_AllPairs}
use Rattle.std.proofs.lemmas.Map.Steps.{length-le_from_distinct_below}
use Rattle.fab_syntax.specs.declared.tree.Shape.TheVariants.{Scalar}
use Rattle.fab_syntax.specs.declared.tree.Port.{Port}
use Rattle.fab_syntax.specs.Plain.{PlainExpr, PlainItem, PlainModule, variable, plain_exprs, reg, assign}
use Rattle.fab_syntax.specs.Sound.{width_of, width_of_name, parts_width, ServesAsClock}
use Rattle.fab_tile_drives_laws.specs.fab_meaning_Ports.{config_name}
use Rattle.fab_tile_drives_laws.specs.fab_meaning_Runs.{clock_name}
use Rattle.fab_tile_drives_laws.specs.fab_model_mode_Mode.{Mode}
use Rattle.fab_tile_drives_laws.specs.fab_model_mode_Mode_TheVariants as modes
use Rattle.fab_tile_drives_laws.specs.fab_model_Tiles.{PlainTile, counted, tile_bits}
use Rattle.fab_tile_drives_laws.specs.fab_model_Tables.{HasTable}
use Rattle.fab_tile_drives_laws.specs.fab_gen_tile_Names.{latch_name, vector}
use Rattle.fab_tile_drives_laws.specs.fab_gen_tile_ConfigModule.{config_ports, keeping_items, all_latches, config_module}
use Rattle.fab_tile_drives_laws.proofs.Latches.{latch_width, all_width}
use Rattle.fab_parts_sound_laws.specs.Fits.{FitsIn}
use Rattle.fab_parts_sound_laws.proofs.Lists.{all_counted, all_reverse, pairs_append, pairs_counted, contains_counted, length-counted, none_each}
use Rattle.fab_parts_sound_laws.proofs.Names.{Differ, AreApart, IsNet, OwnKnown}
use Rattle.fab_parts_sound_laws.proofs.Counts.{item_drives, driven_names, item_holds, held_names, IsItemAmong}
use Rattle.fab_parts_sound_laws.proofs.Expressions.{Holds, parts_hold}
use Rattle.fab_parts_sound_laws.proofs.Clocks.{ClocksBy, serves}
use Rattle.fab_parts_sound_laws.proofs.Flat.{IsSized, ItemFits}
use Rattle.fab_parts_sound_laws.proofs.FlatNames.{UsesOnly, counted_nets, IsFlat, flat_module_fits}
use Rattle.fab_parts_sound_laws.proofs.ConfigItems.{port_names, output_names, ports_apart, outputs_apart, ports_differ, outputs_differ, config_port, ports_among, kept_fits, kept_uses, kept_drives, kept_holds, kept_clocks}

-- ---- there are no more bits than places

abbrev place_number : ℕ × ℕ → ℕ
place_number place = place.0 * 32 + place.1

-- places apart have numbers apart
apart_numbers : (table : List (ℕ × ℕ)) → All (λ place. (place.0 < 20) × (place.1 < 32)) table → AllPairs (λ first second. first ≢ second) table →
    AllPairs (λ first second. first ≢ second) (map place_number table)
apart_numbers table inside apart i j d before within same =
    let long : length (map place_number table) ≡ length table = length-map table place_number in
    let a = get_or table i (0, 0) in
    let b = get_or table j (0, 0) in
    let a_is : get_or (map place_number table) i d ≡ place_number a = get_or-map place_number table i (0, 0) d (omega arith) in
    let b_is : get_or (map place_number table) j d ≡ place_number b = get_or-map place_number table j (0, 0) d (omega arith) in
    let a_in = inside i (0, 0) (omega arith) in
    let b_in = inside j (0, 0) (omega arith) in
    let frames : a.0 ≡ b.0 = omega (arith, a_in, b_in) in
    let bits : a.1 ≡ b.1 = omega (arith, a_in, b_in) in
    apart i j (0, 0) before (omega arith) (λ k. (frames k, bits k))

few_places : (table : List (ℕ × ℕ)) → All (λ place. (place.0 < 20) × (place.1 < 32)) table → AllPairs (λ first second. first ≢ second) table → length table ≤ 640
few_places table inside apart =
    let numbers = map place_number table in
    let long : length numbers ≡ length table = length-map table place_number in
    let below : All (λ n. n < 640) numbers = All-map (λ n. n < 640) place_number table (λ k d within. let one = inside k d within in omega (arith, one)) in
    let few : length numbers ≤ 640 =
    length-le_from_distinct_below numbers 640 (IsDistinct-from_AllPairs Decides-eqb numbers (apart_numbers table inside apart))
    (λ q there.
    let found = Any-from_list_any (nat_eq q) numbers there in
    let same : q ≡ found.1 = (Decides-eqb q found.1).0 found.4 in
    let inside : found.1 < 640 = All-contains (λ n. n < 640) numbers found.1 below (found.0, found.2, found.3) in
    omega arith) in
    omega arith

-- ---- names

latches_differ : (i j : ℕ) → i < j → j < 640 → latch_name i ≢ latch_name j
latches_differ i j before few same =
    let digits : decimal i ≡ decimal j = cc in
    let equal : i ≡ j = decimal_injective i j (omega arith) (omega arith) digits in
    omega arith

module _ (mode : Mode) (tile : PlainTile) (table : HasTable tile) where
  abbrev bits : ℕ
  bits = tile_bits tile

  abbrev latches : List (List ℕ)
  latches = counted bits latch_name

  abbrev registers : List PlainItem
  registers = counted bits (λ bit. reg Scalar (latch_name bit))

  abbrev kept : List PlainItem
  kept = keeping_items mode tile

  abbrev rest : List PlainItem
  rest = kept ++ assign config_name (all_latches bits) ∷ []

  abbrev names : List (List ℕ)
  names = port_names mode ++ latches

  few : bits ≤ 640
  few = omega (arith, few_places tile.table table.in_frames table.apart, table.as_many)

  latches_apart : AreApart latches
  latches_apart = pairs_counted Differ bits latch_name (λ i j before within. latches_differ i j before (omega (arith, few)))

  names_apart : AreApart names
  names_apart =
      pairs_append Differ (port_names mode) latches (ports_apart mode) latches_apart
      (All-weaker (λ name. (bit : ℕ) → name ≢ latch_name bit) (λ name. All (Differ name) latches)
      (λ name differs. all_counted (Differ name) bits latch_name (λ bit within. differs bit)) (port_names mode) (ports_differ mode))

  -- ---- widths

  abbrev m : PlainModule
  m = config_module mode tile

  wide_parts : (es : List PlainExpr) → All (λ e. width_of m e ≡ 1) es → parts_width (width_of_name m) (plain_exprs es) ≡ length es
  wide_parts [] all = refl
  wide_parts (e ∷ es) all = omega (arith, All-head (λ e. width_of m e ≡ 1) e es all, wide_parts es (All-tail (λ e. width_of m e ≡ 1) e es all))

  abbrev shown : List PlainExpr
  shown = counted bits (λ bit. variable (latch_name bit))

  all_wide : width_of m (all_latches bits) ≡ bits
  all_wide =
      wide_parts (reverse shown) (all_reverse (λ e. width_of m e ≡ 1) shown (all_counted (λ e. width_of m e ≡ 1) bits (λ bit. variable (latch_name bit)) (latch_width mode tile)))
      ∙ length-reverse shown
      ∙ length-counted bits (λ bit. variable (latch_name bit))

  -- ---- items

  assign_fits : ItemFits m (assign config_name (all_latches bits))
  assign_fits = (
    ((tt, tt), parts_hold (IsSized m) (reverse shown) (all_reverse (Holds (IsSized m)) shown (all_counted (Holds (IsSized m)) bits (λ bit. variable (latch_name bit)) (λ bit within. (tt, tt))))),
    all_width mode tile ∙ sym all_wide,
  )

  rest_fits : All (ItemFits m) rest
  rest_fits =
      All-append (ItemFits m) kept (assign config_name (all_latches bits) ∷ []) (kept_fits tile mode table)
      (All-cons (ItemFits m) (assign config_name (all_latches bits)) [] assign_fits (All-nil (ItemFits m)))

  -- ---- uses

  latch_among : (bit : ℕ) → bit < bits → Contains names (latch_name bit)
  latch_among bit within = Contains-append_right (port_names mode) latches (latch_name bit) (contains_counted bits latch_name bit within)

  config_among : Contains names config_name
  config_among = Contains-append_left (port_names mode) latches config_name (config_port mode)

  rest_uses : All (UsesOnly names) rest
  rest_uses =
      All-append (UsesOnly names) kept (assign config_name (all_latches bits) ∷ []) (kept_uses tile mode)
      (All-cons (UsesOnly names) (assign config_name (all_latches bits)) []
      (config_among, (tt, parts_hold (OwnKnown names) (reverse shown) (all_reverse (Holds (OwnKnown names)) shown (all_counted (Holds (OwnKnown names)) bits (λ bit. variable (latch_name bit)) latch_among))))
      (All-nil (UsesOnly names)))

  -- ---- drivers

  abbrev driven : List (List ℕ)
  driven = latches ++ output_names mode

  drives : (text : List PlainModule) → driven_names text m.items ≡ driven
  drives text =
      flat_map-append (item_drives text) registers rest
      ∙ (λ j. none_each (item_drives text) bits (λ bit. reg Scalar (latch_name bit)) (λ bit. refl) j ++ flat_map (item_drives text) rest)
      ∙ flat_map-append (item_drives text) kept (assign config_name (all_latches bits) ∷ [])
      ∙ kept_drives tile mode text

  holds : held_names m.items ≡ latches
  holds =
      flat_map-append item_holds registers rest
      ∙ (λ j. none_each item_holds bits (λ bit. reg Scalar (latch_name bit)) (λ bit. refl) j ++ flat_map item_holds rest)
      ∙ flat_map-append item_holds kept (assign config_name (all_latches bits) ∷ [])
      ∙ append-nil (flat_map item_holds kept)
      ∙ kept_holds tile mode

  driven_apart : AreApart driven
  driven_apart =
      pairs_append Differ latches (output_names mode) latches_apart (outputs_apart mode)
      (all_counted (λ name. All (Differ name) (output_names mode)) bits latch_name (λ bit within. outputs_differ mode bit))

  nets_among : All (IsItemAmong driven latches) registers
  nets_among =
      all_counted (IsItemAmong driven latches) bits (λ bit. reg Scalar (latch_name bit))
      (λ bit within. (Contains-append_left latches (output_names mode) (latch_name bit) (contains_counted bits latch_name bit within), contains_counted bits latch_name bit within))

  -- ---- together

  flat : (text : List PlainModule) → IsFlat text m registers rest names driven latches
  flat text = record {
    in_order = refl;
    declare = all_counted IsNet bits (λ bit. reg Scalar (latch_name bit)) (λ bit within. tt);
    declared = λ j. map-append (λ (port : Port). port.name) (config_ports mode) (vector false bits config_name ∷ []) j ++ counted_nets Scalar bits latch_name j;
    names_apart = names_apart;
    used = rest_uses;
    fit = rest_fits;
    drives = drives text;
    holds = holds;
    driven_apart = driven_apart;
    held_apart = latches_apart;
    ports_among = ports_among bits mode;
    nets_among = nets_among;
  }

  pub config_fits : (text before : List PlainModule) → FitsIn text before m
  config_fits text before = flat_module_fits text before m registers rest names driven latches (flat text)

-- CLK is its clock in a chain, and in frames it has none
pub config_clocks : (mode : Mode) (text : List PlainModule) (tile : PlainTile) (port : List ℕ) → ServesAsClock text (config_module mode tile) port → (mode ≡ modes.Chain) × (port ≡ clock_name)
config_clocks mode text tile port =
    let ByClock : PlainItem → Type 0 = ClocksBy (λ clock. (mode ≡ modes.Chain) × (clock ≡ clock_name)) in
    let bits = tile_bits tile in
    serves (λ clock. (mode ≡ modes.Chain) × (clock ≡ clock_name)) text (config_module mode tile) port
    (All-append ByClock (counted bits (λ bit. reg Scalar (latch_name bit))) _ (all_counted ByClock bits (λ bit. reg Scalar (latch_name bit)) (λ bit within. tt))
    (All-append ByClock (keeping_items mode tile) (assign config_name (all_latches bits) ∷ []) (kept_clocks tile mode)
    (All-cons ByClock (assign config_name (all_latches bits)) [] tt (All-nil ByClock))))
