-- UserCLK serves a tile's module as a clock, and in a chain CLK too. Nothing else does.
use Rattle.std.proofs.Common.{◌≡◌, ◌⊎◌, ℕ, zero, suc, ◌<◌, true, false, List, [], ◌∷◌, map, slice_get, get_or, length, refl, sym, ap, ◌∙◌, subst, inl, inr, arith, rules, Option, Some, All}
use Rattle.std.specs.List.{enumerate_from}
use Rattle.std.specs.Str.{bytes_eq}
use Rattle.std.proofs.lemmas.Bool.{false≢true}
use Rattle.std.proofs.lemmas.List.Elements.{All-nil, All-cons, All-append, All-map, All-weaker, All-contains}
use Rattle.std.proofs.lemmas.Slice.Eq.{bytes_eq-Decides}
use Rattle.fab_kinds.specs.declared.kind.Kind.{Kind}
use Rattle.fab_kinds.specs.declared.kind.Kind.TheVariants.{Lut4c, Io, Mux8}
use Rattle.fab_syntax.specs.declared.tree.Shape.TheVariants.{Scalar}
use Rattle.fab_syntax.specs.declared.tree.Port.{Port}
use Rattle.fab_syntax.specs.Plain.{PlainExpr, PlainJoin, PlainItem, PlainModule, variable, wire, reg, assign, latch, clocked, instance}
use Rattle.fab_syntax.specs.Declarations.{module_named}
use Rattle.fab_syntax.specs.Sound.{ServesAsClock, ticks, leads, IsScalarInput, IsJoinedToClock, ClockFits}
use Rattle.fab_meaning.specs.Runs.{clock_name, user_clock_name}
use Rattle.fab_meaning.specs.Ports.{scalar, config_name}
use Rattle.fab_meaning.proofs.Modules.{Each, each_all}
use Rattle.fab_model.specs.declared.mode.Mode.{Mode}
use Rattle.fab_model.specs.declared.mode.Mode.TheVariants as modes
use Rattle.fab_model.specs.declared.tiles.Bel.{Bel}
use Rattle.fab_model.specs.Tiles.{PlainTile, tile_bits, IsTile, bits_before}
use Rattle.fab_prim.specs.Modules.{module_name, module_of_kind}
use Rattle.fab_parts_sound_laws.specs.fab_gen_tile_Words.{IsNamed}
use Rattle.fab_parts_sound_laws.specs.fab_gen_tile_Names.{config_module_name, matrix_module_name, config_instance_name, matrix_instance_name, bel_instance_name, bits_name, port_join, same_join}
use Rattle.fab_parts_sound_laws.specs.fab_gen_tile_ConfigModule.{config_ports, config_module}
use Rattle.fab_parts_sound_laws.specs.fab_gen_tile_MatrixModule.{matrix_module}
use Rattle.fab_parts_sound_laws.specs.fab_gen_tile_TileModule.{config_joins, config_instances, matrix_output_names, matrix_joins, matrix_instances, bel_joins, bel_instance, bel_instances, tile_items, tile_module}
use Rattle.fab_parts_sound_laws.proofs.Names.{told_apart}
use Rattle.fab_parts_sound_laws.proofs.Configurations.{config_clocks}
use Rattle.fab_parts_sound_laws.proofs.Primitives.{primitive_clocks}
use Rattle.fab_parts_sound_laws.proofs.TileMatrices.{tile_matrix_clocks}
use Rattle.fab_parts_sound_laws.proofs.fab_tile_drives_laws_Members.{contains_at}
use Rattle.fab_tiles_sound_laws.specs.Has.{HasModules}
use Rattle.fab_tiles_sound_laws.proofs.Apart.{instances, each_unconfigured, each_of_tile}
use Rattle.fab_tiles_sound_laws.proofs.Shapes.{whole_shape}
use Rattle.fab_tiles_sound_laws.proofs.Standing.{each_placed, clock_shape, carried_shape}

-- ---- joins

-- UserCLK, and in a chain CLK
abbrev pub IsTileClock : Mode → List ℕ → Type 0
IsTileClock mode name = (name ≡ user_clock_name) ⊎ ((mode ≡ modes.Chain) × (name ≡ clock_name))

-- what is joined to a port that serves as a clock is a clock of the tile
abbrev IsFromClock : Mode → List PlainModule → PlainModule → PlainJoin → Type 0
IsFromClock mode text below join = ServesAsClock text below join.port → (name : List ℕ) × (join.to ≡ Some (variable name)) × IsTileClock mode name

abbrev IsClockOrOther : PlainJoin → Type 0
IsClockOrOther join = (bytes_eq join.port user_clock_name ≡ false) ⊎ (join.to ≡ Some (variable user_clock_name))

bel_clock_joins : (place low : ℕ) (kind : Kind) (prefix : List ℕ) → Each IsClockOrOther (bel_joins place low (record { kind = kind; prefix = prefix }))
bel_clock_joins place low Lut4c prefix = search rules
bel_clock_joins place low Io prefix = search rules
bel_clock_joins place low Mux8 prefix = search rules

-- an item whose clocks are clocks of the tile
abbrev ClockLeads : Mode → List PlainModule → PlainItem → Type 0
ClockLeads mode text (clocked clock target e) = IsTileClock mode clock
ClockLeads mode text (instance name_below i joins) = (below : PlainModule) → module_named text name_below ≡ Some below → All (IsFromClock mode text below) joins
ClockLeads mode text _ = Unit {0}

named_by : Option PlainExpr → List ℕ
named_by (Some (variable name)) = name
named_by _ = []

served : (mode : Mode) (text : List PlainModule) (m : PlainModule) (port : List ℕ) → All (ClockLeads mode text) m.items → ServesAsClock text m port → IsTileClock mode port
unfolding named_by
served mode text m port all (ticks target value there) = All-contains (ClockLeads mode text) m.items (clocked port target value) all there
served mode text m port all (leads name_below i joins join below there among to found later) =
    let of_joins = All-contains (ClockLeads mode text) m.items (instance name_below i joins) all there below found in
    let from = All-contains (IsFromClock mode text below) joins join of_joins among later in
    let same : from.0 ≡ port = ap named_by (sym from.1 ∙ to) in
    subst (IsTileClock mode) same from.2

of_some : {X : Type 0} (x y : X) → Some x ≡ Some y → x ≡ y
of_some x y same = cc

module _ (mode : Mode) (text : List PlainModule) (tile : PlainTile) (has : HasModules mode text tile) where
  -- joins of an instance whose module is known
  lead : (known : PlainModule) (name_below i : List ℕ) (joins : List PlainJoin) → module_named text name_below ≡ Some known → All (IsFromClock mode text known) joins →
      ClockLeads mode text (instance name_below i joins)
  lead known name_below i joins is all below found = subst (λ m. All (IsFromClock mode text m) joins) (of_some known below (sym is ∙ found)) all

  -- the configuration's clock comes by the port of its name
  config_from : All (IsFromClock mode text (config_module mode tile)) (config_joins mode)
  config_from =
      let From : PlainJoin → Type 0 = IsFromClock mode text (config_module mode tile) in
      let same : Port → PlainJoin = λ port. same_join port.name in
      let bits = port_join config_name (variable bits_name) in
      All-append From (map same (config_ports mode)) (bits ∷ [])
      (All-map From same (config_ports mode) (λ k d few serves. ((get_or (config_ports mode) k d).name, refl, inr (config_clocks mode text tile (get_or (config_ports mode) k d).name serves))))
      (All-cons From bits [] (λ serves. absurd (told_apart config_name clock_name refl (config_clocks mode text tile config_name serves).1)) (All-nil From))

  config_leads : (bits : ℕ) → tile_bits tile ≡ bits → All (ClockLeads mode text) (config_instances mode tile bits)
  config_leads zero are = each_unconfigured (ClockLeads mode text) (λ target e. tt) mode
  config_leads (suc bits) are =
      let some : 0 < tile_bits tile = (let all : tile_bits tile ≡ suc bits = are in omega arith) in
      All-cons (ClockLeads mode text) (instance (config_module_name tile) config_instance_name (config_joins mode)) []
      (lead (config_module mode tile) (config_module_name tile) config_instance_name (config_joins mode) (has.config_is some) config_from)
      (All-nil (ClockLeads mode text))

  matrix_leads : (outputs : List (List ℕ)) → matrix_output_names tile ≡ outputs → All (ClockLeads mode text) (matrix_instances tile outputs)
  matrix_leads [] are = All-nil (ClockLeads mode text)
  matrix_leads (output ∷ outputs) are =
      let some : 0 < length (matrix_output_names tile) = (let all : length (matrix_output_names tile) ≡ suc (length outputs) = ap length are in omega arith) in
      All-cons (ClockLeads mode text) (instance (matrix_module_name tile) matrix_instance_name (matrix_joins tile)) []
      (lead (matrix_module tile) (matrix_module_name tile) matrix_instance_name (matrix_joins tile) (has.matrix_is some) (λ k d few serves. absurd (tile_matrix_clocks text tile _ serves)))
      (All-nil (ClockLeads mode text))

  from_clock : (kind : Kind) (join : PlainJoin) → IsClockOrOther join → IsFromClock mode text (module_of_kind kind) join
  from_clock kind join (inl other) serves =
      let same : bytes_eq join.port user_clock_name ≡ true = (bytes_eq-Decides join.port user_clock_name).1 (primitive_clocks text kind join.port serves) in
      absurd (false≢true (sym other ∙ same))
  from_clock kind join (inr to) serves = (user_clock_name, to, inl refl)

  bel_leads : (place : ℕ) (bel : Bel) → slice_get tile.bels place ≡ Some bel → ClockLeads mode text (bel_instance place (bits_before tile.bels place) bel)
  bel_leads place bel there =
      let joins = bel_joins place (bits_before tile.bels place) bel in
      lead (module_of_kind bel.kind) (module_name bel.kind) (bel_instance_name place) joins
      (All-contains (λ (bel : Bel). module_named text (module_name bel.kind) ≡ Some (module_of_kind bel.kind)) tile.bels bel has.kinds_are (contains_at tile.bels place bel there))
      (All-weaker IsClockOrOther (IsFromClock mode text (module_of_kind bel.kind)) (from_clock bel.kind) joins
      (each_all IsClockOrOther joins (bel_clock_joins place (bits_before tile.bels place) bel.kind bel.prefix)))

  instances_lead : All (ClockLeads mode text) (instances mode tile)
  instances_lead =
      All-append (ClockLeads mode text) (config_instances mode tile (tile_bits tile)) _ (config_leads (tile_bits tile) refl)
      (All-append (ClockLeads mode text) (matrix_instances tile (matrix_output_names tile)) (bel_instances tile.bels) (matrix_leads (matrix_output_names tile) refl)
      (All-map (ClockLeads mode text) (λ (placed : ℕ × Bel). bel_instance placed.0 (bits_before tile.bels placed.0) placed.1) (enumerate_from 0 tile.bels)
      (each_placed (λ (placed : ℕ × Bel). ClockLeads mode text (bel_instance placed.0 (bits_before tile.bels placed.0) placed.1)) tile.bels bel_leads)))

  items_lead : All (ClockLeads mode text) (tile_items mode tile)
  items_lead = each_of_tile (ClockLeads mode text) mode tile (λ shape name. tt) (λ target e. tt) instances_lead

  pub tile_clock : (port : List ℕ) → ServesAsClock text (tile_module mode tile) port → IsTileClock mode port
  tile_clock port = served mode text (tile_module mode tile) port items_lead

  -- whatever the mode
  pub tile_clocks : (port : List ℕ) → ServesAsClock text (tile_module mode tile) port → (port ≡ user_clock_name) ⊎ (port ≡ clock_name)
  tile_clocks port serves =
      elim (tile_clock port serves) [
        | inl user ↦ inl user
        | inr chain ↦ inr chain.1
      ]

  -- ---- the rule

  module _ (is : IsTile tile) (named : IsNamed tile) where
    chain_clock : IsScalarInput (tile_module modes.Chain tile) clock_name
    chain_clock = (refl, whole_shape modes.Chain tile clock_name Scalar (carried_shape modes.Chain tile is named (scalar true clock_name) (0, omega arith, refl)))

    clock_scalar : (name : List ℕ) → IsTileClock mode name → IsScalarInput (tile_module mode tile) name
    clock_scalar name (inl user) =
        subst (IsScalarInput (tile_module mode tile)) (sym user) (refl, whole_shape mode tile user_clock_name Scalar (clock_shape mode tile is named))
    clock_scalar name (inr chain) =
        subst (IsScalarInput (tile_module mode tile)) (sym chain.1) (subst (λ mode. IsScalarInput (tile_module mode tile) clock_name) (sym chain.0) chain_clock)

    leads_fit : (item : PlainItem) → ClockLeads mode text item → ClockFits text (tile_module mode tile) item
    leads_fit (wire shape name) led = tt
    leads_fit (reg shape name) led = tt
    leads_fit (assign target e) led = tt
    leads_fit (latch target gate e) led = tt
    leads_fit (clocked clock target e) led = clock_scalar clock led
    leads_fit (instance name_below i joins) led = λ below found.
        All-weaker (IsFromClock mode text below) (λ (join : PlainJoin). ServesAsClock text below join.port → IsJoinedToClock (tile_module mode tile) join.to)
        (λ join from serves. (let clock = from serves in subst (IsJoinedToClock (tile_module mode tile)) (sym clock.1) (clock_scalar clock.0 clock.2))) joins (led below found)

    pub clocks_fit : All (ClockFits text (tile_module mode tile)) (tile_items mode tile)
    clocks_fit = All-weaker (ClockLeads mode text) (ClockFits text (tile_module mode tile)) leads_fit (tile_items mode tile) items_lead
