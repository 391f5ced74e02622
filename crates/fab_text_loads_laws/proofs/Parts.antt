-- Which module stands at each path of a fabric's text, and which of them have flip-flops and latches.
use Rattle.std.proofs.Common.{◌≡◌, ℕ, zero, suc, ◌+◌, ◌<◌, false, List, [], ◌∷◌, ◌++◌, length, map, refl, sym, ap, ◌∙◌, subst, inl, inr, ◌⊎◌, arith, Option, Some, None, All, Contains}
use Rattle.std.specs.List.{list_any}
use Rattle.std.specs.Str.{bytes_eq}
use Rattle.std.proofs.lemmas.Bool.{cases_Bool}
use Rattle.std.proofs.lemmas.Slice.Eq.{bytes_eq-Decides}
use Rattle.std.proofs.lemmas.List.Elements.{All-nil, All-cons, All-head, All-tail, All-append, All-map, All-weaker, All-contains}
use Rattle.fab_kinds.specs.declared.kind.Kind.{Kind}
use Rattle.fab_kinds.specs.declared.kind.Kind.TheVariants as kinds
use Rattle.fab_kinds.specs.Pins.{input_names, output_names, bit_count}
use Rattle.fab_syntax.specs.declared.tree.Shape.TheVariants.{Scalar, Vector}
use Rattle.fab_syntax.specs.Plain.{PlainExpr, PlainJoin, PlainItem, PlainModule, variable, part, wire, reg, assign, latch, clocked, instance}
use Rattle.fab_syntax.specs.Declarations.{module_named}
use Rattle.fab_meaning.specs.Points.{Path, Found, instance_named, instance_in, module_of, module_at}
use Rattle.fab_meaning.specs.Runs.{clock_name, user_clock_name}
use Rattle.fab_meaning.proofs.Modules.{each_all}
use Rattle.fab_meaning.specs.Ports.{config_name}
use Rattle.fab_drives_laws.specs.fab_model_mode_Mode_TheVariants as modes
use Rattle.fab_drives_laws.specs.fab_prim_Ports.{clock_names, top_inputs, top_outputs}
use Rattle.fab_drives_laws.specs.fab_prim_Modules.{module_name, module_items, module_of_kind}
use Rattle.fab_drives_laws.specs.fab_model_tiles_Bel.{Bel}
use Rattle.fab_drives_laws.specs.fab_model_Tiles.{PlainTile, counted, matrix_names, tile_bits}
use Rattle.fab_drives_laws.specs.fab_model_Grid.{PlainFabric, tile_at}
use Rattle.fab_drives_laws.specs.fab_fabric_Names.{place_name}
use Rattle.fab_drives_laws.specs.fab_gen_tile_Names.{config_module_name, matrix_module_name, tile_module_name, config_instance_name, bits_name, latch_name, pad_name, port_join, same_join}
use Rattle.fab_drives_laws.specs.fab_gen_tile_ConfigModule.{bit_latch, all_latches, config_items, config_module, bit_flop, chain_end, keeping_items}
use Rattle.fab_drives_laws.specs.fab_gen_tile_MatrixModule.{matrix_module, numbered_outputs}
use Rattle.fab_drives_laws.specs.fab_gen_tile_TileModule.{bits_join, matrix_output_names, pin_join, pad_join, bel_joins, tile_items, tile_module}
use Rattle.fab_drives_laws.specs.fab_gen_loader_Loader.{NextValues, address_port, strobe_port, registers, processes, outputs, loader_of, state_name, count_name, strobe_register_name, row_port, address_register_name, row_register_name, loader_module_name}
use Rattle.fab_drives_laws.specs.fab_fabric_text_defs_Names.{loader_instance_name}
use Rattle.fab_drives_laws.specs.fab_fabric_text_defs_Places.{PlacedTile}
use Rattle.fab_drives_laws.specs.fab_fabric_text_defs_Top.{top_items, top_module}
use Rattle.fab_drives_laws.specs.Points.{place_path}
use Rattle.fab_drives_laws.specs.fab_fabric_Fabric.{IsFabric}
use Rattle.fab_drives_laws.specs.fab_fabric_text_defs_Texts.{IsFabricText}
use Rattle.fab_drives_laws.specs.fab_model_mode_Mode.{Mode}
use Rattle.fab_drives_laws.specs.fab_fabric_text_defs_Mode.{text_mode}
use Rattle.fab_parts_sound_laws.proofs.Apart.{differs_from}
use Rattle.fab_parts_sound_laws.proofs.Names.{Differ}
use Rattle.fab_drives_laws.proofs.fab_tile_drives_laws_Endings.{all_counted}
use Rattle.fab_drives_laws.proofs.Apart.{told_apart}
use Rattle.fab_drives_laws.proofs.Instances.{all_of_top}
use Rattle.fab_drives_laws.proofs.Lists.{all_of}
use Rattle.fab_drives_laws.proofs.Places.{IsThere}
use Rattle.fab_drives_laws.proofs.Texts.{HasFabric}
use Rattle.fab_text_loads_laws.specs.Points.{loader_path, config_path}
use Rattle.fab_text_loads_laws.proofs.Loader.{register_names, row_register, has_loader}
use Rattle.fab_text_loads_laws.proofs.TileItems.{all_of_items}

-- ---- what the items of a module are

-- facts of instances, of what latches hold, and of clocks with what flip-flops hold
abbrev pub ItemIs : (Instance : (module_name i : List ℕ) → List PlainJoin → Type 0) → (Latch : List ℕ → Type 0) → (Flop : (clock target : List ℕ) → Type 0) → PlainItem → Type 0
ItemIs Instance Latch Flop (instance module_name i joins) = Instance module_name i joins
ItemIs Instance Latch Flop (latch target gate e) = Latch target
ItemIs Instance Latch Flop (clocked clock target e) = Flop clock target
ItemIs Instance Latch Flop (wire shape name) = Unit {0}
ItemIs Instance Latch Flop (reg shape name) = Unit {0}
ItemIs Instance Latch Flop (assign target e) = Unit {0}

abbrev pub NoInstance : (module_name i : List ℕ) → List PlainJoin → Type 0
NoInstance module_name i joins = ⊥

abbrev pub NoLatch : List ℕ → Type 0
NoLatch target = ⊥

abbrev pub NoFlop : (clock target : List ℕ) → Type 0
NoFlop clock target = ⊥

abbrev pub ByUserClock : (clock target : List ℕ) → Type 0
ByUserClock clock target = clock ≡ user_clock_name

-- the instance that a name means is one of which the fact holds
named_is : (Instance : (module_name i : List ℕ) → List PlainJoin → Type 0) (Latch : List ℕ → Type 0) (Flop : (clock target : List ℕ) → Type 0) (items : List PlainItem) (i : List ℕ) (found : Found) →
    All (ItemIs Instance Latch Flop) items → instance_named items i ≡ Some found → Instance found.module_name i found.joins
named_is Instance Latch Flop [] i found all is = absurd cc
named_is Instance Latch Flop (wire shape name ∷ items) i found all is = named_is Instance Latch Flop items i found (All-tail (ItemIs Instance Latch Flop) (wire shape name) items all) is
named_is Instance Latch Flop (reg shape name ∷ items) i found all is = named_is Instance Latch Flop items i found (All-tail (ItemIs Instance Latch Flop) (reg shape name) items all) is
named_is Instance Latch Flop (assign target e ∷ items) i found all is = named_is Instance Latch Flop items i found (All-tail (ItemIs Instance Latch Flop) (assign target e) items all) is
named_is Instance Latch Flop (latch target gate e ∷ items) i found all is = named_is Instance Latch Flop items i found (All-tail (ItemIs Instance Latch Flop) (latch target gate e) items all) is
named_is Instance Latch Flop (clocked clock target e ∷ items) i found all is =
    named_is Instance Latch Flop items i found (All-tail (ItemIs Instance Latch Flop) (clocked clock target e) items all) is
named_is Instance Latch Flop (instance module_name other joins ∷ items) i found all is =
    elim (cases_Bool (bytes_eq other i)) [
      | inl here ↦ (
          let first : Some (record { module_name = module_name; joins = joins }) ≡ Some found = rw here at is in
          let same : record { module_name = module_name; joins = joins } ≡ found = cc in
          let name : other ≡ i = (bytes_eq-Decides other i).0 here in
          subst (λ (f : Found). Instance f.module_name i f.joins) same
          (subst (λ n. Instance module_name n joins) name (All-head (ItemIs Instance Latch Flop) (instance module_name other joins) items all)))
      | inr past ↦ named_is Instance Latch Flop items i found (All-tail (ItemIs Instance Latch Flop) (instance module_name other joins) items all) (rw past at is)
    ]

-- what a latch holds and what a flip-flop holds, by the facts of a module's items
module _ (Instance : (module_name i : List ℕ) → List PlainJoin → Type 0) (Latch : List ℕ → Type 0) (Flop : (clock target : List ℕ) → Type 0)
    (m known : PlainModule) (all : All (ItemIs Instance Latch Flop) known.items) (is : m ≡ known) where
  pub latch_is : (target : List ℕ) (gate e : PlainExpr) → Contains m.items (latch target gate e) → Latch target
  latch_is target gate e there =
      All-contains (ItemIs Instance Latch Flop) known.items (latch target gate e) all (subst (λ (o : PlainModule). Contains o.items (latch target gate e)) is there)

  pub flop_is : (clock target : List ℕ) (e : PlainExpr) → Contains m.items (clocked clock target e) → Flop clock target
  flop_is clock target e there =
      All-contains (ItemIs Instance Latch Flop) known.items (clocked clock target e) all (subst (λ (o : PlainModule). Contains o.items (clocked clock target e)) is there)

  pub instance_is : (i : List ℕ) (found : Found) → instance_named m.items i ≡ Some found → Instance found.module_name i found.joins
  instance_is i found there =
      named_is Instance Latch Flop known.items i found all (subst (λ (o : PlainModule). instance_named o.items i ≡ Some found) is there)

-- ---- the top

-- a loader, in frames, or a tile
abbrev pub IsTopPart : PlainFabric → (module_name i : List ℕ) → List PlainJoin → Type 0
IsTopPart fabric module_name i joins =
    ((text_mode fabric ≡ modes.Frames) × (module_name ≡ loader_module_name) × (i ≡ loader_instance_name))
    ⊎ ((placed : PlacedTile) × IsThere fabric placed × (module_name ≡ tile_module_name placed.tile) × (i ≡ place_name placed.x placed.y))

pub top_is : (fabric : PlainFabric) → All (ItemIs (IsTopPart fabric) NoLatch NoFlop) (top_items fabric)
top_is fabric =
    all_of_top fabric (ItemIs (IsTopPart fabric) NoLatch NoFlop) (λ name. tt) (λ name. tt) (λ name. tt) (λ x. tt) (λ frames. inl (frames, refl, refl))
    (λ placed there. inr (placed, there, refl, refl))

-- ---- the loader

abbrev pub IsRegister : (rows : ℕ) → (clock target : List ℕ) → Type 0
IsRegister rows clock target = Contains (register_names rows) target

pub loader_is : (rows : ℕ) (next : NextValues) → All (ItemIs NoInstance NoLatch (IsRegister rows)) (loader_of rows next).items
loader_is rows next =
    let P = ItemIs NoInstance NoLatch (IsRegister rows) in
    let fixed_registers : List PlainItem = reg (Vector 2) state_name ∷ reg (Vector 5) count_name ∷ reg (Vector 32) address_register_name ∷ reg Scalar strobe_register_name ∷ [] in
    let fixed_processes : List PlainItem =
    clocked clock_name state_name next.state ∷ clocked clock_name count_name next.count
    ∷ clocked clock_name address_register_name next.address ∷ clocked clock_name strobe_register_name next.strobe ∷ [] in
    let fixed_outputs : List PlainItem = assign address_port (variable address_register_name) ∷ assign strobe_port (variable strobe_register_name) ∷ [] in
    All-append P (registers rows) (processes rows next ++ outputs rows)
    (All-append P fixed_registers (counted rows (λ row. reg (Vector 32) (row_register_name row))) (each_all P fixed_registers (tt, (tt, (tt, (tt, tt)))))
    (all_counted P rows (λ row. reg (Vector 32) (row_register_name row)) (λ row few. tt)))
    (All-append P (processes rows next) (outputs rows)
    (All-append P fixed_processes (counted rows (λ row. clocked clock_name (row_register_name row) (next.row row)))
    (each_all P fixed_processes ((0, omega arith, refl), ((1, omega arith, refl), ((2, omega arith, refl), ((3, omega arith, refl), tt)))))
    (all_counted P rows (λ row. clocked clock_name (row_register_name row) (next.row row)) (λ row few. row_register rows row few)))
    (All-append P fixed_outputs (counted rows (λ row. assign (row_port row) (variable (row_register_name row)))) (each_all P fixed_outputs (tt, (tt, tt)))
    (all_counted P rows (λ row. assign (row_port row) (variable (row_register_name row))) (λ row few. tt))))

-- ---- a configuration

-- in frames latches keep its bits,
abbrev pub IsLatchOf : Mode → PlainTile → List ℕ → Type 0
IsLatchOf mode tile target = (mode ≡ modes.Frames) × ((number : ℕ) × (number < tile_bits tile) × (target ≡ latch_name number))

-- and in a chain flip-flops
abbrev pub IsFlopOf : Mode → PlainTile → (clock target : List ℕ) → Type 0
IsFlopOf mode tile clock target = (mode ≡ modes.Chain) × ((number : ℕ) × (number < tile_bits tile) × (target ≡ latch_name number))

keeping_is : (mode : Mode) (tile : PlainTile) → All (ItemIs NoInstance (IsLatchOf mode tile) (IsFlopOf mode tile)) (keeping_items mode tile)
keeping_is modes.Frames tile =
    all_counted (ItemIs NoInstance (IsLatchOf modes.Frames tile) (IsFlopOf modes.Frames tile)) (tile_bits tile) (bit_latch tile)
    (λ bit few. (refl, (bit, few, refl)))
keeping_is modes.Chain tile =
    let P = ItemIs NoInstance (IsLatchOf modes.Chain tile) (IsFlopOf modes.Chain tile) in
    All-append P (counted (tile_bits tile) bit_flop) (chain_end (tile_bits tile) ∷ [])
    (all_counted P (tile_bits tile) bit_flop (λ bit few. (refl, (bit, few, refl))))
    (All-cons P (chain_end (tile_bits tile)) [] tt (All-nil P))

pub config_is : (mode : Mode) (tile : PlainTile) → All (ItemIs NoInstance (IsLatchOf mode tile) (IsFlopOf mode tile)) (config_items mode tile)
config_is mode tile =
    let P = ItemIs NoInstance (IsLatchOf mode tile) (IsFlopOf mode tile) in
    let last = assign config_name (all_latches (tile_bits tile)) in
    All-append P (counted (tile_bits tile) (λ bit. reg Scalar (latch_name bit))) (keeping_items mode tile ++ last ∷ [])
    (all_counted P (tile_bits tile) (λ bit. reg Scalar (latch_name bit)) (λ bit few. tt))
    (All-append P (keeping_items mode tile) (last ∷ []) (keeping_is mode tile) (All-cons P last [] tt (All-nil P)))

-- ---- switch matrices and BELs

pub matrix_is : (tile : PlainTile) → All (ItemIs NoInstance NoLatch NoFlop) (matrix_module tile).items
matrix_is tile = All-map (ItemIs NoInstance NoLatch NoFlop) _ (numbered_outputs tile) (λ k d few. tt)

pub kind_is : (kind : Kind) → All (ItemIs NoInstance NoLatch ByUserClock) (module_items kind)
kind_is kinds.Lut4c = each_all (ItemIs NoInstance NoLatch ByUserClock) (module_items kinds.Lut4c) (tt, (tt, (tt, (tt, (tt, (tt, (tt, (refl, (tt, (tt, tt))))))))))
kind_is kinds.Io = each_all (ItemIs NoInstance NoLatch ByUserClock) (module_items kinds.Io) (tt, (refl, (tt, (tt, (tt, (tt, tt))))))
kind_is kinds.Mux8 =
    each_all (ItemIs NoInstance NoLatch ByUserClock) (module_items kinds.Mux8)
    (tt, (tt, (tt, (tt, (tt, (tt, (tt, (tt, (tt, (tt, (tt, (tt, (tt, (tt, (tt, (tt, (tt, (tt, (tt, (tt, (tt, (tt, (tt, (tt, (tt, (tt, tt))))))))))))))))))))))))))

-- a port UserCLK is joined to UserCLK alone
abbrev pub KeepsClock : PlainJoin → Type 0
KeepsClock join = join.port ≡ user_clock_name → join.to ≡ Some (variable user_clock_name)

no_clock_inputs : (kind : Kind) → list_any (bytes_eq user_clock_name) (input_names kind) ≡ false
no_clock_inputs kinds.Lut4c = refl
no_clock_inputs kinds.Io = refl
no_clock_inputs kinds.Mux8 = refl

no_clock_outputs : (kind : Kind) → list_any (bytes_eq user_clock_name) (output_names kind) ≡ false
no_clock_outputs kinds.Lut4c = refl
no_clock_outputs kinds.Io = refl
no_clock_outputs kinds.Mux8 = refl

no_clock_from_top : (kind : Kind) → list_any (bytes_eq user_clock_name) (top_inputs kind) ≡ false
no_clock_from_top kinds.Lut4c = refl
no_clock_from_top kinds.Io = refl
no_clock_from_top kinds.Mux8 = refl

no_clock_to_top : (kind : Kind) → list_any (bytes_eq user_clock_name) (top_outputs kind) ≡ false
no_clock_to_top kinds.Lut4c = refl
no_clock_to_top kinds.Io = refl
no_clock_to_top kinds.Mux8 = refl

-- joins of ports of other names
others_keep : (names : List (List ℕ)) (to : List ℕ → PlainExpr) → list_any (bytes_eq user_clock_name) names ≡ false → All KeepsClock (map (λ name. port_join name (to name)) names)
others_keep names to none =
    All-map KeepsClock (λ name. port_join name (to name)) names
    (All-weaker (Differ user_clock_name) (λ name. KeepsClock (port_join name (to name))) (λ name differ same. absurd (differ (sym same))) names
    (differs_from user_clock_name names none))

clocks_keep : (kind : Kind) → All KeepsClock (map same_join (clock_names kind))
clocks_keep kinds.Lut4c = All-cons KeepsClock (same_join user_clock_name) [] (λ same. refl) (All-nil KeepsClock)
clocks_keep kinds.Io = All-cons KeepsClock (same_join user_clock_name) [] (λ same. refl) (All-nil KeepsClock)
clocks_keep kinds.Mux8 = All-nil KeepsClock

bits_keep : (low bits : ℕ) → All KeepsClock (bits_join low bits)
bits_keep low zero = All-nil KeepsClock
bits_keep low (suc bits) =
    All-cons KeepsClock (port_join config_name (part bits_name (low + bits) low)) [] (λ same. absurd (told_apart 0 config_name user_clock_name refl same)) (All-nil KeepsClock)

pub bel_keeps : (place low : ℕ) (bel : Bel) → All KeepsClock (bel_joins place low bel)
bel_keeps place low bel =
    let kind = bel.kind in
    let K = KeepsClock in
    All-append K (map (pin_join bel) (input_names kind)) _ (others_keep (input_names kind) (λ pin. variable (bel.prefix ++ pin)) (no_clock_inputs kind))
    (All-append K (map same_join (clock_names kind)) _ (clocks_keep kind)
    (All-append K (bits_join low (bit_count kind)) _ (bits_keep low (bit_count kind))
    (All-append K (map (pad_join place) (top_inputs kind)) _ (others_keep (top_inputs kind) (λ port. variable (pad_name place port)) (no_clock_from_top kind))
    (All-append K (map (pin_join bel) (output_names kind)) (map (pad_join place) (top_outputs kind)) (others_keep (output_names kind) (λ pin. variable (bel.prefix ++ pin)) (no_clock_outputs kind))
    (others_keep (top_outputs kind) (λ port. variable (pad_name place port)) (no_clock_to_top kind))))))

-- ---- a tile

-- the configuration, the switch matrix, or a BEL
pub data IsTilePart (tile : PlainTile) (name_of_module i : List ℕ) (joins : List PlainJoin) : Type 0 where
  a_configuration : 0 < tile_bits tile → name_of_module ≡ config_module_name tile → i ≡ config_instance_name → IsTilePart tile name_of_module i joins
  a_switch_matrix : 0 < length (matrix_output_names tile) → name_of_module ≡ matrix_module_name tile → IsTilePart tile name_of_module i joins
  a_site : (bel : Bel) → Contains tile.bels bel → name_of_module ≡ module_name bel.kind → All KeepsClock joins → IsTilePart tile name_of_module i joins

pub tile_is : (mode : Mode) (tile : PlainTile) → All (ItemIs (IsTilePart tile) NoLatch NoFlop) (tile_items mode tile)
tile_is mode tile =
    let P = ItemIs (IsTilePart tile) NoLatch NoFlop in
    all_of_items mode tile P (λ target e. tt) (all_of (λ name. P (wire Scalar name)) (matrix_names tile) (λ name. tt)) (λ some. tt)
    (λ some. a_configuration some refl refl)
    (λ some. a_switch_matrix some refl)
    (λ place low bel listed. a_site bel listed refl (bel_keeps place low bel))

-- ---- which module stands at a path

pub data IsPart (fabric : PlainFabric) (path : Path) (m : PlainModule) : Type 0 where
  the_top : path ≡ [] → m ≡ top_module fabric → IsPart fabric path m
  the_loader : (next : NextValues) → text_mode fabric ≡ modes.Frames → path ≡ loader_path → m ≡ loader_of fabric.rows next → IsPart fabric path m
  a_tile : (x y : ℕ) (tile : PlainTile) → tile_at fabric x y ≡ Some tile → path ≡ place_path x y → m ≡ tile_module (text_mode fabric) tile →
      IsPart fabric path m
  a_config : (x y : ℕ) (tile : PlainTile) → tile_at fabric x y ≡ Some tile → path ≡ config_path x y → m ≡ config_module (text_mode fabric) tile →
      IsPart fabric path m
  a_matrix : (tile : PlainTile) → m ≡ matrix_module tile → IsPart fabric path m
  a_bel : (x y : ℕ) (tile : PlainTile) (i : List ℕ) (found : Found) (kind : Kind) → tile_at fabric x y ≡ Some tile → path ≡ i ∷ place_path x y →
      instance_named (tile_items (text_mode fabric) tile) i ≡ Some found → All KeepsClock found.joins → m ≡ module_of_kind kind → IsPart fabric path m

-- the instance behind a module that is found
found_behind : (text : List PlainModule) (found : Option Found) (m : PlainModule) → module_of text found ≡ Some m → (f : Found) × (found ≡ Some f) × (module_named text f.module_name ≡ Some m)
found_behind text None m is = absurd cc
found_behind text (Some f) m is = (f, refl, is)

-- the loader of a text in frames
abbrev pub LoaderIs : PlainFabric → List PlainModule → Type 0
LoaderIs fabric text = text_mode fabric ≡ modes.Frames → (next : NextValues) × (module_named text loader_module_name ≡ Some (loader_of fabric.rows next))

pub loader_is_named : (fabric : PlainFabric) (text : List PlainModule) → IsFabric fabric → IsFabricText fabric text → LoaderIs fabric text
loader_is_named fabric text is is_text frames = let found = has_loader fabric text is is_text frames in (found.0, found.1.named)

module _ (fabric : PlainFabric) (text : List PlainModule) (has : HasFabric fabric text) (loader : LoaderIs fabric text) where
  abbrev mode : Mode
  mode = text_mode fabric

  abbrev Part : Path → PlainModule → Type 0
  Part path m = IsPart fabric path m

  -- two modules found by one name
  one_module : (name other : List ℕ) (m inner : PlainModule) → name ≡ other → module_named text name ≡ Some m → module_named text other ≡ Some inner → m ≡ inner
  one_module name other m inner same is is_inner =
      let both : Some m ≡ Some inner = sym is ∙ ap (module_named text) same ∙ is_inner in cc

  below_top : (i : List ℕ) (m : PlainModule) (found : Found) → instance_named (top_items fabric) i ≡ Some found → module_named text found.module_name ≡ Some m → Part (i ∷ []) m
  below_top i m found at named =
      elim (named_is (IsTopPart fabric) NoLatch NoFlop (top_items fabric) i found (top_is fabric) at) [
        | inl one ↦ (
            let made = loader one.0 in
            the_loader made.0 one.0 (ap (λ name. name ∷ []) one.2)
            (one_module found.module_name loader_module_name m (loader_of fabric.rows made.0) one.1 named made.1))
        | inr tile ↦ a_tile tile.0.x tile.0.y tile.0.tile tile.1 (ap (λ name. name ∷ []) tile.3)
            (one_module found.module_name (tile_module_name tile.0.tile) m (tile_module mode tile.0.tile) tile.2 named
            (has.module_is tile.0.x tile.0.y tile.0.tile tile.1))
      ]

  below_tile : (x y : ℕ) (tile : PlainTile) → tile_at fabric x y ≡ Some tile → (i : List ℕ) (m : PlainModule) (found : Found) →
      instance_named (tile_items mode tile) i ≡ Some found →
      module_named text found.module_name ≡ Some m → Part (i ∷ place_path x y) m
  below_tile x y tile there i m found at named =
      let stands = has.stands x y tile there in
      elim (named_is (IsTilePart tile) NoLatch NoFlop (tile_items mode tile) i found (tile_is mode tile) at) [
        | a_configuration some name is ↦ a_config x y tile there (ap (λ name. name ∷ place_path x y) is)
            (one_module found.module_name (config_module_name tile) m (config_module mode tile) name named (stands.config_is some))
        | a_switch_matrix some name ↦ a_matrix tile (one_module found.module_name (matrix_module_name tile) m (matrix_module tile) name named (stands.matrix_is some))
        | a_site bel listed name keeps ↦ a_bel x y tile i found bel.kind there refl at keeps
            (one_module found.module_name (module_name bel.kind) m (module_of_kind bel.kind) name named
            (All-contains (λ (bel : Bel). module_named text (module_name bel.kind) ≡ Some (module_of_kind bel.kind)) tile.bels bel stands.kinds_are listed))
      ]

  below : (path : Path) (i : List ℕ) (outer m : PlainModule) (found : Found) → Part path outer → instance_named outer.items i ≡ Some found →
      module_named text found.module_name ≡ Some m → Part (i ∷ path) m
  below path i outer m found (the_top at is) there named =
      subst (λ path. Part (i ∷ path) m) (sym at) (below_top i m found (subst (λ (o : PlainModule). instance_named o.items i ≡ Some found) is there) named)
  below path i outer m found (the_loader next frames at is) there named =
      absurd (instance_is NoInstance NoLatch (IsRegister fabric.rows) outer (loader_of fabric.rows next) (loader_is fabric.rows next) is i found there)
  below path i outer m found (a_tile x y tile stands at is) there named =
      subst (λ path. Part (i ∷ path) m) (sym at) (below_tile x y tile stands i m found (subst (λ (o : PlainModule). instance_named o.items i ≡ Some found) is there) named)
  below path i outer m found (a_config x y tile stands at is) there named =
      absurd (instance_is NoInstance (IsLatchOf mode tile) (IsFlopOf mode tile) outer (config_module mode tile) (config_is mode tile) is i found there)
  below path i outer m found (a_matrix tile is) there named = absurd (instance_is NoInstance NoLatch NoFlop outer (matrix_module tile) (matrix_is tile) is i found there)
  below path i outer m found (a_bel x y tile j joined_here kind stands at found_here keeps is) there named =
      absurd (instance_is NoInstance NoLatch ByUserClock outer (module_of_kind kind) (kind_is kind) is i found there)

  -- each module of the text that stands somewhere is such a part
  pub part_at : (path : Path) (m : PlainModule) → module_at text path ≡ Some m → Part path m
  part_at [] m is = let same : Some m ≡ Some (top_module fabric) = sym is ∙ has.top_is in the_top refl cc
  part_at (i ∷ path) m is =
      elim (module_at text path) as (λ here. module_at text path ≡ here → module_of text (instance_in here i) ≡ Some m → Part (i ∷ path) m) [
        | None ↦ λ at found. absurd cc
        | Some outer ↦ λ at found. (
            let behind = found_behind text (instance_named outer.items i) m found in
            below path i outer m behind.0 (part_at path outer at) behind.1 behind.2)
      ] refl is

-- ---- latches

-- a latch of a text is that of a configuration bit, in frames
pub latch_of_tile : (fabric : PlainFabric) (path : Path) (m : PlainModule) (target : List ℕ) (gate e : PlainExpr) → IsPart fabric path m →
    Contains m.items (latch target gate e) →
    (x : ℕ) × (y : ℕ) × (tile : PlainTile) × (tile_at fabric x y ≡ Some tile) × (path ≡ config_path x y) × IsLatchOf (text_mode fabric) tile target
latch_of_tile fabric path m target gate e (the_top at is) there =
    absurd (latch_is (IsTopPart fabric) NoLatch NoFlop m (top_module fabric) (top_is fabric) is target gate e there)
latch_of_tile fabric path m target gate e (the_loader next frames at is) there =
    absurd (latch_is NoInstance NoLatch (IsRegister fabric.rows) m (loader_of fabric.rows next) (loader_is fabric.rows next) is target gate e there)
latch_of_tile fabric path m target gate e (a_tile x y tile stands at is) there =
    absurd (latch_is (IsTilePart tile) NoLatch NoFlop m (tile_module (text_mode fabric) tile) (tile_is (text_mode fabric) tile) is target gate e there)
latch_of_tile fabric path m target gate e (a_config x y tile stands at is) there =
    let mode = text_mode fabric in (
      x,
      y,
      tile,
      stands,
      at,
      latch_is NoInstance (IsLatchOf mode tile) (IsFlopOf mode tile) m (config_module mode tile)
          (config_is mode tile) is target gate e there,
    )
latch_of_tile fabric path m target gate e (a_matrix tile is) there =
    absurd (latch_is NoInstance NoLatch NoFlop m (matrix_module tile) (matrix_is tile) is target gate e there)
latch_of_tile fabric path m target gate e (a_bel x y tile i found kind stands at found_here keeps is) there =
    absurd (latch_is NoInstance NoLatch ByUserClock m (module_of_kind kind) (kind_is kind) is target gate e there)
