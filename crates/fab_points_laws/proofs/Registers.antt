-- What the flip-flop of a LUT is left with at a tick.
use Rattle.std.proofs.Common.{◌≡◌, ℕ, Bool, true, false, List, [], ◌∷◌, codes, refl, sym, ap, ◌∙◌, subst, inr, arith, Some, slice_get, if◌then◌else◌}
use Rattle.fab_kinds.specs.declared.kind.Kind.TheVariants as kinds
use Rattle.fab_systems_laws.specs.Ternary.{Tern, yes, known}
use Rattle.fab_syntax.specs.Plain.{PlainModule, variable}
use Rattle.fab_syntax.specs.Declarations.{declared_width}
use Rattle.fab_meaning.specs.Points.{Path, Point, point, Drives, flop, instance_in, module_at}
use Rattle.fab_meaning.specs.Settled.{Assignment, names_at}
use Rattle.fab_meaning.specs.Value.{value, bit_at}
use Rattle.fab_meaning.specs.Runs.{clock_name, user_clock_name, join_named, clock_of, is_clock, Ticks}
use Rattle.fab_meaning.proofs.Clocks.{clock_at_top, clock_below}
use Rattle.fab_meaning.proofs.Declared.{bits_of_name}
use Rattle.fab_model.specs.declared.tiles.Bel.{Bel}
use Rattle.fab_model.specs.Tiles.{PlainTile, bits_before}
use Rattle.fab_model.specs.Grid.{PlainFabric, tile_at}
use Rattle.fab_fabric.specs.Fabric.{IsFabric}
use Rattle.fab_fabric.specs.Names.{place_name}
use Rattle.fab_meaning.specs.Ports.{config_name}
use Rattle.fab_prim.specs.Modules as modules
use Rattle.fab_prim.specs.Modules.{flip_flop_name, flip_flop, module_of_kind}
use Rattle.fab_prim.proofs.Instance.{seen}
use Rattle.fab_use_defs.specs.fab_fabric_text_defs_Mode.{text_mode}
use Rattle.fab_use_defs.specs.fab_gen_tile_Names.{bel_instance_name}
use Rattle.fab_use_defs.specs.fab_gen_tile_TileModule.{bel_joins, tile_module}
use Rattle.fab_use_defs.specs.fab_fabric_text_defs_Top.{top_module}
use Rattle.fab_use_defs.specs.fab_tile_drives_laws_Stands.{bel_path}
use Rattle.fab_use_defs.proofs.fab_tile_drives_laws_TileItems.{bel_found}
use Rattle.fab_use_defs.specs.fab_drives_laws_Points.{place_path}
use Rattle.fab_use_defs.proofs.fab_drives_laws_Places.{placed_tile}
use Rattle.fab_use_defs.proofs.fab_drives_laws_Instances.{found_tile, tile_instance_found}
use Rattle.fab_use_defs.proofs.fab_drives_laws_Texts.{HasFabric}
use Rattle.fab_ternary_laws.specs.Operators.{tern_at, one_of}
use Rattle.fab_ternary_laws.specs.Values.{tern_value}
use Rattle.fab_ternary_laws.specs.Shown.{Terns, first_terns, tern_names}
use Rattle.fab_points_laws.proofs.Shown.{terns_of_name}

-- ---- the clock

lut_joins : (place low : ℕ) (bel : Bel) → bel.kind ≡ kinds.Lut4c → join_named (bel_joins place low bel) user_clock_name ≡ Some (variable user_clock_name)
lut_joins place low bel is =
    let same : bel ≡ record { kind = kinds.Lut4c; prefix = bel.prefix } = λ j. record { kind = is j; prefix = bel.prefix } in
    subst (λ (b : Bel). join_named (bel_joins place low b) user_clock_name ≡ Some (variable user_clock_name)) (sym same) refl

pub lut_clock : (fabric : PlainFabric) (text : List PlainModule) → IsFabric fabric → HasFabric fabric text → (x y : ℕ) (tile : PlainTile) (bel : ℕ) (found : Bel) →
    tile_at fabric x y ≡ Some tile → slice_get tile.bels bel ≡ Some found → found.kind ≡ kinds.Lut4c → module_at text (bel_path (place_path x y) bel) ≡ Some (module_of_kind kinds.Lut4c) →
    clock_of text (bel_path (place_path x y) bel) user_clock_name ≡ Some user_clock_name
lut_clock fabric text is has x y tile bel found there at kind_is stands =
    let low = bits_before tile.bels bel in
    clock_below text (place_path x y) (bel_instance_name bel) user_clock_name (module_of_kind kinds.Lut4c) _ user_clock_name stands refl
    (ap (λ m. instance_in m (bel_instance_name bel)) (has.stands x y tile there).tile_is ∙ bel_found (text_mode fabric) tile bel found at) (lut_joins bel low found kind_is)
    ∙ clock_below text [] (place_name x y) user_clock_name (tile_module (text_mode fabric) tile) (found_tile fabric (placed_tile x y tile)) user_clock_name (has.stands x y tile there).tile_is refl
    (ap (λ m. instance_in m (place_name x y)) has.top_is ∙ tile_instance_found fabric is x y tile there) refl
    ∙ clock_at_top text (top_module fabric) user_clock_name has.top_is refl

-- ---- the next value

-- one of two bits, by one that is known
chosen_tern : (test : Bool) (first second : Tern) → tern_at (one_of (known test) (first ∷ []) (second ∷ [])) 0 ≡ (if test then first else second)
chosen_tern true first second = refl
chosen_tern false first second = refl

chosen_bit : (test first second : Bool) → bit_at (if test then first ∷ [] else second ∷ []) 0 ≡ (if test then first else second)
chosen_bit true first second = refl
chosen_bit false first second = refl

module _ (text : List PlainModule) (path : Path) (stands : module_at text path ≡ Some (module_of_kind kinds.Lut4c)) where
  abbrev lut : PlainModule
  lut = module_of_kind kinds.Lut4c

  abbrev at : List ℕ → Point
  at name = point path name 0

  pub q_drives : Drives text (at flip_flop_name) (flop path user_clock_name modules.lut_next 0)
  q_drives = inr (record { path = path; module_here = lut; item = flip_flop modules.lut_next; stands = stands; holds = (7, omega arith, refl); drives = (refl, refl) })

  -- enabled, the bit that a reset loads where it is reset, and else the table
  pub next_known : (t : Terns) (reset : Bool) → t (at (codes "EN")) ≡ yes → t (at (codes "SR")) ≡ known reset →
      tern_at (tern_value (tern_names text t path) modules.lut_next) 0 ≡ (if reset then t (point path config_name 18) else t (at (codes "t")))
  next_known t reset enabled resets =
      let names : tern_names text t path ≡ (λ name. first_terns (declared_width lut.ports lut.items name) (λ bit. t (point path name bit))) =
      λ j name. terns_of_name text t path lut stands name j in
      let loaded = t (point path config_name 18) ∷ [] in
      let table = t (at (codes "t")) ∷ [] in
      let kept = t (at flip_flop_name) ∷ [] in
      ap (λ names. tern_at (tern_value names modules.lut_next) 0) names
      ∙ ap (λ e. tern_at (one_of e (one_of (t (at (codes "SR"))) loaded table) kept) 0) enabled
      ∙ ap (λ r. tern_at (one_of r loaded table) 0) resets
      ∙ chosen_tern reset (t (point path config_name 18)) (t (at (codes "t")))

  -- what is held behind a tick of UserCLK, where it is enabled
  abbrev next_bit : Assignment → Bool
  next_bit now = if now (at (codes "SR")) then now (point path config_name 18) else now (at (codes "t"))

  pub next_value : (now : Assignment) → now (at (codes "EN")) ≡ true → bit_at (value (names_at text now path) modules.lut_next) 0 ≡ next_bit now
  next_value now enabled =
      let names : names_at text now path ≡ seen lut path now = λ j name. bits_of_name text now path lut name (declared_width lut.ports lut.items name) stands refl j in
      let loaded = now (point path config_name 18) ∷ [] in
      let table = now (at (codes "t")) ∷ [] in
      let kept = now (at flip_flop_name) ∷ [] in
      ap (λ names. bit_at (value names modules.lut_next) 0) names
      ∙ ap (λ e. bit_at (if e then (if now (at (codes "SR")) then loaded else table) else kept) 0) enabled
      ∙ chosen_bit (now (at (codes "SR"))) (now (point path config_name 18)) (now (at (codes "t")))

  module _ (clocked : clock_of text path user_clock_name ≡ Some user_clock_name) (Has : Point → Type 0) (has : Has (at flip_flop_name)) (held now after : Assignment) where
    -- at a tick of UserCLK it takes this bit,
    pub user_tick : Ticks Has text user_clock_name held now after → now (at (codes "EN")) ≡ true → after (at flip_flop_name) ≡ next_bit now
    user_tick ticks enabled =
        ticks (at flip_flop_name) (flop path user_clock_name modules.lut_next 0) has q_drives
        ∙ ap (λ o. if is_clock user_clock_name o then bit_at (value (names_at text now path) modules.lut_next) 0 else held (at flip_flop_name)) clocked
        ∙ next_value now enabled

    -- and at one of CLK it stays
    pub loader_tick : Ticks Has text clock_name held now after → after (at flip_flop_name) ≡ held (at flip_flop_name)
    loader_tick ticks =
        ticks (at flip_flop_name) (flop path user_clock_name modules.lut_next 0) has q_drives
        ∙ ap (λ o. if is_clock clock_name o then bit_at (value (names_at text now path) modules.lut_next) 0 else held (at flip_flop_name)) clocked
