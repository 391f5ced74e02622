-- The pads of the new top and those of the fabric show the same.
use Rattle.std.proofs.Common.{◌≡◌, ℕ, true, false, List, [], ◌∷◌, ◌++◌, map, Contains, Some, slice_get, refl, sym, ap, ◌∙◌, subst, inl, inr, arith}
use Rattle.std.specs.List.{flat_map, enumerate_from}
use Rattle.std.proofs.lemmas.List.Elements.{Contains-append_left, Contains-append_right}
use Rattle.fab_bits.specs.Bits.{first_bits}
use Rattle.fab_syntax.specs.declared.tree.Shape.TheVariants.{Scalar}
use Rattle.fab_syntax.specs.declared.tree.Port.{Port}
use Rattle.fab_syntax.specs.Plain.{PlainModule, variable}
use Rattle.fab_syntax.specs.Declarations.{width, is_input_of, width_in}
use Rattle.fab_meaning.specs.Value.{bit_at}
use Rattle.fab_meaning.specs.Runs.{clock_name, user_clock_name}
use Rattle.fab_meaning.specs.Loading.{write_strobe_name}
use Rattle.fab_meaning.specs.Points.{point, outside, copy, bit_of, JoinDrives, Drives, module_at}
use Rattle.fab_meaning.specs.Settled.{Assignment}
use Rattle.fab_meaning.specs.Ports.{scalar}
use Rattle.fab_drives_laws.specs.fab_prim_Ports.{top_inputs, top_outputs}
use Rattle.fab_drives_laws.specs.fab_model_tiles_Bel.{Bel}
use Rattle.fab_drives_laws.specs.fab_model_Tiles.{PlainTile}
use Rattle.fab_drives_laws.specs.fab_model_Grid.{PlainFabric, tile_at}
use Rattle.fab_drives_laws.specs.fab_fabric_Fabric.{IsFabric}
use Rattle.fab_drives_laws.specs.fab_fabric_text_defs_Names.{pad_port_name}
use Rattle.fab_drives_laws.specs.fab_fabric_text_defs_Mode.{text_mode}
use Rattle.fab_drives_laws.specs.fab_fabric_text_defs_Places.{placed_tiles}
use Rattle.fab_drives_laws.specs.fab_fabric_text_defs_Top.{pad_ports, tile_pads, data_port, top_ports, top_module}
use Rattle.fab_drives_laws.specs.fab_fabric_text_defs_Texts.{IsFabricText}
use Rattle.fab_drives_laws.proofs.Lists.{contains_flat, contains_numbered}
use Rattle.fab_drives_laws.proofs.Places.{placed_tile, tile_is_placed}
use Rattle.fab_text_loads_laws.proofs.Carried.{carried}
use Rattle.fab_nested_laws.specs.Nested.{within, IsShown}
use Rattle.fab_serial.specs.Module.{fabric_instance_name, is_pad, same_join, serial_top, CanHaveSerialPort}
use Rattle.fab_serial.proofs.fab_parts_sound_laws_Declared.{port_direction}
use Rattle.fab_serial.proofs.fab_parts_sound_laws_Lists.{contains_map}
use Rattle.fab_serial.proofs.Places.{whole, top_at, fabric_named}
use Rattle.fab_serial.proofs.TopNames.{apart, outer_apart, pad_there, port_wide, fabric_item}
use Rattle.fab_serial.proofs.Joints.{fabric_path, into_fabric}

module _ (text : List PlainModule) (can : CanHaveSerialPort text) where
  abbrev outer : List PlainModule
  outer = whole text can

  -- a name of the new top that has one bit
  single : (now : Assignment) (name : List ℕ) → width_in (module_at outer []) name ≡ 1 → bit_at (first_bits (width_in (module_at outer []) name) (λ place. now (point [] name place))) 0 ≡ now (point [] name 0)
  single now name one = ap (λ wide. bit_at (first_bits wide (λ place. now (point [] name place))) 0) one

  pub user_low : (inputs held now : Assignment) → IsShown outer inputs held now (point fabric_path user_clock_name 0) → now (point [] user_clock_name 0) ≡ false →
      within fabric_instance_name now (point [] user_clock_name 0) ≡ false
  user_low inputs held now shows low =
      shows (bit_of [] (variable user_clock_name) 0) (into_fabric text can user_clock_name can.user_clock.0 0)
      ∙ (single now user_clock_name (ap (λ m. width_in m user_clock_name) (top_at text can)) ∙ low)

  module _ (port : Port) (there : Contains can.top.ports port) (pad : is_pad port ≡ true) where
    direction : is_input_of (module_at outer []) port.name ≡ port.input
    direction =
        ap (λ m. is_input_of m port.name) (top_at text can) ∙ port_direction port (serial_top can.top).ports (outer_apart text can) (pad_there text can port there pad)

    one_wide : port.shape ≡ Scalar → width_in (module_at outer []) port.name ≡ 1
    one_wide scalar_is = ap (λ m. width_in m port.name) (top_at text can) ∙ (port_wide text can port there ∙ ap width scalar_is)

    -- what comes to a pad comes to the fabric
    pub pad_enters : port.input ≡ true → port.shape ≡ Scalar → (inputs held now : Assignment) → IsShown outer inputs held now (point [] port.name 0) →
        IsShown outer inputs held now (point fabric_path port.name 0) → within fabric_instance_name now (point [] port.name 0) ≡ inputs (point [] port.name 0)
    pad_enters enters scalar_is inputs held now outer_shows inner_shows =
        inner_shows (bit_of [] (variable port.name) 0) (into_fabric text can port.name (port_direction port can.top.ports (apart text can) there ∙ enters) 0)
        ∙ (single now port.name (one_wide scalar_is)
        ∙ outer_shows outside (inl (record { top = refl; input = direction ∙ enters; is = refl })))

    pad_driven : port.input ≡ false → Drives outer (point [] port.name 0) (copy (point fabric_path port.name 0))
    pad_driven leaves = inr (record {
      path = [];
      module_here = serial_top can.top;
      item = fabric_item text can;
      stands = top_at text can;
      holds = (3, omega arith, refl);
      drives = (
        same_join port.name,
        contains_map (λ (p : Port). same_join p.name) can.top.ports port there,
        subst (λ b. JoinDrives [] fabric_instance_name b port.name (same_join port.name).to (point [] port.name 0) (copy (point fabric_path port.name 0)))
            (sym (ap (λ m. is_input_of m port.name) (fabric_named text can) ∙ (port_direction port can.top.ports (apart text can) there ∙ leaves))) (port.name, refl, refl, refl),
      );
    })

    -- and a pad shows what the fabric gives it
    pub pad_leaves : port.input ≡ false → (inputs held now : Assignment) → IsShown outer inputs held now (point [] port.name 0) →
        now (point [] port.name 0) ≡ within fabric_instance_name now (point [] port.name 0)
    pad_leaves leaves inputs held now shows = shows (copy (point fabric_path port.name 0)) (pad_driven leaves)

-- ---- the pads of a fabric

module _ (fabric : PlainFabric) (x y : ℕ) (tile : PlainTile) (number : ℕ) (bel : Bel) (there : tile_at fabric x y ≡ Some tile) (stands : slice_get tile.bels number ≡ Some bel)
    (text : List PlainModule) (is : IsFabric fabric) (is_text : IsFabricText fabric text) (can : CanHaveSerialPort text) (port : List ℕ) where
  abbrev ins : List Port
  ins = map (λ (name : List ℕ). scalar true (pad_port_name x y number name)) (top_inputs bel.kind)

  abbrev outs : List Port
  outs = map (λ (name : List ℕ). scalar false (pad_port_name x y number name)) (top_outputs bel.kind)

  among_ports : (one : Port) → Contains (ins ++ outs) one → Contains can.top.ports one
  among_ports one listed =
      let of_fabric : Contains (top_ports fabric) one =
      Contains-append_right (scalar true clock_name ∷ scalar true user_clock_name ∷ scalar true write_strobe_name ∷ data_port (text_mode fabric) ∷ [])
      (flat_map tile_pads (placed_tiles fabric)) one
      (contains_flat tile_pads (placed_tiles fabric) (placed_tile x y tile) one (tile_is_placed fabric x y tile there)
      (contains_flat (pad_ports x y) (enumerate_from 0 tile.bels) (number, bel) one (contains_numbered tile.bels number bel stands) listed)) in
      let top_is : top_module fabric ≡ can.top =
      (let both : Some (top_module fabric) ≡ Some can.top = sym (carried fabric text is is_text).tiles.top_is ∙ can.top_is in cc) in
      subst (λ m. Contains m.ports one) top_is of_fabric

  pub pad_in : Contains (top_inputs bel.kind) port → Contains can.top.ports (scalar true (pad_port_name x y number port))
  pad_in one = among_ports (scalar true (pad_port_name x y number port)) (Contains-append_left ins outs (scalar true (pad_port_name x y number port))
      (contains_map (λ (name : List ℕ). scalar true (pad_port_name x y number name)) (top_inputs bel.kind) port one))

  pub pad_out : Contains (top_outputs bel.kind) port → Contains can.top.ports (scalar false (pad_port_name x y number port))
  pad_out one = among_ports (scalar false (pad_port_name x y number port)) (Contains-append_right ins outs (scalar false (pad_port_name x y number port))
      (contains_map (λ (name : List ℕ). scalar false (pad_port_name x y number name)) (top_outputs bel.kind) port one))
