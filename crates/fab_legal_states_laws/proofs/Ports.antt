-- The ports of the top module of a fabric's text are declared there.
use Rattle.std.proofs.Common.{◌≡◌, ℕ, ◌+◌, List, [], ◌∷◌, ◌++◌, map, Contains, Some, refl, sym, ap, ◌∙◌, inl, inr}
use Rattle.std.specs.List.{flat_map, enumerate_from}
use Rattle.std.specs.Str.{bytes_eq}
use Rattle.std.proofs.lemmas.Bool.{cases_Bool, false≢true}
use Rattle.std.proofs.lemmas.List.Elements.{Contains-append_right}
use Rattle.std.proofs.lemmas.Slice.Eq.{bytes_eq-Decides}
use Rattle.std.specs.Prelude.{true, false, slice_get}
use Rattle.fab_syntax.specs.declared.tree.Port.{Port}
use Rattle.fab_syntax.specs.declared.tree.Shape.TheVariants.{Scalar}
use Rattle.fab_syntax.specs.Plain.{PlainModule}
use Rattle.fab_meaning.specs.Points.{module_at}
use Rattle.fab_meaning.specs.Runs.{clock_name, user_clock_name}
use Rattle.fab_meaning.specs.Loading.{write_data_name, write_strobe_name}
use Rattle.fab_meaning.specs.Ports.{scalar}
use Rattle.fab_values.specs.Declarations.{Declaration, declared_at, found_from, found_in, item_declarations, port_declaration, width}
use Rattle.fab_values.specs.declared.names.Local.{Local}
use Rattle.fab_values.specs.declared.names.Role.TheVariants as roles
use Rattle.fab_prim.specs.Ports.{top_inputs, top_outputs}
use Rattle.fab_model.specs.declared.mode.Mode.{Mode}
use Rattle.fab_model.specs.declared.mode.Mode.TheVariants as modes
use Rattle.fab_model.specs.declared.tiles.Bel.{Bel}
use Rattle.fab_model.specs.Tiles.{PlainTile}
use Rattle.fab_model.specs.Grid.{PlainFabric, tile_at}
use Rattle.fab_fabric.specs.Fabric.{IsFabric, AreTiles}
use Rattle.fab_netlist.proofs.Members.{first_in, later_in, first_or_later, in_none}
use Rattle.fab_fabric_text_defs.specs.Names.{pad_port_name}
use Rattle.fab_fabric_text_defs.specs.Places.{placed_tiles}
use Rattle.fab_fabric_text_defs.specs.Top as top
use Rattle.fab_fabric_text_defs.specs.Mode.{text_mode}
use Rattle.fab_fabric_text_defs.specs.Top.{data_port, data_shape, tile_pads, top_items, top_module, top_ports}
use Rattle.fab_tile_drives_laws.proofs.Members.{contains_map}
use Rattle.fab_points_laws.proofs.fab_drives_laws_Apart.{one_of_name}
use Rattle.fab_points_laws.proofs.fab_drives_laws_Lists.{contains_flat, contains_numbered}
use Rattle.fab_points_laws.proofs.fab_drives_laws_Modules.{top_is_last}
use Rattle.fab_points_laws.proofs.fab_drives_laws_Places.{placed_tile, tile_is_placed}
use Rattle.fab_fabric_text_defs.specs.Texts.{IsFabricText}
use Rattle.fab_points_laws.proofs.fab_text_sound_laws_TopDeclared.{ports_apart}
use Rattle.fab_state_points.specs.Finding.{IsDeclared}
use Rattle.fab_state_points.specs.Standing.{HasStream, IsDataShape}

-- ---- any module

-- a port that no other port has the name of is found by its name
found_port : (first : ℕ) (ports : List Port) (more : List Declaration) (port : Port) → Contains ports port →
    ((other : Port) → Contains ports other → port.name ≡ other.name → other ≡ port) →
    (local : Local) × (found_from first (map port_declaration ports ++ more) port.name ≡ Some local) × (local.shape ≡ port.shape)
    × (local.role ≡ (port_declaration port).role)
found_port first [] more port here one = absurd (in_none port here)
found_port first (p ∷ ports) more port here one =
    let tells = bytes_eq-Decides port.name p.name in
    elim (cases_Bool (bytes_eq port.name p.name)) [
      | inl t ↦ (
          let same : p ≡ port = one p (first_in p ports p refl) (tells.0 t) in (
            record { first = first; shape = p.shape; role = (port_declaration p).role },
            rw t refl,
            ap (λ (q : Port). q.shape) same,
            ap (λ (q : Port). (port_declaration q).role) same,
          ))
      | inr f ↦ (
          let later : Contains ports port = elim (first_or_later p ports port here) [
            | inl same ↦ absurd (false≢true (sym f ∙ tells.1 (ap (λ (q : Port). q.name) (sym same))))
            | inr there ↦ there
          ] in
          let rest = found_port (first + width p.shape) ports more port later (λ other there. one other (later_in p ports other there)) in
          (rest.0, rw f rest.1, rest.2, rest.3))
    ]

-- ---- the top

-- words come whole, or bit by bit
carries_words : (mode : Mode) → IsDataShape (data_shape mode)
carries_words modes.Frames = refl
carries_words modes.Chain = tt

module _ (fabric : PlainFabric) (text : List PlainModule) (is_text : IsFabricText fabric text) where
  top_is : module_at text [] ≡ Some (top_module fabric)
  top_is = ap (λ (t : List PlainModule). module_at t []) is_text.is ∙ top_is_last fabric is_text.loaders

  first_port : (name : List ℕ) (local : Local) → found_in (declared_at (Some (top_module fabric))) name ≡ Some local →
      IsDeclared text [] name local.shape local.role
  first_port name local is = record { local = local; is = ap (λ m. found_in (declared_at m) name) top_is ∙ is; shape_is = refl; role_is = refl }

  pub stream_there : HasStream text
  stream_there = record {
    loader = first_port clock_name (record { first = 0; shape = Scalar; role = roles.Input }) refl;
    user = first_port user_clock_name (record { first = 1; shape = Scalar; role = roles.Input }) refl;
    strobe = first_port write_strobe_name (record { first = 2; shape = Scalar; role = roles.Input }) refl;
    shape = data_shape (text_mode fabric);
    is_data = carries_words (text_mode fabric);
    words = first_port write_data_name (record { first = 3; shape = data_shape (text_mode fabric); role = roles.Input }) refl;
  }

  module _ (is : IsFabric fabric) (are : AreTiles fabric) where
    pub port_declared : (port : Port) → Contains (top_ports fabric) port → IsDeclared text [] port.name port.shape (port_declaration port).role
    port_declared port here =
        let found = found_port 0 (top_ports fabric) (item_declarations (top_items fabric)) port here
        (λ other there same. one_of_name (λ (p : Port). p.name) (top_ports fabric) other port (ports_apart fabric is are) there here (sym same)) in
        record { local = found.0; is = ap (λ m. found_in (declared_at m) port.name) top_is ∙ found.1; shape_is = found.2; role_is = found.3 }

-- what goes out of a pad goes out at the top
pub leaving_port : (fabric : PlainFabric) (x y : ℕ) (tile : PlainTile) (number : ℕ) (bel : Bel) (port : List ℕ) → tile_at fabric x y ≡ Some tile →
    slice_get tile.bels number ≡ Some bel → Contains (top_outputs bel.kind) port → Contains (top_ports fabric) (scalar false (pad_port_name x y number port))
leaving_port fabric x y tile number bel port there stands is_pad =
    let one = scalar false (pad_port_name x y number port) in
    let placed : ℕ × Bel = (number, bel) in
    let front = scalar true clock_name ∷ scalar true user_clock_name ∷ scalar true write_strobe_name ∷ data_port (text_mode fabric) ∷ [] in
    let in_port = λ (name : List ℕ). scalar true (pad_port_name x y number name) in
    let out_port = λ (name : List ℕ). scalar false (pad_port_name x y number name) in
    Contains-append_right front (flat_map tile_pads (placed_tiles fabric)) one
    (contains_flat tile_pads (placed_tiles fabric) (placed_tile x y tile) one (tile_is_placed fabric x y tile there)
    (contains_flat (top.pad_ports x y) (enumerate_from 0 tile.bels) placed one (contains_numbered tile.bels number bel stands)
    (Contains-append_right (map in_port (top_inputs bel.kind)) (map out_port (top_outputs bel.kind)) one (contains_map out_port (top_outputs bel.kind) port is_pad))))
