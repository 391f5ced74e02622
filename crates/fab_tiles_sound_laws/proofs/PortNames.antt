-- The ports of the modules that a tile uses have names of their own.
use Rattle.std.proofs.Common.{◌≡◌, ℕ, zero, suc, Bool, true, false, List, [], ◌∷◌, ◌++◌, map, nat_eq, refl, sym, ap, ◌∙◌, subst}
use Rattle.std.proofs.lemmas.List.{map-append}
use Rattle.fab_kinds.specs.declared.kind.Kind.{Kind}
use Rattle.fab_kinds.specs.declared.kind.Kind.TheVariants.{Lut4c, Io, Mux8}
use Rattle.fab_select.specs.Selection.{select_bits}
use Rattle.fab_meaning.specs.Ports.{config_port, scalar}
use Rattle.fab_model.specs.declared.mode.Mode.{Mode}
use Rattle.fab_model.specs.declared.mode.Mode.TheVariants as modes
use Rattle.fab_model.specs.Tiles.{PlainTile, IsTile}
use Rattle.fab_prim.specs.Ports.{module_ports}
use Rattle.fab_parts_sound_laws.specs.fab_gen_tile_ConfigModule.{config_module}
use Rattle.fab_parts_sound_laws.specs.fab_gen_tile_TileModule.{matrix_input_names, matrix_output_names}
use Rattle.fab_parts_sound_laws.specs.fab_gen_tile_MatrixModule.{numbered_outputs, named_pairs, matrix_module}
use Rattle.fab_parts_sound_laws.proofs.Apart.{any_same, apart_if}
use Rattle.fab_parts_sound_laws.proofs.Declared.{port_names}
use Rattle.fab_parts_sound_laws.proofs.Matrices.{config_names}
use Rattle.fab_parts_sound_laws.proofs.Names.{AreApart}
use Rattle.fab_parts_sound_laws.proofs.TileMatrices.{outputs_named, matrix_apart}
use Rattle.fab_tiles_sound_laws.proofs.Joins.{port_name}

pub config_ports_apart : (mode : Mode) (tile : PlainTile) → AreApart (port_names (config_module mode tile).ports)
config_ports_apart modes.Frames tile = apart_if (port_names (config_module modes.Frames tile).ports) refl
config_ports_apart modes.Chain tile = apart_if (port_names (config_module modes.Chain tile).ports) refl

none_same : (kind : Kind) → any_same (port_names (module_ports kind)) ≡ false
none_same Lut4c = refl
none_same Io = refl
none_same Mux8 = refl

pub kind_ports_apart : (kind : Kind) → AreApart (port_names (module_ports kind))
kind_ports_apart kind = apart_if (port_names (module_ports kind)) (none_same kind)

-- ---- the matrix

scalars_of : (outputs : List (ℕ × List ℕ)) → map (λ (output : ℕ × List ℕ). scalar false output.1) outputs ≡ map (scalar false) (map (λ (output : ℕ × List ℕ). output.1) outputs)
scalars_of [] = refl
scalars_of (output ∷ outputs) = ap (λ rest. scalar false output.1 ∷ rest) (scalars_of outputs)

-- the ports of the outputs in the form of those of the inputs
pub output_ports : (tile : PlainTile) → map (λ (output : ℕ × List ℕ). scalar false output.1) (numbered_outputs tile) ≡ map (scalar false) (matrix_output_names tile)
output_ports tile = scalars_of (numbered_outputs tile) ∙ ap (map (scalar false)) (outputs_named tile)

names_of_scalars : (input : Bool) (names : List (List ℕ)) → port_names (map (scalar input) names) ≡ names
names_of_scalars input [] = refl
names_of_scalars input (name ∷ names) = ap (λ rest. name ∷ rest) (names_of_scalars input names)

names_of_config : (bits : ℕ) → port_names (config_port bits) ≡ config_names bits
names_of_config zero = refl
names_of_config (suc bits) = refl

pub matrix_ports_apart : (tile : PlainTile) → IsTile tile → AreApart (port_names (matrix_module tile).ports)
matrix_ports_apart tile is =
    let bits = select_bits nat_eq (named_pairs tile) in
    let outputs = map (λ (output : ℕ × List ℕ). scalar false output.1) (numbered_outputs tile) in
    let names_of_outputs : port_names outputs ≡ map (λ (output : ℕ × List ℕ). output.1) (numbered_outputs tile) =
    ap port_names (output_ports tile) ∙ names_of_scalars false (matrix_output_names tile) ∙ sym (outputs_named tile) in
    subst AreApart
    (sym (map-append port_name (map (scalar true) (matrix_input_names tile)) (config_port bits ++ outputs)
    ∙ (λ j. names_of_scalars true (matrix_input_names tile) j ++ (map-append port_name (config_port bits) outputs ∙ (λ k. names_of_config bits k ++ names_of_outputs k)) j)))
    (matrix_apart tile is)
