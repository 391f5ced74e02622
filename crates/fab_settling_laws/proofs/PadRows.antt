-- The points by which a constant 0 comes to T of a pad and out at the top: what each of them shows.
use Rattle.std.proofs.Common.{◌≡◌, ◌<◌, true, false, not, List, [], ◌∷◌, codes, length, slice_get, refl, sym, ap, ap₂, ◌∙◌, subst, arith, Some, option_and_then, Contains, nat_lt}
use Rattle.std.specs.Option.{option_map, option_map_or}
use Rattle.std.proofs.lemmas.Bool.{false≢true}
use Rattle.std.proofs.lemmas.List.Elements.{All-contains, All-head}
use Rattle.fab_kinds.specs.declared.kind.Kind.TheVariants as kinds
use Rattle.fab_kinds.specs.Pins.{pad_t, pin_names, input_names, input_count}
use Rattle.fab_model.specs.Rows.{dest_bits}
use Rattle.fab_model.specs.Tiles.{PlainTile, IsTile, dest_bit, bel_pin, is_matrix_output}
use Rattle.fab_model.specs.Wires.{PlainWire, dest_of, pin_of, plain_wires, pin_count, wire_number, IsWire, IsMatrixOutput}
use Rattle.fab_model.specs.Drive.{input_at, select_value}
use Rattle.fab_model.proofs.Wires.{wire_at_number}
use Rattle.fab_prim.specs.Ports.{top_outputs}
use Rattle.fab_prim.specs.Modules.{module_of_kind}
use Rattle.fab_meaning.specs.Points.{Path, Point, point, module_at}
use Rattle.fab_meaning.specs.Settled.{Assignment}
use Rattle.fab_systems_laws.specs.Ternary.{known}
use Rattle.fab_ternary_laws.specs.Shown.{Terns}
use Rattle.fab_fabric.specs.declared.wire.Site.{Site}
use Rattle.fab_runs_laws.specs.fab_tile_drives_laws_Stands.{matrix_path, bel_path, name_of, wire_point}
use Rattle.fab_runs_laws.specs.fab_use_defs_Sites.{site_path, bel_point, port_point, top_point, pin_point}
use Rattle.fab_runs_laws.specs.fab_use_defs_Sources as sources
use Rattle.fab_runs_laws.specs.fab_use_defs_Sources.{Source}
use Rattle.fab_runs_laws.specs.fab_points_laws_Known.{KnowsBits}
use Rattle.fab_runs_laws.specs.fab_points_laws_Shown.{Shown}
use Rattle.fab_runs_laws.proofs.fab_drives_laws_Modules.{tile_of_types}
use Rattle.fab_runs_laws.proofs.fab_drives_laws_Texts.{HasFabric}
use Rattle.fab_runs_laws.proofs.fab_points_laws_Bels.{bel_stands, input_shown, to_outside_shown}
use Rattle.fab_runs_laws.proofs.fab_points_laws_Borders.{constant_shown}
use Rattle.fab_runs_laws.proofs.fab_points_laws_EachSource.{has_fabric}
use Rattle.fab_runs_laws.proofs.fab_points_laws_Matrix.{some, input_port_shown, output_wire_shown, output_port_shown}
use Rattle.fab_runs_laws.proofs.fab_points_laws_Pads.{leaves_shown}
use Rattle.fab_runs_laws.proofs.fab_points_laws_Places.{SiteBel, site_bel}
use Rattle.fab_runs_laws.proofs.fab_points_laws_Primitives.{t_top_shown}
use Rattle.fab_runs_laws.proofs.Roots.{zero_is}
use Rattle.fab_runs_laws.proofs.Setting.{Setting}
use Rattle.fab_settling_laws.specs.Released.{ListsZeroFirst}
use Rattle.fab_settling_laws.proofs.Rows.{Row, Right, ShowsRow, IsRow, AreRows}

module _ (s : Setting) (site : Site) (lists : ListsZeroFirst s.fabric site)
    (selects : select_value lists.tile (s.bits site.x site.y) (wire_number lists.tile (pin_of site.bel pad_t)) ≡ 0) where
  -- ---- the tile and the pad

  has : HasFabric s.fabric s.text
  has = has_fabric s.fabric s.text s.is s.is_text

  abbrev tile : PlainTile
  tile = lists.tile

  abbrev zero : PlainWire
  zero = dest_of lists.row lists.bit

  abbrev pin : PlainWire
  pin = pin_of site.bel pad_t

  abbrev here : Path
  here = site_path site

  is_tile : IsTile tile
  is_tile = All-contains IsTile s.fabric.types tile s.are (tile_of_types s.fabric site.x site.y tile lists.tile_is)

  bel : SiteBel s.fabric site kinds.Io tile
  bel = site_bel s.fabric site kinds.Io tile lists.is_pad lists.tile_is

  zero_exists : IsWire tile zero
  zero_exists = subst (λ o. lists.bit < option_map_or dest_bits o 0) (sym lists.row_is) lists.inside

  zero_input : IsMatrixOutput tile zero → ⊥
  zero_input output =
      false≢true (sym (ap (λ o. option_map_or is_matrix_output (option_map (λ found. dest_bit found lists.bit) o) false) lists.row_is) ∙ output)

  pin_exists : IsWire tile pin
  pin_exists =
      let four : pad_t < length (pin_names kinds.Io) = omega arith in
      subst (λ o. pad_t < option_map_or pin_count o 0) (sym bel.there) (subst (λ kind. pad_t < length (pin_names kind)) (sym bel.kind_is) four)

  pin_output : IsMatrixOutput tile pin
  pin_output =
      ap (λ o. option_map_or is_matrix_output (option_map (λ found. bel_pin found pad_t) o) false) bel.there ∙ ap (λ kind. nat_lt pad_t (input_count kind)) bel.kind_is

  goes_out : Contains (top_outputs bel.found.kind) (codes "T_top")
  goes_out = subst (λ kind. Contains (top_outputs kind) (codes "T_top")) (sym bel.kind_is) (1, omega arith, refl)

  -- ---- what they show

  module _ (inputs held : Assignment) (t : Terns) where
    abbrev Shows : Point → Source → Type 0
    Shows p source = Shown s.text inputs held t p source

    zero_bit_shown : Shows (wire_point here tile zero) (sources.always false)
    zero_bit_shown =
        subst (λ bit. Shows (wire_point here tile zero) (sources.always bit)) (zero_is lists.found.dest lists.zero)
        (constant_shown _ s.text here tile is_tile (has.stands site.x site.y tile lists.tile_is) inputs held t lists.row lists.bit lists.found lists.row_is lists.inside lists.jumps
        lists.unsourced)

    zero_port_shown : Shows (point (matrix_path here) (name_of tile zero) 0) (sources.shows (wire_point here tile zero))
    zero_port_shown =
        let stands = has.stands site.x site.y tile lists.tile_is in
        input_port_shown _ s.text here tile is_tile stands inputs held t zero zero_exists zero_input (some _ s.text here tile is_tile stands inputs held t pin pin_exists pin_output)

    pin_wire_shown : Shows (pin_point tile site pad_t) (sources.shows (point (matrix_path here) (name_of tile pin) 0))
    pin_wire_shown = output_wire_shown _ s.text here tile is_tile (has.stands site.x site.y tile lists.tile_is) inputs held t pin pin_exists pin_output

    pin_port_shown : KnowsBits s.fabric s.bits t → Shows (point (matrix_path here) (name_of tile pin) 0) (sources.shows (point (matrix_path here) (name_of tile zero) 0))
    pin_port_shown knows =
        output_port_shown _ s.text here tile is_tile (has.stands site.x site.y tile lists.tile_is) inputs held t pin pin_exists pin_output (s.bits site.x site.y)
        (knows site.x site.y tile lists.tile_is) zero
        (ap₂ (λ inputs value. option_and_then (slice_get (plain_wires tile)) (input_at inputs value)) lists.first selects ∙ wire_at_number tile zero zero_exists)

    turns_shown : Shows (bel_point site (codes "T")) (sources.shows (pin_point tile site pad_t))
    turns_shown =
        let named : slice_get (pin_names bel.found.kind) pad_t ≡ Some (codes "T") = ap (λ kind. slice_get (pin_names kind) pad_t) bel.kind_is in
        let among : Contains (input_names bel.found.kind) (codes "T") = subst (λ kind. Contains (input_names kind) (codes "T")) (sym bel.kind_is) (1, omega arith, refl) in
        input_shown _ s.text here tile (has.stands site.x site.y tile lists.tile_is) inputs held t site.bel bel.found bel.there pad_t (codes "T") named among

    turned_shown : Shows (bel_point site (codes "T_top")) (sources.inverts (bel_point site (codes "T")))
    turned_shown =
        let stands : module_at s.text (bel_path here site.bel) ≡ Some (module_of_kind kinds.Io) =
        bel_stands _ s.text here tile (has.stands site.x site.y tile lists.tile_is) inputs held t site.bel bel.found bel.there
        ∙ ap (λ kind. Some (module_of_kind kind)) bel.kind_is in
        t_top_shown s.text (bel_path here site.bel) inputs held t stands

    tile_shown : Shows (port_point site (codes "T_top")) (sources.shows (bel_point site (codes "T_top")))
    tile_shown = to_outside_shown _ s.text here tile (has.stands site.x site.y tile lists.tile_is) inputs held t site.bel bel.found bel.there (codes "T_top") goes_out

    outside_shown : Shows (top_point site (codes "T_top")) (sources.shows (port_point site (codes "T_top")))
    outside_shown =
        leaves_shown s.fabric s.text s.is s.are has inputs held t site.x site.y tile site.bel bel.found lists.tile_is bel.there (codes "T_top") goes_out

  -- ---- one after the other

  abbrev first_row : Row
  first_row = record { at = wire_point here tile zero; source = sources.always false; value = false }

  -- a point that shows what the row before it has, and one that shows the opposite
  abbrev next_row : Row → Point → Row
  next_row before p = record { at = p; source = sources.shows before.at; value = before.value }

  abbrev turned_row : Row → Point → Row
  turned_row before p = record { at = p; source = sources.inverts before.at; value = not before.value }

  abbrev zero_port : Row
  zero_port = next_row first_row (point (matrix_path here) (name_of tile zero) 0)

  abbrev pin_port : Row
  pin_port = next_row zero_port (point (matrix_path here) (name_of tile pin) 0)

  abbrev pin_wire : Row
  pin_wire = next_row pin_port (pin_point tile site pad_t)

  abbrev turns : Row
  turns = next_row pin_wire (bel_point site (codes "T"))

  abbrev turned : Row
  turned = turned_row turns (bel_point site (codes "T_top"))

  abbrev leaves_tile : Row
  leaves_tile = next_row turned (port_point site (codes "T_top"))

  abbrev pub leaves : Row
  leaves = next_row leaves_tile (top_point site (codes "T_top"))

  abbrev pub pad_rows : List Row
  pad_rows = first_row ∷ zero_port ∷ pin_port ∷ pin_wire ∷ turns ∷ turned ∷ leaves_tile ∷ leaves ∷ []

  module _ (inputs held : Assignment) where
    next_is : (before : List Row) (first : Row) (p : Point) → ShowsRow s inputs held (next_row first p) → IsRow s inputs held (first ∷ before) (next_row first p)
    next_is before first p shows = record { shows = shows; few = omega arith; follows = λ a right. All-head (Right a) first before right }

    pub pad_rows_are : AreRows s inputs held [] pad_rows
    pad_rows_are = (
      record { shows = λ a knows. zero_bit_shown inputs held (λ q. known (a q)); few = omega arith; follows = λ a right. refl },
      (
        next_is [] first_row zero_port.at (λ a knows. zero_port_shown inputs held (λ q. known (a q))),
        (
          next_is (first_row ∷ []) zero_port pin_port.at (λ a knows. pin_port_shown inputs held (λ q. known (a q)) knows),
          (
            next_is (zero_port ∷ first_row ∷ []) pin_port pin_wire.at (λ a knows. pin_wire_shown inputs held (λ q. known (a q))),
            (
              next_is (pin_port ∷ zero_port ∷ first_row ∷ []) pin_wire turns.at (λ a knows. turns_shown inputs held (λ q. known (a q))),
              (
                record {
                  shows = λ a knows. turned_shown inputs held (λ q. known (a q));
                  few = omega arith;
                  follows = λ a right. ap not (All-head (Right a) turns (pin_wire ∷ pin_port ∷ zero_port ∷ first_row ∷ []) right);
                },
                (
                  next_is (turns ∷ pin_wire ∷ pin_port ∷ zero_port ∷ first_row ∷ []) turned leaves_tile.at (λ a knows. tile_shown inputs held (λ q. known (a q))),
                  (
                    next_is (turned ∷ turns ∷ pin_wire ∷ pin_port ∷ zero_port ∷ first_row ∷ []) leaves_tile leaves.at (λ a knows. outside_shown inputs held (λ q. known (a q))),
                    tt,
                  ),
                ),
              ),
            ),
          ),
        ),
      ),
    )
