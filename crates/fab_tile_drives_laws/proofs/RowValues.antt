-- The values of destination bits and of border bits.
use Rattle.std.proofs.Common.{◌≡◌, ℕ, ◌+◌, ◌-◌, ◌<◌, List, [], ◌∷◌, slice_get, refl, sym, ap, ◌∙◌, subst, inl, inr, Some, Contains}
use Rattle.std.proofs.lemmas.Bool.{cases_Bool, cases_lt, lt-ltb, le-ltb}
use Rattle.std.proofs.lemmas.List.Elements.{All-contains}
use Rattle.fab_gen_tile.specs.fab_syntax.specs.Plain.{variable, constant, assign, PlainModule}
use Rattle.fab_gen_tile.specs.fab_meaning.specs.Value.{value, bit_at}
use Rattle.fab_gen_tile.specs.fab_meaning.specs.Points.{Path, Point, point}
use Rattle.fab_gen_tile.specs.fab_meaning.specs.Settled.{Assignment, names_at}
use Rattle.fab_gen_tile.specs.fab_model.specs.declared.mode.Mode.{Mode}
use Rattle.fab_gen_tile.specs.fab_model.specs.declared.tiles.WireRow.{WireRow}
use Rattle.fab_gen_tile.specs.fab_model.specs.Rows.{is_named, dest_bits, bit_name, IsWireRow}
use Rattle.fab_gen_tile.specs.fab_model.specs.Tiles.{PlainTile, IsTile}
use Rattle.fab_gen_tile.specs.fab_model.specs.Cascade.{passing_bits}
use Rattle.fab_gen_tile.specs.fab_model.specs.Wires.{PlainWire, source_of, dest_of, IsWire}
use Rattle.fab_gen_tile.specs.Names.{begin_name, end_name}
use Rattle.fab_gen_tile.specs.Borders.{fixed_bit, dest_value}
use Rattle.fab_gen_tile.specs.TileModule.{tile_module}
use Rattle.fab_tile_drives_laws.specs.Stands.{TileStands, name_of, wire_point, IsSettledOnDeclared}
use Rattle.fab_tile_drives_laws.specs.Tiles.{ShowsEnds, ShowsJumps, ShowsBegins, jump_value, begin_value}
use Rattle.fab_tile_drives_laws.proofs.Members.{contains_at}
use Rattle.fab_tile_drives_laws.proofs.TileNames.{name_wide, end_wide, begin_wide}
use Rattle.fab_tile_drives_laws.proofs.TileItems.{assign_there}
use Rattle.fab_tile_drives_laws.proofs.Driven.{variable_bit, assigned}
use Rattle.fab_tile_drives_laws.proofs.WireNames.{name_there, source_name, dest_name, source_exists, dest_exists}
use Rattle.fab_tile_drives_laws.proofs.BorderBits.{dest_within, source_within, passing_within, beginning_within, passing_there, beginning_there, dest_there, jump_source}

module _ (mode : Mode) (text : List PlainModule) (path : Path) (tile : PlainTile) (is_tile : IsTile tile) (stands : TileStands mode text path tile) where
  row_is : (row : ℕ) (found : WireRow) → slice_get tile.rows row ≡ Some found → IsWireRow found
  row_is row found there = All-contains IsWireRow tile.rows found is_tile.rows (contains_at tile.rows row found there)

  -- what a wire of the tile shows to an expression
  pub wire_seen : (now : Assignment) (wire : PlainWire) → IsWire tile wire →
      bit_at (value (names_at text now path) (variable (name_of tile wire))) 0 ≡ now (wire_point path tile wire)
  wire_seen now wire exists =
      variable_bit text now path (tile_module mode tile) stands.tile_is (name_of tile wire) 0 (name_wide mode tile (name_of tile wire) (name_there tile wire exists))

  -- a destination bit has the value that its row assigns
  dest_assigned : (inputs held now : Assignment) (row bit : ℕ) (found : WireRow) → slice_get tile.rows row ≡ Some found → bit < dest_bits found →
      IsSettledOnDeclared (λ p. p ≡ wire_point path tile (dest_of row bit)) text inputs held now →
      now (wire_point path tile (dest_of row bit)) ≡ bit_at (value (names_at text now path) (dest_value found bit)) 0
  dest_assigned inputs held now row bit found there few settled =
      let name : name_of tile (dest_of row bit) ≡ bit_name found.dest bit = dest_name tile row bit found there in
      let wide : 0 < _ = name_wide mode tile (name_of tile (dest_of row bit)) (name_there tile (dest_of row bit) (dest_exists tile row bit found there few)) in
      let item : Contains (tile_module mode tile).items (assign (bit_name found.dest bit) (dest_value found bit)) =
      assign_there mode tile row found (assign (bit_name found.dest bit) (dest_value found bit)) there (dest_there found bit few) in
      assigned (λ p. p ≡ wire_point path tile (dest_of row bit)) text inputs held now settled path (tile_module mode tile)
      (name_of tile (dest_of row bit)) (dest_value found bit) 0 stands.tile_is
      (subst (λ n. Contains (tile_module mode tile).items (assign n (dest_value found bit))) (sym name) item) wide refl

  pub ends_show : ShowsEnds text path tile
  ends_show inputs held now row bit found there other few settled =
      let e : dest_value found bit ≡ variable (end_name found bit) = rw other refl in
      dest_assigned inputs held now row bit found there few settled
      ∙ ap (λ e. bit_at (value (names_at text now path) e) 0) e
      ∙ variable_bit text now path (tile_module mode tile) stands.tile_is (end_name found bit) 0
      (end_wide mode tile row bit found there other (dest_within found (row_is row found there) other bit few))

  pub jumps_show : ShowsJumps text path tile
  jumps_show inputs held now row bit found there jump few settled =
      let shown = dest_assigned inputs held now row bit found there few settled in
      elim (cases_Bool (is_named found.source)) [
        | inl named ↦ (
            let e : dest_value found bit ≡ variable (bit_name found.source bit) = rw (jump, named) refl in
            let given : jump_value path tile now row bit found ≡ now (wire_point path tile (source_of row bit)) = rw named refl in
            shown
            ∙ ap (λ e. bit_at (value (names_at text now path) e) 0) (e ∙ ap variable (sym (source_name tile row bit found there)))
            ∙ wire_seen now (source_of row bit) (source_exists tile row bit found there (jump_source found bit jump named few))
            ∙ sym given)
        | inr bare ↦ (
            let e : dest_value found bit ≡ constant (fixed_bit found.dest ∷ []) = rw (jump, bare) refl in
            let given : jump_value path tile now row bit found ≡ fixed_bit found.dest = rw bare refl in
            shown ∙ ap (λ e. bit_at (value (names_at text now path) e) 0) e ∙ sym given)
      ]

  pub begins_show : ShowsBegins text path tile
  begins_show inputs held now row bit found there other named few settled =
      let m = tile_module mode tile in
      let is = row_is row found there in
      let Has : Point → Type 0 = λ p. p ≡ point path (begin_name found bit) 0 in
      let wide : 0 < _ = begin_wide mode tile row bit found there other (source_within found is other bit named few) in
      elim (cases_lt bit (passing_bits found)) [
        | inl passes ↦ (
            let from = end_name found (bit + found.count) in
            let given : begin_value path tile now row bit found ≡ now (point path from 0) = rw (lt-ltb bit (passing_bits found) passes) refl in
            assigned Has text inputs held now settled path m (begin_name found bit) (variable from) 0 stands.tile_is
            (assign_there mode tile row found (assign (begin_name found bit) (variable from)) there (passing_there found is other bit named passes)) wide refl
            ∙ variable_bit text now path m stands.tile_is from 0 (end_wide mode tile row (bit + found.count) found there other (passing_within found is other bit passes))
            ∙ sym given)
        | inr past ↦ (
            let output = bit - passing_bits found in
            let from = bit_name found.source output in
            let given : begin_value path tile now row bit found ≡ now (wire_point path tile (source_of row output)) = rw (le-ltb bit (passing_bits found) past) refl in
            assigned Has text inputs held now settled path m (begin_name found bit) (variable from) 0 stands.tile_is
            (assign_there mode tile row found (assign (begin_name found bit) (variable from)) there (beginning_there found is other bit named past few)) wide refl
            ∙ ap (λ n. bit_at (value (names_at text now path) (variable n)) 0) (sym (source_name tile row output found there))
            ∙ wire_seen now (source_of row output) (source_exists tile row output found there (beginning_within found is other bit named past few))
            ∙ sym given)
      ]
