-- Constant wires, by the rows of whose destination bits they are one.
use Rattle.std.proofs.Common.{◌≡◌, ◌↔◌, ℕ, Bool, true, false, Option, Some, None, MatchOption, option_map, refl, sym, ap, ◌∙◌, subst}
use Rattle.std.proofs.lemmas.Option.{same_Some}
use Rattle.fab_implementation.specs.fab_model.specs.declared.tiles.WireRow.{WireRow}
use Rattle.fab_implementation.specs.fab_model.specs.Wires.{dest_of}
use Rattle.fab_implementation.specs.fab_model.specs.Grid.{PlainFabric}
use Rattle.fab_implementation.specs.fab_model.specs.Drive.{PlainDrive, zero_bit, one_bit, constant}
use Rattle.fab_implementation.specs.fab_fabric.specs.Wires.{IsIndexOf}
use Rattle.fab_implementation.specs.fab_fabric.specs.Walks.{row_at}
use Rattle.fab_implementation.specs.fab_fabric.specs.declared.fabric.joins.RowAt.{RowAt}
use Rattle.fab_implementation.specs.fab_fabric.specs.declared.wire.Wire.{Wire}
use Rattle.fab_implementation.specs.fab_fabric.proofs.Stepped.{row_spot, stand, standing_row}
use Rattle.fab_legal.specs.Steps.{IsConstant, bit_drive}
use Rattle.fab_legal.specs.inner.Keeping.{IsConstantRow}

same_bit : (a b : Bool) (drive : PlainDrive) → drive ≡ bit_drive a → drive ≡ bit_drive b → a ≡ b
same_bit true true drive first second = refl
same_bit false false drive first second = refl
same_bit true false drive first second = absurd (apart (sym first ∙ second))
  where
    apart : one_bit ≡ zero_bit → ⊥
    apart e = cc
same_bit false true drive first second = absurd (apart (sym first ∙ second))
  where
    apart : zero_bit ≡ one_bit → ⊥
    apart e = cc

no_some : {X : Type 0} (x : X) → ◌≡◌ {A = Option X} None (Some x) → ⊥
no_some x e = cc

-- this is the destination bit that the wire is
abbrev IsDestAt : PlainFabric → Wire → Option (RowAt × ℕ) → Type 0
IsDestAt fabric wire found = (at : RowAt) (bit : ℕ) → (found ≡ Some (at, bit)) ↔ IsIndexOf fabric wire.0 at.x at.y (dest_of at.row bit)

-- a constant wire is a destination bit
pub no_constant : (fabric : PlainFabric) (wire : Wire) → IsDestAt fabric wire None → (value : Bool) → ◌≡◌ {A = Option Bool} None (Some value) ↔ IsConstant fabric (bit_drive value) wire
no_constant fabric wire none value = (
  (λ e. absurd (no_some value e)),
  λ c. absurd (no_some (row_spot c.x c.y c.row, c.bit) ((none (row_spot c.x c.y c.row) c.bit).1 c.wire_is)),
)

module _ (fabric : PlainFabric) (wire : Wire) (there : RowAt) (bit : ℕ) (row : WireRow) (dest : IsDestAt fabric wire (Some (there, bit))) (row_is : row_at fabric there ≡ Some row) where
  constant_here : (value : Bool) → IsConstantRow row value → IsConstant fabric (bit_drive value) wire
  constant_here value here =
      let s = standing_row fabric there row row_is in
      record {
        x = there.x;
        y = there.y;
        row = there.row;
        bit = bit;
        tile = s.0;
        found = row;
        stands = record { tile_is = s.1; row_is = s.2 };
        jumps = here.0;
        unsourced = here.1;
        value_is = here.2;
        wire_is = (dest there bit).0 refl;
      }

  constant_row : (value : Bool) → IsConstant fabric (bit_drive value) wire → IsConstantRow row value
  constant_row value c =
      let at : RowAt = row_spot c.x c.y c.row in
      let same = same_Some (there, bit) (at, c.bit) ((dest at c.bit).1 c.wire_is) in
      let found : row_at fabric at ≡ Some c.found = ap (option_map (λ placed. placed.row)) (stand fabric at c.tile c.found c.stands.tile_is c.stands.row_is) in
      let rows : c.found ≡ row = same_Some c.found row (sym found ∙ ap (λ (p : RowAt × ℕ). row_at fabric p.0) (sym same) ∙ row_is) in
      subst (λ (r : WireRow). IsConstantRow r value) rows (c.jumps, c.unsourced, c.value_is)

  -- a wire is constant as its row is
  pub constant_by_row : (result : Option Bool) → MatchOption result ((value : Bool) → IsConstantRow row value → ⊥) (IsConstantRow row) → (value : Bool) → (result ≡ Some value) ↔ IsConstant fabric (bit_drive value) wire
  constant_by_row None none value = ((λ e. absurd (no_some value e)), λ c. absurd (none value (constant_row value c)))
  constant_by_row (Some found) here value = (
    (λ e. constant_here value (subst (λ (v : Bool). IsConstantRow row v) (same_Some found value e) here)),
    λ c. ap (λ (v : Bool). Some v) (same_bit found value (constant row.dest) here.2 (constant_row value c).2),
  )
