-- A wire of a fabric has a text.
use Rattle.std.proofs.Common.{◌<◌, ℕ, List, refl, ap}
use Rattle.fab_model.specs.Grid.{PlainFabric}
use Rattle.fab_fabric.specs.Fabric.{wire_count}
use Rattle.fab_fabric.specs.Names.{full_name, name_at}
use Rattle.fab_fabric.specs.Wires.{numbered_wire}
use Rattle.fab_fabric.specs.declared.wire.Wire.{Wire}
use Rattle.fab_fabric.proofs.Numbered.{some_place}
use Rattle.fab_legal.specs.Broken.{IsWireText}

pub written_wire : (fabric : PlainFabric) (wire : Wire) → wire.0 < wire_count fabric → (item : List ℕ) × IsWireText fabric wire item
written_wire fabric wire within =
    let place = some_place fabric wire.0 within in (
      full_name place.0 place.1 (name_at fabric place.0 place.1 place.2),
      record {
        x = place.0;
        y = place.1;
        number = place.2;
        inside = place.3;
        wire_is = ap numbered_wire place.4;
        text_is = refl;
      },
    )
