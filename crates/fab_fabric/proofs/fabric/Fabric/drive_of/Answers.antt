use Rattle.std.proofs.Common.{◌∙◌, ℕ, subst}
use Rattle.fab_model.specs.Wires.{PlainWire, source_of, dest_of, pin_of}
use Rattle.fab_model.specs.Drive.{drive}
use Rattle.fab_fabric.specs.declared.wire.Drive.{Drive}
use Rattle.fab_fabric.specs.Wires.{wire_index, IsIndexOf}
use Rattle.fab_fabric.specs.Bits.{plain_bits}
use Rattle.fab_fabric.specs.Drive.{numbered_drive}
use Rattle.fab_fabric.specs.inner.Index.{plain_wire}
use Rattle.fab_fabric.proofs.Joined.{same_at}
use Rattle.fab_fabric.proofs.Selecting.{matrix_driven, source_is_output}
use Rattle.fab_fabric.proofs.fabric.Fabric.drive_of.Goals as goal

pub returns-in-Source-clause-drive : goal.returns-in-Source-clause-drive
returns-in-Source-clause-drive c = λ x y plain is.
    let fabric = c.args.self.now in
    let at = c.spot-x.result in
    let bits = plain_bits c.args.bits.now in
    let F : ℕ → ℕ → PlainWire → Drive = λ x y plain. numbered_drive fabric (drive fabric bits x y plain) in
    let found = subst (λ wire. IsIndexOf fabric (wire_index fabric at.0 at.1 at.2) at.0 at.1 (plain_wire wire)) c.in-Source.is c.tile_wire.ensures in
    matrix_driven fabric bits at.0 at.1 at.2 (source_of c.in-Source.field-0 c.in-Source.field-1) c.matrix_drive.result found (source_is_output found.is_wire.tile c.in-Source.field-0 c.in-Source.field-1 found.is_wire.is_wire) c.matrix_drive.ensures.drive
    ∙ same_at F fabric c.args.wire.0 _ at.0 at.1 x y (source_of c.in-Source.field-0 c.in-Source.field-1) plain c.spot-x.ensures.index found is

pub returns-in-Dest-clause-drive : goal.returns-in-Dest-clause-drive
returns-in-Dest-clause-drive c = λ x y plain is.
    let fabric = c.args.self.now in
    let at = c.spot-x.result in
    let bits = plain_bits c.args.bits.now in
    let F : ℕ → ℕ → PlainWire → Drive = λ x y plain. numbered_drive fabric (drive fabric bits x y plain) in
    let found = subst (λ wire. IsIndexOf fabric (wire_index fabric at.0 at.1 at.2) at.0 at.1 (plain_wire wire)) c.in-Dest.is c.tile_wire.ensures in
    c.dest_drive.ensures.drive bits
    ∙ same_at F fabric c.args.wire.0 _ at.0 at.1 x y (dest_of c.in-Dest.row c.in-Dest.bit) plain c.spot-x.ensures.index found is

pub returns-in-Pin-clause-drive : goal.returns-in-Pin-clause-drive
returns-in-Pin-clause-drive c = λ x y plain is.
    let fabric = c.args.self.now in
    let at = c.spot-x.result in
    let bits = plain_bits c.args.bits.now in
    let F : ℕ → ℕ → PlainWire → Drive = λ x y plain. numbered_drive fabric (drive fabric bits x y plain) in
    let found = subst (λ wire. IsIndexOf fabric (wire_index fabric at.0 at.1 at.2) at.0 at.1 (plain_wire wire)) c.in-Pin.is c.tile_wire.ensures in
    c.pin_drive.ensures.drive
    ∙ same_at F fabric c.args.wire.0 _ at.0 at.1 x y (pin_of c.in-Pin.bel c.in-Pin.pin) plain c.spot-x.ensures.index found is

pub pin_drive-requires : goal.pin_drive-requires
pin_drive-requires c =
    let fabric = c.args.self.now in
    let at = c.spot-x.result in
    subst (λ wire. IsIndexOf fabric (wire_index fabric at.0 at.1 at.2) at.0 at.1 (plain_wire wire)) c.in-Pin.is c.tile_wire.ensures
