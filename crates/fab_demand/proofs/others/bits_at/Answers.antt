use Rattle.std.proofs.Common.{◌≡◌, List, Some, length, slice_get, sym, ap, ◌∙◌}
use Rattle.std.proofs.lemmas.Option.{slice_get-get_or}
use Rattle.fab_network.specs.declared.network.Drive.{Drive}
use Rattle.fab_demand.specs.declared.others.Bits.{Bits}
use Rattle.fab_demand.specs.inner.Beside.{AreFitBits, IsDriveOf}
use Rattle.fab_demand.proofs.Beside.{drive_fits, some_map}
use Rattle.fab_demand.proofs.others.bits_at.Goals as goal

pub returns : goal.returns
returns c =
    let drive : Drive = c.in_ok-drive.drive.now in
    let found = c.in_ok-drive.ensures.lookup in
    let at : slice_get c.args.network.now.drives.items c.args.point ≡ Some drive =
    ap (λ (drives : List Drive). slice_get drives c.args.point) (sym c.deref.ensures.value)
    ∙ slice_get-get_or c.deref.result.now c.args.point drive found.3.0
    ∙ ap (λ (d : Drive). Some d) (sym (found.3.1 drive)) in
    let trees = c.args.network.now.trees.items in
    let count = length c.args.network.now.drives.items in
    some_map c.bits_of.result (IsDriveOf drive) (AreFitBits trees count) c.bits_of.ensures
    (λ (bits : Bits) is. drive_fits trees count drive bits (c.requires.fit c.args.point drive at) is)
