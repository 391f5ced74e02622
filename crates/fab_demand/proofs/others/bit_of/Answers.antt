use Rattle.std.proofs.Common.{◌≡◌, ℕ, List, Some, slice_get, sym, ap, ◌∙◌}
use Rattle.std.proofs.lemmas.Option.{slice_get-get_or}
use Rattle.fab_network.specs.declared.network.Drive.{Drive}
use Rattle.fab_demand.specs.inner.Beside.{IsBit, IsBitDrive}
use Rattle.fab_demand.proofs.Beside.{some_map}
use Rattle.fab_demand.proofs.others.bit_of.Goals as goal

pub returns : goal.returns
returns c =
    let drive : Drive = c.in_ok-drive.drive.now in
    let found = c.in_ok-drive.ensures.lookup in
    let at : slice_get c.args.network.now.drives.items c.args.point ≡ Some drive =
    ap (λ (drives : List Drive). slice_get drives c.args.point) (sym c.deref.ensures.value)
    ∙ slice_get-get_or c.deref.result.now c.args.point drive found.3.0
    ∙ ap (λ (d : Drive). Some d) (sym (found.3.1 drive)) in
    some_map c.bit_in.result (λ (bit : ℕ). IsBitDrive drive c.args.bits bit) (λ (bit : ℕ). IsBit c.args.network.now c.args.bits c.args.point bit) c.bit_in.ensures
    (λ bit is. at ∙ ap (λ (d : Drive). Some d) is)
