-- What drives a wire, by numbers.
use Rattle.std.specs.Prelude.{ℕ, ◌<◌}
use Rattle.fab_model.specs.Grid.{PlainFabric}
use Rattle.fab_model.specs.Drive.{PlainDrive, zero_bit, one_bit, copy, bel_output}
use Rattle.fab_fabric.specs.Fabric.{wire_count}
use Rattle.fab_fabric.specs.Wires.{index_of, numbered_wire}
use Rattle.fab_fabric.specs.declared.wire.Site.{Site}
use Rattle.fab_fabric.specs.declared.wire.Drive.{Drive}
use Rattle.fab_fabric.specs.declared.wire.Drive.TheVariants as drives

abbrev pub site_at : (x y bel : ℕ) → Site
site_at x y bel = record { x = x; y = y; bel = bel }

-- the same drive with the wire by number
abbrev pub numbered_drive : PlainFabric → PlainDrive → Drive
numbered_drive fabric zero_bit = drives.Zero
numbered_drive fabric one_bit = drives.One
numbered_drive fabric (copy x y wire) = drives.Copy (numbered_wire (index_of fabric x y wire))
numbered_drive fabric (bel_output x y bel pin) = drives.Pin (site_at x y bel) pin

-- a wire that is copied is one of the fabric
abbrev pub CopiesWithin : PlainFabric → Drive → Type 0
CopiesWithin fabric drives.Zero = Unit {0}
CopiesWithin fabric drives.One = Unit {0}
CopiesWithin fabric (drives.Copy wire) = wire.0 < wire_count fabric
CopiesWithin fabric (drives.Pin site pin) = Unit {0}
