-- What the parts of the check hand to one another.
use Rattle.std.specs.Prelude.{◌≡◌, true, false, ℕ, ◌<◌, Bool, List, map, length, get_or, Contains, Option, Some, None, bytes_eq}
use Rattle.std.specs.List.{position_or_len}
use Rattle.fab_kinds.specs.declared.kind.Kind.{Kind}
use Rattle.fab_kinds.specs.declared.kind.Kind.TheVariants as kinds
use Rattle.fab_implementation.specs.fab_model.specs.Grid.{PlainFabric}
use Rattle.fab_implementation.specs.fab_fabric.specs.declared.wire.Site.{Site}
use Rattle.fab_implementation.specs.Plain.{Pad}
use Rattle.fab_implementation.specs.OnFabric.{kind_at}
use Rattle.fab_legal.specs.Turns.{AreRight, IsFirstWrongAt}
use Rattle.fab_legal.specs.Steps.{bit_drive}
use Rattle.fab_legal.specs.Lines.{named, IsRightLine, HaveSites}
use Rattle.fab_bits.specs.Keys.{key_names}
use Rattle.fab_legal.specs.Broken.{IsNamedBy}
use Rattle.fab_kinds.specs.Pins.{pin_names}
use Rattle.fab_implementation.specs.fab_model.specs.declared.tiles.WireRow.{WireRow}
use Rattle.fab_implementation.specs.fab_model.specs.Rows.{is_jump, is_named}
use Rattle.fab_implementation.specs.fab_model.specs.Drive.{PlainDrive, zero_bit, one_bit, constant}
use Rattle.fab_legal.specs.declared.ports.Pads.{Pads}
use Rattle.fab_legal.specs.declared.ports.PadBinding.{PadBinding}
use Rattle.fab_legal.specs.declared.ports.PadBinding.TheVariants as found
use Rattle.fab_legal.specs.declared.lines.Binding.{Binding}
use Rattle.fab_legal.specs.declared.lines.Binding.TheVariants as bindings

-- ---- things by number

abbrev pub Below : (count : ℕ) → ℕ → Type 0
Below count number = number < count

-- the sites of numbered things: each is that of a line
pub record AreSites (lines : List (ℕ × Site)) (count : ℕ) (sites : List Site) : Type 0 where
  pub as_many : length sites ≡ count
  pub each : (number : ℕ) (d : Site) → number < count → Contains lines (number, get_or sites number d)

pub record IsLeastUnnamed (lines : List (ℕ × Site)) (count number : ℕ) : Type 0 where
  pub below : number < count
  pub unnamed : Contains (named lines) number → ⊥
  pub before : (less : ℕ) → less < number → Contains (named lines) less

-- at each number the site of a line that names it, if one does
pub record AreNoted (lines : List (ℕ × Site)) (count : ℕ) (sites : List (Option Site)) : Type 0 where
  pub as_many : length sites ≡ count
  pub noted : (number : ℕ) (site : Site) → number < count → get_or sites number None ≡ Some site → Contains lines (number, site)
  pub unnoted : (number : ℕ) → number < count → get_or sites number None ≡ None → Contains (named lines) number → ⊥

-- a line gives a site of the kind to a thing that has none yet
abbrev pub FillsGap : PlainFabric → Kind → List (Option Site) → ℕ × Site → Type 0
FillsGap fabric kind sites line = (line.0 < length sites) × (get_or sites line.0 None ≡ None) × (kind_at fabric line.1 ≡ Some kind)

-- all sites, or the first place without one
abbrev pub Collects : List (Option Site) → Binding → Type 0
Collects noted (bindings.Sites sites) = (length sites.items ≡ length noted) × ((number : ℕ) (d : Site) → number < length noted → get_or noted number None ≡ Some (get_or sites.items number d))
Collects noted (bindings.WrongLine place) = ⊥
Collects noted (bindings.Unnamed number) = (number < length noted) × (get_or noted number None ≡ None) × ((less : ℕ) → less < number → (site : Site) × (get_or noted less None ≡ Some site))

abbrev pub Binds : PlainFabric → Kind → (count : ℕ) → List (ℕ × Site) → Binding → Type 0
Binds fabric kind count lines (bindings.Sites sites) = HaveSites fabric kind (Below count) lines × AreSites lines count sites.items
Binds fabric kind count lines (bindings.WrongLine place) = IsFirstWrongAt (IsRightLine fabric kind (Below count)) lines place
Binds fabric kind count lines (bindings.Unnamed number) = AreRight (IsRightLine fabric kind (Below count)) lines × IsLeastUnnamed lines count number

-- the number of a port, and one past the last for other names
abbrev pub port_number : (ports : List (List ℕ)) → List ℕ → ℕ
port_number ports port = position_or_len (bytes_eq port) ports

abbrev pub numbered_pad : (ports : List (List ℕ)) → Pad → ℕ × Site
numbered_pad ports pad = (port_number ports pad.0, pad.1)

-- ---- ports

-- what is kept of the ports of a direction: their names, the lines by number, and the sites
pub record ArePads (declared : List (List ℕ)) (lines : List Pad) (pads : Pads) : Type 0 where
  pub names_are : key_names pads.names.keys ≡ declared
  pub lines_are : pads.lines.items ≡ map (numbered_pad declared) lines
  pub sites_are : AreSites (map (numbered_pad declared) lines) (length declared) pads.sites.items

abbrev pub BindsPads : PlainFabric → (declared : List (List ℕ)) → List Pad → PadBinding → Type 0
BindsPads fabric declared lines (found.Bound pads) = HaveSites fabric kinds.Io (Contains declared) lines × ArePads declared lines pads
BindsPads fabric declared lines (found.WrongLine place) = IsFirstWrongAt (IsRightLine fabric kinds.Io (Contains declared)) lines place
BindsPads fabric declared lines (found.Unnamed place) =
    AreRight (IsRightLine fabric kinds.Io (Contains declared)) lines × IsFirstWrongAt (IsNamedBy lines) declared place

-- a port stands on a pad, by number
abbrev pub HasPad : (declared : List (List ℕ)) (sites : List Site) → Pad → Type 0
HasPad declared sites pad = (port_number declared pad.0 < length declared) × (get_or sites (port_number declared pad.0) pad.1 ≡ pad.1)

-- ---- tiles

-- the bits of a row are constant
abbrev pub IsConstantRow : WireRow → Bool → Type 0
IsConstantRow row value = (is_jump row.dir ≡ true) × (is_named row.source ≡ false) × (constant row.dest ≡ bit_drive value)
