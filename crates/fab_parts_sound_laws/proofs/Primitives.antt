-- The modules of the kinds fit: they are closed terms, so that their counts and widths compute.
use Rattle.std.proofs.Common.{◌≡◌, ℕ, List, [], refl, rules}
use Rattle.fab_kinds.specs.declared.kind.Kind.{Kind}
use Rattle.fab_kinds.specs.declared.kind.Kind.TheVariants.{Lut4c, Io, Mux8}
use Rattle.fab_syntax.specs.Plain.{PlainModule}
use Rattle.fab_syntax.specs.Sound.{refusals, mentions_in, PortIsDriven, ItemIsDriven, ServesAsClock}
use Rattle.fab_tile_drives_laws.specs.fab_meaning_Runs.{user_clock_name}
use Rattle.fab_tile_drives_laws.proofs.fab_meaning_Modules.{Each, each_all}
use Rattle.fab_tile_drives_laws.specs.fab_prim_Modules.{module_of_kind}
use Rattle.fab_parts_sound_laws.specs.Fits.{FitsIn}
use Rattle.fab_parts_sound_laws.proofs.Clocks.{ClocksBy, serves}
use Rattle.fab_parts_sound_laws.proofs.Flat.{ItemFits, flat_fits}

names : (kind : Kind) → refusals [] (mentions_in (module_of_kind kind)) ≡ []
names Lut4c = refl
names Io = refl
names Mux8 = refl

items : (kind : Kind) → Each (ItemFits (module_of_kind kind)) (module_of_kind kind).items
items Lut4c = search rules
items Io = search rules
items Mux8 = search rules

ports_driven : (text : List PlainModule) (kind : Kind) → Each (PortIsDriven text (module_of_kind kind)) (module_of_kind kind).ports
ports_driven text Lut4c = search rules
ports_driven text Io = search rules
ports_driven text Mux8 = search rules

items_driven : (text : List PlainModule) (kind : Kind) → Each (ItemIsDriven text (module_of_kind kind)) (module_of_kind kind).items
items_driven text Lut4c = search rules
items_driven text Io = search rules
items_driven text Mux8 = search rules

pub primitive_fits : (text before : List PlainModule) (kind : Kind) → FitsIn text before (module_of_kind kind)
primitive_fits text before kind =
    let m = module_of_kind kind in
    flat_fits m text before (names kind) (each_all (ItemFits m) m.items (items kind)) (each_all (PortIsDriven text m) m.ports (ports_driven text kind))
    (each_all (ItemIsDriven text m) m.items (items_driven text kind))

-- ---- clocks

abbrev IsUserClock : List ℕ → Type 0
IsUserClock port = port ≡ user_clock_name

clocked_items : (kind : Kind) → Each (ClocksBy IsUserClock) (module_of_kind kind).items
clocked_items Lut4c = search rules
clocked_items Io = search rules
clocked_items Mux8 = search rules

pub primitive_clocks : (text : List PlainModule) (kind : Kind) (port : List ℕ) → ServesAsClock text (module_of_kind kind) port → port ≡ user_clock_name
primitive_clocks text kind port = serves IsUserClock text (module_of_kind kind) port (each_all (ClocksBy IsUserClock) (module_of_kind kind).items (clocked_items kind))
