-- Where a site of a fabric stands in the text: the instance of its tile, and in that the instance of its BEL.
use Rattle.std.specs.Prelude.{ℕ, List, []}
use Rattle.fab_meaning.specs.Ports.{config_name}
use Rattle.fab_meaning.specs.Points.{Path, Point, point}
use Rattle.fab_model.specs.Tiles.{PlainTile}
use Rattle.fab_model.specs.Wires.{pin_of}
use Rattle.fab_text_loads_laws.specs.fab_fabric_wire_Site.{Site}
use Rattle.fab_text_loads_laws.specs.fab_gen_tile_Names.{pad_name}
use Rattle.fab_text_loads_laws.specs.fab_fabric_text_defs_Names.{pad_port_name}
use Rattle.fab_text_loads_laws.specs.fab_tile_drives_laws_Stands.{bel_path, wire_point}
use Rattle.fab_text_loads_laws.specs.fab_drives_laws_Points.{place_path}

-- the instance of its tile
abbrev pub site_path : Site → Path
site_path site = place_path site.x site.y

-- a point of one bit in its BEL, as a port, a wire or a register there
abbrev pub bel_point : Site → (name : List ℕ) → Point
bel_point site name = point (bel_path (site_path site) site.bel) name 0

-- the configuration bit that a reset loads
abbrev pub reset_bit : Site → Point
reset_bit site = point (bel_path (site_path site) site.bel) config_name 18

-- a port of a pad as a port of the tile
abbrev pub port_point : Site → (port : List ℕ) → Point
port_point site port = point (site_path site) (pad_name site.bel port) 0

-- the same as a port of the top module
abbrev pub top_point : Site → (port : List ℕ) → Point
top_point site port = point [] (pad_port_name site.x site.y site.bel port) 0

-- the wire of the tile that is joined to a pin of the BEL
abbrev pub pin_point : PlainTile → Site → (pin : ℕ) → Point
pin_point tile site pin = wire_point (site_path site) tile (pin_of site.bel pin)
