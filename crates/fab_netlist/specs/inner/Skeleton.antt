-- Netlists by their wires alone: a search for cycles looks at no table.
use Rattle.std.specs.Prelude.{map, None}
use Rattle.fab_netlist.specs.Plain.{PlainCover, PlainNetlist}
use Rattle.fab_netlist.specs.Wide.{PlainWide, PlainWideCover}

-- the cover with an empty table
abbrev pub bare_cover : PlainWideCover → PlainCover
bare_cover cover = record { line = cover.line; inputs = cover.inputs; output = cover.output; table = 0 }

abbrev pub bare : PlainWide → PlainNetlist
bare wide = record { nets = wide.nets; inputs = wide.inputs; outputs = wide.outputs; covers = map bare_cover wide.covers; latches = wide.latches; reset = None }
