-- The tile types: one with two pads and one with a LUT.
use Rattle.std.specs.Prelude.{ℕ, List, codes}
use Rattle.fab_model.specs.Tiles.{PlainTile}
use Rattle.fab_fabric.specs.Examples.{lut_bels, lut_pairs, lut_rows, pad_bels, pad_pairs, pad_rows, tile_with}

-- with these places of their configuration bits
abbrev pub pads_with : (table : List (ℕ × ℕ)) → PlainTile
pads_with table = tile_with (codes "IO") pad_rows pad_bels pad_pairs table

abbrev pub lut_with : (table : List (ℕ × ℕ)) → PlainTile
lut_with table = tile_with (codes "LOG") lut_rows lut_bels lut_pairs table
