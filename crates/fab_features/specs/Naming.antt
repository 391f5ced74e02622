-- When the names of features say what they should.
--
-- A name is cut at its first two dots, and a field of a BEL is looked for before a pair of the switch matrix.
--
-- The name of a field is a place, a letter and a field. Neither a place nor a letter has a dot, so it says that field.
--
-- The name of a pair is a place, an input and an output. It says that pair where the input has no dot and is not one byte alone: then it is no
-- letter of a BEL, and the tile has each matrix name once. What the output is called makes no difference, since nothing is cut behind it. The
-- inputs of a switch matrix are these:
--
--   * A destination bit. It is called by a side of a row, which is a name, and by its number.
--   * An output pin of a BEL with a prefix, which is a name. It is called by the prefix and the pin.
--   * An output pin of a BEL without a prefix. Those of a MUX8LUT are M_AB, M_AD, M_AH and M_EF. But O of a LUT4c, and O and Q of a pad, are
--     letters: where a tile has such an input O and an output INIT, X1Y0.O.INIT would be a pair, and the table of the BEL O.
--
-- Names have no dots. So it is enough that no BEL but a MUX8LUT lacks a prefix.
use Rattle.std.specs.Prelude.{◌≡◌, [], All}
use Rattle.fab_kinds.specs.declared.kind.Kind.TheVariants as kinds
use Rattle.fab_model.specs.Tiles.{PlainTile}

-- each BEL has a prefix; a MUX8LUT may go without
abbrev pub HasPrefixes : PlainTile → Type 0
HasPrefixes tile = All (λ bel. bel.prefix ≡ [] → bel.kind ≡ kinds.Mux8) tile.bels
