-- How places, wires and sites are written.
use Rattle.std.specs.Prelude.{ℕ, ◌+◌, List, [], ◌∷◌, ◌++◌, codes, decimal, slice_index_or}
use Rattle.std.specs.Option.{option_map_or}
use Rattle.fab_model.specs.Tiles.{matrix_names}
use Rattle.fab_model.specs.Grid.{PlainFabric, tile_at}
use Rattle.fab_fabric.specs.declared.wire.Site.{Site}

-- as X1Y2
abbrev pub place_name : (x y : ℕ) → List ℕ
place_name x y = codes "X" ++ decimal x ++ codes "Y" ++ decimal y

-- as X1Y2/N1BEG0: the place and the matrix name
abbrev pub full_name : (x y : ℕ) → (name : List ℕ) → List ℕ
full_name x y name = place_name x y ++ codes "/" ++ name

-- as X1Y2.A: the place and a letter, A for the first BEL
abbrev pub site_name : (x y bel : ℕ) → List ℕ
site_name x y bel = place_name x y ++ codes "." ++ (65 + bel) ∷ []

abbrev pub site_text : Site → List ℕ
site_text site = site_name site.x site.y site.bel

-- the matrix name of a number in the tile at a place
abbrev pub name_at : PlainFabric → (x y number : ℕ) → List ℕ
name_at fabric x y number = option_map_or (λ tile. slice_index_or (matrix_names tile) number []) (tile_at fabric x y) []
