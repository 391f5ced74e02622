use Rattle.fab_drives_laws.proofs.SmallFabric.{small_is_fabric, small_is_of_tiles, crossing_shows, small_names_are, small_names_differ}
use Rattle.fab_drives_laws.proofs.small_fabric_shows_drives.Goals as goal

pub returns : goal.returns
returns c = record {
  fabric = small_is_fabric;
  tiles = small_is_of_tiles;
  crosses = crossing_shows;
  names = small_names_are;
  apart = small_names_differ;
}
