use Rattle.fab_drives_laws.proofs.SmallFabric.{small_chain_names_are, small_chain_names_differ, small_sources_are}
use Rattle.fab_drives_laws.proofs.small_chain_goes_through_tiles.Goals as goal

pub returns : goal.returns
returns c = record {
  names = small_chain_names_are;
  apart = small_chain_names_differ;
  sources = small_sources_are;
}
