-- A configuration goes with what the loading points hold.
use Rattle.fab_use_defs.proofs.fab_text_loads_laws_Carried as carried
use Rattle.fab_points_laws.specs.Laws.{ConfigurationGoes}

pub configuration_goes : ConfigurationGoes
configuration_goes fabric text bits held after is is_text = carried.configuration_goes fabric text is is_text bits held after
