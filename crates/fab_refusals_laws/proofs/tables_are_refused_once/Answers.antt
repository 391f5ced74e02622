use Rattle.fab_tables.specs.Config.{config_format}
use Rattle.fab_tables.specs.Lists.{list_format}
use Rattle.fab_tables.specs.Matrix.{matrix_format}
use Rattle.fab_refusals_laws.proofs.RefusedFirsts.{texts_once}
use Rattle.fab_refusals_laws.proofs.tables_are_refused_once.Goals as goal

pub returns-clause-any : goal.returns-clause-any
returns-clause-any c = texts_once

pub returns-clause-switch_lists : goal.returns-clause-switch_lists
returns-clause-switch_lists c = λ file. texts_once (list_format file)

pub returns-clause-matrix_tables : goal.returns-clause-matrix_tables
returns-clause-matrix_tables c = λ tile. texts_once (matrix_format tile)

pub returns-clause-configuration_tables : goal.returns-clause-configuration_tables
returns-clause-configuration_tables c = λ tile. texts_once (config_format tile)
