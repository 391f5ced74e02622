use Rattle.fab_settling_laws.proofs.Further.{legal_designs_take_both}
use Rattle.fab_settling_laws.proofs.legal_designs_take_both.Goals as goal

pub returns : goal.returns
returns c =
    legal_designs_take_both
    (record {
      loads = c.fabric_texts_load.ensures;
      goes = c.configuration_goes.ensures;
      declared = c.design_is_declared.ensures;
      listed = c.design_is_listed.ensures;
      by_sources = c.design_settles_by_sources.ensures;
      registers = c.registers_tick.ensures;
      known = c.loaded_is_known.ensures;
      once = c.ranked_design_settles_once.ensures;
      one_run = c.one_run.ensures;
    })
