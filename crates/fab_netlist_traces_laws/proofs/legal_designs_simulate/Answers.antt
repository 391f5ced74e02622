use Rattle.fab_netlist_traces_laws.proofs.SimulatedHeadline.{legal_designs_simulate}
use Rattle.fab_netlist_traces_laws.proofs.legal_designs_simulate.Goals as goal

pub returns : goal.returns
returns c =
    legal_designs_simulate
    (record {
      loads = c.fabric_texts_load.ensures;
      goes = c.configuration_goes.ensures;
      declared = c.design_is_declared.ensures;
      listed = c.design_is_listed.ensures;
      by_sources = c.design_settles_by_sources.ensures;
      registers = c.registers_tick.ensures;
      known = c.loaded_is_known.ensures;
      once = c.ranked_design_settles_once.ensures;
      one_run = c.one_run.ensures;
    })
    (record {
      one = c.points_of_sound_texts_have_one_driver.ensures;
      sources = c.sources_are_known.ensures;
      loading = c.loading_is_known.ensures.known;
      kept = c.loading_is_known.ensures.kept;
    })
