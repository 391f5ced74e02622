use Rattle.fab_exchange_laws.proofs.Law.{columns_exchange}
use Rattle.fab_exchange_laws.proofs.unused_columns_exchange.Goals as goal

pub returns : goal.returns
returns c =
    columns_exchange
    (record {
      loads = c.fabric_texts_load.ensures;
      goes = c.configuration_goes.ensures;
      declared = c.design_is_declared.ensures;
      listed = c.design_is_listed.ensures;
      by_sources = c.design_settles_by_sources.ensures;
      registers = c.registers_tick.ensures;
      known = c.loaded_is_known.ensures;
      once = c.ranked_design_settles_once.ensures;
      one_run = c.one_run.ensures;
    })
    (record {
      by_sources = c.design_settles_by_shown_sources.ensures;
      known = c.shown_is_known.ensures;
      once = c.shown_design_settles_once.ensures;
      keeps = c.ticks_keep_machines.ensures;
    })
