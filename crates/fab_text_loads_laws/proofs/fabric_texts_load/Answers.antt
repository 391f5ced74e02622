use Rattle.fab_text_loads_laws.proofs.Together.{fabric_loads}
use Rattle.fab_text_loads_laws.proofs.fabric_texts_load.Goals as goal

pub returns : goal.returns
returns c fabric text is is_text =
    fabric_loads c.loading_runs_agree.ensures.runs c.loading_points_stay.ensures c.loading_runs_exist.ensures.runs c.ticks_keep_machines.ensures c.streams_load.ensures
    c.tiles_are_one_chain.ensures c.chains_load.ensures fabric text is is_text
