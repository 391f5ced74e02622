use Rattle.fab_traces_agree_laws.proofs.Cycles.{Known}
use Rattle.fab_traces_agree_laws.proofs.Traces.{shown_is_one}
use Rattle.fab_traces_agree_laws.proofs.simulations_show_one_thing.Goals as goal

pub returns : goal.returns
returns c =
    let known : Known = record {
      one = c.points_of_sound_texts_have_one_driver.ensures;
      agree = c.least_solutions.ensures.agree;
      decided = c.loading_is_decided.ensures;
      loads_agree = c.loading_runs_agree.ensures.words;
      stay = c.loading_points_stay.ensures;
    } in
    shown_is_one known c.simulations_agree.ensures
