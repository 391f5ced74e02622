use Rattle.fab_traces_agree_laws.proofs.Cycles.{Known}
use Rattle.fab_traces_agree_laws.proofs.Traces.{traces_are_one as they_are_one}
use Rattle.fab_traces_agree_laws.proofs.traces_are_one.Goals as goal

pub returns : goal.returns
returns c =
    let known : Known = record {
      one = c.points_of_sound_texts_have_one_driver.ensures;
      agree = c.least_solutions.ensures.agree;
      decided = c.loading_is_decided.ensures;
      loads_agree = c.loading_runs_agree.ensures.words;
      stay = c.loading_points_stay.ensures;
    } in
    they_are_one known c.simulations_agree.ensures
