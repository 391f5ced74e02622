use Rattle.fab_traces_agree_laws.proofs.Cycles.{Known, ordered_simulations_agree as they_agree}
use Rattle.fab_traces_agree_laws.proofs.ordered_simulations_agree.Goals as goal

pub returns : goal.returns
returns c =
    let known : Known = record {
      one = c.points_of_sound_texts_have_one_driver.ensures;
      agree = c.least_solutions.ensures.agree;
      decided = c.loading_is_decided.ensures;
      loads_agree = c.loading_runs_agree.ensures.words;
      stay = c.loading_points_stay.ensures;
    } in
    they_agree known
