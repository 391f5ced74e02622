use Rattle.fab_demand.proofs.laws.sources_stay_asked.Goals as goal

pub returns : goal.returns
returns c trees old new more source asked t u at_t at_u agree = asked t u (more.possible t at_t) (more.possible u at_u) (λ q m. agree q (more.marks q m))
