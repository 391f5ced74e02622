use Rattle.fab_sample_laws.proofs.Small.{texts_small}
use Rattle.fab_sample_laws.proofs.sample_texts_are_small.Goals as goal

pub returns : goal.returns
returns c = λ files size least most told fabric spelled. texts_small files size least most told fabric spelled
