use Rattle.std.proofs.Common.{ap, refl}
use Rattle.fab_sampling.specs.declared.run.Run.{Run}
use Rattle.fab_sampling.proofs.Flowed.{read_there, reads_there}
use Rattle.fab_sampling.proofs.measuring.read_mapped.Goals as goal

pub returns-in-Ok-clause-mapped : goal.returns-in-Ok-clause-mapped
returns-in-Ok-clause-mapped c flowed =
    read_there c.spelled_designs_are_sound.ensures c.legal_designs_are_spelled.ensures c.args.run.now flowed _ _ _ (ap (λ (r : Run). r.shelf) c.run.view_is) c.in_ok-file.ensures
    (ap (λ (r : Run). r.design.fabric) c.run.view_is) c.in-Ok.implementation (c.in-Ok.ensures.spelled _ refl)

pub only_memory-requires : goal.only_memory-requires
only_memory-requires c =
    c.in-Err.ensures.complete _ refl c.requires.flow.made.implementation
    (reads_there c.spelled_designs_are_sound.ensures c.legal_designs_are_spelled.ensures c.args.run.now c.requires _ _ _ (ap (λ (r : Run). r.shelf) c.run.view_is) c.in_ok-file.ensures
    (ap (λ (r : Run). r.design.fabric) c.run.view_is) c.sample_implementations_are_short.ensures)
    refl
