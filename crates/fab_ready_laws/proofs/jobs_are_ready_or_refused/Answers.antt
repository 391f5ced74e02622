use Rattle.fab_ready_laws.proofs.Jobs.{job_judged}
use Rattle.fab_ready_laws.proofs.jobs_are_ready_or_refused.Goals as goal

pub returns : goal.returns
returns c = λ job files hold.
    job_judged c.spelled_fabrics_are_fabrics.ensures c.spelled_fabrics_have_tiles.ensures c.points_of_sound_texts_have_one_driver.ensures
    c.spelled_designs_are_sound.ensures c.packed_is_well_made.ensures c.implementations_are_judged.ensures files hold job
