use Rattle.fab_wide.proofs.words.«+taken».Given as goal

abbrev pub decreases-taken : goal.decreases-taken
decreases-taken a = a.inputs
