use Rattle.fab_wide.proofs.narrowing.«+narrow».Given as goal

abbrev pub decreases-narrow : goal.decreases-narrow
decreases-narrow a = a.inputs
