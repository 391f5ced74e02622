use Rattle.fab_compiled.proofs.picks.+same_entries.Given as goal

abbrev pub decreases-same_entries : goal.decreases-same_entries
decreases-same_entries l = l.left.size
