use Rattle.fab_compiled.proofs.picks.+unmarked_index.Given as goal

abbrev pub decreases-unmarked_index : goal.decreases-unmarked_index
decreases-unmarked_index l = l.table.size
