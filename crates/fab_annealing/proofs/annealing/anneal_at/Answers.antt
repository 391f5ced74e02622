use Rattle.fab_annealing.proofs.Falling.{keeps_refl, keeps_trans}
use Rattle.fab_annealing.proofs.annealing.anneal_at.Goals as goal

pub loop-try-init : goal.loop-try-init
loop-try-init c = record { kept = c.requires.kept; keeps = keeps_refl c.args.board.now c.args.placement.now.sites.items }

pub loop-try-preserved : goal.loop-try-preserved
loop-try-preserved c = record {
  kept = c.in_ok-try_random.ensures.kept;
  keeps = keeps_trans c.args.board.now c.args.placement.now.sites.items c.loop-try.placement.sites.items c.try_random.new.placement.sites.items c.loop-try.invariant.keeps c.in_ok-try_random.ensures.keeps;
}
