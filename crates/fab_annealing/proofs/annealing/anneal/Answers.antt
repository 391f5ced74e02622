use Rattle.fab_annealing.proofs.Falling.{keeps_refl, keeps_trans}
use Rattle.fab_annealing.proofs.annealing.anneal.Goals as goal

pub returns-then-is_empty-clause-keeps : goal.returns-then-is_empty-clause-keeps
returns-then-is_empty-clause-keeps g c = keeps_refl c.args.board.now c.args.placement.now.sites.items

pub loop-temperature-init : goal.loop-temperature-init
loop-temperature-init g c = record { kept = c.requires.kept; keeps = keeps_refl c.args.board.now c.args.placement.now.sites.items }

pub loop-temperature-preserved : goal.loop-temperature-preserved
loop-temperature-preserved g c = record {
  kept = c.in_ok-anneal_at.ensures.kept;
  keeps = keeps_trans c.args.board.now c.args.placement.now.sites.items c.loop-temperature.placement.sites.items c.anneal_at.new.placement.sites.items c.loop-temperature.invariant.keeps c.in_ok-anneal_at.ensures.keeps;
}
