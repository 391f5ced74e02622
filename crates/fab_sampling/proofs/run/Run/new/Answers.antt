use Rattle.std.proofs.Common.{◌∙◌, sym, subst}
use Rattle.fab_desk.specs.Files.{Map}
use Rattle.fab_designs.specs.Designs.{SpellsDesign}
use Rattle.fab_sample_runs_laws.specs.Commands.{names}
use Rattle.fab_sampling.proofs.run.Run.new.Goals as goal

pub returns-clause-new : goal.returns-clause-new
returns-clause-new c = record {
  sized = record { least = c.requires.least; most = c.requires.most };
  files = c.in_ok-design.ensures.same ∙ c.in_ok-shelf.ensures;
  spelled = subst (λ (files : Map). SpellsDesign files names.design c.in_ok-design.design) (sym c.in_ok-design.ensures.same) c.in_ok-design.ensures.spelled;
}
