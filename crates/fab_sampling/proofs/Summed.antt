-- What a printed summary tells of a sample.
use Rattle.std.proofs.Common.{◌≡◌, ◌∙◌, ℕ, List, ap, subst}
use Rattle.fab_desk.specs.Files.{Map}
use Rattle.fab_designs.specs.Designs.{SpellsDesign}
use Rattle.fab_sampling.specs.declared.outcome.Outcome.{Outcome}
use Rattle.fab_sampling.specs.declared.run.Run.{Run}
use Rattle.fab_sampling.specs.inner.Running.{files_of, IsNew}
use Rattle.fab_sample_runs_laws.specs.Commands.{names}
use Rattle.fab_sampling.specs.Sampling.{ComesTo, IsSummary}
use Rattle.fab_sampling.specs.Summary.{summary_text}

-- It is printed of the run as commands left it, which have changed the files alone.
pub summed : (run after : Run) → IsNew run → after ≡ record run { shelf = after.shelf } → (outcome : Outcome) → ComesTo (files_of run) outcome → (bytes : List ℕ)
    → bytes ≡ summary_text after.size after.seed after.design outcome → IsSummary run.size run.seed bytes
summed run after new same outcome comes bytes is = record {
  design = run.design;
  spelled = subst (λ (files : Map). SpellsDesign files names.design run.design) new.files new.spelled;
  outcome = outcome;
  comes = comes;
  bytes_are = is ∙ ap (λ (r : Run). summary_text r.size r.seed r.design outcome) same;
}
