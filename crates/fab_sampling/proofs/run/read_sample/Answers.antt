use Rattle.std.proofs.Common.{◌≡◌, ℕ, refl, sym, subst}
use Rattle.fab_base.specs.declared.fault.Fault.TheVariants as faults
use Rattle.fab_desk.specs.Files.{Map}
use Rattle.fab_desk.specs.Memory.{map_of}
use Rattle.fab_designs.specs.Designs.{DesignFiles, PlainDesign, SpellsDesign}
use Rattle.fab_draws.specs.Draws.{draws_of}
use Rattle.fab_sample_runs_laws.specs.Commands.{names}
use Rattle.fab_sampling.specs.Sampling.{sample_map}
use Rattle.fab_sampling.proofs.Named.{design_named}
use Rattle.fab_sampling.proofs.Told.{sample_told}
use Rattle.fab_sampling.proofs.run.read_sample.Goals as goal

pub returns-in-Ok-clause-spelled : goal.returns-in-Ok-clause-spelled
returns-in-Ok-clause-spelled c =
    design_named (λ (n : DesignFiles). SpellsDesign (map_of c.args.shelf.now) n c.in-Ok.design) _ _ c.in_ok-fabric.ensures c.in_ok-blif.ensures
    (c.in-Ok.ensures.spelled (map_of c.args.shelf.now) refl)

pub only_memory-requires : goal.only_memory-requires
only_memory-requires c =
    let read =
    c.sample_designs_are_read.ensures (sample_map c.args.size c.args.seed) c.args.size (draws_of c.args.seed) c.requires.least c.requires.most (sample_told c.args.size c.args.seed) in
    design_named (λ (n : DesignFiles). (design : PlainDesign) → SpellsDesign (map_of c.args.shelf.now) n design → ◌≡◌ {A = ℕ} 0 0 → c.in-Err.fault ≡ faults.Memory) _ _ c.in_ok-fabric.ensures
    c.in_ok-blif.ensures (c.in-Err.ensures.complete (map_of c.args.shelf.now) refl) read.0
    (subst (λ (files : Map). SpellsDesign files names.design read.0) (sym c.requires.files) read.1.spelled) refl
