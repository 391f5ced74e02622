use Rattle.std.proofs.Common.{◌∙◌, ℕ, subst, sym}
use Rattle.std.proofs.lemmas.Result.{on_ok_weaker}
use Rattle.fab_model.specs.declared.mode.Mode.{Mode}
use Rattle.fab_model.specs.declared.mode.Mode.TheVariants as modes
use Rattle.fab_text_loads_laws.specs.fab_fabric_text_defs_Texts.{AreLoaders, none, loaders_of}
use Rattle.fab_gen_top.proofs.text.push_loaders.Goals as goal

pub returns-in-Frames-clause-loaders : goal.returns-in-Frames-clause-loaders
returns-in-Frames-clause-loaders c =
    let fabric = c.args.fabric.now in
    on_ok_weaker c.push_loader.result
    (λ are. subst (λ (mode : Mode). AreLoaders fabric.rows mode (loaders_of mode fabric.rows)) (sym c.in-Frames.is ∙ c.text_mode.ensures)
    (subst (λ (rows : ℕ). AreLoaders rows modes.Frames (loaders_of modes.Frames rows)) c.rows.ensures are))
    c.push_loader.ensures.loaders

pub returns-in-Chain-clause-loaders : goal.returns-in-Chain-clause-loaders
returns-in-Chain-clause-loaders c =
    let fabric = c.args.fabric.now in
    subst (λ (mode : Mode). AreLoaders fabric.rows mode (loaders_of mode fabric.rows)) (sym c.in-Chain.is ∙ c.text_mode.ensures) none
