use Rattle.std.proofs.Common.{◌∙◌, All, List, ap, sym, subst}
use Rattle.std.specs.Str.{IsUtf8}
use Rattle.std.proofs.lemmas.Result.{IfOk-weaker}
use Rattle.fab_draws.specs.Draws.{draws_of}
use Rattle.fab_sample.specs.declared.file.File.{File}
use Rattle.fab_sampling.specs.Sampling.{only, sample_map}
use Rattle.fab_sampling.proofs.Stocked.{names_are_text}
use Rattle.fab_sampling.proofs.stocking.stocked.Goals as goal

pub shelf_of-requires : goal.shelf_of-requires
shelf_of-requires c =
    subst (All (λ (file : File). IsUtf8 file.name)) (sym (c.deref.ensures.value ∙ c.in_ok-sample.ensures.files)) (names_are_text c.args.size (draws_of c.args.seed))

pub returns : goal.returns
unfolding sample_map
returns c = IfOk-weaker c.shelf_of.result _ _ (λ shelf is. is ∙ ap only (c.deref.ensures.value ∙ c.in_ok-sample.ensures.files)) c.shelf_of.ensures
