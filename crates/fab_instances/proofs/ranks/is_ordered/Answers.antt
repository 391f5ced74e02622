use Rattle.std.proofs.Common.{ℕ, Bor, ◌∙◌, ap, not}
use Rattle.fab_base.specs.declared.name.Name.{Name}
use Rattle.fab_blif_models.specs.Plain.{plain_models}
use Rattle.fab_instances.specs.inner.Ranks.{IsLevel}
use Rattle.fab_instances.proofs.Levels.{none_found_of}
use Rattle.fab_instances.proofs.ranks.is_ordered.Goals as goal

pub returns : goal.returns
returns c is =
    none_found_of (IsLevel (plain_models c.args.models.now) c.args.ranks.now) (λ (found : ℕ × Bor Name). (found.0, found.1.now)) c.soonest_level.result (c.is_none.ensures ∙ ap not is) c.soonest_level.ensures
