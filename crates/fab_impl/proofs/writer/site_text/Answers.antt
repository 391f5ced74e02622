use Rattle.fab_impl.proofs.Sites.{site_small}
use Rattle.fab_impl.proofs.writer.site_text.Goals as goal

pub name-requires : goal.name-requires
name-requires c = site_small c.args.fabric.now c.args.site c.is_well_made.ensures.is_fabric c.requires
