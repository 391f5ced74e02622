use Rattle.std.proofs.Common.{ap}
use Rattle.fab_syntax.specs.Plain.{plain_text}
use Rattle.fab_wiring.proofs.Sources.{source_made}
use Rattle.fab_wiring.proofs.trees.Trees.source.Goals as goal

pub returns-clause-made : goal.returns-clause-made
returns-clause-made c =
    source_made (plain_text c.args.equations.now) c.text_is_sound.ensures.sound c.compiled_values.ensures c.tree.new.self.trees.items c.args.meant c.points_of.result.start c.in_ok-tree.tree
    (λ i is. ap (λ r. r.start) (c.points_of.ensures i is)) c.in_ok-tree.ensures.tree c.requires.there c.requires.fits
