use Rattle.std.proofs.Common.{◌∙◌, sym, subst}
use Rattle.std.specs.Str.{IsUtf8}
use Rattle.std.proofs.lemmas.List.Elements.{All-get_or}
use Rattle.fab_desk.specs.Memory.{map_of}
use Rattle.fab_sample.specs.declared.file.File.{File}
use Rattle.fab_sampling.proofs.Stocked.{put_so_far}
use Rattle.fab_sampling.proofs.stocking.put_all.Goals as goal

pub put-requires : goal.put-requires
put-requires c =
    subst (λ (file : File). IsUtf8 file.name) (sym c.file-item.is)
    (All-get_or (λ (file : File). IsUtf8 file.name) c.args.files.now c.loop-file.file-index c.file-item.result c.loop-file-test.true c.requires)

pub loop-file-preserved : goal.loop-file-preserved
loop-file-preserved c =
    c.in_ok-put.ensures
    ∙ put_so_far (map_of c.args.shelf.now) (map_of c.loop-file.shelf) c.args.files.now c.loop-file.file-index c.file-item.result c.loop-file-test.true c.file-item.is
    c.loop-file.invariant
