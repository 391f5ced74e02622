use Rattle.std.proofs.Common.{◌≡◌, ◌/◌, Bool, Some, ap, ◌∙◌, arith, slice_get}
use Rattle.std.proofs.lemmas.Option.{slice_get-get_or}
use Rattle.fab_changes.proofs.flags.behind.Goals as goal

pub returns-else-blocks-block-clause-passed : goal.returns-else-blocks-block-clause-passed
returns-else-blocks-block-clause-passed c other later l =
    let blocks = c.args.blocks.now in
    let same : other / 32 ≡ c.args.number / 32 = omega (arith, later, l) in
    ap (slice_get blocks) same ∙ slice_get-get_or blocks (c.args.number / 32) _ c.requires.within ∙ ap (λ (b : Bool). Some b) c.if-blocks-block.false
