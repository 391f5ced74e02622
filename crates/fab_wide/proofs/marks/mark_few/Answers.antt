use Rattle.std.proofs.Common.{if◌then◌else◌, ◌+◌, ap, ◌∙◌, arith}
use Rattle.fab_wide.proofs.Blocks.{marked_more}
use Rattle.fab_wide.proofs.Marked.{asks}
use Rattle.fab_wide.proofs.marks.mark_few.Goals as goal

pub loop-word-preserved : goal.loop-word-preserved
loop-word-preserved c =
    let at = c.loop-word.invariant.at in
    record {
      at = ap (λ n. n + 1) at;
      so_far =
          marked_more c.args.care c.args.value c.args.bits c.args.words.now c.loop-word.words c.loop-word.word-index c.bits_at.result (omega arith)
          c.loop-word.invariant.so_far
          (c.bits_at.ensures ∙ ap (λ place. if asks c.args.care c.args.value place then c.args.bits else 0) at);
    }
