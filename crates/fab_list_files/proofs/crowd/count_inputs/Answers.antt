use Rattle.std.proofs.Common.{◌+◌, ◌^◌, ◌∙◌, ap, unwrap_or}
use Rattle.std.specs.Str.{bytes_eq}
use Rattle.std.specs.Map.{lookup}
use Rattle.fab_list_files.proofs.Names.{counted_more, one_more}
use Rattle.fab_list_files.proofs.crowd.count_inputs.Goals as goal

pub loop-pair-preserved : goal.loop-pair-preserved
loop-pair-preserved c =
    counted_more c.loop-pair.counts.entries c.insert.new.self.entries c.into_vec.result c.in_ok-count.count c.args.pairs.now c.loop-pair.pair-index c.pair-item.result
    c.in_ok-insert.ensures.entries (c.into_vec.ensures ∙ c.in_ok-copy.ensures) c.loop-pair-test.true c.pair-item.is
    (one_more c.count_of.result c.checked_add.result c.in_ok-count.count (2 ^ 64) c.checked_add.ensures (c.in_ok-count.ensures.ok_part)
    ∙ ap (λ n. n + 1) (c.count_of.ensures ∙ ap (λ name. unwrap_or (lookup (λ other. bytes_eq name other.items) c.loop-pair.counts.entries) 0) c.bytes.ensures))
    c.loop-pair.invariant
