use Rattle.std.proofs.Common.{◌≡◌, min, length, ◌∙◌}
use Rattle.fab_lines.specs.Numbers.{number_of}
use Rattle.fab_tables.specs.Config.{run}
use Rattle.fab_tables.proofs.Runs.{count_is}
use Rattle.fab_tables.proofs.ranges.item_count.Goals as goal

pub returns : goal.returns
returns c =
    c.max.ensures
    ∙ count_is (number_of c.first_end-first.result.now) (number_of c.last_end-last.result.now) c.lead.result c.lead-2.result c.lead.ensures c.lead-2.ensures
    ∙ (λ j. min (length (run (number_of (c.first_end-first.ensures j)) (number_of (c.last_end-last.ensures j)))) 33)
