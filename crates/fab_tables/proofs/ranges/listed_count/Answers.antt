use Rattle.std.proofs.Common.{ℕ, List, [], Bor}
use Rattle.std.proofs.lemmas.List.Sums.{AllPass-from_list_all}
use Rattle.fab_tables.specs.Config.{is_item}
use Rattle.fab_tables.proofs.ranges.listed_count.Goals as goal

pub item_count-requires : goal.item_count-requires
item_count-requires c = AllPass-from_list_all (λ (item : Bor (List ℕ)). is_item item.now) c.args.items.now c.requires c.loop-item.item-index (record { ref_ptr = (0, 0); now = [] }) c.loop-item-test.true
