use Rattle.std.proofs.Common.{ℕ, Bool, List, Bor, map, ap, ◌∙◌}
use Rattle.std.specs.List.{list_all}
use Rattle.fab_tables.specs.Config.{is_item, items, range_reason}
use Rattle.fab_tables.proofs.Chains.{taken_for}
use Rattle.fab_tables.proofs.Items.{items_fine}
use Rattle.fab_tables.proofs.config.bits_in.Goals as goal

pub listed_bits-requires : goal.listed_bits-requires
listed_bits-requires c =
    let now : Bor (List ℕ) → List ℕ = λ item. item.now in
    let fine : List (Bor (List ℕ)) → Bool = λ found. list_all (λ item. is_item item.now) found in
    let taken = taken_for (range_reason c.args.ranges.now c.args.count) (items c.args.ranges.now) (map now c.in_ok-items.items.items) c.in_ok-items.ensures in
    ap fine c.deref.ensures.value ∙ items_fine now c.in_ok-items.items.items c.args.ranges.now c.args.count taken.0 taken.1
