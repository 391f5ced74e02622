use Rattle.std.proofs.Common.{◌≡◌, ℕ, Bool, true, false, List, Bor, length, map, min, sym, ap, ◌∙◌}
use Rattle.std.specs.List.{list_all, flat_map}
use Rattle.fab_tables.specs.Config.{is_item, item_bits, items}
use Rattle.fab_tables.proofs.Chains.{judged_for}
use Rattle.fab_tables.proofs.Items.{ranges_refused, count_fine}
use Rattle.fab_tables.proofs.config.items_in.Goals as goal

pub returns-then-not-are_items : goal.returns-then-not-are_items
returns-then-not-are_items c =
    let now : Bor (List ℕ) → List ℕ = λ item. item.now in
    let fine : List (Bor (List ℕ)) → Bool = λ found. list_all (λ item. is_item item.now) found in
    ap (λ why. judged_for why (items c.args.ranges.now))
    (ranges_refused now c.in_ok-items.items.items c.args.ranges.now c.args.count c.in_ok-items.ensures (sym (ap fine c.deref.ensures.value) ∙ sym c.are_items.ensures ∙ c.if-not-are_items.true))

pub returns : goal.returns
returns c =
    let now : Bor (List ℕ) → List ℕ = λ item. item.now in
    let fine : List (Bor (List ℕ)) → Bool = λ found. list_all (λ item. is_item item.now) found in
    let counted : List (Bor (List ℕ)) → ℕ = λ found. min (length (flat_map item_bits (map now found))) 33 in
    let none =
    count_fine now c.in_ok-items.items.items c.args.ranges.now c.args.count c.listed_count.result c.in_ok-items.ensures (sym (ap fine c.deref.ensures.value) ∙ sym c.are_items.ensures ∙ c.if-not-are_items.false) c.requires
    (c.listed_count.ensures ∙ ap counted c.deref-2.ensures.value) c.if-listed_count-count.false
    in
    λ j. judged_for (none j) (sym c.in_ok-items.ensures j)
