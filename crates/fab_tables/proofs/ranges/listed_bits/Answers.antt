use Rattle.std.proofs.Common.{◌≡◌, ℕ, true, List, [], ◌++◌, Bor, get_or, map, take, sym, ap, ◌∙◌}
use Rattle.std.specs.List.{flat_map}
use Rattle.std.proofs.lemmas.Bool.{and_parts}
use Rattle.std.proofs.lemmas.List.Sums.{AllPass-from_list_all}
use Rattle.fab_lines.specs.Numbers.{is_number, number_of}
use Rattle.fab_tables.specs.Config.{first_end, last_end, is_item, item_bits, run}
use Rattle.fab_tables.proofs.Items.{is_within, bits_more, not_below, below_more}
use Rattle.fab_tables.proofs.ranges.listed_bits.Goals as goal

pub is_inside-requires : goal.is_inside-requires
is_inside-requires c = AllPass-from_list_all (λ (item : Bor (List ℕ)). is_item item.now) c.args.items.now c.requires c.loop-item.item-index (record { ref_ptr = (0, 0); now = [] }) c.loop-item-test.true

pub returns-then-not-is_inside : goal.returns-then-not-is_inside
returns-then-not-is_inside c =
    not_below (λ (item : Bor (List ℕ)). item.now) c.args.items.now c.loop-item.item-index c.args.bound (record { ref_ptr = (0, 0); now = [] }) c.loop-item-test.true (sym c.is_inside.ensures ∙ c.if-not-is_inside.true)

pub number-requires-in-loop-item-clause-number : goal.number-requires-in-loop-item-clause-number
number-requires-in-loop-item-clause-number c =
    let other : Bor (List ℕ) = record { ref_ptr = (0, 0); now = [] } in
    let item = (get_or c.args.items.now c.loop-item.item-index other).now in
    let fine = AllPass-from_list_all (λ (i : Bor (List ℕ)). is_item i.now) c.args.items.now c.requires c.loop-item.item-index other c.loop-item-test.true in
    ap is_number c.last_end.ensures ∙ (and_parts (is_number (first_end item)) (is_number (last_end item)) fine).1

pub loop-item-preserved : goal.loop-item-preserved
loop-item-preserved c =
    let other : Bor (List ℕ) = record { ref_ptr = (0, 0); now = [] } in
    let now : Bor (List ℕ) → List ℕ = λ item. item.now in
    record {
      so_far =
          c.in_ok-push_run.ensures
          ∙ (λ j. c.loop-item.invariant.so_far j ++ run (c.number.ensures j) (c.number-in-loop-item.ensures j))
          ∙ (λ j. flat_map item_bits (map now (take c.loop-item.item-index c.args.items.now)) ++ run (number_of (c.first_end.ensures j)) (number_of (c.last_end.ensures j)))
          ∙ sym (bits_more now c.args.items.now c.loop-item.item-index other c.loop-item-test.true);
      below = below_more now c.args.items.now c.loop-item.item-index c.args.bound other c.loop-item-test.true c.loop-item.invariant.below (sym c.is_inside.ensures ∙ c.if-not-is_inside.false);
    }
