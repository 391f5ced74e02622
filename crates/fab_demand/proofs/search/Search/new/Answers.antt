use Rattle.std.proofs.Common.{◌≡◌, length, sym, ap, ◌∙◌}
use Rattle.std.proofs.lemmas.List.{with_items_is}
use Rattle.std.proofs.lemmas.List.FromFn.{length-range_with_len}
use Rattle.std.specs.List.{range_with_len}
use Rattle.fab_demand.proofs.Blank.{blank_keeping}
use Rattle.fab_demand.proofs.search.Search.new.Goals as goal

pub returns-clause-keeping : goal.returns-clause-keeping
returns-clause-keeping c =
    let count = c.args.points in
    let zeros = c.in_ok-leads.leads in
    let size : length c.deref_mut.result.now ≡ count = c.deref_mut.ensures.len ∙ c.in_ok-leads.ensures.len in
    let numbers : c.number.new.leads ≡ range_with_len 0 count = c.number.ensures ∙ ap (range_with_len 0) size in
    let long : length c.number.new.leads ≡ zeros.len = ap length numbers ∙ length-range_with_len 0 count ∙ sym c.in_ok-leads.ensures.len in
    blank_keeping count _
    (record {
      terns = c.in_ok-vec.ensures.items_if_clones_equal (λ y e. e);
      leads = with_items_is zeros c.number.new.leads long ∙ numbers;
      marks = c.in_ok-vec-2.ensures.items_if_clones_equal (λ y e. e);
      own = c.in_ok-with_capacity.ensures.items;
    })
    c.requires.few (c.in_ok-vec-3.ensures.items_if_clones_equal (λ y e. e)) c.in_ok-with_capacity-2.ensures.items
    c.in_ok-with_capacity.ensures.capacity c.in_ok-with_capacity-2.ensures.capacity
