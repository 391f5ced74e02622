use Rattle.std.proofs.Common.{◌≡◌, ℕ, false, List, length, replicate, sym, ap, ◌∙◌, arith}
use Rattle.std.proofs.lemmas.List.{with_items_is}
use Rattle.std.proofs.lemmas.List.FromFn.{length-range_with_len}
use Rattle.std.specs.List.{range_with_len}
use Rattle.fab_ternary.specs.declared.Tern.TheVariants.{Open}
use Rattle.fab_demand.proofs.Blank.{blank_keeping}
use Rattle.fab_demand.proofs.search.Search.clear.Goals as goal

pub returns-clause-keeping : goal.returns-clause-keeping
returns-clause-keeping c =
    let old = c.args.self.now in
    let count = length old.leads.items in
    let whole = c.requires.keeping.whole in
    let room = c.requires.keeping.room in
    let numbers : c.number.new.leads ≡ range_with_len 0 count = c.number.ensures
    ∙ ap (λ (xs : List ℕ). range_with_len 0 (length xs)) c.deref_mut.ensures.value in
    let long : length c.number.new.leads ≡ old.leads.len = ap length numbers ∙ length-range_with_len 0 count ∙ sym old.leads.ok.0 in
    let terns : old.terns.len ≡ count = old.terns.ok.0 ∙ whole.terns in
    let marks : old.marks.len ≡ count = old.marks.ok.0 ∙ whole.marks in
    let done : old.done.len ≡ count = old.done.ok.0 ∙ room.done in
    blank_keeping count _
    (record {
      terns = c.fill.ensures.items (λ y e. e) ∙ ap (λ n. replicate n Open) terns;
      leads = with_items_is old.leads c.number.new.leads long ∙ numbers;
      marks = c.fill-2.ensures.items (λ y e. e) ∙ ap (λ n. replicate n false) marks;
      own = c.clear.ensures.items;
    })
    whole.few (c.fill-3.ensures.items (λ y e. e) ∙ ap (λ n. replicate n false) done) c.clear-2.ensures.items
    (omega (arith, c.clear.ensures.capacity, room.own_room)) (omega (arith, c.clear-2.ensures.capacity, room.stack_room))
