use Rattle.std.proofs.Common.{Bool, ◌||◌, ap, sym, ◌∙◌}
use Rattle.std.specs.List.{list_any}
use Rattle.std.proofs.lemmas.List.Folds.{list_any-append}
use Rattle.fab_names.specs.Names.{PlainNames, has_bit, names_of, all_names}
use Rattle.fab_names.proofs.Twice.{any_families}
use Rattle.fab_names.proofs.names.Names.meets_family.Goals as goal

pub returns : goal.returns
unfolding all_names
returns c =
    let new = c.args.new.now in
    let families = c.self.inside.families in
    let pins = c.self.inside.pins.items in
    c.either.ensures
    ∙ ap (λ (b : Bool). b || c.has_pin-pin.result) (c.meets-family.ensures ∙ sym (any_families new families))
    ∙ ap (λ (b : Bool). list_any (has_bit new) (names_of families) || b) (c.has_pin-pin.ensures ∙ ap (list_any (has_bit new)) c.deref.ensures.value)
    ∙ sym (list_any-append (has_bit new) (names_of families) pins)
    ∙ ap (λ (names : PlainNames). list_any (has_bit new) (all_names names)) c.self.view_is
