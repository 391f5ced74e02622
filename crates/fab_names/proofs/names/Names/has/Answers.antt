use Rattle.std.proofs.Common.{Bool, ◌||◌, ap, sym, ◌∙◌}
use Rattle.std.specs.List.{list_any}
use Rattle.std.specs.Str.{bytes_eq}
use Rattle.std.proofs.lemmas.List.Folds.{list_any-append}
use Rattle.fab_names.specs.Names.{PlainNames, names_of, all_names}
use Rattle.fab_lines.specs.Items.{is_among}
use Rattle.fab_names.proofs.Twice.{among_families}
use Rattle.fab_names.proofs.names.Names.has.Goals as goal

pub returns : goal.returns
unfolding all_names
returns c =
    let name = c.args.name.now in
    let families = c.self.inside.families in
    let pins = c.self.inside.pins.items in
    c.either.ensures
    ∙ ap (λ (b : Bool). b || c.is_pin-pin.result) (c.has_bit-bit.ensures ∙ sym (among_families name families))
    ∙ ap (λ (b : Bool). is_among (names_of families) name || b) (c.is_pin-pin.ensures ∙ ap (list_any (bytes_eq name)) c.deref.ensures.value)
    ∙ sym (list_any-append (bytes_eq name) (names_of families) pins)
    ∙ ap (λ (names : PlainNames). is_among (all_names names) name) c.self.view_is
