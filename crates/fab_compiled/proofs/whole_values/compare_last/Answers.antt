use Rattle.std.proofs.Common.{◌-◌, ◌++◌, ◌∷◌, [], take, drop, length, ap, ap₂, ◌∙◌}
use Rattle.std.proofs.lemmas.List.{map-append}
use Rattle.fab_solutions_laws.specs.fab_ternary_laws_Operators.{same_terns}
use Rattle.fab_ternary.specs.Terns.{plain_tern}
use Rattle.fab_compiled.proofs.Adding.{before_is, left_is, on_ok, right_is}
use Rattle.fab_compiled.proofs.Written.{plain}
use Rattle.fab_compiled.proofs.whole_values.compare_last.Goals as goal

pub returns : goal.returns
returns c =
    let bits = c.args.bits.now.items in
    let low = c.args.low in
    let middle = c.args.middle in
    on_ok c.end_in.result
    (λ is before left right last.
    ap plain is
    ∙ map-append plain_tern (take low bits) (c.same_bits-same.result ∷ [])
    ∙ ap₂ (λ ts t. ts ++ t ∷ []) (before_is low middle before left right bits last)
    (c.same_bits-same.ensures
    ∙ ap₂ same_terns (ap (λ xs. plain (take (middle - low) (drop low xs))) c.deref.ensures.value ∙ left_is low middle before left right bits last)
    (ap (λ xs. plain (take (length xs - middle) (drop middle xs))) c.deref-2.ensures.value ∙ right_is low middle before left right bits last)))
    c.end_in.ensures
