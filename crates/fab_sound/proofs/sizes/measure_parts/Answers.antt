use Rattle.std.proofs.Common.{◌≡◌, ap, ◌∙◌, sym, [], ◌++◌, get_or, reverse, rules}
use Rattle.fab_syntax.specs.Plain.{plain_expr}
use Rattle.fab_syntax.specs.Sound.{subexpressions}
use Rattle.fab_sound.specs.inner.Checks.{plain_all, found_width, widths_from, select_passes, operands_pass, narrow_over}
use Rattle.fab_sound.proofs.Sizing.{steps_pass, all_widths, all_selects, all_operands, all_are_narrow}
use Rattle.fab_sound.proofs.sizes.measure_parts.Goals as goal

pub returns-clause-width : goal.returns-clause-width
returns-clause-width c =
    let at = c.loop-part.invariant in
    let end : c.loop-part.parts.items ≡ [] = search rules in
    let all : at.0 ≡ subexpressions (plain_expr c.args.whole.now) = ap (λ es. plain_all es ++ at.0) (sym end) ∙ at.1 in
    let names = found_width c.args.names.now in
    c.width_at.ensures
    ∙ ap (λ ws. get_or (reverse ws) 0 0) c.deref-2.ensures.value
    ∙ ap (λ ws. get_or ws 0 0) (at.2 ∙ ap (widths_from names) all ∙ all_widths names (plain_expr c.args.whole.now))

pub returns-clause-selects : goal.returns-clause-selects
returns-clause-selects c =
    let at = c.loop-part.invariant in
    let end : c.loop-part.parts.items ≡ [] = search rules in
    let all : at.0 ≡ subexpressions (plain_expr c.args.whole.now) = ap (λ es. plain_all es ++ at.0) (sym end) ∙ at.1 in
    at.3 ∙ ap (steps_pass (found_width c.args.names.now) (select_passes c.args.names.now)) all ∙ all_selects _ c.args.names.now (plain_expr c.args.whole.now)

pub returns-clause-operands : goal.returns-clause-operands
returns-clause-operands c =
    let at = c.loop-part.invariant in
    let end : c.loop-part.parts.items ≡ [] = search rules in
    let all : at.0 ≡ subexpressions (plain_expr c.args.whole.now) = ap (λ es. plain_all es ++ at.0) (sym end) ∙ at.1 in
    at.4 ∙ ap (steps_pass (found_width c.args.names.now) operands_pass) all ∙ all_operands (found_width c.args.names.now) (plain_expr c.args.whole.now)

pub returns-clause-narrow : goal.returns-clause-narrow
returns-clause-narrow c =
    let at = c.loop-part.invariant in
    let end : c.loop-part.parts.items ≡ [] = search rules in
    let all : at.0 ≡ subexpressions (plain_expr c.args.whole.now) = ap (λ es. plain_all es ++ at.0) (sym end) ∙ at.1 in
    let names = found_width c.args.names.now in
    sym (all_are_narrow names (plain_expr c.args.whole.now)) ∙ ap (steps_pass names (narrow_over names)) (sym all) ∙ at.5
