use Rattle.std.proofs.Common.{◌≡◌, ◌∙◌, ap, sym, subst, arith, length, take, List, ℕ}
use Rattle.std.specs.Str.Lines.{lines}
use Rattle.std.proofs.Math.Seq.{take-length}
use Rattle.fab_fasm.specs.Spelled.{SpellsFasm}
use Rattle.fab_fasm.specs.Printing.{printed, line_by_line}
use Rattle.fab_fasm.proofs.TextBack.{printed_spells}
use Rattle.fab_fasm.proofs.printing.print_fasm.Goals as goal

pub returns-clause-printed_is_read : goal.returns-clause-printed_is_read
returns-clause-printed_is_read c =
    let features = c.args.features.now in
    let all : c.loop-feature.feature-index ≡ length features = omega arith in
    let out : c.loop-feature.out.items ≡ printed features = c.loop-feature.invariant ∙ ap (λ n. printed (take n features)) all ∙ ap printed (take-length features) in
    λ spelled. subst (λ (bytes : List ℕ). SpellsFasm (lines bytes) (line_by_line 1 features)) (sym out) (printed_spells features spelled)
