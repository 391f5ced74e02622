use Rattle.std.proofs.Common.{◌≡◌, [], length, map, ap, subst, ◌∙◌}
use Rattle.std.specs.Map.{lookup}
use Rattle.std.specs.Str.{bytes_eq}
use Rattle.fab_syntax.specs.Plain.{plain_module}
use Rattle.fab_equations.specs.Instances.{instances, points}
use Rattle.fab_equations.specs.Counting.{counted, count_or_none}
use Rattle.fab_equations.proofs.Counted.{top_counted, nothing_counted, empty}
use Rattle.fab_equations.proofs.counts.top_count.Goals as goal

pub returns : goal.returns
returns c = nothing_counted _ (ap (map plain_module) (subst (λ ms. ms ≡ []) c.deref-modules.ensures.value (empty c.deref-modules.result.now c.in-None.ensures.item.3)))

pub returns-in-Some : goal.returns-in-Some
returns-in-Some c =
    top_counted c.deref-modules.result.now c.in-Some.top.now c.in_ok-counts.counts.entries c.count_in.result c.in-Some.ensures.value c.in_ok-counts.ensures
    (c.count_in.ensures ∙ ap (λ n. count_or_none (lookup (λ key. bytes_eq n key.items) c.in_ok-counts.counts.entries)) c.bytes.ensures)
    ∙ ap (λ ms. counted (length (points (map plain_module ms))) (length (instances (map plain_module ms)))) c.deref-modules.ensures.value
