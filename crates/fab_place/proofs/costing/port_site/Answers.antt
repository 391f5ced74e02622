use Rattle.std.proofs.Common.{rules, ◌≡◌, ◌∙◌, sym, ap, arith}
use Rattle.std.specs.Str.{bytes_eq}
use Rattle.std.proofs.lemmas.Grind.{common_steps}
use Rattle.std.proofs.lemmas.List.{get_or_default}
use Rattle.std.proofs.lemmas.Slice.Eq.{bytes_eq-Decides}
use Rattle.fab_implementation.specs.Plain.{Pad}
use Rattle.fab_place.proofs.Boxed.{line_here}
use Rattle.fab_place.proofs.costing.port_site.Goals as goal

pub returns-then-eq : goal.returns-then-eq
returns-then-eq c =
    let lines = c.args.lines.now in
    let line = c.index-lines-place-then-eq.result in
    let same : c.bytes.result.now ≡ c.bytes-then-place-lines.result.now = first_of (search rules, grind (arith, common_steps)) in
    let name = ap (λ (l : Pad). l.0) (get_or_default lines c.args.place line c.index-lines-place.result c.if-place-lines.true) ∙ sym c.bytes.ensures ∙ same ∙ c.bytes-then-place-lines.ensures in
    line_here bytes_eq bytes_eq-Decides lines c.args.place line c.args.port.now c.requires c.if-place-lines.true name
