use Rattle.std.proofs.Common.{ℕ, List, ◌++◌, ◌-◌, map, ap, subst, ◌∙◌}
use Rattle.fab_syntax.specs.Plain.{plain_text}
use Rattle.fab_meaning.specs.Reads.{mentions}
use Rattle.fab_load_points.specs.inner.Causes.{AddsNames}
use Rattle.fab_load_points.proofs.Places.{more_known, on_both}
use Rattle.fab_load_points.proofs.known.KnownReads.note.Goals as goal

pub returns : goal.returns
returns c =
    let text = plain_text c.args.equations.now in
    let s = c.requires.source in
    let old = c.args.self.now in
    let reads = c.add_names_of.new.reads.items in
    let first = c.points_of-first.result.start in
    on_both c.add.result _ _ _ c.add.ensures.places c.add.ensures.known
    (λ places known.
    more_known text c.requires.sound old c.add.new.self c.args.source c.module_of-of_module.result first reads s.0 s.1 s.2 c.module_of-of_module.ensures
    (λ i is. ap (λ r. r.start) (c.points_of-first.ensures i is))
    (λ p e is. subst (λ (before : List ℕ). AddsNames text p (mentions e) before reads) c.new-reads.ensures.items (c.in_ok-add_names_of.ensures p e is))
    (places ∙ ap (λ (xs : List ℕ). old.places.items ++ map (λ read. read - first) xs) c.deref.ensures.value) known c.requires.known)
