use Rattle.std.proofs.Common.{◌≡◌, ℕ, ◌+◌, ◌++◌, length, take, drop, sym, ap, ap₂, ◌∙◌, arith}
use Rattle.std.proofs.lemmas.List.{map-append}
use Rattle.fab_systems_laws.specs.Ternary.{Tern}
use Rattle.fab_solutions_laws.specs.fab_ternary_laws_Shown.{first_terns}
use Rattle.fab_ternary.specs.Terns.{plain_tern}
use Rattle.fab_compiled.specs.Terns.{seen}
use Rattle.fab_compiled.proofs.Adding.{behind_long, behind_plain, room_laid, room_long}
use Rattle.fab_compiled.proofs.Lengths.{length_first}
use Rattle.fab_compiled.proofs.Looked.{part_looked}
use Rattle.fab_compiled.proofs.Written.{plain}
use Rattle.fab_compiled.proofs.reading.add_points.Goals as goal

-- what was looked up is copied
pub returns-in-Some-clause-bits : goal.returns-in-Some-clause-bits
returns-in-Some-clause-bits c =
    let old = c.args.bits.now.items in
    let from = c.in-Some.at in
    ap plain c.in_ok-extend_from_slice.ensures.items
    ∙ map-append plain_tern old _
    ∙ ap (λ ts. plain old ++ ts)
    (ap₂ (λ n xs. plain (take n (drop from xs))) (omega arith) c.deref.ensures.value
    ∙ part_looked c.args.view.now.terns.now c.args.view.now.leads.now c.args.first c.args.looked.now.place c.args.looked.now.bits.items c.requires.looked
    from c.args.count c.args.place c.in-Some.ensures.0 c.in-Some.ensures.1)

-- what is looked up here is kept
pub returns-then-read_points-clause-looked : goal.returns-then-read_points-clause-looked
returns-then-read_points-clause-looked c =
    let at : ℕ → Tern = λ k. seen c.args.view.now.terns.now c.args.view.now.leads.now (c.args.first + (c.args.place + k)) in
    let old = c.args.bits.now.items in
    let new = c.resize.new.self.items in
    let lent = c.deref_mut.result.now in
    let low = c.len-low.result in
    let had = c.args.bits.now.len in
    let kept = c.deref-then-read_points.result.now in
    let ts = first_terns c.args.count at in
    let here : low ≡ length old = omega (arith, c.len-low.ensures) in
    let written = room_laid old new lent low c.args.count had here (omega arith) c.in_ok-resize.ensures.items c.deref_mut.ensures.value
    c.resize.new.self.len c.read_points.new.bits _ _ (omega arith) c.read_points.auto.bits
    ∙ ap (λ us. plain old ++ us)
    (c.read_points.ensures
    ∙ ap (λ n. first_terns n at) (room_long old new lent low c.args.count had here (omega arith) c.in_ok-resize.ensures.items c.deref_mut.ensures.value)) in
    c.keep.ensures c.args.view.now.terns.now c.args.view.now.leads.now c.args.first c.requires.looked
    (behind_plain old _ kept ts low c.deref-then-read_points.ensures.value written here
    ∙ ap (λ n. first_terns n at) (sym (behind_long old _ kept ts low c.deref-then-read_points.ensures.value written here ∙ length_first c.args.count at)))
