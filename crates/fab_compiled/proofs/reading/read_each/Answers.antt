use Rattle.std.proofs.Common.{ℕ, ◌+◌, ◌<◌, length, sym, ◌∙◌, arith}
use Rattle.std.proofs.lemmas.List.{length-map}
use Rattle.fab_systems_laws.specs.Ternary.{Tern}
use Rattle.fab_solutions_laws.specs.fab_ternary_laws_Shown.{first_terns}
use Rattle.fab_ternary.specs.Terns.{plain_tern}
use Rattle.fab_compiled.specs.Terns.{seen}
use Rattle.fab_compiled.proofs.Bits.{first_at}
use Rattle.fab_compiled.proofs.Lengths.{length_first}
use Rattle.fab_compiled.proofs.Written.{plain, none_done, one_done, all_done}
use Rattle.fab_compiled.proofs.reading.read_each.Goals as goal

pub loop-next-init : goal.loop-next-init
loop-next-init c =
    let at : ℕ → Tern = λ k. seen c.args.view.now.terns.now c.args.view.now.leads.now (c.args.first + (c.args.place + k)) in
    none_done (first_terns (length c.args.bits.now) at) (plain c.args.bits.now)

pub loop-next-preserved : goal.loop-next-preserved
loop-next-preserved c =
    let at : ℕ → Tern = λ k. seen c.args.view.now.terns.now c.args.view.now.leads.now (c.args.first + (c.args.place + k)) in
    let count = length c.args.bits.now in
    let next = c.loop-next.next in
    let within : next < count = omega (arith, c.loop-next-test.true) in
    one_done next (first_terns count at) (plain c.args.bits.now) c.loop-next.bits c.at.result c.loop-next.invariant
    (omega (arith, c.loop-next-test.true, c.loop-next.auto.bits)) (c.at.ensures ∙ sym (first_at count at next within))

pub returns : goal.returns
returns c =
    let at : ℕ → Tern = λ k. seen c.args.view.now.terns.now c.args.view.now.leads.now (c.args.first + (c.args.place + k)) in
    let count = length c.args.bits.now in
    all_done c.loop-next.next (first_terns count at) (plain c.args.bits.now) (plain c.loop-next.bits) c.loop-next.invariant
    (omega (arith, c.loop-next-test.false, length-map c.args.bits.now plain_tern)) (length_first count at ∙ sym (length-map c.args.bits.now plain_tern))
