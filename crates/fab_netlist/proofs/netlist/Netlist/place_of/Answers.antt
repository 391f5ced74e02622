use Rattle.std.proofs.Common.{rules, ◌≡◌, ◌<◌, ◌∙◌, ℕ, true, List, arith, length, get_or, ap, sym, subst}
use Rattle.std.specs.Str.{bytes_eq}
use Rattle.fab_netlist.specs.Plain.{name_of}
use Rattle.fab_netlist.proofs.Resetting.{inputs_below, few_inputs, first_named, none_named}
use Rattle.fab_netlist.proofs.Wired.{wired}
use Rattle.fab_netlist.proofs.netlist.Netlist.place_of.Goals as goal

pub is_named-requires : goal.is_named-requires
is_named-requires c =
    let nets : c.deref-net-items.result.now ≡ c.args.self.now.inputs = search rules in
    subst (λ (l : List ℕ). get_or l c.loop-place.place 0 < length c.args.self.now.nets) (sym nets)
    (inputs_below c.args.self.now (wired c.is_well_made.ensures) c.loop-place.place 0 (subst (λ (l : List ℕ). c.loop-place.place < length l) nets c.loop-place-test.true))

pub overflow_cast-result : goal.overflow_cast-result
overflow_cast-result c =
    let nets : c.deref-net-items.result.now ≡ c.args.self.now.inputs = search rules in
    omega (arith, few_inputs c.args.self.now (wired c.is_well_made.ensures), c.loop-place-test.true, ap length nets)

pub returns-then-is_named : goal.returns-then-is_named
returns-then-is_named c =
    let nets : c.deref-net-items.result.now ≡ c.args.self.now.inputs = search rules in
    let here : bytes_eq c.args.port.now (name_of c.args.self.now (get_or c.deref-net-items.result.now c.loop-place.place 0)) ≡ true = search rules in
    first_named c.args.self.now c.args.port.now c.loop-place.place 0 (subst (λ (l : List ℕ). c.loop-place.place < length l) nets c.loop-place-test.true) c.loop-place.invariant
    (ap (λ (l : List ℕ). bytes_eq c.args.port.now (name_of c.args.self.now (get_or l c.loop-place.place 0))) (sym nets) ∙ here)

pub returns : goal.returns
returns c =
    let nets : c.deref-net-items.result.now ≡ c.args.self.now.inputs = search rules in
    none_named c.args.self.now c.args.port.now c.loop-place.place (omega (arith, c.loop-place-test.false, ap length nets)) c.loop-place.invariant
