use Rattle.std.proofs.Common.{◌≡◌, ℕ, ◌<◌, length, ◌∙◌, sym, ap, subst, inl, inr, slice_index, arith, length-append}
use Rattle.std.proofs.lemmas.Bool.{cases_lt}
use Rattle.std.proofs.lemmas.List.{get_or_read}
use Rattle.fab_demand.specs.Demand.{IsRegisterAsked}
use Rattle.fab_demand.specs.Search.{asked_of}
use Rattle.fab_demand.proofs.Asking.{asks_both, register_stays}
use Rattle.fab_demand.proofs.Lists.{index_left}
use Rattle.fab_demand.proofs.search.Search.ask_registers.Goals as goal

pub registers-preserved : goal.registers-preserved
registers-preserved c =
    let old = c.registers.self in
    let new = c.ask_register-asked.new.self in
    let more = c.ask_register-asked.ensures.more in
    let room : c.registers.place < length old.own.items = omega (arith, c.registers-test.true, c.len.ensures, old.own.ok.0) in
    let same : (place : ℕ) → place < length old.own.items → slice_index new.own.items place ≡ slice_index old.own.items place =
    λ place l. ap (λ xs. slice_index xs place) more.own ∙ index_left old.own.items more.more place l in
    let here : c.index-point.result.now ≡ slice_index old.own.items c.registers.place =
    get_or_read old.own.items c.registers.place c.index-point.result.now room c.index-point.ensures 0 in
    record {
      searching = c.ask_register-asked.ensures.searching;
      resting = c.ask_register-asked.ensures.resting;
      more = asks_both (asked_of c.args.self.now) (asked_of old) (asked_of new) c.registers.invariant.more more;
      inside = omega (arith, room, ap length more.own, length-append old.own.items more.more);
      asked = c.ask_register-asked.ensures.asked;
      so_far = λ place l. elim (cases_lt place c.registers.place) [
        | inl before ↦ subst (IsRegisterAsked c.args.network.now c.args.clock (asked_of new)) (sym (same place (omega (arith, before, room))))
            (register_stays c.args.network.now c.args.clock (asked_of old) (asked_of new) more (slice_index old.own.items place)
            (c.registers.invariant.so_far place before))
        | inr after ↦ (let e : c.registers.place ≡ place = omega (arith, l, after) in
            subst (λ n. IsRegisterAsked c.args.network.now c.args.clock (asked_of new) (slice_index new.own.items n)) e
            (subst (IsRegisterAsked c.args.network.now c.args.clock (asked_of new)) (here ∙ sym (same c.registers.place room)) c.ask_register-asked.ensures.register))
      ];
    }

pub returns-clause-registers : goal.returns-clause-registers
returns-clause-registers c point (place, l, is) =
    subst (IsRegisterAsked c.args.network.now c.args.clock (asked_of c.registers.self)) is
    (c.registers.invariant.so_far place (omega (arith, l, c.registers-test.false, c.len.ensures, c.registers.self.own.ok.0)))
