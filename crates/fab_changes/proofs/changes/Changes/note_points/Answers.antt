use Rattle.std.proofs.Common.{◌+◌, ℕ, sym, subst, inl, inr, arith}
use Rattle.std.proofs.lemmas.Bool.{cases_eq}
use Rattle.fab_changes.specs.Changes.{WaitsAt}
use Rattle.fab_changes.proofs.changes.Changes.note_points.Goals as goal

pub loop-next-init : goal.loop-next-init
loop-next-init c = record {
  changes = λ network asked are. are;
  waits = λ k l. absurd (omega (arith, l));
  more = λ other waits. waits;
}

pub loop-next-preserved : goal.loop-next-preserved
loop-next-preserved c =
    let inv = c.loop-next.invariant in
    let noted = c.note_given.ensures in
    record {
      changes = λ network asked are. noted.changes network asked (inv.changes network asked are);
      waits = λ k l. elim (cases_eq k c.loop-next.next) [
        | inl e ↦ subst (λ (n : ℕ). WaitsAt c.note_given.new.self (c.args.first + n)) (sym e) noted.waits
        | inr n ↦ noted.more (c.args.first + k) (inv.waits k (omega (arith, l, n)))
      ];
      more = λ other waits. noted.more other (inv.more other waits);
    }

pub returns-clause-waits : goal.returns-clause-waits
returns-clause-waits c k l = c.loop-next.invariant.waits k (omega (arith, l, c.loop-next-test.false))
