-- Where a line that names the reset port is due.
use Rattle.std.proofs.Common.{◌≡◌, Bool, true, false, cond, Option, Some, None, Result, Ok, refl}
use Rattle.fab_base.specs.Reading.{Refuses}
use Rattle.fab_base.specs.declared.words.Reason.TheVariants as reasons
use Rattle.fab_base.specs.declared.problem.Problem.{Problem}
use Rattle.fab_base.specs.declared.problem.Problem.TheVariants as problems
use Rattle.fab_texts.specs.Rows.{Word}
use Rattle.fab_texts.specs.Formats.{refused}
use Rattle.fab_impl.specs.declared.kind.Kind.{Kind}
use Rattle.fab_impl.specs.declared.opening.Opening.{Opening}
use Rattle.fab_impl.specs.declared.opening.Opening.TheVariants as openings
use Rattle.fab_impl.specs.Openings.{is_due, may_come, port_of, where_due}

taken_by : {S : Type 0} (may : Bool) (taken : Result S Problem) (next : S) → cond may taken (refused reasons.Row) ≡ Ok next → (may ≡ true) × (taken ≡ Ok next)
taken_by true taken next so = (refl, so)
taken_by false taken next so = absurd cc

-- a line that is taken may come
pub due_taken : {S : Type 0} (opening : Opening) (kind : Kind) (taken : Result S Problem) (next : S) → where_due opening kind taken ≡ Ok next → (may_come opening kind ≡ true) × (taken ≡ Ok next)
due_taken opening kind taken next so = taken_by (may_come opening kind) taken next so

refused_by : {S : Type 0} (may : Bool) (problem : Problem) (taken : Result S Problem) → Refuses {Y = Unit {0}} problem (cond may (Ok tt) (refused reasons.Row)) → Refuses problem (cond may taken (refused reasons.Row))
refused_by may problems.Memory taken so = tt
refused_by true problem taken so = absurd cc
refused_by false problem taken so = cc

-- what is refused since it may not come is refused, whatever would be taken of it
pub due_refused : {S : Type 0} (opening : Opening) (kind : Kind) (problem : Problem) (taken : Result S Problem) → Refuses {Y = Unit {0}} problem (where_due opening kind (Ok tt))
    → Refuses problem (where_due opening kind taken)
due_refused opening kind problem taken so = refused_by (may_come opening kind) problem taken so

-- where a line may come that names no reset port
pub none_due : (opening : Opening) → cond (is_due opening) false true ≡ true → is_due opening ≡ false
none_due openings.Plain may = refl
none_due openings.ResetDue may = absurd cc
none_due (openings.Reset port) may = refl

-- where one may come that names it
pub reset_due : (opening : Opening) → cond (is_due opening) true false ≡ true → opening ≡ openings.ResetDue
reset_due openings.Plain may = absurd cc
reset_due openings.ResetDue may = refl
reset_due (openings.Reset port) may = absurd cc

-- how a whole text begins
abbrev pub opening_with : (reset : Option Word) → Opening
opening_with None = openings.Plain
opening_with (Some port) = openings.Reset port

pub with_port : (reset : Option Word) → port_of (opening_with reset) ≡ reset
with_port None = refl
with_port (Some port) = refl

pub with_none_due : (reset : Option Word) → is_due (opening_with reset) ≡ false
with_none_due None = refl
with_none_due (Some port) = refl
