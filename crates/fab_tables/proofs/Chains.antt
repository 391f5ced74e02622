-- Reasons that are asked one after the other.
use Rattle.std.proofs.Common.{◌≡◌, Option, Some, None, Result, Ok, Err, refl, sym}
use Rattle.std.specs.Prelude.{option_map}
use Rattle.fab_base.specs.declared.words.Reason.{Reason}
use Rattle.fab_base.specs.declared.problem.Problem.{Problem}
use Rattle.fab_base.specs.declared.problem.Problem.TheVariants as problems
use Rattle.fab_base.specs.Reading.{Refuses}
use Rattle.fab_lines.specs.Order.{judged}
use Rattle.fab_tables.specs.Config.{or_else}

abbrev pub judged_for : {Y : Type 0} → Option Reason → Y → Result Y Problem
judged_for why value = judged (option_map problems.Malformed why) value

-- what is not refused for any reason
pub taken_for : {Y : Type 0} (why : Option Reason) (value taken : Y) → judged_for why value ≡ Ok taken → (why ≡ None) × (taken ≡ value)
taken_for None value taken so = (refl, cc)
taken_for (Some reason) value taken so = absurd cc

never : {Y Z : Type 0} (problem : Problem) (value : Y) (given : Result Z Problem) → Refuses problem (Ok value) → Refuses problem given
never problems.Memory value given so = tt
never (problems.Malformed reason) value given so = absurd cc
never (problems.Unsupported construct) value given so = absurd cc
never (problems.Limit quantity many bound) value given so = absurd cc

same_refusal : {Y Z : Type 0} (problem : Problem) (why : Reason) (value : Y) (next : Z) → Refuses problem (judged_for (Some why) value) → Refuses problem (judged_for (Some why) next)
same_refusal problems.Memory why value next so = tt
same_refusal problem why value next so = cc

-- the first reason decides
pub refused_first : {Y Z : Type 0} (first second : Option Reason) (problem : Problem) (value : Y) (next : Z) → Refuses problem (judged_for first value) → Refuses problem (judged_for (or_else first second) next)
refused_first None second problem value next so = never problem value _ so
refused_first (Some why) second problem value next so = same_refusal problem why value next so

-- the fourth or the fifth of six decides where there is none before
pub refused_fourth : {Y Z : Type 0} (a b c d e f : Option Reason) (problem : Problem) (value : Y) (next : Z) → a ≡ None → b ≡ None → c ≡ None → Refuses problem (judged_for (or_else d e) value)
    → Refuses problem (judged_for (or_else a (or_else b (or_else c (or_else d (or_else e f))))) next)
refused_fourth None None None None None f problem value next first second third so = never problem value _ so
refused_fourth None None None None (Some why) f problem value next first second third so = same_refusal problem why value next so
refused_fourth None None None (Some why) e f problem value next first second third so = same_refusal problem why value next so
refused_fourth None None (Some why) d e f problem value next first second third so = absurd cc
refused_fourth None (Some why) c d e f problem value next first second third so = absurd cc
refused_fourth (Some why) b c d e f problem value next first second third so = absurd cc

-- the last decides where there is none before
pub refused_last : {Y Z : Type 0} (a b c d e f : Option Reason) (problem : Problem) (value : Y) (next : Z) → a ≡ None → b ≡ None → c ≡ None → or_else d e ≡ None → Refuses problem (judged_for f value)
    → Refuses problem (judged_for (or_else a (or_else b (or_else c (or_else d (or_else e f))))) next)
refused_last None None None None None None problem value next first second third fourth so = never problem value _ so
refused_last None None None None None (Some why) problem value next first second third fourth so = same_refusal problem why value next so
refused_last None None None None (Some why) f problem value next first second third fourth so = absurd cc
refused_last None None None (Some why) e f problem value next first second third fourth so = absurd cc
refused_last None None (Some why) d e f problem value next first second third fourth so = absurd cc
refused_last None (Some why) c d e f problem value next first second third fourth so = absurd cc
refused_last (Some why) b c d e f problem value next first second third fourth so = absurd cc

-- nothing is refused
pub none_refused : {Y : Type 0} (a b c d e f : Option Reason) (next : Y) → a ≡ None → b ≡ None → c ≡ None → or_else d e ≡ None → f ≡ None
    → judged_for (or_else a (or_else b (or_else c (or_else d (or_else e f))))) next ≡ Ok next
none_refused None None None None None None next first second third fourth last = refl
none_refused None None None None None (Some why) next first second third fourth last = absurd cc
none_refused None None None None (Some why) f next first second third fourth last = absurd cc
none_refused None None None (Some why) e f next first second third fourth last = absurd cc
none_refused None None (Some why) d e f next first second third fourth last = absurd cc
none_refused None (Some why) c d e f next first second third fourth last = absurd cc
none_refused (Some why) b c d e f next first second third fourth last = absurd cc

-- what is refused for one value is for another
pub refused_same : {Y Z : Type 0} (why : Option Problem) (problem : Problem) (value : Y) (next : Z) → Refuses problem (judged why value) → Refuses problem (judged why next)
refused_same None problem value next so = never problem value _ so
refused_same (Some why) problems.Memory value next so = tt
refused_same (Some why) (problems.Malformed reason) value next so = cc
refused_same (Some why) (problems.Unsupported construct) value next so = cc
refused_same (Some why) (problems.Limit quantity many bound) value next so = cc
