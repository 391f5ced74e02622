-- What is asked of a row in turn.
use Rattle.std.proofs.Common.{◌≡◌, ℕ, List, Option, Some, None, Result, Ok, Err, sym, ap, subst, ◌∙◌}
use Rattle.fab_base.specs.declared.words.Reason.{Reason}
use Rattle.fab_base.specs.declared.problem.Problem.{Problem}
use Rattle.fab_base.specs.declared.problem.Problem.TheVariants as problems
use Rattle.fab_base.specs.Reading.{Answers, Refuses}
use Rattle.fab_lines.specs.Order.{judged}
use Rattle.fab_lines.proofs.Judging.{judged_ok}
use Rattle.fab_tables.specs.Lists.{Pair, PlainBody, BothNames, asked, both_names, cells_problem, named_body, pairs_body}

refuses_first : {Y Z : Type 0} (problem : Problem) (why : Option Problem) (value : Y) (next : Result Z Problem) → Refuses problem (judged why value) → Refuses problem (asked why next)
refuses_first problems.Memory why value next so = tt
refuses_first problem None value next so = absurd cc
refuses_first problem (Some why) value next so = cc

-- cells that are refused by themselves
pub cells_refused : (judge : List Pair → Option Reason) (output input : List ℕ) (problem : Problem) → Refuses problem (judged (cells_problem output input) (both_names output input)) → Refuses problem (pairs_body judge output input)
cells_refused judge output input problem so = refuses_first problem (cells_problem output input) (both_names output input) _ so

-- cells that are not
pub cells_named : {X : Type 0} (view : X → PlainBody) (result : Result X Problem) (judge : List Pair → Option Reason) (output input : List ℕ) (outputs inputs : List (List ℕ)) → judged (cells_problem output input) (both_names output input) ≡ Ok (outputs, inputs)
    → Answers view result (named_body judge outputs inputs) → Answers view result (pairs_body judge output input)
cells_named view result judge output input outputs inputs so named =
    let taken = judged_ok (cells_problem output input) (both_names output input) (outputs, inputs) so in
    let bodies : BothNames → Result PlainBody Problem = λ names. named_body judge names.0 names.1 in
    let same : named_body judge outputs inputs ≡ pairs_body judge output input = ap bodies taken.1 ∙ ap (λ (why : Option Problem). asked why (bodies (both_names output input))) (sym taken.0) in
    subst (Answers view result) same named
