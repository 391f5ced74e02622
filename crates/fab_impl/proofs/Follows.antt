-- The reader of implementations follows the lines.
use Rattle.std.proofs.Common.{◌≡◌, Bool, true, false, cond, not, List, [], ◌∷◌, Option, Some, Result, Ok, refl, sym, ap, subst, ◌∙◌}
use Rattle.std.specs.Result.{result_unwrap_or}
use Rattle.std.proofs.lemmas.List.Sums.{fold-append}
use Rattle.fab_base.specs.declared.problem.Problem.{Problem}
use Rattle.fab_base.specs.declared.words.Reason.TheVariants as reasons
use Rattle.fab_base.specs.Reading.{Refuses}
use Rattle.fab_model.specs.Grid.{PlainFabric}
use Rattle.fab_texts.specs.Rows.{Word}
use Rattle.fab_texts.specs.Formats.{refused}
use Rattle.fab_texts.specs.Sections.{has_ended, in_place, may_follow}
use Rattle.fab_texts.specs.declared.sections.Part.{Part}
use Rattle.fab_texts.proofs.Formats.{Keeps}
use Rattle.fab_impl.specs.declared.kind.Kind.{Kind}
use Rattle.fab_impl.specs.declared.opening.Opening.{Opening}
use Rattle.fab_impl.specs.Kinds.{kind_of, part_of}
use Rattle.fab_impl.specs.Openings.{where_due}
use Rattle.fab_impl.specs.Lines.{Known, nothing, known, take, take_kind}
use Rattle.fab_impl.proofs.Dues.{due_refused}

-- what is known where a line of a kind has its place
abbrev pub at_kind : Known → Kind → Known
at_kind old kind = record old { last = Some (part_of kind) }

abbrev one_more : Known → List Word → Known
one_more old line = result_unwrap_or (take old line) old

pub keeps : (fabric : PlainFabric) → Keeps (known fabric) take
keeps fabric = record {
  more = λ front line next so.
      sym (fold-append one_more (nothing fabric) front (line ∷ []) ∙ ap (λ (r : Result Known Problem). result_unwrap_or r (known fabric front)) so);
}

-- ---- a line that has its place and may not come there

abbrev good : Result (Unit {0}) Problem
good = Ok tt

place_by : {S : Type 0} (ended may : Bool) (taken : Result S Problem) → cond ended (refused reasons.AfterEnd) (cond (not may) (refused reasons.Row) good) ≡ good
    → cond ended (refused reasons.AfterEnd) (cond (not may) (refused reasons.Row) taken) ≡ taken
place_by true may taken so = absurd cc
place_by false false taken so = absurd cc
place_by false true taken so = refl

has_place : {S : Type 0} (last : Option Part) (part : Part) (taken : Result S Problem) → in_place last part good ≡ good → in_place last part taken ≡ taken
has_place last part taken so = place_by (has_ended last) (may_follow last part) taken so

-- it is refused, where its place was looked at first
pub line_refused : (old : Known) (line : List Word) (kind : Kind) (part : Part) (last : Option Part) (opening : Opening) (problem : Problem) → last ≡ old.last → opening ≡ old.opening
    → kind ≡ kind_of line → part ≡ part_of kind → in_place last part good ≡ good → Refuses problem (where_due opening kind good) → Refuses problem (take old line)
line_refused old line kind part last opening problem same_last same_opening kind_is part_is placed so =
    let taken = take_kind (at_kind old (kind_of line)) (kind_of line) line in
    let here : in_place old.last (part_of (kind_of line)) good ≡ good =
    ap (λ (p : Part). in_place old.last p good) (sym (part_is ∙ ap part_of kind_is)) ∙ ap (λ (l : Option Part). in_place l part good) (sym same_last) ∙ placed in
    let due : Refuses problem (where_due old.opening (kind_of line) good) =
    subst (λ (o : Opening). Refuses problem (where_due o (kind_of line) good)) same_opening (subst (λ (k : Kind). Refuses problem (where_due opening k good)) kind_is so) in
    subst (Refuses problem) (sym (has_place old.last (part_of (kind_of line)) (where_due old.opening (kind_of line) taken) here))
    (due_refused old.opening (kind_of line) problem taken due)
