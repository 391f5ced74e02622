-- Marks of models that a model uses.
use Rattle.std.proofs.Common.{◌≡◌, ◌⊎◌, ℕ, zero, suc, ◌+◌, ◌<◌, Bool, true, false, not, cond, List, [], ◌∷◌, ◌++◌, map, length, get_or, position, replicate, Contains, Option, Some, None, refl, sym, ap, subst, ◌∙◌, inl, inr, arith, length-append}
use Rattle.std.specs.List.{count_by}
use Rattle.std.specs.Str.{bytes_eq}
use Rattle.std.proofs.Math.ListN.{set, length-set}
use Rattle.std.proofs.lemmas.Bool.{cases_Bool, false≢true}
use Rattle.std.proofs.lemmas.List.{get_or-set_same, get_or-set_other, get_or-map, length-map}
use Rattle.std.proofs.lemmas.List.Elements.{Contains-append_left, Contains-push, Contains-push_cases}
use Rattle.std.proofs.lemmas.List.Sums.{sum_by-set}
use Rattle.std.proofs.lemmas.Grind.{common_steps}
use Rattle.fab_blif_models.specs.declared.model.Model.{Model}
use Rattle.fab_blif_models.specs.Plain.{PlainBody, PlainStatement, PlainModel, inputs, outputs, clock, cover, latch, instance, plain_model, plain_models, plain_statement}
use Rattle.fab_instances.proofs.Members.{first_or_later, in_none}
use Rattle.fab_instances.specs.Places.{model_names, no_model, statements_of}
use Rattle.fab_instances.specs.Uses.{inner_of, UsesAt, Uses, directly, through, IsUsed, IsMarked, MarksUses, MarksUsed, Marks, marked_unless, marked_at, marked_by, marked_all}

abbrev pub record_of : List Bool → List ℕ → Marks
record_of marks todo = record { marks = marks; todo = todo }

-- ---- one mark more

pub same_mark : (marks : List Bool) (place : ℕ) → place < length marks → IsMarked (set marks place true) place
same_mark marks place within = get_or-set_same marks place true false within

pub kept_mark : (marks : List Bool) (place other : ℕ) → place < length marks → IsMarked marks other → IsMarked (set marks place true) other
kept_mark marks place other within marked = grind (arith, common_steps, get_or-set_same, get_or-set_other)

-- what is marked was marked, or is the new mark
pub mark_cases : (marks : List Bool) (place other : ℕ) → IsMarked (set marks place true) other → IsMarked marks other ⊎ (other ≡ place)
mark_cases marks place other marked = grind (arith, common_steps, get_or-set_other)

pub marked_within : (marks : List Bool) (place : ℕ) → IsMarked marks place → place < length marks
marked_within [] place marked = absurd (false≢true marked)
marked_within (mark ∷ marks) zero marked = omega arith
marked_within (mark ∷ marks) (suc place) marked = omega (arith, marked_within marks place marked)

-- ---- marks grow

-- What holds of marks when some were set.
pub record Grown (old new : Marks) : Type 0 where
  pub size : length new.marks ≡ length old.marks
  pub kept : (place : ℕ) → IsMarked old.marks place → IsMarked new.marks place
  pub listed : (place : ℕ) → Contains old.todo place → Contains new.todo place
  pub new_listed : (place : ℕ) → IsMarked new.marks place → IsMarked old.marks place ⊎ Contains new.todo place
  pub all_marked : (place : ℕ) → Contains new.todo place → Contains old.todo place ⊎ IsMarked new.marks place
  pub work : count_by not new.marks + length new.todo ≡ count_by not old.marks + length old.todo

grown_not : (old : Marks) → Grown old old
grown_not old = record {
  size = refl;
  kept = λ place marked. marked;
  listed = λ place there. there;
  new_listed = λ place marked. inl marked;
  all_marked = λ place there. inl there;
  work = refl;
}

grown_twice : (a b c : Marks) → Grown a b → Grown b c → Grown a c
grown_twice a b c first second = record {
  size = second.size ∙ first.size;
  kept = λ place marked. second.kept place (first.kept place marked);
  listed = λ place there. second.listed place (first.listed place there);
  new_listed = λ place marked. elim (second.new_listed place marked) [
    | inl before ↦ elim (first.new_listed place before) [
      | inl old ↦ inl old
      | inr there ↦ inr (second.listed place there)
    ]
    | inr there ↦ inr there
  ];
  all_marked = λ place there. elim (second.all_marked place there) [
    | inl before ↦ elim (first.all_marked place before) [
      | inl old ↦ inl old
      | inr marked ↦ inr (second.kept place marked)
    ]
    | inr marked ↦ inr marked
  ];
  work = second.work ∙ first.work;
}

less_work : (marks : List Bool) (place : ℕ) → place < length marks → get_or marks place false ≡ false → 1 + count_by not (set marks place true) ≡ count_by not marks
less_work marks place within unmarked =
    let f : Bool → ℕ = λ mark. cond (not mark) 1 0 in
    let was : f (get_or marks place false) ≡ 1 = ap f unmarked in
    omega (arith, sum_by-set f marks place true false within, was)

grown_unless : (mark : Bool) (old : Marks) (place : ℕ) → get_or old.marks place false ≡ mark → place < length old.marks → Grown old (marked_unless mark old place)
grown_unless true old place is within = grown_not old
grown_unless false old place is within = record {
  size = length-set old.marks place true;
  kept = λ other marked. kept_mark old.marks place other within marked;
  listed = λ other there. Contains-append_left old.todo (place ∷ []) other there;
  new_listed = λ other marked. elim (mark_cases old.marks place other marked) [
    | inl before ↦ inl before
    | inr same ↦ inr (subst (λ (p : ℕ). Contains (old.todo ++ place ∷ []) p) (sym same) (Contains-push old.todo place))
  ];
  all_marked = λ other there. elim (Contains-push_cases old.todo place other there) [
    | inl before ↦ inl before
    | inr same ↦ inr (subst (λ (p : ℕ). IsMarked (set old.marks place true) p) same (same_mark old.marks place within))
  ];
  work = omega (arith, less_work old.marks place within is, length-append old.todo (place ∷ []));
}

pub position_within : {X : Type 0} (p : X → Bool) (xs : List X) (place : ℕ) → position p xs ≡ Some place → place < length xs
position_within p xs place found = grind (arith, common_steps)

pub inner_within : (names : List (List ℕ)) (body : PlainBody) (place : ℕ) → inner_of names body ≡ Some place → place < length names
inner_within names (inputs ports) place is = cc
inner_within names (outputs ports) place is = cc
inner_within names (clock port) place is = cc
inner_within names (cover ins output on rows) place is = cc
inner_within names (latch input output control initial) place is = cc
inner_within names (instance name words) place is = position_within (bytes_eq name) names place is

grown_at : (old : Marks) (inner : Option ℕ) → ((place : ℕ) → inner ≡ Some place → place < length old.marks) → Grown old (marked_at old inner)
grown_at old None within = grown_not old
grown_at old (Some place) within = grown_unless (get_or old.marks place false) old place refl (within place refl)

module _ (names : List (List ℕ)) where
  grown_by : (old : Marks) (statement : PlainStatement) → length old.marks ≡ length names → Grown old (marked_by names old statement)
  grown_by old statement size = grown_at old (inner_of names statement.body) (λ place is. omega (arith, size, inner_within names statement.body place is))

  pub grown_all : (old : Marks) (statements : List PlainStatement) → length old.marks ≡ length names → Grown old (marked_all names old statements)
  grown_all old [] size = grown_not old
  grown_all old (statement ∷ statements) size =
      let first = grown_by old statement size in
      grown_twice old (marked_by names old statement) _ first (grown_all (marked_by names old statement) statements (first.size ∙ size))

  inner_marked : (old : Marks) (place : ℕ) → place < length old.marks → IsMarked (marked_at old (Some place)).marks place
  inner_marked old place within =
      elim (cases_Bool (get_or old.marks place false)) [
        | inl t ↦ subst (λ (mark : Bool). IsMarked (marked_unless mark old place).marks place) (sym t) t
        | inr f ↦ subst (λ (mark : Bool). IsMarked (marked_unless mark old place).marks place) (sym f) (same_mark old.marks place within)
      ]

  -- the models of all lines are marked
  pub done_all : (old : Marks) (statements : List PlainStatement) → length old.marks ≡ length names →
      (statement : PlainStatement) (place : ℕ) → Contains statements statement → inner_of names statement.body ≡ Some place → IsMarked (marked_all names old statements).marks place
  done_all old [] size statement place among is = absurd (in_none statement among)
  done_all old (first ∷ statements) size statement place among is =
      let next = marked_by names old first in
      let grown : Grown old next = grown_by old first size in
      let sized : length next.marks ≡ length names = grown.size ∙ size in
      elim (first_or_later first statements statement among) [
        | inl same ↦
            let found : inner_of names first.body ≡ Some place = ap (λ (s : PlainStatement). inner_of names s.body) same ∙ is in
            let here : IsMarked next.marks place = subst (λ (inner : Option ℕ). IsMarked (marked_at old inner).marks place) (sym found) (inner_marked old place (omega (arith, size, inner_within names first.body place found))) in
            (grown_all next statements sized).kept place here
        | inr later ↦ done_all next statements sized statement place later is
      ]

  module _ (P : ℕ → Type 0) where
    sound_unless : (mark : Bool) (old : Marks) (place : ℕ) → ((p : ℕ) → IsMarked old.marks p → P p) → P place → (p : ℕ) → IsMarked (marked_unless mark old place).marks p → P p
    sound_unless true old place all here p marked = all p marked
    sound_unless false old place all here p marked = elim (mark_cases old.marks place p marked) [
      | inl before ↦ all p before
      | inr same ↦ subst P (sym same) here
    ]

    sound_at : (old : Marks) (inner : Option ℕ) → ((p : ℕ) → IsMarked old.marks p → P p) → ((p : ℕ) → inner ≡ Some p → P p) → (p : ℕ) → IsMarked (marked_at old inner).marks p → P p
    sound_at old None all here p marked = all p marked
    sound_at old (Some place) all here p marked = sound_unless (get_or old.marks place false) old place all (here place refl) p marked

    -- no other models are marked
    pub sound_all : (old : Marks) (statements : List PlainStatement) → ((p : ℕ) → IsMarked old.marks p → P p) →
        ((statement : PlainStatement) (p : ℕ) → Contains statements statement → inner_of names statement.body ≡ Some p → P p) → (p : ℕ) → IsMarked (marked_all names old statements).marks p → P p
    sound_all old [] all lines p marked = all p marked
    sound_all old (first ∷ statements) all lines p marked =
        sound_all (marked_by names old first) statements
        (sound_at old (inner_of names first.body) all (λ q is. lines first q (0, omega arith, refl) is))
        (λ statement q among is. lines statement q (suc among.0, omega (arith, among.1), among.2) is)
        p marked

-- ---- the search

module _ (models : List PlainModel) (start : ℕ) where
  abbrev pub IsDone : List Bool → (place : ℕ) → Type 0
  IsDone marks place = (inner : ℕ) → UsesAt models place inner → IsMarked marks inner

  -- What holds while models are searched.
  pub record Searched (at : Marks) : Type 0 where
    pub size : length at.marks ≡ length models
    pub sound : (place : ℕ) → IsMarked at.marks place → Uses models start place
    pub listed : (place : ℕ) → Contains at.todo place → IsMarked at.marks place
    pub done : (place : ℕ) → IsMarked at.marks place → Contains at.todo place ⊎ IsDone at.marks place
    pub begun : IsDone at.marks start

  more_done : (old new : Marks) (place : ℕ) → Grown old new → IsDone old.marks place → IsDone new.marks place
  more_done old new place grown done inner uses = grown.kept inner (done inner uses)

  module _ (names : List (List ℕ)) (same : names ≡ model_names models) where
    pub sized : (at : Marks) → length at.marks ≡ length models → length at.marks ≡ length names
    sized at size = size ∙ sym (length-map models (λ (m : PlainModel). m.name)) ∙ ap length (sym same)

    gone_through : (old : Marks) (place : ℕ) → length old.marks ≡ length models → IsDone (marked_all names old (statements_of models place)).marks place
    gone_through old place size inner (statement, among, is) =
        done_all names old (statements_of models place) (sized old size) statement inner among (ap (λ (n : List (List ℕ)). inner_of n statement.body) same ∙ is)

    pub search_begun : (marks : List Bool) → length marks ≡ length models → ((place : ℕ) → IsMarked marks place → ⊥) →
        Searched (marked_all names (record { marks = marks; todo = [] }) (statements_of models start))
    search_begun marks size none =
        let old : Marks = record { marks = marks; todo = [] } in
        let statements = statements_of models start in
        let grown : Grown old (marked_all names old statements) = grown_all names old statements (sized old size) in
        record {
          size = grown.size ∙ size;
          sound = sound_all names (Uses models start) old statements (λ p marked. absurd (none p marked))
              (λ statement p among is. directly (statement, among, ap (λ (n : List (List ℕ)). inner_of n statement.body) (sym same) ∙ is));
          listed = λ place there. elim (grown.all_marked place there) [
            | inl before ↦ absurd (in_none place before)
            | inr marked ↦ marked
          ];
          done = λ place marked. elim (grown.new_listed place marked) [
            | inl before ↦ absurd (none place before)
            | inr there ↦ inl there
          ];
          begun = gone_through old start size;
        }

    -- one model more is gone through
    pub search_next : (marks : List Bool) (todo : List ℕ) (place : ℕ) → Searched (record { marks = marks; todo = todo ++ place ∷ [] }) →
        Searched (marked_all names (record { marks = marks; todo = todo }) (statements_of models place))
    search_next marks todo place before =
        let old : Marks = record { marks = marks; todo = todo } in
        let statements = statements_of models place in
        let next : Marks = marked_all names old statements in
        let grown : Grown old next = grown_all names old statements (sized old before.size) in
        let uses : Uses models start place = before.sound place (before.listed place (Contains-push todo place)) in
        record {
          size = grown.size ∙ before.size;
          sound = sound_all names (Uses models start) old statements before.sound
              (λ statement p among is. through uses (statement, among, ap (λ (n : List (List ℕ)). inner_of n statement.body) (sym same) ∙ is));
          listed = λ p there. elim (grown.all_marked p there) [
            | inl listed ↦ grown.kept p (before.listed p (Contains-append_left todo (place ∷ []) p listed))
            | inr marked ↦ marked
          ];
          done = λ p marked. elim (grown.new_listed p marked) [
            | inl old_mark ↦ elim (before.done p old_mark) [
              | inl there ↦ elim (Contains-push_cases todo place p there) [
                | inl listed ↦ inl (grown.listed p listed)
                | inr here ↦ inr (subst (IsDone next.marks) here (gone_through old place before.size))
              ]
              | inr done ↦ inr (more_done old next p grown done)
            ]
            | inr there ↦ inl there
          ];
          begun = more_done old next start grown before.begun;
        }

  all_marked : (marks : List Bool) → Searched (record { marks = marks; todo = [] }) → (place : ℕ) → Uses models start place → IsMarked marks place
  all_marked marks at place (directly uses) = at.begun place uses
  all_marked marks at place (through {middle} before uses) =
      elim (at.done middle (all_marked marks at middle before)) [
        | inl there ↦ absurd (in_none middle there)
        | inr done ↦ done place uses
      ]

  pub search_ended : (marks : List Bool) → Searched (record { marks = marks; todo = [] }) → MarksUses models start marks
  search_ended marks at place = (at.sound place, all_marked marks at place)

pub none_marked : (count : ℕ) (marks : List Bool) → marks ≡ replicate count false → (place : ℕ) → IsMarked marks place → ⊥
none_marked count marks is place marked = false≢true (sym (unmarked count place) ∙ subst (λ (all : List Bool). IsMarked all place) is marked)
  where
    unmarked : (count place : ℕ) → get_or (replicate count false) place false ≡ false
    unmarked zero place = refl
    unmarked (suc count) zero = refl
    unmarked (suc count) (suc place) = unmarked count place

-- what is listed is the place of a model
pub listed_within : (models : List PlainModel) (start : ℕ) (marks : List Bool) (todo : List ℕ) (place : ℕ) → Searched models start (record { marks = marks; todo = todo ++ place ∷ [] }) → place < length models
listed_within models start marks todo place at = omega (arith, at.size, marked_within marks place (at.listed place (Contains-push todo place)))

-- what is told of the marks after lines, where they are kept in a vector
pub stated : (models : List PlainModel) (start : ℕ) (names : List (List ℕ)) (old held new back : List Bool) (held_todo old_todo new_todo : List ℕ) (here there : List PlainStatement) →
    held ≡ old → held_todo ≡ old_todo → there ≡ here → back ≡ new → record_of new new_todo ≡ marked_all names (record_of held held_todo) here →
    Searched models start (marked_all names (record_of old old_todo) there) → Searched models start (record_of back new_todo)
stated models start names old held new back held_todo old_todo new_todo here there same same_todo lines written told at =
    subst (Searched models start)
    ((λ j. marked_all names (record_of (sym same j) (sym same_todo j)) (lines j)) ∙ sym told ∙ ap (λ (marks : List Bool). record_of marks new_todo) (sym written)) at

pub grown_work : (models : List PlainModel) (names : List (List ℕ)) → names ≡ model_names models → (old new : Marks) (held : List Bool) (lines : List PlainStatement) →
    length old.marks ≡ length models → held ≡ old.marks → new ≡ marked_all names (record_of held old.todo) lines → Grown old new
grown_work models names same old new held lines size is told =
    subst (Grown old) (ap (λ (marks : List Bool). marked_all names (record_of marks old.todo) lines) (sym is) ∙ sym told)
    (grown_all names old lines (sized models 0 names same old size))

-- the first model is marked too
pub used_first : (models : List PlainModel) (marks : List Bool) → 0 < length marks → MarksUses models 0 marks → MarksUsed models (set marks 0 true)
used_first models marks some uses place = (to, from)
  where
    to : IsMarked (set marks 0 true) place → IsUsed models place
    to marked = elim (mark_cases marks 0 place marked) [
      | inl before ↦ inr ((uses place).0 before)
      | inr same ↦ inl same
    ]

    from : IsUsed models place → IsMarked (set marks 0 true) place
    from (inl same) = subst (IsMarked (set marks 0 true)) (sym same) (same_mark marks 0 some)
    from (inr used) = kept_mark marks 0 place some ((uses place).1 used)

-- the lines of the model at a place
pub lines_here : (models : List Model) (place : ℕ) (model : Model) → place < length models → model ≡ get_or models place model →
    statements_of (plain_models models) place ≡ map plain_statement model.statements.items
lines_here models place model within is =
    ap (λ (m : PlainModel). m.statements) (get_or-map plain_model models place model no_model within ∙ ap plain_model (sym is))
