-- Models keep their rules when one line more is read.
use Rattle.std.proofs.Common.{◌≡◌, ℕ, ◌+◌, ◌≤◌, Bool, true, false, ◌||◌, List, [], ◌∷◌, ◌++◌, length, Option, Some, None, refl, sym, ap, ◌∙◌, inl, inr, arith, append-nil}
use Rattle.std.specs.List.{count_by, flat_map}
use Rattle.std.specs.Str.{bytes_eq}
use Rattle.std.proofs.lemmas.Bool.{cases_Bool, both_ways, or_cases, or_left, or_right}
use Rattle.std.proofs.lemmas.List.Concat.{flat_map-append}
use Rattle.std.proofs.lemmas.List.Folds.{list_any-append}
use Rattle.fab_blif_models.specs.Plain.{PlainBody, cover, PlainStatement, PlainModel}
use Rattle.fab_blif_models.specs.Context.{Context}
use Rattle.fab_lines.specs.Items.{is_among}
use Rattle.fab_blif_models.specs.inner.Following.{State, with_statements}
use Rattle.fab_blif_models.specs.Rules.{IsFineBody, input_names, output_names, declared_inputs, declared_outputs, IsModel, AreModels}
use Rattle.fab_blif_models.proofs.Ends.{AtLast, last_pushed, all_pushed}
use Rattle.fab_blif_models.proofs.Ports.{count_both, count_none}

-- ---- what is kept

-- a cover that takes rows has so many inputs
abbrev pub IsOfWidth : Option ℕ → PlainBody → Type 0
IsOfWidth None body = Unit {0}
IsOfWidth (Some width) (cover ins output on rows) = length ins ≡ width
IsOfWidth (Some width) _ = Unit {0}

-- a model whose lines leave this to the next line
pub record IsBefore (context : Context) (model : PlainModel) : Type 0 where
  pub inputs : (name : List ℕ) → is_among (declared_inputs model.statements) name ≡ true → is_among context.inputs name ≡ true
  pub outputs : (name : List ℕ) → is_among (declared_outputs model.statements) name ≡ true → is_among context.outputs name ≡ true
  pub cover : AtLast (λ statement. IsOfWidth context.width statement.body) model.statements

pub record Keeps (state : State) : Type 0 where
  pub models : AreModels state.most state.models
  pub last : AtLast (IsBefore state.context) state.models

-- ---- one statement more

-- a line that says this leads from one context to the next
pub record Adds (most : ℕ) (old next : Context) (body : PlainBody) : Type 0 where
  pub fine : IsFineBody most body
  pub counted : (name : List ℕ) → count_by (bytes_eq name) (input_names body ++ output_names body) ≤ 1
  pub new : (name : List ℕ) → is_among (input_names body ++ output_names body) name ≡ true → (is_among old.inputs name ≡ false) × (is_among old.outputs name ≡ false)
  pub inputs : (name : List ℕ) → (is_among old.inputs name || is_among (input_names body) name) ≡ true → is_among next.inputs name ≡ true
  pub outputs : (name : List ℕ) → (is_among old.outputs name || is_among (output_names body) name) ≡ true → is_among next.outputs name ≡ true
  pub width : IsOfWidth next.width body

pub names_pushed : (names : PlainBody → List (List ℕ)) (old : List PlainStatement) (statement : PlainStatement)
    → flat_map (λ s. names s.body) (old ++ statement ∷ []) ≡ flat_map (λ s. names s.body) old ++ names statement.body
names_pushed names old statement =
    flat_map-append (λ s. names s.body) old (statement ∷ []) ∙ ap (λ (l : List (List ℕ)). flat_map (λ s. names s.body) old ++ l) (append-nil (names statement.body))

-- names that stand among those of a model stand among the ports
still : (names : PlainBody → List (List ℕ)) (old : List PlainStatement) (statement : PlainStatement) (before after : List (List ℕ)) (name : List ℕ)
    → (is_among (flat_map (λ s. names s.body) old) name ≡ true → is_among before name ≡ true)
    → ((is_among before name || is_among (names statement.body) name) ≡ true → is_among after name ≡ true)
    → is_among (flat_map (λ s. names s.body) (old ++ statement ∷ [])) name ≡ true → is_among after name ≡ true
still names old statement before after name kept more among =
    let parts : (is_among (flat_map (λ s. names s.body) old) name || is_among (names statement.body) name) ≡ true =
    sym (list_any-append (bytes_eq name) (flat_map (λ s. names s.body) old) (names statement.body)) ∙ sym (ap (λ (l : List (List ℕ)). is_among l name) (names_pushed names old statement)) ∙ among in
    elim (or_cases (is_among (flat_map (λ s. names s.body) old) name) (is_among (names statement.body) name) parts) [
      | inl before_it ↦ more (or_left (is_among before name) (is_among (names statement.body) name) (kept before_it))
      | inr here ↦ more (or_right (is_among before name) (is_among (names statement.body) name) here)
    ]

absent : (names ports : List (List ℕ)) (name : List ℕ) → (is_among names name ≡ true → is_among ports name ≡ true) → is_among ports name ≡ false → count_by (bytes_eq name) names ≡ 0
absent names ports name kept none = count_none name names (not_there (is_among names name) (is_among ports name) kept none)
  where
    not_there : (a b : Bool) → (a ≡ true → b ≡ true) → b ≡ false → a ≡ false
    not_there true b implied fails = absurd (both_ways b fails (implied refl))
    not_there false b implied fails = refl

-- how often a name is declared: in two lists that are joined, with names at the end of each
four : (name : List ℕ) (ins outs more_ins more_outs : List (List ℕ)) → count_by (bytes_eq name) ((ins ++ more_ins) ++ (outs ++ more_outs))
    ≡ count_by (bytes_eq name) (ins ++ outs) + count_by (bytes_eq name) (more_ins ++ more_outs)
four name ins outs more_ins more_outs = omega (
  arith,
  count_both name (ins ++ more_ins) (outs ++ more_outs),
  count_both name ins more_ins,
  count_both name outs more_outs,
  count_both name ins outs,
  count_both name more_ins more_outs,
)

pub ports_more : (most : ℕ) (old next : Context) (number : ℕ) (body : PlainBody) → Adds most old next body → (model : PlainModel) → IsModel most model → IsBefore old model → (name : List ℕ)
    → count_by (bytes_eq name) (declared_inputs (model.statements ++ record { line = number; body = body } ∷ []) ++ declared_outputs (model.statements ++ record { line = number; body = body } ∷ [])) ≤ 1
ports_more most old next number body adds model rules before name =
    let statement : PlainStatement = record { line = number; body = body } in
    let ins = declared_inputs model.statements in
    let outs = declared_outputs model.statements in
    let so_far : count_by (bytes_eq name) (ins ++ outs) ≤ 1 = rules.ports name in
    let added : count_by (bytes_eq name) (input_names body ++ output_names body) ≤ 1 = adds.counted name in
    let parted : count_by (bytes_eq name) (declared_inputs (model.statements ++ statement ∷ []) ++ declared_outputs (model.statements ++ statement ∷ [])) ≡ count_by (bytes_eq name) (ins ++ outs) + count_by (bytes_eq name) (input_names body ++ output_names body) =
    (λ j. count_by (bytes_eq name) (names_pushed input_names model.statements statement j ++ names_pushed output_names model.statements statement j)) ∙ four name ins outs (input_names body) (output_names body) in
    elim (cases_Bool (is_among (input_names body ++ output_names body) name)) [
      | inl t ↦ (
          let new = adds.new name t in
          omega (arith, parted, added, count_both name ins outs, absent ins old.inputs name (before.inputs name) new.0, absent outs old.outputs name (before.outputs name) new.1))
      | inr f ↦ omega (arith, parted, so_far, count_none name (input_names body ++ output_names body) f)
    ]

pub said : (most : ℕ) (old next : Context) (number : ℕ) (body : PlainBody) → Adds most old next body → (model : PlainModel) → IsModel most model → IsBefore old model
    → IsModel most (with_statements (λ statements. statements ++ record { line = number; body = body } ∷ []) model) × IsBefore next (with_statements (λ statements. statements ++ record { line = number; body = body } ∷ []) model)
said most old next number body adds model rules before =
    let statement : PlainStatement = record { line = number; body = body } in (
      record {
        bodies = all_pushed (λ s. IsFineBody most s.body) model.statements statement rules.bodies adds.fine;
        ports = ports_more most old next number body adds model rules before;
      },
      record {
        inputs = λ name. still input_names model.statements statement old.inputs next.inputs name (before.inputs name) (adds.inputs name);
        outputs = λ name. still output_names model.statements statement old.outputs next.outputs name (before.outputs name) (adds.outputs name);
        cover = last_pushed (λ s. IsOfWidth next.width s.body) model.statements statement adds.width;
      },
    )
