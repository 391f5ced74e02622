-- The ports of the flattened text are those that the first model declares.
use Rattle.std.proofs.Common.{◌≡◌, ℕ, zero, suc, Bool, true, false, cond, List, [], ◌∷◌, ◌++◌, map, length, flat_map, Option, Some, None, refl, ap, ◌∙◌, append-nil}
use Rattle.std.specs.List.{AllByRecursion as Each}
use Rattle.std.proofs.lemmas.Grind.{flat_map-append}
use Rattle.std.proofs.lemmas.List.{map-append}
use Rattle.fab_blif_models.specs.Plain.{PlainBody, PlainStatement, PlainModel, inputs, outputs, clock, cover, latch, instance}
use Rattle.fab_blif_models.specs.Rules.{declared_inputs, declared_outputs, input_names, output_names}
use Rattle.fab_blif.specs.declared.design.Use.{Use}
use Rattle.fab_blif.specs.Flat.{PlainNet, PlainCopy, Placed, placed_inputs, placed_outputs, placed_clock, copied_clock, placed_cover, placed_latch, copy_in, clock_at, flat_lines, if_top, lines_at, lines_by, lines_of, net_in, of_model, top_copy}
use Rattle.fab_instances.specs.Places.{place_of_model, statements_of}
use Rattle.fab_blif.specs.Design.{inputs_by, outputs_by}
use Rattle.fab_blif.proofs.Below.{IsNamed, name_in, used_names}

-- the names of the nets that a line of `.inputs`, or one of `.outputs`, declares
abbrev pub port_names : (of_inputs : Bool) → Placed → List (List ℕ)
port_names of_inputs (placed_inputs line names) = cond of_inputs (map (λ (net : PlainNet). net.name) names) []
port_names of_inputs (placed_outputs line names) = cond of_inputs [] (map (λ (net : PlainNet). net.name) names)
port_names of_inputs _ = []

abbrev pub body_names : (of_inputs : Bool) → PlainBody → List (List ℕ)
body_names of_inputs (inputs names) = cond of_inputs names []
body_names of_inputs (outputs names) = cond of_inputs [] names
body_names of_inputs _ = []

module _ (nets : List PlainNet) where
  abbrev pub used_name : Use → List ℕ
  used_name used = name_in nets used.net

  pub input_uses_named : (text : List Placed) → Each (IsNamed nets) text → map used_name (flat_map (inputs_by nets) text) ≡ flat_map (port_names true) text
  input_uses_named [] all = refl
  input_uses_named (placed ∷ text) all =
      map-append used_name (inputs_by nets placed) (flat_map (inputs_by nets) text) ∙ (λ j. step placed all.0 j ++ input_uses_named text all.1 j)
    where
      step : (placed : Placed) → IsNamed nets placed → map used_name (inputs_by nets placed) ≡ port_names true placed
      step (placed_inputs line names) all = used_names nets line names all
      step (placed_outputs line names) all = refl
      step (placed_clock line net) all = refl
      step (copied_clock line net) all = refl
      step (placed_cover line names output on rows) all = refl
      step (placed_latch line input output control initial) all = refl

  pub output_uses_named : (text : List Placed) → Each (IsNamed nets) text → map used_name (flat_map (outputs_by nets) text) ≡ flat_map (port_names false) text
  output_uses_named [] all = refl
  output_uses_named (placed ∷ text) all =
      map-append used_name (outputs_by nets placed) (flat_map (outputs_by nets) text) ∙ (λ j. step placed all.0 j ++ output_uses_named text all.1 j)
    where
      step : (placed : Placed) → IsNamed nets placed → map used_name (outputs_by nets placed) ≡ port_names false placed
      step (placed_inputs line names) all = refl
      step (placed_outputs line names) all = used_names nets line names all
      step (placed_clock line net) all = refl
      step (copied_clock line net) all = refl
      step (placed_cover line names output on rows) all = refl
      step (placed_latch line input output control initial) all = refl

top_names : (names : List (List ℕ)) → map (λ (net : PlainNet). net.name) (map (net_in top_copy) names) ≡ names
top_names [] = refl
top_names (name ∷ names) = ap (λ (rest : List (List ℕ)). name ∷ rest) (top_names names)

module _ (models : List PlainModel) (of_inputs : Bool) where
  abbrev seen : List Placed → List (List ℕ)
  seen text = flat_map (port_names of_inputs) text

  abbrev HasNone : (PlainCopy → ℕ → List Placed) → Type 0
  HasNone inner = (copy : PlainCopy) (depth place : ℕ) → copy.depth ≡ suc depth → seen (inner copy place) ≡ []

  clock_seen : (depth line : ℕ) (net : PlainNet) → seen (clock_at depth line net ∷ []) ≡ []
  clock_seen zero line net = refl
  clock_seen (suc depth) line net = refl

  instance_seen : (inner : PlainCopy → ℕ → List Placed) → HasNone inner → (copy : PlainCopy) (line : ℕ) (words : List (List ℕ)) (place : Option ℕ) →
      seen (of_model (inner (copy_in copy line words)) place) ≡ []
  instance_seen inner none copy line words None = refl
  instance_seen inner none copy line words (Some place) = none (copy_in copy line words) copy.depth place refl

  -- lines of a copy declare no ports
  copy_line : (inner : PlainCopy → ℕ → List Placed) → HasNone inner → (copy : PlainCopy) (depth : ℕ) → copy.depth ≡ suc depth → (line : ℕ) (body : PlainBody) →
      seen (lines_by models inner copy line body) ≡ []
  copy_line inner none copy depth deep line (inputs names) = ap (λ (d : ℕ). seen (if_top d (placed_inputs line (map (net_in copy) names)))) deep
  copy_line inner none copy depth deep line (outputs names) = ap (λ (d : ℕ). seen (if_top d (placed_outputs line (map (net_in copy) names)))) deep
  copy_line inner none copy depth deep line (clock name) = clock_seen copy.depth line (net_in copy name)
  copy_line inner none copy depth deep line (cover names output on rows) = refl
  copy_line inner none copy depth deep line (latch input output control initial) = refl
  copy_line inner none copy depth deep line (instance name words) = instance_seen inner none copy line words (place_of_model models name)

  copy_lines : (inner : PlainCopy → ℕ → List Placed) → HasNone inner → (copy : PlainCopy) (depth : ℕ) → copy.depth ≡ suc depth → (statements : List PlainStatement) →
      seen (flat_map (lines_at models inner copy) statements) ≡ []
  copy_lines inner none copy depth deep [] = refl
  copy_lines inner none copy depth deep (statement ∷ statements) =
      flat_map-append (port_names of_inputs) (lines_at models inner copy statement) (flat_map (lines_at models inner copy) statements)
      ∙ (λ j. copy_line inner none copy depth deep statement.line statement.body j ++ copy_lines inner none copy depth deep statements j)

  copies : (deep : ℕ) → HasNone (lines_of models deep)
  unfolding lines_of
  copies zero copy depth place below = refl
  copies (suc deep) copy depth place below = copy_lines (lines_of models deep) (copies deep) copy depth below (statements_of models place)

  -- a line of the first model
  top_line : (inner : PlainCopy → ℕ → List Placed) → HasNone inner → (line : ℕ) (body : PlainBody) → seen (lines_by models inner top_copy line body) ≡ body_names of_inputs body
  top_line inner none line (inputs names) = append-nil _ ∙ ap (λ (ns : List (List ℕ)). cond of_inputs ns []) (top_names names)
  top_line inner none line (outputs names) = append-nil _ ∙ ap (λ (ns : List (List ℕ)). cond of_inputs [] ns) (top_names names)
  top_line inner none line (clock name) = refl
  top_line inner none line (cover names output on rows) = refl
  top_line inner none line (latch input output control initial) = refl
  top_line inner none line (instance name words) = instance_seen inner none top_copy line words (place_of_model models name)

  top_lines : (inner : PlainCopy → ℕ → List Placed) → HasNone inner → (statements : List PlainStatement) →
      seen (flat_map (lines_at models inner top_copy) statements) ≡ flat_map (λ (statement : PlainStatement). body_names of_inputs statement.body) statements
  top_lines inner none [] = refl
  top_lines inner none (statement ∷ statements) =
      flat_map-append (port_names of_inputs) (lines_at models inner top_copy statement) (flat_map (lines_at models inner top_copy) statements)
      ∙ (λ j. top_line inner none statement.line statement.body j ++ top_lines inner none statements j)

  pub ports_named : (deep : ℕ) → flat_map (port_names of_inputs) (lines_of models (suc deep) top_copy 0) ≡ flat_map (λ (statement : PlainStatement). body_names of_inputs statement.body) (statements_of models 0)
  unfolding lines_of
  ports_named deep = top_lines (lines_of models deep) (copies deep) (statements_of models 0)

input_bodies : (statements : List PlainStatement) → flat_map (λ (statement : PlainStatement). body_names true statement.body) statements ≡ declared_inputs statements
input_bodies [] = refl
input_bodies (statement ∷ statements) = λ j. step statement.body j ++ input_bodies statements j
  where
    step : (body : PlainBody) → body_names true body ≡ input_names body
    step (inputs names) = refl
    step (outputs names) = refl
    step (clock name) = refl
    step (cover names output on rows) = refl
    step (latch input output control initial) = refl
    step (instance name words) = refl

output_bodies : (statements : List PlainStatement) → flat_map (λ (statement : PlainStatement). body_names false statement.body) statements ≡ declared_outputs statements
output_bodies [] = refl
output_bodies (statement ∷ statements) = λ j. step statement.body j ++ output_bodies statements j
  where
    step : (body : PlainBody) → body_names false body ≡ output_names body
    step (inputs names) = refl
    step (outputs names) = refl
    step (clock name) = refl
    step (cover names output on rows) = refl
    step (latch input output control initial) = refl
    step (instance name words) = refl

pub text_inputs : (models : List PlainModel) → flat_map (port_names true) (flat_lines models) ≡ declared_inputs (statements_of models 0)
unfolding flat_lines lines_of
text_inputs [] = refl
text_inputs (model ∷ models) = ports_named (model ∷ models) true (length models) ∙ input_bodies model.statements

pub text_outputs : (models : List PlainModel) → flat_map (port_names false) (flat_lines models) ≡ declared_outputs (statements_of models 0)
unfolding flat_lines lines_of
text_outputs [] = refl
text_outputs (model ∷ models) = ports_named (model ∷ models) false (length models) ∙ output_bodies model.statements
