-- Each line that is not refused keeps the rules of models, so lines of which none is refused spell models that keep them.
use Rattle.std.proofs.Common.{◌≡◌, ℕ, ◌+◌, ◌-◌, ◌<◌, ◌≤◌, ◌^◌, Bool, true, false, not, ◌||◌, ◌&&◌, ◌==◌, nat_le, List, [], ◌∷◌, ◌++◌, length, take, drop, get_or, Option, Some, None, if◌then◌else◌, refl, sym, ap, subst, ◌∙◌, arith, append-nil}
use Rattle.std.specs.List.{All, count_by, flat_map}
use Rattle.std.specs.Int.Bits.{and_self}
use Rattle.std.specs.Str.{bytes_eq}
use Rattle.std.proofs.lemmas.Bool.{leb-true, not-false, and_parts, or_parts}
use Rattle.std.proofs.lemmas.List.{length-take, length-take-le, length-drop}
use Rattle.std.proofs.lemmas.List.Elements.{All-nil, All-push}
use Rattle.indexmap.specs.IndexSet.{insert_all}
use Rattle.fab_lines.specs.Order.{IsFine}
use Rattle.fab_netlist.specs.declared.wide.Cube.{Cube}
use Rattle.fab_netlist.specs.Wide.{IsFineRow}
use Rattle.fab_blif_models.specs.declared.words.Kind.{Kind}
use Rattle.fab_blif_models.specs.declared.words.Kind.TheVariants as kinds
use Rattle.fab_blif_models.specs.Plain.{PlainBody, inputs, outputs, clock, cover, latch, instance, PlainStatement, PlainModel}
use Rattle.fab_blif_models.specs.Words.{Word, words, arguments, kind_of}
use Rattle.fab_lines.specs.Items.{word_at, with_last, is_among}
use Rattle.fab_blif_models.specs.Covers.{is_on_set, pattern_of}
use Rattle.fab_blif_models.specs.Context.{Context}
use Rattle.fab_blif_models.specs.Judge.{has_initial, on_both_sides, port_problem, judge}
use Rattle.fab_blif_models.specs.Spelled.{buffer_of, buffer_row, control_of, cover_of, initial_of, inner_words, spelled}
use Rattle.fab_blif_models.specs.inner.Following.{State, with_statements, pushed, rowed, with_cube, with_ports, context_after, row_of, state_after}
use Rattle.fab_blif_models.specs.Rules.{IsFineBody, input_names, output_names, declared_inputs, declared_outputs, IsModel, AreModels}
use Rattle.fab_blif_models.proofs.Ends.{AtLast, last_as, last_pushed, all_pushed, changed}
use Rattle.fab_blif_models.proofs.Ports.{IsOnce, once, not_found, among_old, among_new}
use Rattle.fab_blif_models.proofs.Cubes.{fine_row}
use Rattle.fab_blif_models.proofs.KeepsRules.{IsOfWidth, IsBefore, Keeps, Adds, said}
use Rattle.fab_blif_models.proofs.Passing.{Passes, passes, cover_narrow, row_width, each_line}
use Rattle.fab_blif_models.proofs.FollowsLines.{summary, state_more}

-- ---- what each line says

no_port : (found : Option Word) → port_problem found ≡ None → found ≡ None
no_port None none = refl
no_port (Some port) none = absurd cc

either_is : (a b c : Bool) → (a ≡ true → c ≡ true) → (b ≡ true → c ≡ true) → (a || b) ≡ true → c ≡ true
either_is true b c first second either = first refl
either_is false b c first second either = second either

-- a line that names no port on this side
same_side : (old : List Word) (name : Word) → (is_among old name || is_among [] name) ≡ true → is_among old name ≡ true
same_side old name = either_is (is_among old name) false (is_among old name) (λ among. among) (λ among. absurd cc)

-- or some
more_side : (old more : List Word) (name : Word) → (is_among old name || is_among more name) ≡ true → is_among (insert_all bytes_eq old more) name ≡ true
more_side old more name = either_is (is_among old name) (is_among more name) (is_among (insert_all bytes_eq old more) name) (among_old old more name) (among_new old more name)

adds_inputs : (most : ℕ) (old : Context) (line : List Word) → Passes most old kinds.Inputs line → Adds most old (with_ports old (arguments line) [] [] None) (inputs (arguments line))
adds_inputs most old line passed =
    let names = arguments line in
    let all : names ++ [] ≡ names = append-nil names in
    let each : (name : Word) → IsOnce old.inputs names name = λ name. once old.inputs names name passed.new in
    record {
      fine = tt;
      counted = λ name. subst (λ (l : List Word). count_by (bytes_eq name) l ≤ 1) (sym all) (each name).counted;
      new = λ name among.
          (let here : is_among names name ≡ true = subst (λ (l : List Word). is_among l name ≡ true) all among in
          ((each name).new here, not_found (is_among old.outputs) names name (no_port (on_both_sides old kinds.Inputs line) passed.supported) here));
      inputs = more_side old.inputs names;
      outputs = same_side old.outputs;
      width = tt;
    }

adds_outputs : (most : ℕ) (old : Context) (line : List Word) → Passes most old kinds.Outputs line → Adds most old (with_ports old [] (arguments line) [] None) (outputs (arguments line))
adds_outputs most old line passed =
    let names = arguments line in
    let each : (name : Word) → IsOnce old.outputs names name = λ name. once old.outputs names name passed.new in
    let other : (name : Word) → is_among names name ≡ true → (is_among old.inputs name || is_among old.clocks name) ≡ false =
    λ name. not_found (λ port. is_among old.inputs port || is_among old.clocks port) names name (no_port (on_both_sides old kinds.Outputs line) passed.supported) in
    record {
      fine = tt;
      counted = λ name. (each name).counted;
      new = λ name among. ((or_parts (is_among old.inputs name) (is_among old.clocks name) (other name among)).0, (each name).new among);
      inputs = same_side old.inputs;
      outputs = more_side old.outputs names;
      width = tt;
    }

-- a body that names no port
adds_other : (most : ℕ) (old : Context) (clocks : List Word) (width : Option ℕ) (body : PlainBody) → input_names body ≡ [] → output_names body ≡ [] → IsFineBody most body → IsOfWidth width body
    → Adds most old (with_ports old [] [] clocks width) body
adds_other most old clocks width body no_inputs no_outputs fine wide =
    let none : input_names body ++ output_names body ≡ [] = (λ j. no_inputs j ++ no_outputs j) in
    record {
      fine = fine;
      counted = λ name. subst (λ (l : List Word). count_by (bytes_eq name) l ≤ 1) (sym none) (omega arith);
      new = λ name among. (let nowhere : false ≡ true = subst (λ (l : List Word). is_among l name ≡ true) none among in absurd cc);
      inputs = λ name among. same_side old.inputs name (subst (λ (l : List Word). (is_among old.inputs name || is_among l name) ≡ true) no_inputs among);
      outputs = λ name among. same_side old.outputs name (subst (λ (l : List Word). (is_among old.outputs name || is_among l name) ≡ true) no_outputs among);
      width = wide;
    }

-- an initial value
initial_low : (has single : Bool) (byte : ℕ) → (has && not (single && (nat_le 48 byte && nat_le byte 51))) ≡ false → (if has then byte - 48 else 3) ≤ 3
initial_low false single byte fine = omega arith
initial_low true single byte fine =
    let parts = and_parts single (nat_le 48 byte && nat_le byte 51) (not-false (single && (nat_le 48 byte && nat_le byte 51)) fine) in
    let low = leb-true byte 51 (and_parts (nat_le 48 byte) (nat_le byte 51) parts.1).1 in
    omega (arith, low)

latch_low : (most : ℕ) (context : Context) (line : List Word) → Passes most context kinds.Latch line → initial_of line ≤ 3
latch_low most context line passed =
    let word = word_at line (length line - 1) in
    initial_low (has_initial (length line)) (length word == 1) (get_or word 0 0) passed.numbered

-- a cover
inner_count : (line : List Word) → length (inner_words line) ≡ length line - 2
inner_count line =
    let left : length (arguments line) ≡ length line - 1 = length-drop 1 line in
    length-take-le (length line - 2) (arguments line) (omega (arith, left))

adds_cover : (most : ℕ) (old : Context) (line : List Word) → Passes most old kinds.Names line → Adds most old (with_ports old [] [] [] (Some (length line - 2))) (cover_of line true [])
adds_cover most old line passed =
    let few : length (inner_words line) ≤ most = omega (arith, inner_count line, cover_narrow most old line passed) in
    adds_other most old [] (Some (length line - 2)) (cover_of line true []) refl refl (few, All-nil (IsFineRow (length (inner_words line)))) (inner_count line)

-- ---- a row

rowed_fine : (most width : ℕ) (on : Bool) (row : Cube) → IsFineRow width row → (body : PlainBody) → IsFineBody most body → IsOfWidth (Some width) body
    → IsFineBody most (rowed on row body) × IsOfWidth (Some width) (rowed on row body)
rowed_fine most width on row r (inputs names) fine wide = (fine, wide)
rowed_fine most width on row r (outputs names) fine wide = (fine, wide)
rowed_fine most width on row r (clock name) fine wide = (fine, wide)
rowed_fine most width on row r (cover ins output old rows) fine wide =
    ((fine.0, All-push (IsFineRow (length ins)) rows row fine.1 (subst (λ (count : ℕ). IsFineRow count row) (sym wide) r)), wide)
rowed_fine most width on row r (latch input output control initial) fine wide = (fine, wide)
rowed_fine most width on row r (instance model joins) fine wide = (fine, wide)

rowed_inputs : (on : Bool) (row : Cube) (body : PlainBody) → input_names (rowed on row body) ≡ input_names body
rowed_inputs on row (inputs names) = refl
rowed_inputs on row (outputs names) = refl
rowed_inputs on row (clock name) = refl
rowed_inputs on row (cover ins output old rows) = refl
rowed_inputs on row (latch input output control initial) = refl
rowed_inputs on row (instance model joins) = refl

rowed_outputs : (on : Bool) (row : Cube) (body : PlainBody) → output_names (rowed on row body) ≡ output_names body
rowed_outputs on row (inputs names) = refl
rowed_outputs on row (outputs names) = refl
rowed_outputs on row (clock name) = refl
rowed_outputs on row (cover ins output old rows) = refl
rowed_outputs on row (latch input output control initial) = refl
rowed_outputs on row (instance model joins) = refl

rowed_names : (names : PlainBody → List Word) (on : Bool) (row : Cube) → ((body : PlainBody) → names (rowed on row body) ≡ names body) → (old : List PlainStatement)
    → flat_map (λ s. names s.body) (with_last (with_cube on row) old) ≡ flat_map (λ s. names s.body) old
rowed_names names on row same [] = refl
rowed_names names on row same (s ∷ []) = ap (λ (l : List Word). l ++ []) (same s.body)
rowed_names names on row same (s ∷ t ∷ old) = ap (λ (l : List Word). names s.body ++ l) (rowed_names names on row same (t ∷ old))

row_model : (most : ℕ) (old next : Context) (width : ℕ) (on : Bool) (row : Cube) → old.width ≡ Some width → next.width ≡ Some width → next.inputs ≡ old.inputs → next.outputs ≡ old.outputs → IsFineRow width row
    → (model : PlainModel) → IsModel most model → IsBefore old model
    → IsModel most (with_statements (with_last (with_cube on row)) model) × IsBefore next (with_statements (with_last (with_cube on row)) model)
row_model most old next width on row wide wide_next same_inputs same_outputs r model rules before =
    let lines = changed (λ s. IsFineBody most s.body) (λ s. IsOfWidth (Some width) s.body) (λ s. IsOfWidth (Some width) s.body) (with_cube on row)
    (λ s fine of_width. rowed_fine most width on row r s.body fine of_width) model.statements rules.bodies
    (subst (λ (w : Option ℕ). AtLast (λ s. IsOfWidth w s.body) model.statements) wide before.cover) in
    let ins : declared_inputs (with_last (with_cube on row) model.statements) ≡ declared_inputs model.statements = rowed_names input_names on row (rowed_inputs on row) model.statements in
    let outs : declared_outputs (with_last (with_cube on row) model.statements) ≡ declared_outputs model.statements = rowed_names output_names on row (rowed_outputs on row) model.statements in (
      record {
        bodies = lines.all;
        ports = λ name. subst (λ (l : List Word). count_by (bytes_eq name) l ≤ 1) (sym (λ j. ins j ++ outs j)) (rules.ports name);
      },
      record {
        inputs = λ name among. ap (λ (l : List Word). is_among l name) same_inputs ∙ before.inputs name (sym (ap (λ (l : List Word). is_among l name) ins) ∙ among);
        outputs = λ name among. ap (λ (l : List Word). is_among l name) same_outputs ∙ before.outputs name (sym (ap (λ (l : List Word). is_among l name) outs) ∙ among);
        cover = subst (λ (w : Option ℕ). AtLast (λ s. IsOfWidth w s.body) (with_last (with_cube on row) model.statements)) (sym wide_next) lines.last;
      },
    )

-- ---- a line

-- a line that says something
keeps_said : (state : State) (next : Context) (number : ℕ) (body : PlainBody) → Adds state.most state.context next body → Keeps state
    → Keeps (record { most = state.most; context = next; models = pushed number body state.models })
keeps_said state next number body adds kept =
    let both = changed (IsModel state.most) (IsBefore state.context) (IsBefore next) (with_statements (λ statements. statements ++ record { line = number; body = body } ∷ []))
    (said state.most state.context next number body adds) state.models kept.models kept.last in
    record { models = both.all; last = both.last }

-- or nothing, and ends a cover
no_cover : (state : State) (next : Context) → next.width ≡ None → next.inputs ≡ state.context.inputs → next.outputs ≡ state.context.outputs → Keeps state
    → Keeps (record { most = state.most; context = next; models = state.models })
no_cover state next none same_inputs same_outputs kept = record {
  models = kept.models;
  last = last_as (IsBefore state.context) (IsBefore next)
      (λ model before. record {
        inputs = λ name among. ap (λ (l : List Word). is_among l name) same_inputs ∙ before.inputs name among;
        outputs = λ name among. ap (λ (l : List Word). is_among l name) same_outputs ∙ before.outputs name among;
        cover = subst (λ (w : Option ℕ). AtLast (λ s. IsOfWidth w s.body) model.statements) (sym none) (last_as (λ s. IsOfWidth state.context.width s.body) (λ s. Unit {0}) (λ s of_width. tt) model.statements before.cover);
      })
      state.models kept.last;
}

keeps_row : (state : State) (number : ℕ) (line : List Word) → Passes state.most state.context kinds.Row line → Keeps state → Keeps (state_after state number kinds.Row line)
keeps_row state number line passed kept =
    let old = state.context in
    let next = context_after old kinds.Row line in
    let pattern = pattern_of line in
    let row = row_of state.most pattern in
    let on = is_on_set next.on in
    let width = row_width old.width old.on line passed.counted passed.row in
    let short : length (take state.most pattern) ≤ width.0 = omega (arith, length-take state.most pattern, width.2) in
    let both = changed (IsModel state.most) (IsBefore old) (IsBefore next) (with_statements (with_last (with_cube on row)))
    (row_model state.most old next width.0 on row width.1 width.1 refl refl (fine_row width.0 (take state.most pattern) short)) state.models kept.models kept.last in
    record { models = both.all; last = both.last }

keeps_kind : (state : State) → 1 ≤ state.most → (number : ℕ) (kind : Kind) (line : List Word) → Passes state.most state.context kind line → Keeps state → Keeps (state_after state number kind line)
keeps_kind state some number kinds.Blank line passed kept = kept
keeps_kind state some number kinds.Passed line passed kept = kept
keeps_kind state some number kinds.Row line passed kept = keeps_row state number line passed kept
keeps_kind state some number kinds.Model line passed kept =
    let model : PlainModel = record { line = number; name = word_at line 1; statements = [] } in
    record {
      models = all_pushed (IsModel state.most) state.models model kept.models (record { bodies = tt; ports = λ name. omega arith });
      last = last_pushed (IsBefore (context_after state.context kinds.Model line)) state.models model (record { inputs = λ name among. absurd cc; outputs = λ name among. absurd cc; cover = tt });
    }
keeps_kind state some number kinds.End line passed kept = no_cover state (context_after state.context kinds.End line) refl refl refl kept
keeps_kind state some number kinds.Inputs line passed kept =
    keeps_said state (context_after state.context kinds.Inputs line) number (inputs (arguments line)) (adds_inputs state.most state.context line passed) kept
keeps_kind state some number kinds.Outputs line passed kept =
    keeps_said state (context_after state.context kinds.Outputs line) number (outputs (arguments line)) (adds_outputs state.most state.context line passed) kept
keeps_kind state some number kinds.Clock line passed kept =
    keeps_said state (context_after state.context kinds.Clock line) number (clock (word_at line 1)) (adds_other state.most state.context (arguments line) None (clock (word_at line 1)) refl refl tt tt) kept
keeps_kind state some number kinds.Names line passed kept =
    keeps_said state (context_after state.context kinds.Names line) number (cover_of line true []) (adds_cover state.most state.context line passed) kept
keeps_kind state some number kinds.Latch line passed kept =
    let body = latch (word_at line 1) (word_at line 2) (control_of line) (initial_of line) in
    keeps_said state (context_after state.context kinds.Latch line) number body (adds_other state.most state.context [] None body refl refl (latch_low state.most state.context line passed) tt) kept
keeps_kind state some number kinds.Instance line passed kept =
    let body = instance (word_at line 1) (drop 2 line) in
    keeps_said state (context_after state.context kinds.Instance line) number body (adds_other state.most state.context [] None body refl refl tt tt) kept
keeps_kind state some number kinds.Buffer line passed kept =
    let rows : All (IsFineRow 1) (buffer_row ∷ []) = All-push (IsFineRow 1) [] buffer_row (All-nil (IsFineRow 1)) (record { low = omega arith; cared = and_self 1 }) in
    keeps_said state (context_after state.context kinds.Buffer line) number (buffer_of line) (adds_other state.most state.context [] None (buffer_of line) refl refl (some, rows) tt) kept
keeps_kind state some number kinds.Other line passed kept = no_cover state (context_after state.context kinds.Other line) refl refl refl kept

-- ---- lines

keeps_line : (most : ℕ) → 1 ≤ most → (front : List (List ℕ)) (line : List ℕ) → IsFine (judge most) front → judge most front line ≡ None → Keeps (summary most front) → Keeps (summary most (front ++ line ∷ []))
keeps_line most some front line fine_before fine kept =
    let state = summary most front in
    let kind = kind_of (words line) in
    subst Keeps (state_more most front line fine_before fine) (keeps_kind state some (length front + 1) kind (words line) (passes most state.context line kind (words line) fine) kept)

-- lines of which none is refused spell models that keep the rules
pub spelled_keeps : (most : ℕ) → 1 ≤ most → (lines : List (List ℕ)) → IsFine (judge most) lines → AreModels most (spelled lines)
spelled_keeps most some lines fine = (each_line most (λ l. Keeps (summary most l)) (keeps_line most some) (record { models = tt; last = tt }) lines fine).models
