-- The flattened text keeps what holds of the lines of the models.
use Rattle.std.proofs.Common.{ℕ, zero, suc, ◌≤◌, List, [], ◌∷◌, map, length, flat_map, Option, Some, None, subst, sym, arith}
use Rattle.std.specs.List.{All, AllByRecursion as Each}
use Rattle.std.proofs.lemmas.List.{length-map}
use Rattle.fab_netlist.specs.declared.netlist.Latch.{Latch}
use Rattle.fab_netlist.specs.declared.wide.Cube.{Cube}
use Rattle.fab_netlist.specs.Wide.{IsFineRow, PlainWideCover}
use Rattle.fab_blif_models.specs.Plain.{PlainBody, PlainStatement, PlainModel, inputs, outputs, clock, cover, latch, instance}
use Rattle.fab_blif_models.specs.Rules.{AreModels, IsFineBody, IsModel}
use Rattle.fab_blif.specs.Flat.{PlainNet, PlainCopy, Placed, placed_inputs, placed_outputs, placed_clock, copied_clock, placed_cover, placed_latch, copy_in, flat_lines, if_top, clock_at, lines_at, lines_by, lines_of, net_in, of_model, top_copy}
use Rattle.fab_instances.specs.Places.{no_model, place_of_model, statements_of}
use Rattle.fab_blif.specs.Design.{covers_by, latches_by, number_in}
use Rattle.fab_blif.proofs.Each.{each_flat, each_weaker, of_place}

abbrev pub IsFinePlaced : (most : ℕ) → Placed → Type 0
IsFinePlaced most (placed_cover line names output on rows) = (length names ≤ most) × All (IsFineRow (length names)) rows
IsFinePlaced most (placed_latch line input output control initial) = initial ≤ 3
IsFinePlaced most _ = Unit {0}

abbrev pub IsFineCover : (most : ℕ) → PlainWideCover → Type 0
IsFineCover most made = (length made.inputs ≤ most) × All (IsFineRow (length made.inputs)) made.rows

abbrev HasFineBody : (most : ℕ) → PlainStatement → Type 0
HasFineBody most statement = IsFineBody most statement.body

-- models whose covers have few inputs are models whose covers have no more than some greater number
weaker_body : (few most : ℕ) → few ≤ most → (body : PlainBody) → IsFineBody few body → IsFineBody most body
weaker_body few most less (inputs names) fine = tt
weaker_body few most less (outputs names) fine = tt
weaker_body few most less (clock name) fine = tt
weaker_body few most less (cover names output on rows) fine = (omega (arith, fine.0, less), fine.1)
weaker_body few most less (latch input output control initial) fine = fine
weaker_body few most less (instance model_name words) fine = tt

pub weaker_models : (few most : ℕ) → few ≤ most → (models : List PlainModel) → AreModels few models → AreModels most models
weaker_models few most less models given = each_weaker (IsModel few) (IsModel most) weaker models given
  where
    weaker : (model : PlainModel) → IsModel few model → IsModel most model
    weaker model is = record {
      bodies = each_weaker (HasFineBody few) (HasFineBody most) (λ (statement : PlainStatement) fine. weaker_body few most less statement.body fine) model.statements is.bodies;
      ports = is.ports;
    }

-- a number of names is a number of nets
same_width : {A B : Type 0} (most : ℕ) (f : A → B) (names : List A) (rows : List Cube) → (length names ≤ most) × All (IsFineRow (length names)) rows
    → (length (map f names) ≤ most) × All (IsFineRow (length (map f names))) rows
same_width most f names rows fine = subst (λ (width : ℕ). (width ≤ most) × All (IsFineRow width) rows) (sym (length-map names f)) fine

fine_top : (most depth : ℕ) (placed : Placed) → IsFinePlaced most placed → Each (IsFinePlaced most) (if_top depth placed)
fine_top most zero placed fine = (fine, tt)
fine_top most (suc depth) placed fine = tt

fine_clock : (most depth line : ℕ) (net : PlainNet) → IsFinePlaced most (clock_at depth line net)
fine_clock most zero line net = tt
fine_clock most (suc depth) line net = tt

fine_inner : (most : ℕ) (inner : ℕ → List Placed) (place : Option ℕ) → ((found : ℕ) → Each (IsFinePlaced most) (inner found)) → Each (IsFinePlaced most) (of_model inner place)
fine_inner most inner None all = tt
fine_inner most inner (Some place) all = all place

module _ (most : ℕ) (models : List PlainModel) (given : AreModels most models) where
  fine_line : (inner : PlainCopy → ℕ → List Placed) → ((copy : PlainCopy) (place : ℕ) → Each (IsFinePlaced most) (inner copy place)) →
      (copy : PlainCopy) (line : ℕ) (body : PlainBody) → IsFineBody most body → Each (IsFinePlaced most) (lines_by models inner copy line body)
  fine_line inner all copy line (inputs names) fine = fine_top most copy.depth (placed_inputs line (map (net_in copy) names)) tt
  fine_line inner all copy line (outputs names) fine = fine_top most copy.depth (placed_outputs line (map (net_in copy) names)) tt
  fine_line inner all copy line (clock name) fine = (fine_clock most copy.depth line (net_in copy name), tt)
  fine_line inner all copy line (cover names output on rows) fine = (same_width most (net_in copy) names rows fine, tt)
  fine_line inner all copy line (latch input output control initial) fine = (fine, tt)
  fine_line inner all copy line (instance model_name words) fine = fine_inner most (inner (copy_in copy line words)) (place_of_model models model_name) (all (copy_in copy line words))

  fine_statements : (place : ℕ) → Each (HasFineBody most) (statements_of models place)
  fine_statements place = of_place (λ (model : PlainModel). Each (HasFineBody most) model.statements) models place no_model tt (bodies models given)
    where
      bodies : (all : List PlainModel) → AreModels most all → Each (λ (model : PlainModel). Each (HasFineBody most) model.statements) all
      bodies [] each = tt
      bodies (model ∷ more) each = (each.0.bodies, bodies more each.1)

  fine_lines : (deep : ℕ) (copy : PlainCopy) (place : ℕ) → Each (IsFinePlaced most) (lines_of models deep copy place)
  unfolding lines_of
  fine_lines zero copy place = tt
  fine_lines (suc deep) copy place =
      each_flat (HasFineBody most) (IsFinePlaced most) (lines_at models (lines_of models deep) copy) (λ (statement : PlainStatement) fine. fine_line (lines_of models deep) (fine_lines deep) copy statement.line statement.body fine)
      (statements_of models place) (fine_statements place)

  pub fine_text : Each (IsFinePlaced most) (flat_lines models)
  unfolding flat_lines
  fine_text = fine_lines (length models) top_copy 0

pub fine_covers : (most : ℕ) (nets : List PlainNet) (text : List Placed) → Each (IsFinePlaced most) text → Each (IsFineCover most) (flat_map (covers_by nets) text)
fine_covers most nets text all = each_flat (IsFinePlaced most) (IsFineCover most) (covers_by nets) step text all
  where
    step : (placed : Placed) → IsFinePlaced most placed → Each (IsFineCover most) (covers_by nets placed)
    step (placed_inputs line names) fine = tt
    step (placed_outputs line names) fine = tt
    step (placed_clock line net) fine = tt
    step (copied_clock line net) fine = tt
    step (placed_cover line names output on rows) fine = (same_width most (number_in nets) names rows fine, tt)
    step (placed_latch line input output control initial) fine = tt

pub fine_latches : (most : ℕ) (nets : List PlainNet) (text : List Placed) → Each (IsFinePlaced most) text → Each (λ (made : Latch). made.init ≤ 3) (flat_map (latches_by nets) text)
fine_latches most nets text all = each_flat (IsFinePlaced most) (λ (made : Latch). made.init ≤ 3) (latches_by nets) step text all
  where
    step : (placed : Placed) → IsFinePlaced most placed → Each (λ (made : Latch). made.init ≤ 3) (latches_by nets placed)
    step (placed_inputs line names) fine = tt
    step (placed_outputs line names) fine = tt
    step (placed_clock line net) fine = tt
    step (copied_clock line net) fine = tt
    step (placed_cover line names output on rows) fine = tt
    step (placed_latch line input output control initial) fine = (fine, tt)
