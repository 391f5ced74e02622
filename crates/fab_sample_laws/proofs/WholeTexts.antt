-- The text of a model of items is a BLIF file.
use Rattle.std.proofs.Common.{◌≡◌, ℕ, zero, suc, ◌+◌, ◌≤◌, ◌*◌, true, List, [], ◌∷◌, length, refl, sym, ap, subst, ◌∙◌, arith}
use Rattle.std.specs.List.{AllByRecursion as Each, flat_map, sum_by}
use Rattle.std.proofs.lemmas.List.Sums.{sum_by-cons}
use Rattle.fab_lines.specs.Order.{IsFine}
use Rattle.fab_blif_models.specs.Words.{Word}
use Rattle.fab_blif_models.specs.Judge.{judge}
use Rattle.fab_lines.specs.Items.{is_among}
use Rattle.fab_blif_models.specs.Plain as bodies
use Rattle.fab_blif_models.specs.Plain.{PlainBody, PlainStatement, PlainModel}
use Rattle.fab_blif_models.specs.Spelled.{spelled}
use Rattle.fab_instances.specs.Places.{statements_of}
use Rattle.fab_instances.specs.Order.{NamesDiffer, IsInstanceLine}
use Rattle.fab_instances.specs.Counting.{instances, instances_in, instances_at}
use Rattle.fab_instances.specs.Refusals.{AreFineModels}
use Rattle.fab_blif.specs.Flat.{Placed, flat_lines}
use Rattle.fab_blif.specs.Design.{design_of, netlist_of}
use Rattle.fab_blif.specs.Refusals.{IsFineDesign}
use Rattle.fab_netlist.specs.Cycles.{HasNoCycle}
use Rattle.fab_blif.specs.Blif.{IsBlif, models_in}
use Rattle.fab_blif.proofs.Each.{of_member}
use Rattle.fab_sample_laws.specs.Items.{rows_text, Item, cover, wire, latch, item_rows, model_rows, statements_from, model_said, edges}
use Rattle.fab_sample_laws.proofs.TextLines.{are_rows, rows_joined}
use Rattle.fab_sample_laws.proofs.JudgedRows.{ArePorts, model_fine}
use Rattle.fab_sample_laws.proofs.Statements.{model_spelled}
use Rattle.fab_sample_laws.proofs.PlacedItems.{model_placed, model_flat, read_words}
use Rattle.fab_sample_laws.proofs.DrivenOnce.{nets, IsOnce, drive_words, fine_design}
use Rattle.fab_sample_laws.proofs.OrderedCovers.{AreOrdered, no_cycle}

-- ---- no instances

abbrev IsPlain : PlainBody → Type 0
IsPlain (bodies.instance name words) = ⊥
IsPlain _ = Unit {0}

abbrev AtPlain : PlainStatement → Type 0
AtPlain statement = IsPlain statement.body

items_plain : (line : ℕ) (items : List Item) → Each AtPlain (statements_from line items)
items_plain line [] = tt
items_plain line (cover first second third output patterns ∷ items) = (tt, items_plain (line + length (item_rows (cover first second third output patterns))) items)
items_plain line (wire source output ∷ items) = (tt, items_plain (line + 2) items)
items_plain line (latch input output initial ∷ items) = (tt, items_plain (line + 1) items)

module _ (name : Word) (inputs outputs : List Word) (items : List Item) where
  all_plain : (place : ℕ) → Each AtPlain (statements_of (model_said name inputs outputs items ∷ []) place)
  all_plain zero = (tt, (tt, items_plain 4 items))
  all_plain (suc place) = tt

  no_instance : (line : ℕ) (model_name : List ℕ) (words : List (List ℕ)) (place : ℕ) → IsInstanceLine (model_said name inputs outputs items ∷ []) line model_name words place → ⊥
  no_instance line model_name words place is =
      of_member AtPlain (statements_of (model_said name inputs outputs items ∷ []) place) (record { line = line; body = bodies.instance model_name words }) (all_plain place) is.1

  none_counted : (names : List (List ℕ)) (inside : ℕ → ℕ) (statements : List PlainStatement) → Each AtPlain statements → sum_by (instances_at names inside) statements ≡ 0
  none_counted names inside [] all = refl
  none_counted names inside (statement ∷ statements) all =
      omega (arith, sum_by-cons (instances_at names inside) statement statements, none_here statement.body all.0, none_counted names inside statements all.1)
    where
      none_here : (body : PlainBody) → IsPlain body → instances_at names inside (record { line = 0; body = body }) ≡ 0
      none_here (bodies.inputs names) plain = refl
      none_here (bodies.outputs names) plain = refl
      none_here (bodies.clock name) plain = refl
      none_here (bodies.cover inputs output on rows) plain = refl
      none_here (bodies.latch input output control initial) plain = refl
      none_here (bodies.instance name words) plain = absurd plain

  few : instances (model_said name inputs outputs items ∷ []) ≡ 0
  unfolding instances instances_in
  few = none_counted (name ∷ []) (λ place. 0) (model_said name inputs outputs items).statements (all_plain 0)

  fine_models : AreFineModels (model_said name inputs outputs items ∷ [])
  fine_models = record {
    known = λ line told found. no_instance line told found.0 found.1 found.2;
    finite = λ line told found. no_instance line told found.0 found.1 found.3;
    fits = λ line told found. no_instance line told found.0 found.1 found.3;
    small = omega (arith, few);
  }

  named_once : NamesDiffer (model_said name inputs outputs items ∷ [])
  named_once zero within = refl
  named_once (suc place) within = absurd (omega (arith, within))

  -- ---- the text

  -- Its words are words, no port and no driver comes twice, what is read is driven, and covers stand in order.
  pub record IsReadable : Type 0 where
    pub rows : are_rows (model_rows name inputs outputs items) ≡ true
    pub ports : ArePorts inputs outputs
    pub once : IsOnce (drive_words inputs outputs items)
    pub driven : Each (λ word. is_among (drive_words inputs outputs items) word ≡ true) (read_words (nets inputs outputs items) inputs outputs items)
    pub ordered : AreOrdered (flat_map edges items)
    pub few : length inputs + length outputs + 4 * length items ≤ 16384

  abbrev pub model_text : List ℕ
  model_text = rows_text (model_rows name inputs outputs items)

  pub text_models : IsReadable → models_in model_text ≡ model_said name inputs outputs items ∷ []
  text_models readable = ap spelled (rows_joined (model_rows name inputs outputs items) readable.rows) ∙ model_spelled name inputs outputs items readable.rows

  pub text_flat : IsReadable → flat_lines (models_in model_text) ≡ model_placed inputs outputs items
  text_flat readable = ap flat_lines (text_models readable) ∙ model_flat name inputs outputs items

  -- A bound for the inputs of a cover that leaves room for three does.
  pub text_blif : (most : ℕ) → 3 ≤ most → IsReadable → IsBlif most model_text
  text_blif most room readable =
      let said = sym (text_models readable) in
      let flat = sym (text_flat readable) in
      record {
        fine = subst (IsFine (judge most)) (sym (rows_joined (model_rows name inputs outputs items) readable.rows)) (model_fine most room name inputs outputs items readable.ports readable.rows);
        some = (let one : 1 ≡ length (models_in model_text) = ap length said in omega (arith, one));
        named = subst NamesDiffer said named_once;
        models = subst AreFineModels said fine_models;
        design = subst (λ (text : List Placed). IsFineDesign (design_of text)) flat (fine_design inputs outputs items readable.once readable.driven readable.few);
        acyclic = subst (λ (text : List Placed). HasNoCycle (netlist_of (design_of text))) flat (no_cycle inputs outputs items readable.ordered);
      }
