-- What is known of the value of an expression stays known where more is known of its names.
use Rattle.std.proofs.Common.{◌≡◌, ℕ, suc, ◌+◌, ◌-◌, ◌≤◌, ◌<◌, List, [], ◌∷◌, ◌++◌, length, map, take, drop, slice_range, Option, Some, refl, sym, ap, ◌∙◌, arith}
use Rattle.std.proofs.lemmas.List.{length-map, length-append, length-take, length-drop}
use Rattle.fab_syntax.specs.declared.tree.Op.{Op}
use Rattle.fab_syntax.specs.declared.tree.Op.TheVariants.{And, Or, Xor, Equal, Minus}
use Rattle.fab_syntax.specs.Plain.{PlainExpr, PlainExprs, constant, variable, pick, part, concatenation, complement, operation, conditional, none, more}
use Rattle.fab_load_runs_laws.specs.fab_values_Declarations.{Declaration, found_in, width}
use Rattle.fab_load_runs_laws.specs.fab_values_Evaluation.{expr_width, exprs_width, local_width, IsFit, AreFit, IsVectorOf}
use Rattle.fab_load_runs_laws.proofs.fab_values_Widths.{vector_found}
use Rattle.fab_systems_laws.specs.Ternary.{Tern, known}
use Rattle.fab_ternary_laws.specs.Operators.{tern_at, inverse, both, either, differs, agreed, each_tern, bools, minus_of, tern_operated, one_of, entry}
use Rattle.fab_ternary_laws.specs.Values.{tern_value, tern_concatenated}
use Rattle.fab_solutions_laws.specs.Laws.{AreUnder, AreWide}
use Rattle.fab_solutions_laws.proofs.Orders.{length_each, length_one, length_minus, under_self, under_at, under_inverse, under_append, under_range, operated_grows, one_grows, entry_grows}

length_operated : (ds : List Declaration) (op : Op) (a b : PlainExpr) (ts us : List Tern) → length ts ≡ expr_width ds a → length us ≡ expr_width ds a →
    length (tern_operated op ts us) ≡ expr_width ds (operation op a b)
length_operated ds And a b ts us e f = length_each both ts us (e ∙ sym f) ∙ e
length_operated ds Or a b ts us e f = length_each either ts us (e ∙ sym f) ∙ e
length_operated ds Xor a b ts us e f = length_each differs ts us (e ∙ sym f) ∙ e
length_operated ds Equal a b ts us e f = refl
length_operated ds Minus a b ts us e f = length_minus ts us ∙ e

module _ (ds : List Declaration) (names : List ℕ → List Tern) (wide : AreWide ds names) where
  length_part : (name : List ℕ) (high low n : ℕ) → IsVectorOf (found_in ds name) n → low ≤ high → high < n → length (slice_range (names name) low (high + 1)) ≡ high + 1 - low
  length_part name high low n vector ordered within =
      let found = vector_found (found_in ds name) n vector in
      let long : length (names name) ≡ n = wide name ∙ ap local_width found.1 ∙ found.2 in
      length-take (high + 1 - low) (drop low (names name)) ∙ omega (arith, length-drop low (names name), long)

  mutual
    pub length_value : (e : PlainExpr) → IsFit ds e → length (tern_value names e) ≡ expr_width ds e
    length_value (constant word) fit = length-map word known
    length_value (variable name) fit = wide name
    length_value (pick name index) fit = refl
    length_value (part name high low) fit = length_part name high low fit.0 fit.1 fit.2 fit.3
    length_value (concatenation parts) fit = length_parts parts fit
    length_value (complement e) fit = length-map (tern_value names e) inverse ∙ length_value e fit
    length_value (operation op a b) fit =
        length_operated ds op a b (tern_value names a) (tern_value names b) (length_value a fit.2) (length_value b fit.3 ∙ sym fit.0)
    length_value (conditional c a b) fit =
        length_one (tern_at (tern_value names c) 0) (tern_value names a) (tern_value names b) (length_value a fit.3 ∙ fit.1 ∙ sym (length_value b fit.4)) ∙ length_value a fit.3

    length_parts : (es : PlainExprs) → AreFit ds es → length (tern_concatenated names es) ≡ exprs_width ds es
    length_parts none fit = refl
    length_parts (more e rest) fit =
        length-append (tern_concatenated names rest) (tern_value names e) ∙ omega (arith, length_value e fit.0, length_parts rest fit.1)

  module _ (later : List ℕ → List Tern) (grow : (name : List ℕ) → AreUnder (names name) (later name)) where
    mutual
      pub value_grows : (e : PlainExpr) → IsFit ds e → AreUnder (tern_value names e) (tern_value later e)
      value_grows (constant word) fit = under_self (map known word)
      value_grows (variable name) fit = grow name
      value_grows (pick name index) fit = (entry_grows (names name) (later name) (tern_value names index) (tern_value later index) (grow name) (value_grows index fit.1), tt)
      value_grows (part name high low) fit = under_range (names name) (later name) low (high + 1) (grow name)
      value_grows (concatenation parts) fit = parts_grow parts fit
      value_grows (complement e) fit = under_inverse (tern_value names e) (tern_value later e) (value_grows e fit)
      value_grows (operation op a b) fit =
          operated_grows op (tern_value names a) (tern_value names b) (tern_value later a) (tern_value later b) (value_grows a fit.2) (value_grows b fit.3)
      value_grows (conditional c a b) fit =
          one_grows (tern_at (tern_value names c) 0) (tern_at (tern_value later c) 0) (tern_value names a) (tern_value names b) (tern_value later a) (tern_value later b)
          (length_value a fit.3 ∙ fit.1 ∙ sym (length_value b fit.4))
          (under_at (tern_value names c) (tern_value later c) (value_grows c fit.2) 0) (value_grows a fit.3) (value_grows b fit.4)

      parts_grow : (es : PlainExprs) → AreFit ds es → AreUnder (tern_concatenated names es) (tern_concatenated later es)
      parts_grow none fit = tt
      parts_grow (more e rest) fit =
          under_append (tern_concatenated names rest) (tern_value names e) (tern_concatenated later rest) (tern_value later e) (parts_grow rest fit.1) (value_grows e fit.0)
