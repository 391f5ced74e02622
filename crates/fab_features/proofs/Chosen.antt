-- The table of the inputs that lines choose, and when a line is wrong beside it.
use Rattle.std.proofs.Common.{◌≡◌, ◌≢◌, ℕ, ◌+◌, ◌<◌, List, [], length, take, get_or, set, Option, Some, None, sym, refl, ap, ◌∙◌, subst, inl, inr, arith}
use Rattle.std.proofs.lemmas.Bool.Decides.{eqb_tells}
use Rattle.std.proofs.lemmas.List.{get_or-set_same, get_or-set_other, length-set}
use Rattle.fab_model.specs.Grid.{PlainFabric}
use Rattle.fab_fabric.specs.Fabric.{wires_at, wire_count}
use Rattle.fab_fabric.specs.Wires.{wire_index}
use Rattle.fab_fabric.proofs.Numbered.{wires_of_tile, index_within, one_place}
use Rattle.fab_netlist.specs.Plain.{IsAt}
use Rattle.fab_netlist.proofs.Members.{in_none}
use Rattle.fab_legal.specs.Turns.{FirstAreRight, AreRight}
use Rattle.fab_legal.specs.declared.broken.CheckFault.{CheckFault}
use Rattle.fab_legal.specs.declared.broken.CheckFault.TheVariants as faults
use Rattle.fab_legal.proofs.Members.{in_taken, stays_taken, last_taken}
use Rattle.fab_fasm.specs.declared.feature.Feature.{Feature}
use Rattle.fab_features.specs.Said.{said_of, choice}
use Rattle.fab_features.specs.Features.{Chooses}
use Rattle.fab_features.specs.Wrong.{IsFeature, IsRightFeature, Agrees, BreaksBehind, BreaksFirst, IsFirstWrongFeature, unknown, contrary, output_name, said_width}
use Rattle.fab_features.specs.inner.Lines.{HoldsChoices, IsContrary, Allows, Notes, IsRefused}
use Rattle.fab_features.specs.declared.said.BelField.{BelField}
use Rattle.fab_features.specs.declared.said.Choice.{Choice}
use Rattle.fab_features.specs.declared.said.Said.{Said}
use Rattle.fab_features.specs.declared.said.Said.TheVariants as said
use Rattle.fab_features.proofs.Saids.{has_choice, one_choice, no_both}

-- an output for which a line chooses an input is a wire
pub output_within : (fabric : PlainFabric) (feature : Feature) (pair : Choice) → said_of fabric feature.name ≡ Some (said.OfPair pair) → pair.output < wires_at fabric pair.x pair.y
output_within fabric feature pair says =
    let has = has_choice fabric feature.name pair says in
    omega (arith, has.output, wires_of_tile fabric pair.x pair.y has.tile has.tile_is)

same_input : (a b : ℕ) → Some a ≡ Some b → a ≡ b
same_input a b e = cc

-- ---- what the table holds

-- a table of nothing holds what no lines choose
pub no_choices : (fabric : PlainFabric) (table : List (Option ℕ)) → length table ≡ wire_count fabric → ((wire : ℕ) → get_or table wire None ≡ None) → HoldsChoices fabric [] table
no_choices fabric table as_many none = record {
  as_many = as_many;
  known = λ x y output input few is. absurd (never input (sym (none (wire_index fabric x y output)) ∙ is));
  noted = λ x y output input feature there chooses. absurd (in_none feature there);
}
  where
    never : (input : ℕ) → None ≡ Some input → ⊥
    never input e = cc

module _ (fabric : PlainFabric) (feature : Feature) (old new : List (Option ℕ)) where
  -- one line more
  pub holds_more : (features : List Feature) (n : ℕ) → IsAt features n feature → HoldsChoices fabric (take n features) old → Notes fabric feature old new → HoldsChoices fabric (take (n + 1) features) new
  holds_more features n at holds notes = record {
    as_many = notes.as_many ∙ holds.as_many;
    known = λ x y output input few is.
        elim (notes.no_others x y output input few is) [
          | inl before ↦ (let k = holds.known x y output input few before in (k.0, stays_taken features n feature k.0 at k.1, k.2))
          | inr chooses ↦ (feature, last_taken features n feature at, chooses)
        ];
    noted = λ x y output input other there chooses.
        elim (in_taken features n feature other at there) [
          | inl before ↦ notes.kept (wire_index fabric x y output) input (holds.noted x y output input other before chooses)
          | inr same ↦ notes.noted x y output input (subst (λ (f : Feature). Chooses fabric f x y output input) (sym same) chooses)
        ];
  }

  -- a line that chooses nothing
  pub notes_none : old ≡ new → ((x y output input : ℕ) → Chooses fabric feature x y output input → ⊥) → Notes fabric feature old new
  notes_none same never =
      subst (λ (t : List (Option ℕ)). Notes fabric feature old t) same (record {
        as_many = refl;
        kept = λ wire input is. is;
        noted = λ x y output input chooses. absurd (never x y output input chooses);
        no_others = λ x y output input few is. inl is;
      })

-- a line of a field of a BEL chooses no input
pub field_chooses_none : (fabric : PlainFabric) (feature : Feature) (field : BelField) → said_of fabric feature.name ≡ Some (said.OfBel field) →
    (x y output input : ℕ) → Chooses fabric feature x y output input → ⊥
field_chooses_none fabric feature field says x y output input chooses = no_both fabric feature.name field (choice x y output input) says chooses.said_is

module _ (fabric : PlainFabric) (feature : Feature) (pair : Choice) (says : said_of fabric feature.name ≡ Some (said.OfPair pair)) where
  -- the pair of a line that chooses an input
  pub the_choice : (x y output input : ℕ) → Chooses fabric feature x y output input → choice x y output input ≡ pair
  the_choice x y output input chooses = one_choice fabric feature.name (choice x y output input) pair chooses.said_is says

  pub the_wire : (x y output input : ℕ) → Chooses fabric feature x y output input → wire_index fabric x y output ≡ wire_index fabric pair.x pair.y pair.output
  the_wire x y output input chooses = ap (λ (c : Choice). wire_index fabric c.x c.y c.output) (the_choice x y output input chooses)

  the_input : (x y output input : ℕ) → Chooses fabric feature x y output input → input ≡ pair.input
  the_input x y output input chooses = ap (λ (c : Choice). c.input) (the_choice x y output input chooses)

  chosen : feature.value ≢ 0 → (x y output input : ℕ) → x ≡ pair.x → y ≡ pair.y → output ≡ pair.output → input ≡ pair.input → Chooses fabric feature x y output input
  chosen some x y output input x_is y_is output_is input_is = record {
    said_is = says
        ∙ ap (λ n. Some (said.OfPair (choice n pair.y pair.output pair.input))) (sym x_is)
        ∙ ap (λ n. Some (said.OfPair (choice x n pair.output pair.input))) (sym y_is)
        ∙ ap (λ n. Some (said.OfPair (choice x y n pair.input))) (sym output_is)
        ∙ ap (λ n. Some (said.OfPair (choice x y output n))) (sym input_is);
    some = some;
  }

  pub chosen_pair : feature.value ≢ 0 → Chooses fabric feature pair.x pair.y pair.output pair.input
  chosen_pair some = chosen some pair.x pair.y pair.output pair.input refl refl refl refl

  -- a pair of value 0 chooses nothing
  pub zero_chooses_none : feature.value ≡ 0 → (x y output input : ℕ) → Chooses fabric feature x y output input → ⊥
  zero_chooses_none zero x y output input chooses = chooses.some zero

  -- the input of a pair is put into the table
  pub notes_pair : (table : List (Option ℕ)) (wire : ℕ) → length table ≡ wire_count fabric → wire ≡ wire_index fabric pair.x pair.y pair.output → feature.value ≢ 0 → Allows fabric table feature →
      Notes fabric feature table (set table wire (Some pair.input))
  notes_pair table wire as_many wire_is some allows =
      let new : List (Option ℕ) = set table wire (Some pair.input) in
      let few_out : pair.output < wires_at fabric pair.x pair.y = output_within fabric feature pair says in
      let within : wire < length table = omega (arith, as_many, wire_is, index_within fabric pair.x pair.y pair.output few_out) in
      let here : get_or new wire None ≡ Some pair.input = get_or-set_same table wire (Some pair.input) None within in
      let at : (place : ℕ) → place ≡ wire → get_or new place None ≡ Some pair.input = λ place e. ap (λ n. get_or new n None) e ∙ here in
      record {
        as_many = length-set table wire (Some pair.input);
        kept = λ place input is.
            elim (eqb_tells place wire) [
              | inl t ↦ (
                  let same : input ≡ pair.input =
                  allows pair.x pair.y pair.output pair.input input (chosen_pair some) (ap (λ n. get_or table n None) (sym wire_is ∙ sym t.1) ∙ is) in
                  at place t.1 ∙ ap (λ n. Some n) (sym same))
              | inr f ↦ get_or-set_other table wire place (Some pair.input) None f.1 ∙ is
            ];
        noted = λ x y output input chooses.
            at (wire_index fabric x y output) (the_wire x y output input chooses ∙ sym wire_is) ∙ ap (λ n. Some n) (sym (the_input x y output input chooses));
        no_others = λ x y output input few is.
            elim (eqb_tells (wire_index fabric x y output) wire) [
              | inl t ↦ (
                  let places = one_place fabric x y output pair.x pair.y pair.output few few_out (t.1 ∙ wire_is) in
                  let input_is : input ≡ pair.input = same_input input pair.input (sym is ∙ at (wire_index fabric x y output) t.1) in
                  inr (chosen some x y output input places.0 places.1 places.2 input_is))
              | inr f ↦ inl (sym (get_or-set_other table wire (wire_index fabric x y output) (Some pair.input) None f.1) ∙ is)
            ];
      }

  -- a table without another input allows the line
  pub allowed : (table : List (Option ℕ)) → (IsContrary fabric table feature pair → ⊥) → Allows fabric table feature
  allowed table never x y output input other chooses has =
      elim (eqb_tells other input) [
        | inl t ↦ t.1
        | inr f ↦ absurd (never (record {
          some = chooses.some;
          other = other;
          other_is = ap (λ n. get_or table n None) (sym (the_wire x y output input chooses)) ∙ has;
          differs = λ e. f.1 (e ∙ sym (the_input x y output input chooses));
        }))
      ]

  -- a line that chooses another input than lines before it
  pub contrary_breaks : (before : List Feature) (table : List (Option ℕ)) → HoldsChoices fabric before table → feature.high < 1 → IsContrary fabric table feature pair →
      BreaksBehind fabric before feature 11 (output_name fabric pair.x pair.y pair.output)
  contrary_breaks before table holds inside is =
      let k = holds.known pair.x pair.y pair.output is.other (output_within fabric feature pair says) is.other_is in
      contrary {x = pair.x} {y = pair.y} {output = pair.output} pair.input is.other k.0 (record { found = said.OfPair pair; said_is = says; inside = inside }) (chosen_pair is.some) k.1 k.2 is.differs

-- ---- when a line is right

pub known_feature : (fabric : PlainFabric) (feature : Feature) (found : Said) → said_of fabric feature.name ≡ Some found → feature.high < said_width found → IsFeature fabric feature
known_feature fabric feature found says inside = record { found = found; said_is = says; inside = inside }

pub agrees : (fabric : PlainFabric) (before : List Feature) (table : List (Option ℕ)) (feature : Feature) → HoldsChoices fabric before table → Allows fabric table feature → Agrees fabric before feature
agrees fabric before table feature holds allows x y output input other earlier chooses there chose = allows x y output input other chooses (holds.noted x y output other earlier there chose)

-- ---- when one is refused

pub refused_by : (fabric : PlainFabric) (before : List Feature) (feature : Feature) (rule : ℕ) (item text : List ℕ) (fault : CheckFault) → fault ≡ faults.Broken (record { rule = rule; item = item }) → item ≡ text →
    BreaksBehind fabric before feature rule text → IsRefused fabric before feature fault
refused_by fabric before feature rule item text fault is item_is breaks =
    subst (λ (f : CheckFault). IsRefused fabric before feature f) (sym is) (subst (λ (t : List ℕ). BreaksBehind fabric before feature rule t) (sym item_is) breaks)

pub unknown_breaks : (fabric : PlainFabric) (before : List Feature) (feature : Feature) → (IsFeature fabric feature → ⊥) → BreaksBehind fabric before feature 10 feature.name
unknown_breaks fabric before feature never = unknown never

-- the first line that is refused
pub first_refused : (fabric : PlainFabric) (features : List Feature) (place : ℕ) (feature : Feature) (fault : CheckFault) → IsAt features place feature → FirstAreRight (IsRightFeature fabric) features place →
    IsRefused fabric (take place features) feature fault → IsFirstWrongFeature fabric features fault
first_refused fabric features place feature (faults.Broken broken) at before refused = record { place = place; feature = feature; is_at = at; before = before; breaks = refused }
first_refused fabric features place feature faults.Memory at before refused = tt

-- a line that breaks a rule is not right
not_right : (fabric : PlainFabric) (before : List Feature) (feature : Feature) {rule : ℕ} {item : List ℕ} → BreaksBehind fabric before feature rule item → IsRightFeature fabric before feature → ⊥
not_right fabric before feature (unknown never) right = never right.known
not_right fabric before feature (contrary {x = x} {y = y} {output = output} input other earlier is chooses there chose differs) right =
    differs (right.agrees x y output input other earlier chooses there chose)

pub wrong_not_right : (fabric : PlainFabric) (features : List Feature) (rule : ℕ) (item : List ℕ) → BreaksFirst fabric features rule item → AreRight (IsRightFeature fabric) features → ⊥
wrong_not_right fabric features rule item first right =
    not_right fabric (take first.place features) first.feature first.breaks (right first.place first.feature first.is_at.0 first.is_at)
