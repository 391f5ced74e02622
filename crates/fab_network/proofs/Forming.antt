-- Forms of points, and what they tell.
use Rattle.std.proofs.Common.{◌≡◌, ◌⊎◌, ℕ, zero, suc, ◌+◌, ◌<◌, Bool, false, List, [], ◌∷◌, ◌++◌, length, length-append, Option, None, Some, refl, sym, ap, ◌∙◌, subst, inl, inr, slice_get, slice_index}
use Rattle.std.proofs.lemmas.Bool.{false≢true}
use Rattle.fab_systems_laws.specs.Ternary.{Tern as PlainTern}
use Rattle.fab_ternary.specs.declared.Tern.{Tern}
use Rattle.fab_ternary.specs.Terns.{plain_tern, is_known}
use Rattle.fab_compiled.proofs.fab_equations_Numbering.{some_there}
use Rattle.fab_compiled.specs.declared.tree.Tree.{Tree}
use Rattle.fab_compiled.specs.Terns.{seen}
use Rattle.fab_network.specs.declared.forms.Form.{Form}
use Rattle.fab_network.specs.declared.forms.Form.TheVariants.{Shows, Takes, Driven}
use Rattle.fab_network.specs.declared.network.Clock.TheVariants.{User}
use Rattle.fab_network.specs.declared.network.Drive.{Drive}
use Rattle.fab_network.specs.declared.network.Drive.TheVariants.{Flop, Value}
use Rattle.fab_network.specs.declared.network.Source.{Source}
use Rattle.fab_network.specs.declared.tables.Table.{Table}
use Rattle.fab_network.specs.Network.{drive_tern, shown_tern, source_tern}
use Rattle.fab_network.specs.Passes.{kept_tern, IsListed}
use Rattle.fab_network.specs.Tables.{entry_place, IsFixed, IsTable}
use Rattle.fab_network.specs.Forms.{AreForms, HasForm, HasForms, IsForm, IsFormBy}

-- ---- where other values are kept that are the same

-- what does not vary does not vary where all points have the same
fixed_same : (marks : List Bool) (base now : List Tern) → ((q : ℕ) → kept_tern now q ≡ kept_tern base q) → (q : ℕ) → IsFixed marks now q → IsFixed marks base q
fixed_same marks base now same q (inl known) = inl (sym (ap is_known (same q)) ∙ known)
fixed_same marks base now same q (inr apart) = inr apart

-- a table that was made where all points had the same
table_of_same : (trees : List Tree) (leads : List ℕ) (marks : List Bool) (base now : List Tern) (source : Source) (table : Table) →
    ((q : ℕ) → kept_tern now q ≡ kept_tern base q) → IsTable trees leads marks now source table → IsTable trees leads marks base source table
table_of_same trees leads marks base now source table same is = record {
  inside = is.inside;
  long = is.long;
  value = λ later stays. is.value later (λ q fixed. stays q (fixed_same marks base now same q fixed) ∙ sym (same q));
}

form_by_same : (trees : List Tree) (leads : List ℕ) (marks : List Bool) (base now : List Tern) (drive : Drive) (form : Form) →
    ((q : ℕ) → kept_tern now q ≡ kept_tern base q) → IsFormBy trees leads marks now drive form → IsFormBy trees leads marks base drive form
form_by_same trees leads marks base now drive (Shows table) same (source, at, is) = (source, at, table_of_same trees leads marks base now source table same is)
form_by_same trees leads marks base now drive (Takes table) same (next, at, is) = (next, at, table_of_same trees leads marks base now next table same is)
form_by_same trees leads marks base now drive Driven same is = tt

-- ---- one more form

abbrev pub FormsSoFar : List Tree → List Drive → List ℕ → (marks : List Bool) → (base : List Tern) → (order : List ℕ) → (count : ℕ) → List Form → Type 0
FormsSoFar trees drives leads marks base order count forms = (length forms ≡ count) × AreForms trees drives leads marks base order forms

at_end : {X : Type 0} (xs : List X) (x y : X) (k : ℕ) → slice_get (xs ++ x ∷ []) k ≡ Some y → (slice_get xs k ≡ Some y) ⊎ ((k ≡ length xs) × (x ≡ y))
at_end [] x y zero is = inr (refl, cc)
at_end [] x y (suc k) is = let none : slice_get ([] ++ x ∷ []) (suc k) ≡ None = refl in absurd (cc)
at_end (z ∷ xs) x y zero is = inl is
at_end (z ∷ xs) x y (suc k) is = elim (at_end xs x y k is) [ inl before ↦ inl before | inr last ↦ inr (ap suc last.0, last.1) ]

pub forms_none : (trees : List Tree) (drives : List Drive) (leads : List ℕ) (marks : List Bool) (base : List Tern) (order : List ℕ) (forms : List Form) →
    forms ≡ [] → FormsSoFar trees drives leads marks base order 0 forms
forms_none trees drives leads marks base order forms none =
    (ap length none, λ place form at. absurd (nothing place form (ap (λ (xs : List Form). slice_get xs place) (sym none) ∙ at)))
  where
    nothing : (place : ℕ) (form : Form) → slice_get [] place ≡ Some form → ⊥
    nothing zero form at = cc
    nothing (suc place) form at = cc

pub forms_more : (trees : List Tree) (drives : List Drive) (leads : List ℕ) (marks : List Bool) (base now : List Tern) (order : List ℕ) (count : ℕ)
    (old new : List Form) (form : Form) → ((q : ℕ) → kept_tern now q ≡ kept_tern base q) → new ≡ old ++ form ∷ [] →
    IsForm trees drives leads marks now (slice_index order count) form → FormsSoFar trees drives leads marks base order count old →
    FormsSoFar trees drives leads marks base order (count + 1) new
forms_more trees drives leads marks base now order count old new form same grown is so_far = (
  ap length grown ∙ length-append old (form ∷ []) ∙ ap (λ n. n + 1) so_far.0,
  λ place other at.
      let here : slice_get (old ++ form ∷ []) place ≡ Some other = ap (λ (xs : List Form). slice_get xs place) (sym grown) ∙ at in
      elim (at_end old form other place here) [
        | inl before ↦ so_far.1 place other before
        | inr last ↦
            let made : IsForm trees drives leads marks base (slice_index order count) form =
            λ drive there. form_by_same trees leads marks base now drive form same (is drive there) in
            let point : slice_index order count ≡ slice_index order place = ap (slice_index order) (sym (last.0 ∙ so_far.0)) in
            subst (λ (n : ℕ). IsForm trees drives leads marks base n other) point
            (subst (λ (f : Form). IsForm trees drives leads marks base (slice_index order count) f) last.1 made)
      ],
)

-- ---- what stays

-- forms stay right where points of the order alone have changed
pub forms_stay : (trees : List Tree) (drives : List Drive) (order leads : List ℕ) (old new : List Tern) (forms : List Form) →
    ((q : ℕ) → (IsListed order q → ⊥) → kept_tern new q ≡ kept_tern old q) → HasForms trees drives order leads old forms →
    HasForms trees drives order leads new forms
forms_stay trees drives order leads old new forms others has = record {
  marks = has.marks;
  base = has.base;
  varies = has.varies;
  stays = λ q fixed. others q (λ listed. has.varies q listed fixed) ∙ has.stays q fixed;
  are = has.are;
}

-- no forms
pub no_forms : (trees : List Tree) (drives : List Drive) (order leads : List ℕ) (terns : List Tern) (forms : List Form) → forms ≡ [] →
    HasForms trees drives order leads terns forms
no_forms trees drives order leads terns forms none = record {
  marks = [];
  base = [];
  varies = λ q listed fixed. not_fixed q fixed;
  stays = λ q fixed. absurd (not_fixed q fixed);
  are = (forms_none trees drives leads [] [] order forms none).1;
}
  where
    not_fixed : (q : ℕ) → IsFixed [] [] q → ⊥
    not_fixed q (inl known) = absurd (false≢true known)
    not_fixed q (inr apart) = let e : slice_get [] q ≡ Some false = apart in cc

-- the form at a place
pub form_at : (trees : List Tree) (drives : List Drive) (order leads : List ℕ) (terns : List Tern) (forms : List Form) (place point : ℕ) (form : Form) →
    HasForms trees drives order leads terns forms → slice_get forms place ≡ Some form → slice_index order place ≡ point →
    HasForm trees drives leads terns point form
form_at trees drives order leads terns forms place point form has at is = record {
  marks = has.marks;
  base = has.base;
  stays = has.stays;
  is = subst (λ (n : ℕ). IsForm trees drives leads has.marks has.base n form) is (has.are place form at);
}

-- ---- what a form tells

module _ (trees : List Tree) (drives : List Drive) (leads : List ℕ) (terns : List Tern) (point : ℕ) (form : Form)
    (has : HasForm trees drives leads terns point form) (within : point < length drives) (table : Table) where
  -- a point that shows the source of a table
  pub shows_by : form ≡ Shows table → (source : Source) × (slice_get drives point ≡ Some (Value source)) × IsTable trees leads has.marks has.base source table
  shows_by is =
      let there = some_there drives point within in
      let by : IsFormBy trees leads has.marks has.base there.0 (Shows table) =
      subst (IsFormBy trees leads has.marks has.base there.0) is (has.is there.0 there.1) in
      (by.0, there.1 ∙ ap (λ (d : Drive). Some d) by.1, by.2)

  -- a flip-flop that takes the source of a table
  pub takes_by : form ≡ Takes table → (next : Source) × (slice_get drives point ≡ Some (Flop User next)) × IsTable trees leads has.marks has.base next table
  takes_by is =
      let there = some_there drives point within in
      let by : IsFormBy trees leads has.marks has.base there.0 (Takes table) =
      subst (IsFormBy trees leads has.marks has.base there.0) is (has.is there.0 there.1) in
      (by.0, there.1 ∙ ap (λ (d : Drive). Some d) by.1, by.2)

  -- what the point shows
  pub shown_of : (held : PlainTern) (found : Tern) → form ≡ Shows table → slice_get table.entries (entry_place table.inputs (kept_tern terns)) ≡ Some found →
      plain_tern found ≡ shown_tern trees drives held (seen terns leads) point
  shown_of held found is at =
      let by = shows_by is in
      by.2.value terns has.stays found at ∙ sym (ap (λ (o : Option Drive). drive_tern trees held (seen terns leads) point o) by.1)

  -- what a flip-flop takes
  pub taken_of : (found : Tern) → (is : form ≡ Takes table) → slice_get table.entries (entry_place table.inputs (kept_tern terns)) ≡ Some found →
      plain_tern found ≡ source_tern trees (seen terns leads) (takes_by is).0
  taken_of found is at = (takes_by is).2.value terns has.stays found at
