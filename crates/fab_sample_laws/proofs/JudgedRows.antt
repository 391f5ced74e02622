-- No line of a model of covers and latches is refused.
use Rattle.std.proofs.Common.{◌≡◌, ℕ, ◌≤◌, nat_lt, Bool, true, false, ◌||◌, List, [], ◌∷◌, ◌++◌, map, codes, Option, Some, None, refl, sym, ap, subst, ◌∙◌, inl, inr, arith, append_assoc, append-nil}
use Rattle.std.specs.Prelude.{find}
use Rattle.std.specs.List.{list_any, flat_map}
use Rattle.std.specs.Str.{bytes_eq}
use Rattle.std.proofs.lemmas.Bool.{cases_Bool}
use Rattle.std.proofs.lemmas.Bool.Decides.{nat_tests}
use Rattle.std.proofs.lemmas.List.{map_push}
use Rattle.std.proofs.lemmas.List.Folds.{list_any-append}
use Rattle.indexmap.specs.IndexSet.{insert_all}
use Rattle.fab_lines.specs.Order.{IsFine}
use Rattle.fab_lines.proofs.Judging.{fine_none, fine_more}
use Rattle.fab_blif_models.specs.declared.words.Kind.{Kind}
use Rattle.fab_blif_models.specs.declared.words.Kind.TheVariants as kinds
use Rattle.fab_blif_models.specs.Words.{Word, words, kind_of, is_foreign}
use Rattle.fab_blif_models.specs.Context.{Context, context_of}
use Rattle.fab_blif_models.specs.Judge.{judge_words, judge, names_twice}
use Rattle.fab_lines.specs.Items.{is_among}
use Rattle.fab_blif_models.specs.inner.Following.{beginning, context_after}
use Rattle.fab_blif_models.proofs.ContextLines.{context_more}
use Rattle.fab_sample_laws.specs.Items.{Row, row_line, Pattern, Item, cover, wire, latch, pattern_row, item_rows, model_rows}
use Rattle.fab_sample_laws.proofs.TextLines.{is_row, are_rows, row_words, row_not_foreign, both_true}

-- ---- rows that follow a context

-- No row is refused behind lines that leave this context, where no byte is foreign, and this context is left.
abbrev pub Follows : (most : ℕ) → Context → List Row → Context → Type 0
Follows most context [] end = context ≡ end
Follows most context (row ∷ rows) end = (judge_words most context [] (kind_of row) row ≡ None) × Follows most (context_after context (kind_of row) row) rows end

pub follows_joined : (most : ℕ) (context : Context) (rows more : List Row) (middle end : Context) → Follows most context rows middle → Follows most middle more end → Follows most context (rows ++ more) end
follows_joined most context [] more middle end first second = subst (λ c. Follows most c more end) (sym first) second
follows_joined most context (row ∷ rows) more middle end first second = (first.0, follows_joined most (context_after context (kind_of row) row) rows more middle end first.1 second)

-- lines of which none is refused, and what they leave
record Stands (most : ℕ) (front : List (List ℕ)) (context : Context) : Type 0 where
  fine : IsFine (judge most) front
  leaves : context_of (map words front) ≡ context

without_foreign : (most : ℕ) (context : Context) (line : List ℕ) (kind : Kind) (row : Row) → list_any is_foreign line ≡ false → judge_words most context line kind row ≡ judge_words most context [] kind row
without_foreign most context line kind row none = rw none refl

one_more : (most : ℕ) (front : List (List ℕ)) (context : Context) (row : Row) → is_row row ≡ true → Stands most front context → judge_words most context [] (kind_of row) row ≡ None
    → Stands most (front ++ row_line row ∷ []) (context_after context (kind_of row) row)
one_more most front context row good stands taken =
    let line = row_line row in
    let same = row_words row good in
    let judged : judge most front line ≡ None =
    ap (λ c. judge_words most c line (kind_of (words line)) (words line)) stands.leaves
    ∙ ap (λ (r : Row). judge_words most context line (kind_of r) r) same
    ∙ without_foreign most context line (kind_of row) row (row_not_foreign row good)
    ∙ taken in
    record {
      fine = fine_more (judge most) front line stands.fine judged;
      leaves =
          ap context_of (map_push words front line ∙ ap (λ (r : Row). map words front ++ r ∷ []) same)
          ∙ context_more (map words front) row (kind_of row) refl
          ∙ ap (λ c. context_after c (kind_of row) row) stands.leaves;
    }

all_more : (most : ℕ) (front : List (List ℕ)) (context : Context) (rows : List Row) (end : Context) → are_rows rows ≡ true → Stands most front context → Follows most context rows end → Stands most (front ++ map row_line rows) end
all_more most front context [] end good stands follows = subst (λ (l : List (List ℕ)). Stands most l end) (sym (append-nil front)) (subst (Stands most front) follows stands)
all_more most front context (row ∷ rows) end good stands follows =
    let b = both_true (is_row row) (are_rows rows) good in
    subst (λ (l : List (List ℕ)). Stands most l end) (append_assoc front (row_line row ∷ []) (map row_line rows))
    (all_more most (front ++ row_line row ∷ []) (context_after context (kind_of row) row) rows end b.1 (one_more most front context row b.0 stands follows.0) follows.1)

pub rows_fine : (most : ℕ) (rows : List Row) (end : Context) → are_rows rows ≡ true → Follows most (beginning false) rows end → IsFine (judge most) (map row_line rows)
rows_fine most rows end good follows = (all_more most [] (beginning false) rows end good (record { fine = fine_none (judge most); leaves = refl }) follows).fine

-- ---- the rows of items

-- within a model of these ports
abbrev within : (inputs outputs : List Word) → (width : Option ℕ) → (on : Option Bool) → Context
within inputs outputs width on = record { begun = true; ended = false; inputs = inputs; outputs = outputs; clocks = []; width = width; on = on }

module _ (most : ℕ) (inputs outputs : List Word) where
  -- a row of a cover of three inputs, behind none or some
  pattern_first : (pattern : Pattern) → judge_words most (within inputs outputs (Some 3) None) [] (kind_of (pattern_row pattern)) (pattern_row pattern) ≡ None
  pattern_first (true, true, true) = refl
  pattern_first (true, true, false) = refl
  pattern_first (true, false, true) = refl
  pattern_first (true, false, false) = refl
  pattern_first (false, true, true) = refl
  pattern_first (false, true, false) = refl
  pattern_first (false, false, true) = refl
  pattern_first (false, false, false) = refl

  pattern_next : (pattern : Pattern) → judge_words most (within inputs outputs (Some 3) (Some true)) [] (kind_of (pattern_row pattern)) (pattern_row pattern) ≡ None
  pattern_next (true, true, true) = refl
  pattern_next (true, true, false) = refl
  pattern_next (true, false, true) = refl
  pattern_next (true, false, false) = refl
  pattern_next (false, true, true) = refl
  pattern_next (false, true, false) = refl
  pattern_next (false, false, true) = refl
  pattern_next (false, false, false) = refl

  pattern_kind : (pattern : Pattern) → kind_of (pattern_row pattern) ≡ kinds.Row
  pattern_kind (true, second, third) = refl
  pattern_kind (false, second, third) = refl

  behind_rows : (patterns : List Pattern) → Follows most (within inputs outputs (Some 3) (Some true)) (map pattern_row patterns) (within inputs outputs (Some 3) (Some true))
  behind_rows [] = refl
  behind_rows (pattern ∷ patterns) = (
    pattern_next pattern,
    subst (λ kind. Follows most (context_after (within inputs outputs (Some 3) (Some true)) kind (pattern_row pattern)) (map pattern_row patterns) (within inputs outputs (Some 3) (Some true)))
        (sym (pattern_kind pattern)) (behind_rows patterns),
  )

  -- some context within the model is left
  LeavesSome : Context → List Row → Type 0
  LeavesSome context rows = (width : Option ℕ) × (on : Option Bool) × Follows most context rows (within inputs outputs width on)

  from_names : (patterns : List Pattern) → LeavesSome (within inputs outputs (Some 3) None) (map pattern_row patterns)
  unfolding LeavesSome
  from_names [] = (Some 3, None, refl)
  from_names (pattern ∷ patterns) = (
    Some 3,
    Some true,
    (
      pattern_first pattern,
      subst (λ kind. Follows most (context_after (within inputs outputs (Some 3) None) kind (pattern_row pattern)) (map pattern_row patterns) (within inputs outputs (Some 3) (Some true)))
          (sym (pattern_kind pattern)) (behind_rows patterns),
    ),
  )

  one_item : 3 ≤ most → (item : Item) (width : Option ℕ) (on : Option Bool) → LeavesSome (within inputs outputs width on) (item_rows item)
  unfolding LeavesSome
  one_item room (cover first second third output patterns) None on =
      let three : nat_lt most 3 ≡ false = grind (arith, nat_tests) in let rest = from_names patterns in (rest.0, rest.1, (rw three refl, rest.2))
  one_item room (cover first second third output patterns) (Some n) on =
      let three : nat_lt most 3 ≡ false = grind (arith, nat_tests) in let rest = from_names patterns in (rest.0, rest.1, (rw three refl, rest.2))
  one_item room (wire source output) None on = let one : nat_lt most 1 ≡ false = grind (arith, nat_tests) in (Some 1, Some true, (rw one refl, (refl, refl)))
  one_item room (wire source output) (Some n) on = let one : nat_lt most 1 ≡ false = grind (arith, nat_tests) in (Some 1, Some true, (rw one refl, (refl, refl)))
  one_item room (latch input output true) None on = (None, None, (refl, refl))
  one_item room (latch input output true) (Some n) on = (None, None, (refl, refl))
  one_item room (latch input output false) None on = (None, None, (refl, refl))
  one_item room (latch input output false) (Some n) on = (None, None, (refl, refl))

  all_items : 3 ≤ most → (items : List Item) (width : Option ℕ) (on : Option Bool) → LeavesSome (within inputs outputs width on) (flat_map item_rows items)
  unfolding LeavesSome
  all_items room [] width on = (width, on, refl)
  all_items room (item ∷ items) width on =
      let first = one_item room item width on in
      let rest = all_items room items first.0 first.1 in
      (rest.0, rest.1, follows_joined most (within inputs outputs width on) (item_rows item) (flat_map item_rows items) (within inputs outputs first.0 first.1) (within inputs outputs rest.0 rest.1) first.2 rest.2)

  -- and the end
  end_follows : (width : Option ℕ) (on : Option Bool) → (end : Context) × Follows most (within inputs outputs width on) ((codes ".end" ∷ []) ∷ []) end
  end_follows None on = (_, (refl, refl))
  end_follows (Some n) on = (_, (refl, refl))

-- ---- the whole model

found_none : {X : Type 0} (p : X → Bool) (xs : List X) → list_any p xs ≡ false → find p xs ≡ None
found_none p [] none = refl
found_none p (x ∷ xs) none = elim (cases_Bool (p x)) [
  | inl t ↦ (let some : true ≡ false = rw t at none in absurd cc)
  | inr f ↦ (let rest : list_any p xs ≡ false = rw f at none in rw f (found_none p xs rest))
]

none_among : (names : List Word) → list_any (is_among []) names ≡ false
none_among [] = refl
none_among (name ∷ names) = none_among names

-- what is neither among some names nor among more is not among them together
not_kept : (keys more : List Word) (name : Word) → is_among keys name ≡ false → is_among more name ≡ false → is_among (insert_all bytes_eq keys more) name ≡ false
not_kept keys [] name old new = old
not_kept keys (other ∷ more) name old new = elim (cases_Bool (bytes_eq name other)) [
  | inl t ↦ (let some : true ≡ false = rw t at new in absurd cc)
  | inr f ↦ (
      let rest : is_among more name ≡ false = rw f at new in
      elim (cases_Bool (is_among keys other)) [
        | inl t ↦ rw t (not_kept keys more name old rest)
        | inr g ↦ rw g (not_kept (keys ++ other ∷ []) more name (list_any-append (bytes_eq name) keys (other ∷ []) ∙ rw (old, f) refl) rest)
      ])
]

pub not_first : (a b : Bool) → (a || b) ≡ false → (a ≡ false) × (b ≡ false)
not_first true b h = absurd cc
not_first false b h = (refl, h)

apart : (inputs outputs : List Word) → list_any (is_among inputs) outputs ≡ false
    → list_any (λ name. is_among (insert_all bytes_eq [] inputs) name || is_among [] name) outputs ≡ false
apart inputs [] h = refl
apart inputs (name ∷ names) h =
    let b = not_first (is_among inputs name) (list_any (is_among inputs) names) h in
    rw (not_kept [] inputs name refl b.0) (apart inputs names b.1)

-- No port stands twice.
pub record ArePorts (inputs outputs : List Word) : Type 0 where
  pub inputs_once : names_twice [] inputs ≡ false
  pub outputs_once : names_twice [] outputs ≡ false
  pub apart : list_any (is_among inputs) outputs ≡ false

abbrev inputs_row : List Word → Row
inputs_row inputs = codes ".inputs" ∷ inputs

abbrev outputs_row : List Word → Row
outputs_row outputs = codes ".outputs" ∷ outputs

inputs_taken : (most : ℕ) (inputs : List Word) → names_twice [] inputs ≡ false → judge_words most (beginning true) [] kinds.Inputs (inputs_row inputs) ≡ None
inputs_taken most inputs once = rw (once, found_none (is_among []) inputs (none_among inputs)) refl

outputs_taken : (most : ℕ) (inputs outputs : List Word) → ArePorts inputs outputs
    → judge_words most (within (insert_all bytes_eq [] inputs) [] None None) [] kinds.Outputs (outputs_row outputs) ≡ None
outputs_taken most inputs outputs ports =
    rw (ports.outputs_once, found_none (λ name. is_among (insert_all bytes_eq [] inputs) name || is_among [] name) outputs (apart inputs outputs ports.apart)) refl

-- what a whole model leaves
pub model_follows : (most : ℕ) → 3 ≤ most → (name : Word) (inputs outputs : List Word) (items : List Item) → ArePorts inputs outputs
    → (end : Context) × Follows most (beginning false) (model_rows name inputs outputs items) end
unfolding LeavesSome
model_follows most room name inputs outputs items ports =
    let ins = insert_all bytes_eq [] inputs in
    let outs = insert_all bytes_eq [] outputs in
    let inner = all_items most ins outs room items None None in
    let last = end_follows most ins outs inner.0 inner.1 in
    let rest = follows_joined most (within ins outs None None) (flat_map item_rows items) ((codes ".end" ∷ []) ∷ []) (within ins outs inner.0 inner.1) last.0 inner.2 last.1 in
    (last.0, (refl, (inputs_taken most inputs ports.inputs_once, (outputs_taken most inputs outputs ports, rest))))

pub model_fine : (most : ℕ) → 3 ≤ most → (name : Word) (inputs outputs : List Word) (items : List Item) → ArePorts inputs outputs → are_rows (model_rows name inputs outputs items) ≡ true
    → IsFine (judge most) (map row_line (model_rows name inputs outputs items))
model_fine most room name inputs outputs items ports good =
    let all = model_follows most room name inputs outputs items ports in
    rows_fine most (model_rows name inputs outputs items) all.0 good all.1
