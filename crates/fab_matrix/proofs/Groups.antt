-- Groups of inputs, and the module that they make.
use Rattle.std.proofs.Common.{◌≡◌, ℕ, ◌+◌, ◌<◌, cond, not, List, [], ◌∷◌, ◌++◌, Vec, length, map, filter, get_or, set, take, refl, sym, ap, ◌∙◌, inl, inr, arith, nat_eq, unwrap_or, position, All, sum_by, le-ltb, lt-ltb}
use Rattle.std.specs.List.{position_or_len, enumerate_from, take_while}
use Rattle.fab_bits.specs.Widths.{select_width}
use Rattle.std.proofs.lemmas.Bool.{cases_Bool, cases_lt}
use Rattle.std.proofs.lemmas.Bool.Decides.{eqb_tells}
use Rattle.std.proofs.lemmas.List.{map-append, map-set, take_more, length-map, get_or-set_same, get_or-set_other, append-nil, length-take-le, map_push}
use Rattle.std.proofs.lemmas.List.Elements.{filter-append, All-nil, All-cons, All-head, All-tail}
use Rattle.std.proofs.lemmas.List.Sums.{prefix_len-le-length}
use Rattle.fab_syntax.specs.Plain.{assign}
use Rattle.fab_select.specs.declared.pair.Pair.{Pair}
use Rattle.fab_select.specs.Selection.{inputs_of, firsts, in_order, field_width, field_low, select_bits}
use Rattle.fab_matrix.specs.Names.{Name}
use Rattle.fab_matrix.specs.Matrix.{selection, output_value, numbered_outputs, named}
use Rattle.fab_bits.specs.Keys.{group_at}
use Rattle.fab_matrix.specs.inner.Grouped.{numbers_of, width_at, low_at, name_at, item_of}

-- one pair more
numbers_push : (pairs : List Pair) (pair : Pair) (output : ℕ) → numbers_of (pairs ++ pair ∷ []) output ≡ (numbers_of pairs output ++ cond (nat_eq pair.output output) (pair.input ∷ []) [])
numbers_push pairs pair output =
    ap (map (λ (p : Pair). p.input)) (filter-append (λ (p : Pair). nat_eq p.output output) pairs (pair ∷ []))
    ∙ map-append (λ (p : Pair). p.input) (filter (λ (p : Pair). nat_eq p.output output) pairs) (filter (λ (p : Pair). nat_eq p.output output) (pair ∷ []))
    ∙ ap (λ more. numbers_of pairs output ++ more) (elim (cases_Bool (nat_eq pair.output output)) [ inl t ↦ rw t refl | inr f ↦ rw f refl ])

-- the groups after a pair
pub groups_more : {A : Type 0} (groups : List (Vec ℕ A)) (new : Vec ℕ A) (pairs : List Pair) (i : ℕ) (d : Pair) → i < length pairs →
    (get_or pairs i d).output < length groups → new.items ≡ group_at groups (get_or pairs i d).output ++ (get_or pairs i d).input ∷ [] →
    ((output : ℕ) → group_at groups output ≡ numbers_of (take i pairs) output) →
    (output : ℕ) → group_at (set groups (get_or pairs i d).output new) output ≡ numbers_of (take (i + 1) pairs) output
groups_more {A} groups new pairs i d in_pairs within is so_far output =
    let pair = get_or pairs i d in
    let items : Vec ℕ A → List ℕ = λ group. group.items in
    let long : pair.output < length (map items groups) = rw length-map within in
    ap (λ lists. get_or lists output []) (map-set items groups pair.output new)
    ∙ elim (eqb_tells pair.output output) [
      | inl t ↦ (
          ap (λ k. get_or (set (map items groups) pair.output new.items) k []) (sym t.1)
          ∙ get_or-set_same (map items groups) pair.output new.items [] long
          ∙ is
          ∙ ap (λ front. front ++ pair.input ∷ []) (so_far pair.output ∙ ap (numbers_of (take i pairs)) t.1)
          ∙ sym (ap (λ b. numbers_of (take i pairs) output ++ cond b (pair.input ∷ []) []) t.0)
          ∙ sym (numbers_push (take i pairs) pair output)
          ∙ sym (ap (λ ps. numbers_of ps output) (take_more pairs i d in_pairs)))
      | inr f ↦ (
          get_or-set_other (map items groups) pair.output output new.items [] (λ e. f.1 (sym e))
          ∙ so_far output
          ∙ sym (numbers_push (take i pairs) pair output ∙ rw (f.0, append-nil) refl)
          ∙ sym (ap (λ ps. numbers_of ps output) (take_more pairs i d in_pairs)))
    ]

-- the place of a key, or the length
pub place_of : (key : ℕ) (keys : List ℕ) → unwrap_or (position (nat_eq key) keys) (length keys) ≡ position_or_len (λ k. nat_eq k key) keys
place_of key keys =
    let at = position_or_len (nat_eq key) keys in
    let turned : (k : ℕ) → nat_eq key k ≡ nat_eq k key = λ k. grind (arith, eqb_tells key k, eqb_tells k key) in
    elim (cases_lt at (length keys)) as (λ _. unwrap_or (position (nat_eq key) keys) (length keys) ≡ at) [
      | inl l ↦ rw (lt-ltb at (length keys) l) refl
      | inr g ↦ rw (le-ltb at (length keys) g) (omega (arith, prefix_len-le-length (λ k. not (nat_eq key k)) keys))
    ]
    ∙ (λ j. position_or_len (λ k. turned k j) keys)

-- one item more with its number
pub numbered_push : {X : Type 0} (n : ℕ) (xs : List X) (x : X) → enumerate_from n (xs ++ x ∷ []) ≡ enumerate_from n xs ++ (n + length xs, x) ∷ []
numbered_push n [] x = let e : n ≡ n + 0 = omega arith in ap (λ k. (k, x) ∷ []) e
numbered_push n (y ∷ ys) x =
    let e : n + 1 + length ys ≡ n + length (y ∷ ys) = omega arith in
    ap (λ rest. (n, y) ∷ rest) (numbered_push (n + 1) ys x ∙ ap (λ k. enumerate_from (n + 1) ys ++ (k, x) ∷ []) e)

-- one item more, for the output of the next number
pub items_more : {X : Type 0} (item_for : ℕ → Name → X) (names : List Name) (i : ℕ) (d : Name) (items : List X) (item : X) → i < length names →
    items ≡ map (λ (output : ℕ × Name). item_for output.0 output.1) (numbered_outputs (take i names)) → item ≡ item_for i (get_or names i d) →
    items ++ item ∷ [] ≡ map (λ (output : ℕ × Name). item_for output.0 output.1) (numbered_outputs (take (i + 1) names))
items_more {X} item_for names i d items item within so_far is =
    let f : ℕ × Name → X = λ output. item_for output.0 output.1 in
    let name : Name = get_or names i d in
    let number : 0 + length (take i names) ≡ i = omega (arith, length-take-le i names (omega arith)) in
    (λ j. so_far j ++ is j ∷ [])
    ∙ sym (map_push f (numbered_outputs (take i names)) (i, name))
    ∙ ap (λ n. map f (numbered_outputs (take i names) ++ (n, name) ∷ [])) (sym number)
    ∙ sym (ap (map f) (numbered_push 0 (take i names) name))
    ∙ sym (ap (λ ns. map f (numbered_outputs ns)) (take_more names i d within))

-- the names without their numbers
pub names_of_numbered : {X : Type 0} (f : Name → X) (n : ℕ) (names : List Name) → map (λ (output : ℕ × Name). f output.1) (enumerate_from n names) ≡ map f names
names_of_numbered f n [] = refl
names_of_numbered f n (name ∷ names) = ap (λ rest. f name ∷ rest) (names_of_numbered f (n + 1) names)

-- the groups of pairs have the numbers of inputs
pub groups_within : (n : ℕ) (pairs : List Pair) (output : ℕ) → All (λ pair. pair.input < n) pairs → All (λ input. input < n) (numbers_of pairs output)
groups_within n [] output h = All-nil (λ input. input < n)
groups_within n (pair ∷ pairs) output h =
    let rest : All (λ input. input < n) (numbers_of pairs output) = groups_within n pairs output (All-tail (λ (p : Pair). p.input < n) pair pairs h) in
    elim (cases_Bool (nat_eq pair.output output)) [
      | inl t ↦ rw t (All-cons (λ input. input < n) pair.input (numbers_of pairs output) (All-head (λ (p : Pair). p.input < n) pair pairs h) rest)
      | inr f ↦ rw f rest
    ]

inputs_named : (inputs : List Name) (pairs : List Pair) (output : ℕ) → inputs_of nat_eq (named inputs pairs) output ≡ map (name_at inputs) (numbers_of pairs output)
inputs_named inputs [] output = refl
inputs_named inputs (pair ∷ pairs) output =
    elim (cases_Bool (nat_eq pair.output output)) [
      | inl t ↦ rw t (ap (λ rest. name_at inputs pair.input ∷ rest) (inputs_named inputs pairs output))
      | inr f ↦ rw f (inputs_named inputs pairs output)
    ]

outputs_named : (inputs : List Name) (pairs : List Pair) → map (λ (pair : ℕ × Name). pair.0) (named inputs pairs) ≡ map (λ pair. pair.output) pairs
outputs_named inputs [] = refl
outputs_named inputs (pair ∷ pairs) = ap (λ rest. pair.output ∷ rest) (outputs_named inputs pairs)

module _ {A : Type 0} (groups : List (Vec ℕ A)) (order : List ℕ) (inputs : List Name) (pairs : List Pair)
    (grouped : (output : ℕ) → group_at groups output ≡ numbers_of pairs output) (ordered : order ≡ firsts nat_eq (map (λ pair. pair.output) pairs)) where
  group_named : (output : ℕ) → map (name_at inputs) (group_at groups output) ≡ inputs_of nat_eq (named inputs pairs) output
  group_named output = ap (map (name_at inputs)) (grouped output) ∙ sym (inputs_named inputs pairs output)

  width_named : (output : ℕ) → width_at groups output ≡ field_width nat_eq (named inputs pairs) output
  width_named output = ap select_width (sym (length-map (group_at groups output) (name_at inputs)) ∙ ap length (group_named output))

  widths_named : width_at groups ≡ field_width nat_eq (named inputs pairs)
  widths_named = λ j output. width_named output j

  order_named : order ≡ in_order nat_eq (named inputs pairs)
  order_named = ordered ∙ sym (ap (firsts nat_eq) (outputs_named inputs pairs))

  -- the sum of all widths
  pub bits_named : sum_by (width_at groups) order ≡ select_bits nat_eq (named inputs pairs)
  bits_named = ap (λ widths. sum_by widths order) widths_named ∙ ap (sum_by (field_width nat_eq (named inputs pairs))) order_named

  low_named : (output : ℕ) → low_at groups order output ≡ field_low nat_eq (named inputs pairs) output
  low_named output =
      ap (λ widths. sum_by widths (take_while (λ other. not (nat_eq other output)) order)) widths_named
      ∙ ap (λ keys. sum_by (field_width nat_eq (named inputs pairs)) (take_while (λ other. not (nat_eq other output)) keys)) order_named

  item_named : (output : ℕ) (name : Name) → item_of inputs groups order output name ≡ assign name (output_value nat_eq (named inputs pairs) output)
  item_named output name = λ j. assign name (selection (low_named output j) (width_named output j) (group_named output j))

  -- the items are those of the matrix
  pub items_named : (outputs : List Name) → map (λ (output : ℕ × Name). item_of inputs groups order output.0 output.1) (numbered_outputs outputs)
      ≡ map (λ (output : ℕ × Name). assign output.1 (output_value nat_eq (named inputs pairs) output.0)) (numbered_outputs outputs)
  items_named outputs = λ j. map (λ (output : ℕ × Name). item_named output.0 output.1 j) (numbered_outputs outputs)
