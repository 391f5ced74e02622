-- Outputs grouped by input.
use Rattle.std.proofs.Common.{◌≡◌, ℕ, zero, suc, ◌+◌, ◌<◌, Bool, true, false, cond, List, [], ◌∷◌, ◌++◌, Vec, length, map, filter, get_or, set, take, All, refl, sym, ap, subst, ◌∙◌, inl, inr, nat_eq, arith}
use Rattle.std.proofs.lemmas.Bool.{cases_Bool}
use Rattle.std.proofs.lemmas.Bool.Decides.{eqb_tells, Decides-eqb}
use Rattle.std.proofs.lemmas.List.{map-append, map-set, take_more, length-map, get_or-set_same, get_or-set_other, append-nil, ext_get_or, get_or_default}
use Rattle.std.proofs.lemmas.List.Elements.{filter-append, All-map}
use Rattle.indexmap.specs.IndexSet.{insert_key}
use Rattle.fab_select.specs.declared.pair.Pair.{Pair}
use Rattle.fab_select.specs.Selection.{firsts}
use Rattle.fab_select.proofs.Firsts.{firsts_push}
use Rattle.fab_model.specs.Tiles.{PlainTile, IsTile, counted, matrix_names, is_matrix_output}
use Rattle.fab_bits.specs.Keys.{group_at}
use Rattle.fab_netlist.specs.Plain.{IsAt}
use Rattle.fab_netlist.proofs.Counts.{at_mapped}
use Rattle.fab_ways_laws.specs.Edges.{outputs_of, swapped, turned_pairs}
use Rattle.fab_fabric.proofs.Pairs.{inputs_named, passes_named}
use Rattle.fab_graph.specs.declared.outputs.Outputs.{Outputs}
use Rattle.fab_graph.specs.inner.Outputs.{plain_groups, type_outputs, plain_outputs, HaveOutputs}

-- one pair more
pub outputs_push : (pairs : List Pair) (pair : Pair) (input : ℕ) →
    outputs_of (pairs ++ pair ∷ []) input ≡ cond (nat_eq pair.input input) (insert_key nat_eq (outputs_of pairs input) pair.output) (outputs_of pairs input)
outputs_push pairs pair input =
    let test : Pair → Bool = λ p. nat_eq p.input input in
    let second : Pair → ℕ = λ p. p.output in
    ap (λ ps. firsts nat_eq (map second ps)) (filter-append test pairs (pair ∷ []))
    ∙ ap (firsts nat_eq) (map-append second (filter test pairs) (filter test (pair ∷ [])))
    ∙ elim (cases_Bool (nat_eq pair.input input)) [
      | inl t ↦ rw t (firsts_push nat_eq Decides-eqb (map second (filter test pairs)) pair.output)
      | inr f ↦ rw f (ap (firsts nat_eq) (append-nil (map second (filter test pairs))))
    ]

-- the groups after a pair
pub groups_more : {A : Type 0} (groups : List (Vec ℕ A)) (new : Vec ℕ A) (pairs : List Pair) (i : ℕ) (d : Pair) → i < length pairs →
    (get_or pairs i d).input < length groups → new.items ≡ insert_key nat_eq (group_at groups (get_or pairs i d).input) (get_or pairs i d).output →
    ((input : ℕ) → group_at groups input ≡ outputs_of (take i pairs) input) →
    (input : ℕ) → group_at (set groups (get_or pairs i d).input new) input ≡ outputs_of (take (i + 1) pairs) input
groups_more {A} groups new pairs i d in_pairs within is so_far input =
    let pair = get_or pairs i d in
    let before = take i pairs in
    let items : Vec ℕ A → List ℕ = λ group. group.items in
    let long : pair.input < length (map items groups) = rw length-map within in
    let more : outputs_of (take (i + 1) pairs) input ≡ cond (nat_eq pair.input input) (insert_key nat_eq (outputs_of before input) pair.output) (outputs_of before input) =
    ap (λ ps. outputs_of ps input) (take_more pairs i d in_pairs) ∙ outputs_push before pair input in
    ap (λ lists. get_or lists input []) (map-set items groups pair.input new)
    ∙ elim (eqb_tells pair.input input) [
      | inl t ↦ (
          ap (λ k. get_or (set (map items groups) pair.input new.items) k []) (sym t.1)
          ∙ get_or-set_same (map items groups) pair.input new.items [] long
          ∙ is
          ∙ ap (λ front. insert_key nat_eq front pair.output) (so_far pair.input ∙ ap (outputs_of before) t.1)
          ∙ sym (ap (λ b. cond b (insert_key nat_eq (outputs_of before input) pair.output) (outputs_of before input)) t.0)
          ∙ sym more)
      | inr f ↦ (
          get_or-set_other (map items groups) pair.input input new.items [] (λ e. f.1 (sym e))
          ∙ so_far input
          ∙ sym (more ∙ rw f.0 refl))
    ]

-- ---- counted lists

pub length_counted : {X : Type 0} (n : ℕ) (f : ℕ → X) → length (counted n f) ≡ n
unfolding counted
length_counted zero f = refl
length_counted (suc n) f = ap suc (length_counted n (λ i. f (suc i)))

pub get_or_counted : {X : Type 0} (n : ℕ) (f : ℕ → X) (i : ℕ) (d : X) → i < n → get_or (counted n f) i d ≡ f i
unfolding counted
get_or_counted zero f i d low = absurd (omega (arith, low))
get_or_counted (suc n) f zero d low = refl
get_or_counted (suc n) f (suc i) d low = get_or_counted n (λ j. f (suc j)) i d (omega (arith, low))

-- a table from its groups
pub table_is : {A : Type 0} (groups : List (Vec ℕ A)) (turned : Bool) (tile : PlainTile) (pairs : List Pair) (n : ℕ) → length groups ≡ n → ((input : ℕ) → group_at groups input ≡ outputs_of pairs input) →
    n ≡ length (matrix_names tile) → pairs ≡ turned_pairs turned tile.pairs → plain_groups groups ≡ type_outputs turned tile
table_is {A} groups turned tile pairs n many grouped names pairs_are =
    let items : Vec ℕ A → List ℕ = λ group. group.items in
    ext_get_or [] (plain_groups groups) (type_outputs turned tile) (length-map groups items ∙ many ∙ names ∙ sym (length_counted (length (matrix_names tile)) (outputs_of (turned_pairs turned tile.pairs))))
    (λ i inside. grouped i ∙ ap (λ ps. outputs_of ps i) pairs_are
    ∙ sym (get_or_counted (length (matrix_names tile)) (outputs_of (turned_pairs turned tile.pairs)) i [] (omega (arith, inside, length-map groups items, many, names))))

-- ---- the table of a type

pub tables_inside : (turned : Bool) (types : List PlainTile) (tables : List Outputs) (number : ℕ) → HaveOutputs turned types tables → number < length types → number < length tables
tables_inside turned types tables number have few =
    omega (arith, few, ap (λ (l : List (List (List ℕ))). length l) have, length-map tables plain_outputs, length-map types (type_outputs turned))

pub table_there : (turned : Bool) (types : List PlainTile) (tables : List Outputs) (number : ℕ) (table : Outputs) (tile : PlainTile) → HaveOutputs turned types tables → IsAt types number tile → table ≡ get_or tables number table →
    plain_outputs table ≡ type_outputs turned tile
table_there turned types tables number table tile have at read =
    let first = at_mapped plain_outputs tables number table (tables_inside turned types tables number have at.0, sym read) in
    let second = at_mapped (type_outputs turned) types number tile at in
    sym first.1 ∙ ap (λ (l : List (List (List ℕ))). get_or l number (plain_outputs table)) have
    ∙ get_or_default (map (type_outputs turned) types) number (plain_outputs table) (type_outputs turned tile) second.0 ∙ second.1

pub inputs_of_table : (turned : Bool) (table : Outputs) (tile : PlainTile) → plain_outputs table ≡ type_outputs turned tile → length table.groups.items ≡ length (matrix_names tile)
inputs_of_table turned table tile is =
    sym (length-map table.groups.items (λ (g : Vec ℕ _). g.items)) ∙ ap (λ (l : List (List ℕ)). length l) is ∙ length_counted (length (matrix_names tile)) (outputs_of (turned_pairs turned tile.pairs))

pub group_there : {A : Type 0} (turned : Bool) (groups : List (Vec ℕ A)) (tile : PlainTile) (input : ℕ) (group : Vec ℕ A) → plain_groups groups ≡ type_outputs turned tile → input < length groups →
    input < length (matrix_names tile) → group ≡ get_or groups input group → group.items ≡ outputs_of (turned_pairs turned tile.pairs) input
group_there {A} turned groups tile input group is inside few read =
    let at = at_mapped (λ (g : Vec ℕ A). g.items) groups input group (inside, sym read) in
    sym at.1 ∙ ap (λ (l : List (List ℕ)). get_or l input group.items) is ∙ get_or_counted (length (matrix_names tile)) (outputs_of (turned_pairs turned tile.pairs)) input group.items few

-- turned pairs lead between wires of the tile
pub turned_named : (turned : Bool) (tile : PlainTile) (pairs : List Pair) (n : ℕ) → IsTile tile → n ≡ length (matrix_names tile) → pairs ≡ turned_pairs turned tile.pairs → All (λ pair. pair.input < n) pairs
turned_named turned tile pairs n is names are =
    subst (λ (ps : List Pair). All (λ pair. pair.input < n) ps) (sym are) (each turned)
  where
    each : (t : Bool) → All (λ (pair : Pair). pair.input < n) (turned_pairs t tile.pairs)
    each false = λ k d inside. omega (arith, inputs_named tile is k d inside, names)
    each true = All-map (λ (pair : Pair). pair.input < n) swapped tile.pairs (λ k d inside. omega (arith, passes_named is_matrix_output tile (get_or tile.pairs k d).output (is.pairs k d inside).output, names))
