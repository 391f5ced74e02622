-- The module of a list of pairs, by numbers and by names.
use Rattle.std.proofs.Common.{◌≡◌, ◌≢◌, ℕ, suc, ◌+◌, ◌<◌, true, false, List, [], ◌∷◌, map, length, refl, sym, ap, ◌∙◌, subst, subst₂, inl, inr, arith, All, Contains, nat_eq, zero-add}
use Rattle.std.specs.List.{enumerate_from, IsDistinct, list_any}
use Rattle.std.specs.Str.{bytes_eq}
use Rattle.std.proofs.lemmas.Bool.{cases_lt, false≢true}
use Rattle.std.proofs.lemmas.Bool.Decides.{eqb_tells}
use Rattle.std.proofs.lemmas.List.{get_or-map, length-map}
use Rattle.std.proofs.lemmas.List.FromFn.{length-enumerate_from, get_or-enumerate_from}
use Rattle.std.proofs.lemmas.List.Elements.{All-map, All-weaker}
use Rattle.std.proofs.lemmas.Map.Keys.{apart_from_distinct}
use Rattle.std.proofs.lemmas.Slice.Eq.{bytes_eq-Decides}
use Rattle.indexmap.proofs.CallerLemmas.{Contains-list_any}
use Rattle.fab_select.specs.declared.pair.Pair.{Pair}
use Rattle.fab_matrix.specs.Names.{Name}
use Rattle.fab_meaning.specs.Ports.{config_name}
use Rattle.fab_matrix.specs.Matrix.{matrix, numbered_outputs, named, list_inputs, list_outputs, list_matrix}
use Rattle.fab_matrix.specs.Selects.{Selects}
use Rattle.fab_matrix.specs.inner.Grouped.{name_at}
use Rattle.fab_matrix.specs.inner.Numbering.{AreNumbersOf}
use Rattle.fab_select.proofs.Firsts.{told, same_itself, firsts_all, firsts_hold, firsts_distinct}
use Rattle.fab_matrix.proofs.Renamed.{matrix_renamed}
use Rattle.fab_matrix.proofs.Selecting.{matrix_selects}

-- what holds of the images
pub All-of_map : {X Y : Type 0} (P : Y → Type 0) (f : X → Y) (xs : List X) → All P (map f xs) → All (λ x. P (f x)) xs
All-of_map P f xs all k d within =
    let long : k < length (map f xs) = rw length-map within in
    subst P (get_or-map f xs k d (f d) within) (all k (f d) long)

-- places of names that come once are equal exactly where the names are
same_names : (names : List Name) → IsDistinct bytes_eq names → (a b : ℕ) → a < length names → b < length names → bytes_eq (name_at names a) (name_at names b) ≡ nat_eq a b
same_names names once a b in_a in_b =
    elim (eqb_tells a b) [
      | inl t ↦ rw t.0 (ap (λ k. bytes_eq (name_at names a) (name_at names k)) (sym t.1) ∙ same_itself bytes_eq bytes_eq-Decides (name_at names a))
      | inr f ↦ rw f.0 (elim (cases_lt a b) [
        | inl l ↦ apart_from_distinct bytes_eq names a b [] once l in_b
        | inr g ↦ (
            let below : b < a = omega arith in
            let apart : bytes_eq (name_at names b) (name_at names a) ≡ false = apart_from_distinct bytes_eq names b a [] once below in_a in
            elim (told bytes_eq bytes_eq-Decides (name_at names a) (name_at names b)) [
              | inl t ↦ absurd (false≢true (sym apart ∙ (bytes_eq-Decides (name_at names b) (name_at names a)).1 (sym t.1)))
              | inr h ↦ h.0
            ])
      ])
    ]

-- the other key and the same name
abbrev by_name : (outputs : List Name) → ℕ × Name → Name × Name
by_name outputs pair = (name_at outputs pair.0, pair.1)

-- a list of pairs from its two columns
pairs_joined : (outputs inputs : List Name) (numbers : List Pair) (pairs : List (Name × Name)) →
    map (name_at outputs) (map (λ (pair : Pair). pair.output) numbers) ≡ map (λ (pair : Name × Name). pair.0) pairs →
    map (name_at inputs) (map (λ (pair : Pair). pair.input) numbers) ≡ map (λ (pair : Name × Name). pair.1) pairs →
    map (by_name outputs) (named inputs numbers) ≡ pairs
pairs_joined outputs inputs [] [] first second = refl
pairs_joined outputs inputs [] (pair ∷ pairs) first second = cc
pairs_joined outputs inputs (number ∷ numbers) [] first second = cc
pairs_joined outputs inputs (number ∷ numbers) (pair ∷ pairs) first second =
    let first_rest : map (name_at outputs) (map (λ (p : Pair). p.output) numbers) ≡ map (λ (p : Name × Name). p.0) pairs = cc in
    let second_rest : map (name_at inputs) (map (λ (p : Pair). p.input) numbers) ≡ map (λ (p : Name × Name). p.1) pairs = cc in
    let first_here : name_at outputs number.output ≡ pair.0 = cc in
    let second_here : name_at inputs number.input ≡ pair.1 = cc in
    let rest : map (by_name outputs) (named inputs numbers) ≡ pairs = pairs_joined outputs inputs numbers pairs first_rest second_rest in
    λ j. (first_here j, second_here j) ∷ rest j

-- numbered names with their names as keys
names_as_keys : (whole names : List Name) (n : ℕ) → ((k : ℕ) → k < length names → name_at whole (n + k) ≡ name_at names k) →
    map (by_name whole) (enumerate_from n names) ≡ map (λ (name : Name). (name, name)) names
names_as_keys whole [] n within = refl
names_as_keys whole (name ∷ names) n within =
    let at_n : n + 0 ≡ n = omega arith in
    let here : name_at whole n ≡ name = ap (name_at whole) (sym at_n) ∙ within 0 (omega arith) in
    let rest : map (by_name whole) (enumerate_from (n + 1) names) ≡ map (λ (x : Name). (x, x)) names =
    names_as_keys whole names (n + 1) (λ k l. (let moved : n + 1 + k ≡ n + suc k = omega arith in ap (name_at whole) moved ∙ within (suc k) (omega arith))) in
    λ j. (here j, name) ∷ rest j

numbers_below : (n : ℕ) (names : List Name) → All (λ (output : ℕ × Name). output.0 < n + length names) (enumerate_from n names)
numbers_below n names k d l =
    let within : k < length names = omega (arith, length-enumerate_from n names) in
    rw (ap (λ (p : ℕ × Name). p.0) (get_or-enumerate_from n names k d within)) (omega arith)

-- the module by numbers is that by names
pub list_by_numbers : (name : Name) (pairs : List (Name × Name)) (outputs inputs : List Name) (numbers : List Pair) →
    AreNumbersOf (map (λ pair. pair.0) pairs) outputs (map (λ pair. pair.output) numbers) → AreNumbersOf (map (λ pair. pair.1) pairs) inputs (map (λ pair. pair.input) numbers) →
    matrix nat_eq name inputs (numbered_outputs outputs) (named inputs numbers) ≡ list_matrix name pairs
list_by_numbers name pairs outputs inputs numbers by_output by_input =
    let P : ℕ → Type 0 = λ k. k < length outputs in
    let once : IsDistinct bytes_eq outputs = subst (IsDistinct bytes_eq) (sym by_output.order) (firsts_distinct bytes_eq bytes_eq-Decides (map (λ (pair : Name × Name). pair.0) pairs)) in
    let keys : All (λ (pair : ℕ × Name). P pair.0) (named inputs numbers) =
    All-map (λ (pair : ℕ × Name). P pair.0) (λ (pair : Pair). (pair.output, name_at inputs pair.input)) numbers
    (All-of_map P (λ (pair : Pair). pair.output) numbers by_output.within) in
    let each : All (λ (output : ℕ × Name). P output.0) (numbered_outputs outputs) =
    subst (λ (n : ℕ). All (λ (output : ℕ × Name). output.0 < n) (numbered_outputs outputs)) (zero-add (length outputs)) (numbers_below 0 outputs) in
    let all_outputs : map (by_name outputs) (numbered_outputs outputs) ≡ list_outputs pairs =
    names_as_keys outputs outputs 0 (λ k l. ap (name_at outputs) (zero-add k)) ∙ ap (map (λ (output : Name). (output, output))) by_output.order in
    let all_pairs : map (by_name outputs) (named inputs numbers) ≡ pairs = pairs_joined outputs inputs numbers pairs by_output.same by_input.same in
    sym (matrix_renamed P nat_eq bytes_eq (name_at outputs) (same_names outputs once) (named inputs numbers) keys name inputs (numbered_outputs outputs) each)
    ∙ (λ j. matrix bytes_eq name (by_input.order j) (all_outputs j) (all_pairs j))

-- the module of a list selects
pub list_selects : (name : Name) (pairs : List (Name × Name)) → All (λ pair. pair.1 ≢ config_name) pairs → Selects bytes_eq (list_matrix name pairs) (list_outputs pairs) pairs
list_selects name pairs apart =
    let inputs = map (λ (pair : Name × Name). pair.1) pairs in
    let others : All (λ input. input ≢ config_name) (list_inputs pairs) =
    firsts_all (λ input. input ≢ config_name) bytes_eq inputs (All-map (λ (input : Name). input ≢ config_name) (λ (pair : Name × Name). pair.1) pairs apart) in
    let there : All (Contains (list_inputs pairs)) inputs =
    All-weaker (λ input. list_any (bytes_eq input) (list_inputs pairs) ≡ true) (Contains (list_inputs pairs))
    (λ input found. Contains-list_any bytes_eq (λ a b. (bytes_eq-Decides a b).0) (list_inputs pairs) input found) inputs
    (firsts_hold bytes_eq bytes_eq-Decides inputs) in
    matrix_selects bytes_eq bytes_eq-Decides name (list_inputs pairs) (list_outputs pairs) pairs others
    (All-of_map (Contains (list_inputs pairs)) (λ (pair : Name × Name). pair.1) pairs there)

-- the same numbering of equal keys and numbers
pub numbered_at : (names keys other_keys : List Name) (f : Pair → ℕ) (numbers other_numbers : List Pair) → other_keys ≡ keys → other_numbers ≡ numbers →
    AreNumbersOf names keys (map f numbers) → AreNumbersOf names other_keys (map f other_numbers)
numbered_at names keys other_keys f numbers other_numbers same_keys same_numbers h =
    subst₂ (λ ks ns. AreNumbersOf names ks (map f ns)) (sym same_keys) (sym same_numbers) h
