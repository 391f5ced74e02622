-- A matrix whose keys have other names is the same module.
use Rattle.std.proofs.Common.{◌≡◌, ℕ, ◌+◌, Bool, true, false, not, cond, List, [], ◌∷◌, ◌++◌, map, filter, length, refl, sym, ap, ◌∙◌, inl, inr, All, sum_by, take}
use Rattle.std.specs.List.{take_while, prefix_len}
use Rattle.std.proofs.lemmas.Bool.{cases_Bool}
use Rattle.std.proofs.lemmas.List.{take-map}
use Rattle.std.proofs.lemmas.List.Elements.{All-head, All-tail, All-map, All-take}
use Rattle.std.proofs.lemmas.List.Sums.{sum_by-cons}
use Rattle.fab_bits.specs.Widths.{select_width}
use Rattle.fab_syntax.specs.Plain.{assign}
use Rattle.fab_select.specs.Selection.{inputs_of, firsts, in_order, field_width, field_low, select_bits}
use Rattle.fab_matrix.specs.Names.{Name}
use Rattle.fab_meaning.specs.Ports.{scalar, config_port}
use Rattle.fab_matrix.specs.Matrix.{selection, output_value, matrix}
use Rattle.fab_select.proofs.Firsts.{firsts_all}

module _ {K L : Type 0} (P : K → Type 0) (same : K → K → Bool) (other_same : L → L → Bool) (other : K → L)
    (agree : (a b : K) → P a → P b → other_same (other a) (other b) ≡ same a b) where
  -- the other key and the same name
  abbrev pub renamed : K × Name → L × Name
  renamed pair = (other pair.0, pair.1)

  inputs_renamed : (pairs : List (K × Name)) (output : K) → P output → All (λ pair. P pair.0) pairs →
      inputs_of other_same (map renamed pairs) (other output) ≡ inputs_of same pairs output
  inputs_renamed [] output here all = refl
  inputs_renamed (pair ∷ pairs) output here all =
      let rest : inputs_of other_same (map renamed pairs) (other output) ≡ inputs_of same pairs output = inputs_renamed pairs output here (All-tail (λ (p : K × Name). P p.0) pair pairs all) in
      let test : other_same (other pair.0) (other output) ≡ same pair.0 output = agree pair.0 output (All-head (λ (p : K × Name). P p.0) pair pairs all) here in
      elim (cases_Bool (same pair.0 output)) [
        | inl t ↦ rw (test, t) (ap (λ names. pair.1 ∷ names) rest)
        | inr f ↦ rw (test, f) rest
      ]

  filter_renamed : (p : K → Bool) (q : L → Bool) → ((k : K) → P k → q (other k) ≡ p k) → (keys : List K) → All P keys → filter q (map other keys) ≡ map other (filter p keys)
  filter_renamed p q same_test [] all = refl
  filter_renamed p q same_test (key ∷ keys) all =
      let rest : filter q (map other keys) ≡ map other (filter p keys) = filter_renamed p q same_test keys (All-tail P key keys all) in
      let test : q (other key) ≡ p key = same_test key (All-head P key keys all) in
      elim (cases_Bool (p key)) [
        | inl t ↦ rw (test, t) (ap (λ ks. other key ∷ ks) rest)
        | inr f ↦ rw (test, f) rest
      ]

  prefix_renamed : (p : K → Bool) (q : L → Bool) → ((k : K) → P k → q (other k) ≡ p k) → (keys : List K) → All P keys → prefix_len q (map other keys) ≡ prefix_len p keys
  prefix_renamed p q same_test [] all = refl
  prefix_renamed p q same_test (key ∷ keys) all =
      let rest : prefix_len q (map other keys) ≡ prefix_len p keys = prefix_renamed p q same_test keys (All-tail P key keys all) in
      let test : q (other key) ≡ p key = same_test key (All-head P key keys all) in
      λ j. cond (test j) (1 + rest j) 0

  sum_renamed : (f : K → ℕ) (g : L → ℕ) → ((k : K) → P k → g (other k) ≡ f k) → (keys : List K) → All P keys → sum_by g (map other keys) ≡ sum_by f keys
  sum_renamed f g same_size [] all = refl
  sum_renamed f g same_size (key ∷ keys) all =
      let rest : sum_by g (map other keys) ≡ sum_by f keys = sum_renamed f g same_size keys (All-tail P key keys all) in
      let here : g (other key) ≡ f key = same_size key (All-head P key keys all) in
      sum_by-cons g (other key) (map other keys) ∙ (λ j. here j + rest j) ∙ sym (sum_by-cons f key keys)

  firsts_renamed : (keys : List K) → All P keys → firsts other_same (map other keys) ≡ map other (firsts same keys)
  firsts_renamed [] all = refl
  firsts_renamed (key ∷ keys) all =
      let here : P key = All-head P key keys all in
      let q : L → Bool = λ l. not (other_same (other key) l) in
      ap (λ ks. other key ∷ filter q ks) (firsts_renamed keys (All-tail P key keys all))
      ∙ ap (λ ks. other key ∷ ks) (filter_renamed (λ k. not (same key k)) q (λ k there. ap not (agree key k here there)) (firsts same keys)
      (firsts_all P same keys (All-tail P key keys all)))

  map_renamed : {X : Type 0} (f : K × Name → X) (g : L × Name → X) → ((pair : K × Name) → P pair.0 → g (renamed pair) ≡ f pair) → (pairs : List (K × Name)) →
      All (λ pair. P pair.0) pairs → map g (map renamed pairs) ≡ map f pairs
  map_renamed f g same_value [] all = refl
  map_renamed f g same_value (pair ∷ pairs) all =
      let here : g (renamed pair) ≡ f pair = same_value pair (All-head (λ (p : K × Name). P p.0) pair pairs all) in
      let rest : map g (map renamed pairs) ≡ map f pairs = map_renamed f g same_value pairs (All-tail (λ (p : K × Name). P p.0) pair pairs all) in
      λ j. here j ∷ rest j

  keys_renamed : (pairs : List (K × Name)) → map (λ (pair : L × Name). pair.0) (map renamed pairs) ≡ map other (map (λ (pair : K × Name). pair.0) pairs)
  keys_renamed [] = refl
  keys_renamed (pair ∷ pairs) = ap (λ ks. other pair.0 ∷ ks) (keys_renamed pairs)

  module _ (pairs : List (K × Name)) (all : All (λ pair. P pair.0) pairs) where
    keys_all : All P (map (λ (pair : K × Name). pair.0) pairs)
    keys_all = All-map P (λ (pair : K × Name). pair.0) pairs all

    order_all : All P (in_order same pairs)
    order_all = firsts_all P same (map (λ (pair : K × Name). pair.0) pairs) keys_all

    order_renamed : in_order other_same (map renamed pairs) ≡ map other (in_order same pairs)
    order_renamed = ap (firsts other_same) (keys_renamed pairs) ∙ firsts_renamed (map (λ (pair : K × Name). pair.0) pairs) keys_all

    width_renamed : (output : K) → P output → field_width other_same (map renamed pairs) (other output) ≡ field_width same pairs output
    width_renamed output here = ap (λ names. select_width (length names)) (inputs_renamed pairs output here all)

    bits_renamed : select_bits other_same (map renamed pairs) ≡ select_bits same pairs
    bits_renamed =
        ap (sum_by (field_width other_same (map renamed pairs))) order_renamed
        ∙ sum_renamed (field_width same pairs) (field_width other_same (map renamed pairs)) width_renamed (in_order same pairs) order_all

    low_renamed : (output : K) → P output → field_low other_same (map renamed pairs) (other output) ≡ field_low same pairs output
    low_renamed output here =
        let p : K → Bool = λ k. not (same k output) in
        let q : L → Bool = λ l. not (other_same l (other output)) in
        let order = in_order same pairs in
        let widths = field_width other_same (map renamed pairs) in
        let front : take_while q (in_order other_same (map renamed pairs)) ≡ map other (take_while p order) =
        ap (take_while q) order_renamed
        ∙ ap (λ n. take n (map other order)) (prefix_renamed p q (λ k there. ap not (agree k output there here)) order order_all)
        ∙ take-map other (prefix_len p order) order in
        ap (sum_by widths) front
        ∙ sum_renamed (field_width same pairs) widths width_renamed (take_while p order) (All-take P (prefix_len p order) order order_all)

    value_renamed : (output : K) → P output → output_value other_same (map renamed pairs) (other output) ≡ output_value same pairs output
    value_renamed output here = λ j. selection (low_renamed output here j) (width_renamed output here j) (inputs_renamed pairs output here all j)

    -- the same module
    pub matrix_renamed : (name : Name) (inputs : List Name) (outputs : List (K × Name)) → All (λ output. P output.0) outputs →
        matrix other_same name inputs (map renamed outputs) (map renamed pairs) ≡ matrix same name inputs outputs pairs
    matrix_renamed name inputs outputs each =
        let names = map_renamed (λ (o : K × Name). scalar false o.1) (λ (o : L × Name). scalar false o.1) (λ o here. refl) outputs each in
        let items =
        map_renamed (λ (o : K × Name). assign o.1 (output_value same pairs o.0)) (λ (o : L × Name). assign o.1 (output_value other_same (map renamed pairs) o.0))
        (λ o here. ap (assign o.1) (value_renamed o.0 here)) outputs each in
        λ j. record { name = name; ports = map (scalar true) inputs ++ (config_port (bits_renamed j) ++ names j); items = items j }
