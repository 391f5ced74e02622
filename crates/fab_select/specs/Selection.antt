-- How the outputs of a switch matrix select their inputs. Pairs give an output its inputs. Outputs are told apart by a key:
-- a number or a name; `same` tells whether two keys are one.
use Rattle.std.specs.Prelude.{ℕ, Bool, List, [], ◌∷◌, map, filter, not, length, sum_by, take_while}
use Rattle.fab_bits.specs.Widths.{select_width}

-- the inputs of an output, in the order of its pairs
abbrev pub inputs_of : {K X : Type 0} → (same : K → K → Bool) → List (K × X) → (output : K) → List X
inputs_of same pairs output = map (λ pair. pair.1) (filter (λ pair. same pair.0 output) pairs)

-- each item at its first place alone
abbrev pub firsts : {X : Type 0} → (same : X → X → Bool) → List X → List X
firsts same [] = []
firsts same (x ∷ xs) = x ∷ filter (λ y. not (same x y)) (firsts same xs)

-- the outputs in the order of their first pairs
abbrev pub in_order : {K X : Type 0} → (same : K → K → Bool) → List (K × X) → List K
in_order same pairs = firsts same (map (λ pair. pair.0) pairs)

-- how many bits select the input of an output
abbrev pub field_width : {K X : Type 0} → (same : K → K → Bool) → List (K × X) → (output : K) → ℕ
field_width same pairs output = select_width (length (inputs_of same pairs output))

-- where these bits begin: behind those of the outputs before it
abbrev pub field_low : {K X : Type 0} → (same : K → K → Bool) → List (K × X) → (output : K) → ℕ
field_low same pairs output = sum_by (field_width same pairs) (take_while (λ other. not (same other output)) (in_order same pairs))

-- how many select bits there are
abbrev pub select_bits : {K X : Type 0} → (same : K → K → Bool) → List (K × X) → ℕ
select_bits same pairs = sum_by (field_width same pairs) (in_order same pairs)
