-- A line of a file is one statement of its models, since the lines of models ascend. So an instance at a line has one name.
use Rattle.std.proofs.Common.{◌≡◌, ℕ, zero, suc, ◌<◌, List, [], ◌∷◌, ◌++◌, map, get_or, Contains, refl, sym, ap, subst, ◌∙◌, arith}
use Rattle.std.specs.List.{All, AllPairs}
use Rattle.std.proofs.lemmas.List.{get_or-map, length-map}
use Rattle.std.proofs.lemmas.List.Elements.{All-contains, Contains-append_left, Contains-append_right, Contains-get_or}
use Rattle.fab_blif_models.specs.Plain.{PlainModel, PlainStatement, instance}
use Rattle.fab_blif_models.specs.Rules.{line_numbers}
use Rattle.fab_instances.specs.Order.{IsInstanceLine}
use Rattle.fab_instances.specs.Places.{statements_of}

-- ---- numbers that ascend

-- each number is below those after it
abbrev pub Ascend : List ℕ → Type 0
Ascend [] = Unit {0}
Ascend (first ∷ rest) = All (λ other. first < other) rest × Ascend rest

pub ascend : (numbers : List ℕ) → AllPairs (λ before after. before < after) numbers → Ascend numbers
ascend [] pairs = tt
ascend (first ∷ rest) pairs = (
  λ k d within. pairs zero (suc k) d (omega arith) (omega arith),
  ascend rest (λ i j d less within. pairs (suc i) (suc j) d (omega arith) (omega arith)),
)

front_ascends : (front back : List ℕ) → Ascend (front ++ back) → Ascend front
front_ascends [] back all = tt
front_ascends (first ∷ front) back all = (
  λ k d within. All-contains (λ other. first < other) (front ++ back) (get_or front k d) all.0 (Contains-append_left front back (get_or front k d) (Contains-get_or front k d within)),
  front_ascends front back all.1,
)

back_ascends : (front back : List ℕ) → Ascend (front ++ back) → Ascend back
back_ascends [] back all = all
back_ascends (first ∷ front) back all = back_ascends front back all.1

across : (front back : List ℕ) → Ascend (front ++ back) → (a b : ℕ) → Contains front a → Contains back b → a < b
across [] back all a b in_front in_back = absurd (omega (arith, in_front.1))
across (first ∷ front) back all a b (zero, within, is) in_back =
    subst (λ n. n < b) is (All-contains (λ other. first < other) (front ++ back) b all.0 (Contains-append_right front back b in_back))
across (first ∷ front) back all a b (suc k, within, is) in_back = across front back all.1 a b (k, omega (arith, within), is) in_back

-- ---- statements of one model

line_of : PlainStatement → ℕ
line_of statement = statement.line

abbrev lines_of : List PlainStatement → List ℕ
lines_of statements = map (λ statement. statement.line) statements

line_there : (statements : List PlainStatement) (statement : PlainStatement) → Contains statements statement → Contains (lines_of statements) statement.line
line_there statements statement there = (
  there.0,
  omega (arith, there.1, length-map statements (λ (s : PlainStatement). s.line)),
  get_or-map (λ (s : PlainStatement). s.line) statements there.0 statement statement.line there.1 ∙ ap (λ (s : PlainStatement). s.line) there.2,
)

one_statement : (statements : List PlainStatement) → Ascend (lines_of statements) → (a b : PlainStatement) → Contains statements a → Contains statements b → a.line ≡ b.line → a ≡ b
one_statement [] all a b in_a in_b same = absurd (omega (arith, in_a.1))
one_statement (first ∷ rest) all a b (zero, within, is) (zero, inside, also) same = sym is ∙ also
one_statement (first ∷ rest) all a b (zero, within, is) (suc k, inside, also) same =
    let later : first.line < b.line = All-contains (λ other. first.line < other) (lines_of rest) b.line all.0 (line_there rest b (k, omega (arith, inside), also)) in
    absurd (omega (arith, later, same, ap (λ (s : PlainStatement). s.line) is))
one_statement (first ∷ rest) all a b (suc k, within, is) (zero, inside, also) same =
    let later : first.line < a.line = All-contains (λ other. first.line < other) (lines_of rest) a.line all.0 (line_there rest a (k, omega (arith, within), is)) in
    absurd (omega (arith, later, same, ap (λ (s : PlainStatement). s.line) also))
one_statement (first ∷ rest) all a b (suc k, within, is) (suc l, inside, also) same =
    one_statement rest all.1 a b (k, omega (arith, within), is) (l, omega (arith, inside), also) same

-- ---- statements of models

-- the lines of a model
abbrev lines_in : PlainModel → List ℕ
lines_in model = model.line ∷ lines_of model.statements

in_model : (model : PlainModel) (statement : PlainStatement) → Contains model.statements statement → Contains (lines_in model) statement.line
in_model model statement there =
    let line = line_there model.statements statement there in
    (suc line.0, omega (arith, line.1), line.2)

in_models : (models : List PlainModel) (place : ℕ) (statement : PlainStatement) → Contains (statements_of models place) statement → Contains (line_numbers models) statement.line
in_models [] place statement there = absurd (omega (arith, there.1))
in_models (model ∷ rest) zero statement there = Contains-append_left (lines_in model) (line_numbers rest) statement.line (in_model model statement there)
in_models (model ∷ rest) (suc place) statement there = Contains-append_right (lines_in model) (line_numbers rest) statement.line (in_models rest place statement there)

one_of_models : (models : List PlainModel) → Ascend (line_numbers models) → (p q : ℕ) (a b : PlainStatement)
    → Contains (statements_of models p) a → Contains (statements_of models q) b → a.line ≡ b.line → a ≡ b
one_of_models [] all p q a b in_a in_b same = absurd (omega (arith, in_a.1))
one_of_models (model ∷ rest) all zero zero a b in_a in_b same =
    one_statement model.statements (front_ascends (lines_in model) (line_numbers rest) all).1 a b in_a in_b same
one_of_models (model ∷ rest) all zero (suc q) a b in_a in_b same =
    absurd (omega (arith, same, across (lines_in model) (line_numbers rest) all a.line b.line (in_model model a in_a) (in_models rest q b in_b)))
one_of_models (model ∷ rest) all (suc p) zero a b in_a in_b same =
    absurd (omega (arith, same, across (lines_in model) (line_numbers rest) all b.line a.line (in_model model b in_b) (in_models rest p a in_a)))
one_of_models (model ∷ rest) all (suc p) (suc q) a b in_a in_b same = one_of_models rest (back_ascends (lines_in model) (line_numbers rest) all) p q a b in_a in_b same

-- the instance at a line has one name
pub one_name : (models : List PlainModel) → Ascend (line_numbers models) → (line : ℕ) (name other : List ℕ) (words more : List (List ℕ)) (p q : ℕ)
    → IsInstanceLine models line name words p → IsInstanceLine models line other more q → name ≡ other
one_name models all line name other words more p q x y =
    let a : PlainStatement = record { line = line; body = instance name words } in
    let b : PlainStatement = record { line = line; body = instance other more } in
    let same : a ≡ b = one_of_models models all p q a b x.1 y.1 refl in
    let body = ap (λ (s : PlainStatement). s.body) same in
    cc
