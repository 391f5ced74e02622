-- What a driver gives its point depends on what it reads alone.
use Rattle.std.proofs.Common.{◌≡◌, ℕ, ◌+◌, ◌<◌, lt-ltb, ltb-true, Bool, true, not, ◌||◌, List, [], ◌∷◌, ◌++◌, map, slice_range, if◌then◌else◌, eqb-true, refl, sym, ap, ap₂, ◌∙◌, arith}
use Rattle.std.specs.Str.{bytes_eq}
use Rattle.std.specs.Cmp.Lexicographic.{pointwise_decides}
use Rattle.std.proofs.lemmas.Bool.{and_parts, or_left, or_right}
use Rattle.std.proofs.lemmas.Bool.Decides.{eqb_tells}
use Rattle.std.proofs.lemmas.Slice.Eq.{bytes_eq-Decides}
use Rattle.fab_bits.specs.Bits.{number}
use Rattle.fab_bits.proofs.Numbers.{first_bits_same}
use Rattle.fab_syntax.specs.Plain.{PlainExpr, PlainExprs, constant, variable, pick, part, concatenation, complement, operation, conditional, none, more, PlainModule}
use Rattle.fab_meaning.specs.Value.{value, concatenated, operated, bit_at}
use Rattle.fab_syntax.specs.Declarations.{width_in}
use Rattle.fab_meaning.specs.Points.{Path, Point, point, Driver, outside, copy, bit_of, flop, hold, module_at}
use Rattle.fab_meaning.specs.Settled.{Assignment, names_at, shown}
use Rattle.fab_meaning.specs.Runs.{clock_of, is_clock, kept}
use Rattle.fab_meaning.specs.Reads.{mentions, some_mentions, same_path, same_point, expression_reads, reads, next_reads}

pub same_name : (name : List ℕ) → bytes_eq name name ≡ true
same_name name = (bytes_eq-Decides name name).1 refl

pub same_path_refl : (path : Path) → same_path path path ≡ true
same_path_refl path = (pointwise_decides bytes_eq-Decides path path).1 refl

pub same_point_refl : (p : Point) → same_point p p ≡ true
same_point_refl p = rw (same_path_refl p.path, same_name p.name) (grind (arith, eqb_tells p.bit p.bit))

-- points that the test finds the same are the same
pub same_point_is : (p q : Point) → same_point p q ≡ true → p ≡ q
same_point_is p q h =
    let both = and_parts (same_path p.path q.path) _ h in
    let parts = and_parts (bytes_eq p.name q.name) _ both.1 in
    let paths : p.path ≡ q.path = (pointwise_decides bytes_eq-Decides p.path q.path).0 both.0 in
    let names : p.name ≡ q.name = (bytes_eq-Decides p.name q.name).0 parts.0 in
    let bits : p.bit ≡ q.bit = eqb-true p.bit q.bit parts.1 in
    ap (λ x. point x p.name p.bit) paths ∙ ap (λ x. point q.path x p.bit) names ∙ ap (point q.path q.name) bits

-- names that have the same bits wherever an expression mentions them give it the same value
module _ (f g : List ℕ → List Bool) where
  mutual
    pub value_same : (e : PlainExpr) → ((name : List ℕ) → mentions e name ≡ true → f name ≡ g name) → value f e ≡ value g e
    value_same (constant bits) h = refl
    value_same (variable name) h = h name (same_name name)
    value_same (pick name index) h =
        let a : f name ≡ g name = h name (or_left (bytes_eq name name) (mentions index name) (same_name name)) in
        let b : value f index ≡ value g index = value_same index (λ x m. h x (or_right (bytes_eq name x) (mentions index x) m)) in
        ap₂ (λ xs ys. bit_at xs (number ys) ∷ []) a b
    value_same (part name high low) h = ap (λ xs. slice_range xs low (high + 1)) (h name (same_name name))
    value_same (concatenation parts) h = concatenated_same parts h
    value_same (complement e) h = ap (map not) (value_same e h)
    value_same (operation op a b) h =
        ap₂ (operated op) (value_same a (λ x m. h x (or_left (mentions a x) (mentions b x) m))) (value_same b (λ x m. h x (or_right (mentions a x) (mentions b x) m)))
    value_same (conditional c a b) h =
        let test : value f c ≡ value g c = value_same c (λ x m. h x (or_left (mentions c x) (mentions a x || mentions b x) m)) in
        let yes : value f a ≡ value g a = value_same a (λ x m. h x (or_right (mentions c x) (mentions a x || mentions b x) (or_left (mentions a x) (mentions b x) m))) in
        let other : value f b ≡ value g b = value_same b (λ x m. h x (or_right (mentions c x) (mentions a x || mentions b x) (or_right (mentions a x) (mentions b x) m))) in
        cc

    pub concatenated_same : (parts : PlainExprs) → ((name : List ℕ) → some_mentions parts name ≡ true → f name ≡ g name) → concatenated f parts ≡ concatenated g parts
    concatenated_same none h = refl
    concatenated_same (more e rest) h =
        ap₂ (λ xs ys. xs ++ ys)
        (concatenated_same rest (λ x m. h x (or_right (mentions e x) (some_mentions rest x) m)))
        (value_same e (λ x m. h x (or_left (mentions e x) (some_mentions rest x) m)))

-- an expression has one value under assignments that agree on what it reads
pub expression_same : (text : List PlainModule) (a b : Assignment) (path : Path) (e : PlainExpr) →
    ((q : Point) → expression_reads text path e q ≡ true → a q ≡ b q) → value (names_at text a path) e ≡ value (names_at text b path) e
expression_same text a b path e h =
    value_same (names_at text a path) (names_at text b path) e
    (λ name m. first_bits_same (width_in (module_at text path) name) (λ k. a (point path name k)) (λ k. b (point path name k))
    (λ k l. h (point path name k) (rw (same_path_refl path, m, lt-ltb k (width_in (module_at text path) name) l) refl)))

-- and so has what a driver gives its point
pub shown_same : (text : List PlainModule) (inputs held a b : Assignment) (p : Point) (d : Driver) →
    ((q : Point) → reads text d q ≡ true → a q ≡ b q) → shown text inputs held a p d ≡ shown text inputs held b p d
shown_same text inputs held a b p outside h = refl
shown_same text inputs held a b p (copy other) h = h other (same_point_refl other)
shown_same text inputs held a b p (bit_of path e bit) h = ap (λ bits. bit_at bits bit) (expression_same text a b path e h)
shown_same text inputs held a b p (flop path clock next bit) h = refl
shown_same text inputs held a b p (hold path gate e bit) h =
    let gates : value (names_at text a path) gate ≡ value (names_at text b path) gate =
    expression_same text a b path gate (λ q m. h q (or_left (expression_reads text path gate q) (expression_reads text path e q) m)) in
    let values : value (names_at text a path) e ≡ value (names_at text b path) e =
    expression_same text a b path e (λ q m. h q (or_right (expression_reads text path gate q) (expression_reads text path e q) m)) in
    ap₂ (λ xs ys. if bit_at xs 0 then bit_at ys bit else held p) gates values

-- what a driver keeps at a tick depends on its point and on what a flip-flop reads for its next value
pub kept_same : (text : List PlainModule) (clock : List ℕ) (held a b : Assignment) (p : Point) (d : Driver) → a p ≡ b p →
    ((q : Point) → next_reads text d q ≡ true → a q ≡ b q) → kept text clock held a p d ≡ kept text clock held b p d
kept_same text clock held a b p outside e h = refl
kept_same text clock held a b p (copy other) e h = refl
kept_same text clock held a b p (bit_of path x bit) e h = refl
kept_same text clock held a b p (flop path own next bit) e h =
    ap (λ bits. if is_clock clock (clock_of text path own) then bit_at bits bit else held p) (expression_same text a b path next h)
kept_same text clock held a b p (hold path gate x bit) e h = e

-- a name of one bit reads that bit
pub variable_reads : (text : List PlainModule) (path : Path) (name : List ℕ) (q : Point) → width_in (module_at text path) name ≡ 1 →
    expression_reads text path (variable name) q ≡ true → q ≡ point path name 0
variable_reads text path name q wide h =
    let both = and_parts (same_path path q.path) _ h in
    let parts = and_parts (bytes_eq name q.name) _ both.1 in
    let paths : path ≡ q.path = (pointwise_decides bytes_eq-Decides path q.path).0 both.0 in
    let names : name ≡ q.name = (bytes_eq-Decides name q.name).0 parts.0 in
    let wide_there : width_in (module_at text q.path) q.name ≡ 1 = sym (ap₂ (λ x n. width_in (module_at text x) n) paths names) ∙ wide in
    let below : q.bit < width_in (module_at text q.path) q.name = ltb-true q.bit (width_in (module_at text q.path) q.name) parts.1 in
    let first : q.bit ≡ 0 = omega arith in
    sym (ap (λ x. point x name 0) paths ∙ ap (λ n. point q.path n 0) names ∙ ap (point q.path q.name) (sym first))
