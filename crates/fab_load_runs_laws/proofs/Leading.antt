-- The points that flip-flops lead to, told in stages: the least set is the last.
use Rattle.std.proofs.Common.{◌≡◌, ℕ, zero, suc, ◌<◌, Bool, true, false, ◌&&◌, ◌||◌, List, [], ◌∷◌, length, Contains, refl, sym, subst, inl, inr}
use Rattle.std.proofs.lemmas.Bool.{false≢true, and_parts, and_from, or_cases, or_left, or_right}
use Rattle.fab_equations.specs.fab_syntax.specs.Plain.{PlainExpr, PlainModule}
use Rattle.fab_systems_laws.specs.System.{AreListed}
use Rattle.fab_equations.specs.fab_meaning.specs.Points.{Path, Point, Driver, outside, copy, bit_of, flop, hold}
use Rattle.fab_equations.specs.fab_meaning.specs.Reads.{mentions, same_path, is_declared, expression_reads, reads}
use Rattle.fab_equations.specs.fab_meaning.specs.Loading.{IsStreamOf, IsDerived, by_flop, by_stream, by_reads}
use Rattle.fab_equations.specs.fab_meaning.specs.Ranked.{AreDrivenBy}
use Rattle.fab_equations.specs.fab_meaning.proofs.Dependence.{same_point_is}
use Rattle.fab_equations.specs.fab_meaning.proofs.SoundTexts.{contains_first}
use Rattle.fab_load_runs_laws.proofs.Growing.{stage, entry, Grows, comes_before, rests}
use Rattle.fab_load_runs_laws.proofs.Streams.{WithinFor, is_stream, stream_from, stream_to}
use Rattle.fab_load_runs_laws.proofs.Inside.{all_inside, inside_has, inside_from, inside_grows}

-- ---- derived drivers, and what drivers read

abbrev is_derived : Driver → Bool
is_derived outside = false
is_derived (copy other) = true
is_derived (bit_of path e bit) = true
is_derived (flop path clock next bit) = false
is_derived (hold path gate e bit) = true

derived_from : (d : Driver) → is_derived d ≡ true → IsDerived d
derived_from outside h = absurd (false≢true h)
derived_from (copy other) h = tt
derived_from (bit_of path e bit) h = tt
derived_from (flop path clock next bit) h = absurd (false≢true h)
derived_from (hold path gate e bit) h = tt

derived_to : (d : Driver) → IsDerived d → is_derived d ≡ true
derived_to outside derived = absurd derived
derived_to (copy other) derived = refl
derived_to (bit_of path e bit) derived = refl
derived_to (flop path clock next bit) derived = absurd derived
derived_to (hold path gate e bit) derived = refl

-- An expression reads declared points alone. A copy reads one point.
abbrev readable : (points : List Point) → Driver → List Point
readable points (copy other) = other ∷ []
readable points _ = points

pub expression_reads_declared : (text : List PlainModule) (path : Path) (e : PlainExpr) (q : Point) → expression_reads text path e q ≡ true → is_declared text q ≡ true
expression_reads_declared text path e q h =
    let both = and_parts (same_path path q.path) (mentions e q.name && is_declared text q) h in
    (and_parts (mentions e q.name) (is_declared text q) both.1).1

read_points : (text : List PlainModule) (points : List Point) → AreListed (is_declared text) points →
    (d : Driver) (q : Point) → reads text d q ≡ true → Contains (readable points d) q
read_points text points listed outside q h = absurd (false≢true h)
read_points text points listed (copy other) q h = contains_first other q [] (same_point_is other q h)
read_points text points listed (bit_of path e bit) q h = listed q (expression_reads_declared text path e q h)
read_points text points listed (flop path clock next bit) q h = absurd (false≢true h)
read_points text points listed (hold path gate e bit) q h =
    elim (or_cases (expression_reads text path gate q) (expression_reads text path e q) h) [
      | inl g ↦ listed q (expression_reads_declared text path gate q g)
      | inr v ↦ listed q (expression_reads_declared text path e q v)
    ]

-- ---- stages

abbrev begins : List PlainModule → (names : List (List ℕ)) → (flops : Point → Bool) → Point → Bool
begins text names flops p = flops p || is_stream text names p

abbrev inside : List PlainModule → (points : List Point) → (some : Point → Bool) → Driver → Bool
inside text points some d = all_inside (reads text d) some (readable points d)

abbrev follows : List PlainModule → (points : List Point) → (some : Point → Bool) → Driver → Bool
follows text points some d = is_derived d && inside text points some d

-- what is in the set when these points are
abbrev pub leads : List PlainModule → (names : List (List ℕ)) → (points : List Point) → (driver : Point → Driver) → (flops some : Point → Bool) → Point → Bool
leads text names points driver flops some p = is_declared text p && (begins text names flops p || follows text points some (driver p))

-- the set
abbrev pub led : List PlainModule → (names : List (List ℕ)) → (points : List Point) → (driver : Point → Driver) → (flops : Point → Bool) → Point → Bool
led text names points driver flops = stage (leads text names points driver flops) (length points)

module _ (text : List PlainModule) (names : List (List ℕ)) (points : List Point) (listed : AreListed (is_declared text) points)
    (driver : Point → Driver) (driven : AreDrivenBy text (is_declared text) driver) (flops : Point → Bool) where
  abbrev step : (Point → Bool) → Point → Bool
  step = leads text names points driver flops

  step_parts : (some : Point → Bool) (p : Point) → step some p ≡ true →
      (is_declared text p ≡ true) × ((begins text names flops p || follows text points some (driver p)) ≡ true)
  step_parts some p h = and_parts (is_declared text p) (begins text names flops p || follows text points some (driver p)) h

  step_begins : (some : Point → Bool) (p : Point) → is_declared text p ≡ true → begins text names flops p ≡ true → step some p ≡ true
  step_begins some p declared b =
      and_from (is_declared text p) (begins text names flops p || follows text points some (driver p)) declared
      (or_left (begins text names flops p) (follows text points some (driver p)) b)

  step_follows : (some : Point → Bool) (p : Point) → is_declared text p ≡ true → is_derived (driver p) ≡ true → inside text points some (driver p) ≡ true → step some p ≡ true
  step_follows some p declared derived reading =
      and_from (is_declared text p) (begins text names flops p || follows text points some (driver p)) declared
      (or_right (begins text names flops p) (follows text points some (driver p))
      (and_from (is_derived (driver p)) (inside text points some (driver p)) derived reading))

  inside_reads : (some : Point → Bool) (d : Driver) → inside text points some d ≡ true → (q : Point) → reads text d q ≡ true → some q ≡ true
  inside_reads some d h q r = inside_has (reads text d) some (readable points d) h q (read_points text points listed d q r) r

  pub step_grows : Grows step
  step_grows some all part p h =
      let parts = step_parts some p h in
      elim (or_cases (begins text names flops p) (follows text points some (driver p)) parts.1) [
        | inl b ↦ step_begins all p parts.0 b
        | inr f ↦ (let both = and_parts (is_derived (driver p)) (inside text points some (driver p)) f in
            step_follows all p parts.0 both.0 (inside_grows (reads text (driver p)) some all (readable points (driver p)) part both.1))
      ]

  step_listed : (some : Point → Bool) (p : Point) → step some p ≡ true → Contains points p
  step_listed some p h = listed p (step_parts some p h).0

  -- each stage is part of the least set
  stage_within : (k : ℕ) (p : Point) → stage step k p ≡ true → WithinFor text names flops p
  stage_within zero p h = absurd (false≢true h)
  stage_within (suc k) p h =
      let parts = step_parts (stage step k) p h in
      elim (or_cases (begins text names flops p) (follows text points (stage step k) (driver p)) parts.1) [
        | inl b ↦ elim (or_cases (flops p) (is_stream text names p) b) [
          | inl f ↦ by_flop parts.0 f
          | inr s ↦ by_stream (stream_from text names p s)
        ]
        | inr f ↦ (let both = and_parts (is_derived (driver p)) (inside text points (stage step k) (driver p)) f in
            by_reads (driver p) parts.0 (driven.each p parts.0) (derived_from (driver p) both.0)
            (λ q r. stage_within k q (inside_reads (stage step k) (driver p) both.1 q r)))
      ]

  pub led_within : (p : Point) → led text names points driver flops p ≡ true → WithinFor text names flops p
  led_within p h = stage_within (length points) p h

  step_led : (p : Point) → step (led text names points driver flops) p ≡ true → led text names points driver flops p ≡ true
  step_led p h = rests step step_grows points step_listed p h

  -- The last stage is the whole set, also of fewer flip-flops. Flip-flops that are not declared lead nowhere.
  pub within_led : (some : Point → Bool) → ((p : Point) → is_declared text p ≡ true → some p ≡ true → flops p ≡ true) →
      (p : Point) → WithinFor text names some p → led text names points driver flops p ≡ true
  within_led some more p (by_flop declared f) =
      step_led p (step_begins (led text names points driver flops) p declared (or_left (flops p) (is_stream text names p) (more p declared f)))
  within_led some more p (by_stream is) =
      step_led p (step_begins (led text names points driver flops) p is.declared (or_right (flops p) (is_stream text names p) (stream_to text names p is)))
  within_led some more p (by_reads d declared drives derived within) =
      let same : d ≡ driver p = driven.only p d declared drives in
      step_led p (step_follows (led text names points driver flops) p declared (derived_to (driver p) (subst IsDerived same derived))
      (inside_from (reads text (driver p)) (led text names points driver flops) (readable points (driver p))
      (λ q r. within_led some more q (within q (subst (λ (x : Driver). reads text x q ≡ true) (sym same) r)))))

  -- ---- ranks

  abbrev pub rank : Point → ℕ
  rank = entry step (length points)

  module _ (idle : (p q : Point) → is_declared text p ≡ true → flops p ≡ true → reads text (driver p) q ≡ true → ⊥) where
    stream_idle : (p q : Point) → IsStreamOf text names p → reads text (driver p) q ≡ true → ⊥
    stream_idle p q is r =
        let same : outside ≡ driver p = driven.only p outside is.declared (inl is.input) in
        false≢true (subst (λ (x : Driver). reads text x q ≡ true) (sym same) r)

    -- where these flip-flops read nothing, what a point reads is there before it
    needs : (p q : Point) → reads text (driver p) q ≡ true → (some : Point → Bool) → step some p ≡ true → some q ≡ true
    needs p q r some h =
        let parts = step_parts some p h in
        elim (or_cases (begins text names flops p) (follows text points some (driver p)) parts.1) [
          | inl b ↦ elim (or_cases (flops p) (is_stream text names p) b) [
            | inl f ↦ absurd (idle p q parts.0 f r)
            | inr s ↦ absurd (stream_idle p q (stream_from text names p s) r)
          ]
          | inr f ↦ inside_reads some (driver p) (and_parts (is_derived (driver p)) (inside text points some (driver p)) f).1 q r
        ]

    pub read_before : (p q : Point) → led text names points driver flops p ≡ true → reads text (driver p) q ≡ true →
        (led text names points driver flops q ≡ true) × (rank q < rank p)
    read_before p q h r = comes_before step step_grows (length points) p q h (needs p q r)
