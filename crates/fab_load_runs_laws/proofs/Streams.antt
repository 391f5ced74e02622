-- The inputs with given names as a stream, and as a test.
use Rattle.std.proofs.Common.{◌≡◌, ℕ, Bool, true, false, ◌&&◌, ◌||◌, List, [], ◌∷◌, refl, ap, inl, inr}
use Rattle.std.specs.Str.{bytes_eq}
use Rattle.std.proofs.lemmas.Bool.{false≢true, and_parts, and_from, or_cases, or_left, or_right}
use Rattle.std.proofs.lemmas.Slice.Eq.{bytes_eq-Decides}
use Rattle.fab_equations.specs.fab_syntax.specs.Plain.{PlainModule}
use Rattle.fab_equations.specs.fab_syntax.specs.Declarations.{is_input_of}
use Rattle.fab_equations.specs.fab_meaning.specs.Points.{Path, Point, module_at}
use Rattle.fab_equations.specs.fab_meaning.specs.Reads.{is_declared}
use Rattle.fab_equations.specs.fab_meaning.specs.Loading.{IsOneOf, IsStreamOf, WithinBy, IsClosedBy, IsLed}
use Rattle.fab_equations.specs.fab_meaning.proofs.SoundTexts.{same_names}

abbrev pub WithinFor : List PlainModule → (names : List (List ℕ)) → (flops : Point → Bool) → Point → Type 0
WithinFor text names = WithinBy text (IsStreamOf text names)

abbrev pub IsClosedFor : List PlainModule → (names : List (List ℕ)) → (flops : Point → Bool) → Type 0
IsClosedFor text names = IsClosedBy text (IsStreamOf text names)

abbrev pub IsLedFor : List PlainModule → (names : List (List ℕ)) → Point → Type 0
IsLedFor text names = IsLed text (IsStreamOf text names)

-- ---- names

abbrev is_one_of : (names : List (List ℕ)) → List ℕ → Bool
is_one_of [] name = false
is_one_of (first ∷ names) name = bytes_eq name first || is_one_of names name

one_from : (names : List (List ℕ)) (name : List ℕ) → is_one_of names name ≡ true → IsOneOf names name
one_from [] name h = absurd (false≢true h)
one_from (last ∷ []) name h = elim (or_cases (bytes_eq name last) false h) [ inl e ↦ same_names name last e | inr none ↦ absurd (false≢true none) ]
one_from (first ∷ second ∷ names) name h =
    elim (or_cases (bytes_eq name first) (is_one_of (second ∷ names) name) h) [
      | inl e ↦ inl (same_names name first e)
      | inr more ↦ inr (one_from (second ∷ names) name more)
    ]

one_to : (names : List (List ℕ)) (name : List ℕ) → IsOneOf names name → is_one_of names name ≡ true
one_to [] name is = absurd is
one_to (last ∷ []) name is = or_left (bytes_eq name last) false ((bytes_eq-Decides name last).1 is)
one_to (first ∷ second ∷ names) name (inl is) = or_left (bytes_eq name first) (is_one_of (second ∷ names) name) ((bytes_eq-Decides name first).1 is)
one_to (first ∷ second ∷ names) name (inr is) = or_right (bytes_eq name first) (is_one_of (second ∷ names) name) (one_to (second ∷ names) name is)

-- ---- the stream

abbrev is_top : Path → Bool
is_top [] = true
is_top (name ∷ path) = false

top_is : (path : Path) → is_top path ≡ true → path ≡ []
top_is [] h = refl
top_is (name ∷ path) h = absurd (false≢true h)

abbrev pub is_stream : List PlainModule → (names : List (List ℕ)) → Point → Bool
is_stream text names p = is_top p.path && (is_input_of (module_at text []) p.name && (is_declared text p && is_one_of names p.name))

pub stream_from : (text : List PlainModule) (names : List (List ℕ)) (p : Point) → is_stream text names p ≡ true → IsStreamOf text names p
stream_from text names p h =
    let top = and_parts (is_top p.path) (is_input_of (module_at text []) p.name && (is_declared text p && is_one_of names p.name)) h in
    let input = and_parts (is_input_of (module_at text []) p.name) (is_declared text p && is_one_of names p.name) top.1 in
    let declared = and_parts (is_declared text p) (is_one_of names p.name) input.1 in
    record {
      input = record { top = top_is p.path top.0; input = input.0; is = refl };
      declared = declared.0;
      named = one_from names p.name declared.1;
    }

pub stream_to : (text : List PlainModule) (names : List (List ℕ)) (p : Point) → IsStreamOf text names p → is_stream text names p ≡ true
stream_to text names p is =
    and_from (is_top p.path) (is_input_of (module_at text []) p.name && (is_declared text p && is_one_of names p.name)) (ap is_top is.input.top)
    (and_from (is_input_of (module_at text []) p.name) (is_declared text p && is_one_of names p.name) is.input.input
    (and_from (is_declared text p) (is_one_of names p.name) is.declared (one_to names p.name is.named)))
