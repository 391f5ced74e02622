-- Words of which each stands once.
use Rattle.std.proofs.Common.{◌≡◌, ℕ, suc, ◌+◌, ◌<◌, ◌≤◌, Bool, true, false, cond, List, [], ◌∷◌, ◌++◌, length, get_or, take, drop, Contains, refl, sym, ap, subst, ◌∙◌, inl, inr, arith, append-nil, append_assoc, length-append}
use Rattle.std.specs.Prelude.{fold}
use Rattle.std.specs.Str.{bytes_eq}
use Rattle.std.proofs.lemmas.List.{map-append, get_or_append_left, take-append-drop}
use Rattle.std.proofs.Math.Seq.{drop-cons}
use Rattle.fab_netlist.proofs.Members.{in_none, first_or_later, first_in, later_in, any_by, any_gives}
use Rattle.std.proofs.lemmas.Slice.Eq.{bytes_eq-Decides}
use Rattle.fab_texts.specs.Rows.{Word}
use Rattle.fab_lines.specs.Items.{is_among}
use Rattle.fab_implementation.specs.Plain.{Pad}
use Rattle.fab_state.specs.Plain.{PlainState}
use Rattle.fab_state.specs.Spelled.{AreApart, ports}
use Rattle.fab_state.specs.Constraints.{with_word}
use Rattle.fab_state.proofs.LineForms.{equal_words}
use Rattle.fab_state.proofs.ReadBack.{new_word}
use Rattle.fab_state.proofs.Spelled.{apart_push}
use Rattle.fab_stimulus.specs.Stimuli.{ports_of}

-- ---- a word is among others where they contain it

pub among : (words : List Word) (word : Word) → Contains words word → is_among words word ≡ true
among words word here = any_by (bytes_eq word) words word here ((bytes_eq-Decides word word).1 refl)

pub among_in : (words : List Word) (word : Word) → is_among words word ≡ true → Contains words word
among_in words word any =
    let found = any_gives (bytes_eq word) words any in
    subst (λ (w : Word). Contains words w) (sym (equal_words word found.0 found.2)) found.1

-- ---- words, each once

-- no more words than there are
once_short : (seen words : List Word) → length (fold with_word seen words) ≤ length seen + length words
once_short seen [] = omega arith
once_short seen (word ∷ words) = step (is_among seen word) (once_short seen words) (once_short (seen ++ word ∷ []) words) where
  step : (known : Bool) → length (fold with_word seen words) ≤ length seen + length words → length (fold with_word (seen ++ word ∷ []) words) ≤ length (seen ++ word ∷ []) + length words
      → length (fold with_word (cond known seen (seen ++ word ∷ [])) words) ≤ length seen + length (word ∷ words)
  step true rest longer = omega (arith, rest)
  step false rest longer = let both = length-append seen (word ∷ []) in omega (arith, longer, both)

-- as many words as there are: all of them
once_whole : (seen words : List Word) → length (fold with_word seen words) ≡ length seen + length words → fold with_word seen words ≡ seen ++ words
once_whole seen [] long = sym (append-nil seen)
once_whole seen (word ∷ words) long = step (is_among seen word) (λ so. once_whole (seen ++ word ∷ []) words so) long where
  step : (known : Bool) → (length (fold with_word (seen ++ word ∷ []) words) ≡ length (seen ++ word ∷ []) + length words → fold with_word (seen ++ word ∷ []) words ≡ (seen ++ word ∷ []) ++ words)
      → length (fold with_word (cond known seen (seen ++ word ∷ [])) words) ≡ length seen + length (word ∷ words) → fold with_word (cond known seen (seen ++ word ∷ [])) words ≡ seen ++ word ∷ words
  step true rest so = let short = once_short seen words in absurd (omega (arith, short, so))
  step false rest so = let whole = length-append seen (word ∷ []) in rest (omega (arith, so, whole)) ∙ append_assoc seen (word ∷ []) words

-- none stands twice
once_apart : (seen words : List Word) → AreApart seen → AreApart (fold with_word seen words)
once_apart seen [] apart = apart
once_apart seen (word ∷ words) apart = step (is_among seen word) refl (once_apart seen words apart) (λ more. once_apart (seen ++ word ∷ []) words more) where
  step : (known : Bool) → is_among seen word ≡ known → AreApart (fold with_word seen words) → (AreApart (seen ++ word ∷ []) → AreApart (fold with_word (seen ++ word ∷ []) words))
      → AreApart (fold with_word (cond known seen (seen ++ word ∷ [])) words)
  step true is rest longer = rest
  step false is rest longer = longer (apart_push seen word is apart)

-- words of which none stands twice are all there
once_same : (seen words : List Word) → AreApart (seen ++ words) → fold with_word seen words ≡ seen ++ words
once_same seen [] apart = sym (append-nil seen)
once_same seen (word ∷ words) apart =
    let new = new_word seen word words apart in
    let grouped = append_assoc seen (word ∷ []) words in
    ap (λ (known : Bool). fold with_word (cond known seen (seen ++ word ∷ [])) words) new
    ∙ once_same (seen ++ word ∷ []) words (subst AreApart (sym grouped) apart) ∙ grouped

none_apart : AreApart {X = Word} []
none_apart = λ i j d before below. absurd (omega (arith, before, below))

pub once_is : (words : List Word) → length (fold with_word [] words) ≡ length words → fold with_word [] words ≡ words
once_is words long = once_whole [] words (omega (arith, long))

pub once_stays : (words : List Word) → AreApart words → fold with_word [] words ≡ words
once_stays words apart = once_same [] words apart

pub once_is_apart : (words : List Word) → AreApart (fold with_word [] words)
once_is_apart words = once_apart [] words none_apart

-- ---- words that stand once among others are no more than these

-- what stands in a list parts it
parted : {X : Type 0} (xs : List X) (x : X) → Contains xs x → (front : List X) × (rest : List X) × (xs ≡ front ++ x ∷ rest)
parted [] x here = absurd (in_none x here)
parted {X} (y ∷ xs) x here = elim (first_or_later y xs x here) [
  | inl same ↦ ([], xs, ap (λ (z : X). z ∷ xs) same)
  | inr later ↦ let parts = parted xs x later in (y ∷ parts.0, parts.1, ap (λ (l : List X). y ∷ l) parts.2)
]

-- what stands in a list stands beside an item that it is not
beside : {X : Type 0} (front : List X) (x : X) (rest : List X) (y : X) → Contains (front ++ x ∷ rest) y → (x ≡ y → ⊥) → Contains (front ++ rest) y
beside [] x rest y here other = elim (first_or_later x rest y here) [
  | inl same ↦ absurd (other same)
  | inr later ↦ later
]
beside (z ∷ front) x rest y here other = elim (first_or_later z (front ++ x ∷ rest) y here) [
  | inl same ↦ first_in z (front ++ rest) y same
  | inr later ↦ later_in z (front ++ rest) y (beside front x rest y later other)
]

-- the first of words that are apart is none of the others, and these are apart
first_apart : (x : Word) (xs : List Word) → AreApart (x ∷ xs) → (y : Word) → Contains xs y → x ≡ y → ⊥
first_apart x xs apart y here same = apart 0 (suc here.0) y (omega arith) (omega (arith, here.1)) (same ∙ sym here.2)

rest_apart : (x : Word) (xs : List Word) → AreApart (x ∷ xs) → AreApart xs
rest_apart x xs apart = λ i j d before below. apart (suc i) (suc j) d (omega (arith, before)) (omega (arith, below))

pub no_more : (xs ys : List Word) → AreApart xs → ((x : Word) → Contains xs x → Contains ys x) → length xs ≤ length ys
no_more [] ys apart inside = omega arith
no_more (x ∷ xs) ys apart inside =
    let parts = parted ys x (inside x (first_in x xs x refl)) in
    let fewer = no_more xs (parts.0 ++ parts.1) (rest_apart x xs apart) (λ y here.
    beside parts.0 x parts.1 y (subst (λ (l : List Word). Contains l y) parts.2 (inside y (later_in x xs y here))) (first_apart x xs apart y here)) in
    let whole : length ys ≡ length (parts.0 ++ x ∷ parts.1) = ap length parts.2 in
    omega (arith, fewer, whole, length-append parts.0 (x ∷ parts.1), length-append parts.0 parts.1)

-- ---- the input ports of a state

-- what stands before is apart, where all is
front_apart : (front rest : List Word) → AreApart (front ++ rest) → AreApart front
front_apart front rest apart = λ i j d before below.
    let whole = length-append front rest in
    let first : get_or (front ++ rest) i d ≡ get_or front i d = get_or_append_left front rest d i (omega (arith, before, below)) in
    let second : get_or (front ++ rest) j d ≡ get_or front j d = get_or_append_left front rest d j below in
    λ same. apart i j d before (omega (arith, below, whole)) (first ∙ same ∙ sym second)

pub ins_apart : (state : PlainState) → AreApart (ports state) → AreApart (ports_of state.ins)
ins_apart state apart = front_apart (ports_of state.ins) (ports_of state.outs) (subst AreApart (map-append (λ (pad : Pad). pad.0) state.ins state.outs) apart)

-- a port is not among those before it
pub new_port : (pads : List Pad) (i : ℕ) (d : Pad) → i < length pads → AreApart (ports_of pads) → is_among (ports_of (take i pads)) (get_or pads i d).0 ≡ false
new_port pads i d below apart =
    let whole : take i pads ++ get_or pads i d ∷ drop (suc i) pads ≡ pads = ap (λ (l : List Pad). take i pads ++ l) (sym (drop-cons pads i d below)) ∙ take-append-drop i pads in
    let named : ports_of (take i pads) ++ (get_or pads i d).0 ∷ ports_of (drop (suc i) pads) ≡ ports_of pads =
    sym (map-append (λ (pad : Pad). pad.0) (take i pads) (get_or pads i d ∷ drop (suc i) pads)) ∙ ap ports_of whole in
    new_word (ports_of (take i pads)) (get_or pads i d).0 (ports_of (drop (suc i) pads)) (subst AreApart (sym named) apart)
