-- How a line is taken, and that the reader follows the lines.
use Rattle.std.proofs.Common.{◌≡◌, ◌⊎◌, ℕ, Bool, true, false, cond, ◌&&◌, List, [], ◌∷◌, ◌++◌, length, Option, Some, None, Ok, refl, sym, ap, subst, ◌∙◌, inl, inr, arith, codes}
use Rattle.std.specs.Prelude.{◌==◌, not, unwrap_or}
use Rattle.std.specs.List.{list_all}
use Rattle.std.specs.Str.{bytes_eq}
use Rattle.std.proofs.lemmas.Bool.{eqb-true}
use Rattle.std.proofs.lemmas.List.{map_push}
use Rattle.fab_base.specs.declared.words.Reason.TheVariants as reasons
use Rattle.fab_texts.specs.Rows.{Word}
use Rattle.fab_lines.specs.Items.{word_at, is_among}
use Rattle.fab_texts.specs.Formats.{refused}
use Rattle.fab_texts.proofs.Formats.{Keeps}
use Rattle.fab_state.proofs.LineForms.{equal_words}
use Rattle.fab_stimulus.specs.Stimuli.{Known, columns_of, digits_of, is_digit, is_nothing, known, names_of, once, take, take_digits, take_names, values_at}

-- ---- the form of a line

one_word : (line : List Word) → length line ≡ 1 → line ≡ word_at line 0 ∷ []
one_word [] is = absurd (omega (arith, is))
one_word (a ∷ []) is = refl
one_word (a ∷ b ∷ more) is = absurd (omega (arith, is))

both_by : (a b : Bool) → (a && b) ≡ true → (a ≡ true) × (b ≡ true)
both_by true b is = (refl, is)
both_by false b is = absurd cc

nothing_is : (line : List Word) → is_nothing line ≡ true → line ≡ codes "-" ∷ []
nothing_is line is =
    let parts = both_by (length line == 1) (bytes_eq (word_at line 0) (codes "-")) is in
    one_word line (eqb-true (length line) 1 parts.0) ∙ ap (λ (w : Word). w ∷ []) (equal_words (word_at line 0) (codes "-") parts.1)

-- a first line: `-` where there is no port, else its words are names
abbrev pub FirstForm : (count : ℕ) → (line names : List Word) → Type 0
FirstForm count line names = ((count ≡ 0) × (names ≡ []) × (line ≡ codes "-" ∷ [])) ⊎ (((count == 0) ≡ false) × (names ≡ line))

pub first_form : (count : ℕ) (line names : List Word) → names_of count line ≡ Some names → FirstForm count line names
first_form count line names so = by_count (count == 0) refl so where
  by_nothing : (nothing : Bool) → is_nothing line ≡ nothing → count ≡ 0 → cond nothing (Some []) None ≡ Some names → FirstForm count line names
  by_nothing true is none given = let empty : names ≡ [] = cc in inl (none, empty, nothing_is line is)
  by_nothing false is none given = absurd cc

  by_count : (none : Bool) → (count == 0) ≡ none → cond none (cond (is_nothing line) (Some []) None) (Some line) ≡ Some names → FirstForm count line names
  by_count true is given = by_nothing (is_nothing line) refl (eqb-true count 0 is) given
  by_count false is given = let same : names ≡ line = cc in inr (is, same)

-- a further line: `-` where there is no port, else a word of so many bytes
abbrev pub FurtherForm : (count : ℕ) → List Word → (digits : Word) → Type 0
FurtherForm count line digits = ((count ≡ 0) × (digits ≡ []) × (line ≡ codes "-" ∷ [])) ⊎ (((count == 0) ≡ false) × (line ≡ digits ∷ []) × (length digits ≡ count))

pub further_form : (count : ℕ) (line : List Word) (digits : Word) → digits_of count line ≡ Some digits → FurtherForm count line digits
further_form count line digits so = by_count (count == 0) refl so where
  by_nothing : (nothing : Bool) → is_nothing line ≡ nothing → count ≡ 0 → cond nothing (Some []) None ≡ Some digits → FurtherForm count line digits
  by_nothing true is none given = let empty : digits ≡ [] = cc in inl (none, empty, nothing_is line is)
  by_nothing false is none given = absurd cc

  by_word : (fits : Bool) → ((length line == 1) && (length (word_at line 0) == count)) ≡ fits → (count == 0) ≡ false → cond fits (Some (word_at line 0)) None ≡ Some digits → FurtherForm count line digits
  by_word true is some given =
      let parts = both_by (length line == 1) (length (word_at line 0) == count) is in
      let same : word_at line 0 ≡ digits = cc in
      inr (some, one_word line (eqb-true (length line) 1 parts.0) ∙ ap (λ (w : Word). w ∷ []) same, ap length (sym same) ∙ eqb-true (length (word_at line 0)) count parts.1)
  by_word false is some given = absurd cc

  by_count : (none : Bool) → (count == 0) ≡ none → cond none (cond (is_nothing line) (Some []) None) (cond ((length line == 1) && (length (word_at line 0) == count)) (Some (word_at line 0)) None) ≡ Some digits → FurtherForm count line digits
  by_count true is given = by_nothing (is_nothing line) refl (eqb-true count 0 is) given
  by_count false is given = by_word ((length line == 1) && (length (word_at line 0) == count)) refl is given

-- ---- a first line that is taken

pub record TakesNames (old next : Known) (line : List Word) : Type 0 where
  pub names : List Word
  pub form : FirstForm (length old.ports) line names
  pub named : list_all (is_among (once names)) old.ports ≡ true
  pub different : (length (once names) == length names) ≡ true
  pub only : list_all (is_among old.ports) names ≡ true
  pub value : next ≡ record old { columns = Some (columns_of old.ports (once names)) }

module _ (old next : Known) (line : List Word) where
  names_by : (names : List Word) → names_of (length old.ports) line ≡ Some names → (all apart only : Bool)
      → list_all (is_among (once names)) old.ports ≡ all → (length (once names) == length names) ≡ apart → list_all (is_among old.ports) names ≡ only
      → cond (not all) (refused reasons.Row) (cond (not apart) (refused reasons.NameTwice) (cond (not only) (refused reasons.Port) (Ok (record old { columns = Some (columns_of old.ports (once names)) })))) ≡ Ok next
      → TakesNames old next line
  names_by names is true true true named different only so =
      let same : record old { columns = Some (columns_of old.ports (once names)) } ≡ next = cc in
      record { names = names; form = first_form (length old.ports) line names is; named = named; different = different; only = only; value = sym same }
  names_by names is true true false named different only so = absurd cc
  names_by names is true false only_b named different only so = absurd cc
  names_by names is false apart only_b named different only so = absurd cc

  names_found : (found : Option (List Word)) → names_of (length old.ports) line ≡ found → take_names old found ≡ Ok next → TakesNames old next line
  names_found None is so = absurd cc
  names_found (Some names) is so = names_by names is (list_all (is_among (once names)) old.ports) (length (once names) == length names) (list_all (is_among old.ports) names) refl refl refl so

  pub names_taken : take_names old (names_of (length old.ports) line) ≡ Ok next → TakesNames old next line
  names_taken so = names_found (names_of (length old.ports) line) refl so

-- ---- a further line that is taken

pub record TakesDigits (old next : Known) (line : List Word) : Type 0 where
  pub digits : Word
  pub form : FurtherForm (length old.ports) line digits
  pub all : list_all is_digit digits ≡ true
  pub value : next ≡ record old { lines = old.lines ++ values_at digits (unwrap_or old.columns []) ∷ [] }

module _ (old next : Known) (line : List Word) where
  digits_by : (digits : Word) → digits_of (length old.ports) line ≡ Some digits → (all : Bool) → list_all is_digit digits ≡ all
      → cond (not all) (refused reasons.Digit) (Ok (record old { lines = old.lines ++ values_at digits (unwrap_or old.columns []) ∷ [] })) ≡ Ok next → TakesDigits old next line
  digits_by digits is true all so =
      let same : record old { lines = old.lines ++ values_at digits (unwrap_or old.columns []) ∷ [] } ≡ next = cc in
      record { digits = digits; form = further_form (length old.ports) line digits is; all = all; value = sym same }
  digits_by digits is false all so = absurd cc

  digits_found : (found : Option Word) → digits_of (length old.ports) line ≡ found → take_digits old found ≡ Ok next → TakesDigits old next line
  digits_found None is so = absurd cc
  digits_found (Some digits) is so = digits_by digits is (list_all is_digit digits) refl so

  pub digits_taken : take_digits old (digits_of (length old.ports) line) ≡ Ok next → TakesDigits old next line
  digits_taken so = digits_found (digits_of (length old.ports) line) refl so

-- ---- the reader follows the lines

no_ports : (ports : List Word) → length ports ≡ 0 → ports ≡ []
no_ports [] is = refl
no_ports (port ∷ ports) is = absurd (omega (arith, is))

columns_same : (ports line names : List Word) → FirstForm (length ports) line names → columns_of ports (once names) ≡ columns_of ports (once line)
columns_same ports line names (inl none) = subst (λ (l : List Word). columns_of l (once names) ≡ columns_of l (once line)) (sym (no_ports ports none.0)) refl
columns_same ports line names (inr some) = ap (λ (l : List Word). columns_of ports (once l)) some.1

values_same : (ports names line : List Word) (digits : Word) → FurtherForm (length ports) line digits → values_at digits (columns_of ports names) ≡ values_at (word_at line 0) (columns_of ports names)
values_same ports names line digits (inl none) = subst (λ (l : List Word). values_at digits (columns_of l names) ≡ values_at (word_at line 0) (columns_of l names)) (sym (no_ports ports none.0)) refl
values_same ports names line digits (inr some) = ap (λ (w : Word). values_at w (columns_of ports names)) (ap (λ (l : List Word). word_at l 0) (sym some.1))

known_same : (a b : Known) → a.ports ≡ b.ports → a.columns ≡ b.columns → a.lines ≡ b.lines → a ≡ b
known_same a b ports columns lines = λ j. record { ports = ports j; columns = columns j; lines = lines j }

module _ (ports : List Word) where
  on : (front : List (List Word)) (line : List Word) (next : Known) → take (known ports front) line ≡ Ok next → next ≡ known ports (front ++ line ∷ [])
  on [] line next so =
      let took = names_taken (known ports []) next line so in
      took.value ∙ known_same (record (known ports []) { columns = Some (columns_of ports (once took.names)) }) (known ports (line ∷ [])) refl (ap (λ (c : List ℕ). Some c) (columns_same ports line took.names took.form)) refl
  on (first ∷ rest) line next so =
      let old = known ports (first ∷ rest) in
      let took = digits_taken old next line so in
      let columns = columns_of ports (once first) in
      took.value ∙ known_same (record old { lines = old.lines ++ values_at took.digits columns ∷ [] }) (known ports (first ∷ (rest ++ line ∷ []))) refl refl
      (ap (λ (v : List Bool). old.lines ++ v ∷ []) (values_same ports (once first) line took.digits took.form)
      ∙ sym (map_push (λ (l : List Word). values_at (word_at l 0) columns) rest line))

pub keeps : (ports : List Word) → Keeps (known ports) take
keeps ports = record { more = on ports }
