-- Digits under names, and values in the order of ports.
use Rattle.std.proofs.Common.{◌≡◌, ℕ, ◌<◌, Bool, true, false, ◌||◌, List, [], map, length, get_or, Contains, refl, sym, ap, subst, ◌∙◌}
use Rattle.std.specs.Prelude.{◌==◌}
use Rattle.std.specs.List.{list_all}
use Rattle.std.proofs.lemmas.Bool.{eqb-true}
use Rattle.std.proofs.lemmas.List.{get_or-map, length-map, ext_get_or}
use Rattle.std.proofs.lemmas.List.Elements.{Contains-get_or}
use Rattle.std.proofs.lemmas.List.Sums.{AllPass-from_list_all}
use Rattle.fab_texts.specs.Rows.{Word}
use Rattle.fab_state.specs.Spelled.{AreApart}
use Rattle.fab_stimulus.specs.Stimuli.{columns_of, is_digit, place_in, value_at, values_at}
use Rattle.fab_stimulus.specs.Spelled.{digit, digits_for}
use Rattle.fab_stimulus.proofs.Places.{stands_at, place_again}

-- ---- a digit and its value

value_of_digit : (bit : Bool) → (digit bit == 49) ≡ bit
value_of_digit false = refl
value_of_digit true = refl

digit_by : (byte : ℕ) (zero one : Bool) → (byte == 48) ≡ zero → (byte == 49) ≡ one → (zero || one) ≡ true → digit one ≡ byte
digit_by byte zero true is_zero is_one some = sym (eqb-true byte 49 is_one)
digit_by byte true false is_zero is_one some = sym (eqb-true byte 48 is_zero)
digit_by byte false false is_zero is_one some = absurd cc

digit_of_value : (byte : ℕ) → is_digit byte ≡ true → digit (byte == 49) ≡ byte
digit_of_value byte is = digit_by byte (byte == 48) (byte == 49) refl refl is

module _ (ports names : List Word) (ports_apart : AreApart ports) (names_apart : AreApart names) (named : (word : Word) → Contains ports word → Contains names word) (only : (word : Word) → Contains names word → Contains ports word) where
  -- the values of the digits of values are these
  pub values_again : (values : List Bool) → length values ≡ length ports → values_at (digits_for ports names values) (columns_of ports names) ≡ values
  values_again values size =
      let digits = digits_for ports names values in
      let columns = columns_of ports names in
      let long : length (values_at digits columns) ≡ length ports = length-map columns (value_at digits) ∙ length-map ports (place_in names) in
      ext_get_or false (values_at digits columns) values (long ∙ sym size) (λ i below.
      let within : i < length ports = subst (λ (n : ℕ). i < n) long below in
      let port : Word = get_or ports i [] in
      let here = Contains-get_or ports i [] within in
      let at = stands_at names port (named port here) in
      let wide : i < length columns = subst (λ (n : ℕ). i < n) (sym (length-map ports (place_in names))) within in
      let column : get_or columns i 0 ≡ place_in names port = get_or-map (place_in names) ports i [] 0 within in
      let byte : get_or digits (place_in names port) 48 ≡ digit (get_or values i false) =
      get_or-map (λ (name : Word). digit (get_or values (place_in ports name) false)) names (place_in names port) [] 48 at.within
      ∙ ap (λ (name : Word). digit (get_or values (place_in ports name) false)) at.is
      ∙ ap (λ (place : ℕ). digit (get_or values place false)) (place_again ports i ports_apart within here) in
      get_or-map (value_at digits) columns i 0 false wide
      ∙ ap (value_at digits) column
      ∙ ap (λ (b : ℕ). b == 49) byte
      ∙ value_of_digit (get_or values i false))

  -- the digits of the values of digits are these
  pub digits_again : (digits : Word) → length digits ≡ length names → list_all is_digit digits ≡ true → digits_for ports names (values_at digits (columns_of ports names)) ≡ digits
  digits_again digits size all =
      let columns = columns_of ports names in
      let values = values_at digits columns in
      let shown : Word → ℕ = λ (name : Word). digit (get_or values (place_in ports name) false) in
      let long : length (map shown names) ≡ length names = length-map names shown in
      ext_get_or 48 (map shown names) digits (long ∙ sym size) (λ i below.
      let within : i < length names = subst (λ (n : ℕ). i < n) long below in
      let name : Word = get_or names i [] in
      let here = Contains-get_or names i [] within in
      let at = stands_at ports name (only name here) in
      let column : get_or columns (place_in ports name) 0 ≡ place_in names (get_or ports (place_in ports name) []) = get_or-map (place_in names) ports (place_in ports name) [] 0 at.within in
      let wide : place_in ports name < length columns = subst (λ (n : ℕ). place_in ports name < n) (sym (length-map ports (place_in names))) at.within in
      let place : get_or columns (place_in ports name) 0 ≡ i = column ∙ ap (place_in names) at.is ∙ place_again names i names_apart within here in
      let inside : i < length digits = subst (λ (n : ℕ). i < n) (sym size) within in
      get_or-map shown names i [] 48 within
      ∙ ap digit (get_or-map (value_at digits) columns (place_in ports name) 0 false wide)
      ∙ ap (λ (c : ℕ). digit (value_at digits c)) place
      ∙ digit_of_value (get_or digits i 48) (AllPass-from_list_all is_digit digits all i 48 inside))
