-- The lines of a text that is read are those of its stimulus.
use Rattle.std.proofs.Common.{◌≡◌, ◌⊎◌, ℕ, Bool, true, false, List, [], ◌∷◌, ◌++◌, map, length, get_or, Contains, Option, Some, None, Ok, refl, sym, ap, subst, ◌∙◌, inl, inr, arith}
use Rattle.std.specs.Prelude.{◌==◌, All, unwrap_or}
use Rattle.std.specs.List.{list_all}
use Rattle.std.proofs.lemmas.Bool.{eqb-true}
use Rattle.std.proofs.lemmas.List.{map_push, length-map}
use Rattle.std.proofs.lemmas.List.Elements.{All-contains, All-push}
use Rattle.std.proofs.lemmas.List.Sums.{AllPass-from_list_all}
use Rattle.fab_netlist.proofs.Members.{in_none, first_in}
use Rattle.fab_lines.specs.Order.{IsWhole}
use Rattle.fab_texts.specs.Rows.{Word, PlainRow, words_of}
use Rattle.fab_lines.specs.Items.{is_among}
use Rattle.fab_texts.proofs.Formats.{each_line}
use Rattle.fab_state.specs.Spelled.{AreApart}
use Rattle.fab_stimulus.specs.Stimuli.{Known, columns_of, cut_short, known, once, stimulus_format, take, values_at, place_in}
use Rattle.fab_stimulus.specs.Spelled.{Spells, digits_for, digits_line, names_line}
use Rattle.fab_stimulus.proofs.Once.{among_in, no_more, once_is, once_is_apart}
use Rattle.fab_stimulus.proofs.Columns.{digits_again}
use Rattle.fab_stimulus.proofs.Taking.{FirstForm, FurtherForm, digits_taken, keeps, names_taken}

-- all of these words are among others
all_in : (words others : List Word) → list_all (is_among others) words ≡ true → All (Contains others) words
all_in words others all = λ k d below. among_in others (get_or words k d) (AllPass-from_list_all (is_among others) words all k d below)

only_nothing : (names : List Word) → All (Contains []) names → names ≡ []
only_nothing [] only = refl
only_nothing (name ∷ names) only = absurd (in_none name (All-contains (Contains []) (name ∷ names) name only (first_in name names name refl)))

module _ (ports : List Word) (ports_apart : AreApart ports) where
  -- the first line has come, and these are its names
  record Holds (lines : List (List Word)) : Type 0 where
    names : List Word
    named : All (Contains names) ports
    only : All (Contains ports) names
    apart : AreApart names
    columns : (known ports lines).columns ≡ Some (columns_of ports names)
    sizes : All (λ values. length values ≡ length ports) (known ports lines).lines
    lines_are : lines ≡ names_line names ∷ map (λ values. digits_line (digits_for ports names values)) (known ports lines).lines

  -- no line has come, or these have
  abbrev Held : List (List Word) → Type 0
  Held lines = (lines ≡ []) ⊎ Holds lines

  -- ---- the first line

  no_values : All (λ (values : List Bool). length values ≡ length ports) []
  no_values = λ k d below. absurd (omega (arith, below))

  written : (line names : List Word) → FirstForm (length ports) line names → All (Contains names) ports → line ≡ names_line names
  written line names (inl none) named = none.2 ∙ ap names_line (sym none.1)
  written line names (inr some) named = sym some.1 ∙ is_line names (λ empty. some_name ports some.0 (subst (λ (l : List Word). All (Contains l) ports) empty named)) where
    some_name : (all : List Word) → (length all == 0) ≡ false → All (Contains []) all → ⊥
    some_name [] is every = absurd cc
    some_name (port ∷ all) is every = in_none port (All-contains (Contains []) (port ∷ all) port every (first_in port all port refl))

    is_line : (l : List Word) → (l ≡ [] → ⊥) → l ≡ names_line l
    is_line [] some = absurd (some refl)
    is_line (name ∷ more) some = refl

  first_line : (line : List Word) (next : Known) → take (known ports []) line ≡ Ok next → Holds (line ∷ [])
  first_line line next so =
      let took = names_taken (known ports []) next line so in
      let names = took.names in
      let same : once names ≡ names = once_is names (eqb-true (length (once names)) (length names) took.different) in
      let named : All (Contains names) ports = subst (λ (l : List Word). All (Contains l) ports) same (all_in ports (once names) took.named) in
      let kept : next ≡ known ports (line ∷ []) = (keeps ports).more [] line next so in
      record {
        names = names;
        named = named;
        only = all_in names ports took.only;
        apart = subst AreApart same (once_is_apart names);
        columns = ap (λ (k : Known). k.columns) (sym kept) ∙ ap (λ (k : Known). k.columns) took.value ∙ ap (λ (l : List Word). Some (columns_of ports l)) same;
        sizes = no_values;
        lines_are = ap (λ (l : List Word). l ∷ []) (written line names took.form named);
      }

  -- ---- a further line

  -- as many names as ports
  as_many : (names : List Word) → AreApart names → All (Contains names) ports → All (Contains ports) names → length names ≡ length ports
  as_many names apart named only =
      let fewer = no_more names ports apart (λ word here. All-contains (Contains ports) names word only here) in
      let more = no_more ports names ports_apart (λ word here. All-contains (Contains names) ports word named here) in
      omega (arith, fewer, more)

  digits_written : (names line : List Word) (digits : Word) → FurtherForm (length ports) line digits → All (Contains ports) names → digits_for ports names (values_at digits (columns_of ports names)) ≡ digits → line ≡ digits_line (digits_for ports names (values_at digits (columns_of ports names)))
  digits_written names line digits (inl none) only again = none.2 ∙ ap digits_line (sym none.1 ∙ sym again)
  digits_written names line digits (inr some) only again = some.1 ∙ is_line digits (λ empty. no_word (length ports) some.0 (ap length (sym empty) ∙ some.2)) ∙ ap digits_line (sym again) where
    no_word : (count : ℕ) → (count == 0) ≡ false → 0 ≡ count → ⊥
    no_word count is none = (let zero : (0 == 0) ≡ false = subst (λ (n : ℕ). (n == 0) ≡ false) (sym none) is in absurd cc)

    is_line : (d : Word) → (d ≡ [] → ⊥) → d ∷ [] ≡ digits_line d
    is_line [] some = absurd (some refl)
    is_line (digit ∷ more) some = refl

  digits_size : (names line : List Word) (digits : Word) → FurtherForm (length ports) line digits → length names ≡ length ports → length digits ≡ length names
  digits_size names line digits (inl none) many = ap length none.1 ∙ sym none.0 ∙ sym many
  digits_size names line digits (inr some) many = some.2 ∙ sym many

  further_line : (first : List Word) (rest : List (List Word)) (line : List Word) (next : Known) → take (known ports (first ∷ rest)) line ≡ Ok next → Holds (first ∷ rest) → Holds (first ∷ (rest ++ line ∷ []))
  further_line first rest line next so holds =
      let old = known ports (first ∷ rest) in
      let names = holds.names in
      let took = digits_taken old next line so in
      let columns : unwrap_or old.columns [] ≡ columns_of ports names = ap (λ (c : Option (List ℕ)). unwrap_or c []) holds.columns in
      let values = values_at took.digits (columns_of ports names) in
      let kept : next ≡ known ports (first ∷ (rest ++ line ∷ [])) = (keeps ports).more (first ∷ rest) line next so in
      let lines : (known ports (first ∷ (rest ++ line ∷ []))).lines ≡ old.lines ++ values ∷ [] =
      ap (λ (k : Known). k.lines) (sym kept) ∙ ap (λ (k : Known). k.lines) took.value ∙ ap (λ (c : List ℕ). old.lines ++ values_at took.digits c ∷ []) columns in
      let many = as_many names holds.apart holds.named holds.only in
      let again = digits_again ports names ports_apart holds.apart (λ word here. All-contains (Contains names) ports word holds.named here) (λ word here. All-contains (Contains ports) names word holds.only here)
      took.digits (digits_size names line took.digits took.form many) took.all in
      let size : length values ≡ length ports = length-map (columns_of ports names) _ ∙ length-map ports (place_in names) in
      let shown : List Bool → List Word = λ (v : List Bool). digits_line (digits_for ports names v) in
      record {
        names = names;
        named = holds.named;
        only = holds.only;
        apart = holds.apart;
        columns = holds.columns;
        sizes = subst (λ (l : List (List Bool)). All (λ v. length v ≡ length ports) l) (sym lines) (All-push (λ (v : List Bool). length v ≡ length ports) old.lines values holds.sizes size);
        lines_are =
            ap (λ (l : List (List Word)). l ++ line ∷ []) holds.lines_are
            ∙ ap (λ (w : List Word). names_line names ∷ (map shown old.lines ++ w ∷ [])) (digits_written names line took.digits took.form holds.only again)
            ∙ ap (λ (l : List (List Word)). names_line names ∷ l) (sym (map_push shown old.lines values))
            ∙ ap (λ (l : List (List Bool)). names_line names ∷ map shown l) (sym lines);
      }

  one_more : (front : List (List Word)) (line : List Word) (next : Known) → take (known ports front) line ≡ Ok next → Held front → Held (front ++ line ∷ [])
  one_more [] line next so held = inr (first_line line next so)
  one_more (first ∷ rest) line next so (inl none) = absurd cc
  one_more (first ∷ rest) line next so (inr holds) = inr (further_line first rest line next so holds)

  -- a whole text has a first line
  has_first : (lines : List (List Word)) → cut_short (known ports lines) ≡ None → lines ≡ [] → ⊥
  has_first [] ends none = absurd cc
  has_first (first ∷ rest) ends none = absurd cc

  spells : (rows : List PlainRow) → IsWhole (stimulus_format ports) rows → Held (words_of rows) → Spells ports rows (known ports (words_of rows)).lines
  spells rows whole (inl none) = absurd (has_first (words_of rows) whole.ends none)
  spells rows whole (inr holds) =
      record { names = holds.names; named = holds.named; only = holds.only; apart = holds.apart; sizes = holds.sizes; rows_are = holds.lines_are }

  -- a whole text spells what it says
  pub whole_spells : (rows : List PlainRow) → IsWhole (stimulus_format ports) rows → Spells ports rows (known ports (words_of rows)).lines
  whole_spells rows whole = spells rows whole (each_line (known ports) take cut_short Held one_more (inl refl) rows whole.fine)
