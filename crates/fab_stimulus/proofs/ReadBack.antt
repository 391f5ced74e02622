-- A text whose lines are those of a stimulus is read as that stimulus.
use Rattle.std.proofs.Common.{◌≡◌, ℕ, suc, Bool, true, false, List, [], ◌∷◌, ◌++◌, map, length, get_or, Contains, Some, Result, Ok, refl, sym, ap, ◌∙◌, arith, append-nil, append_assoc, codes}
use Rattle.std.specs.Prelude.{◌==◌, All}
use Rattle.std.specs.List.{list_all}
use Rattle.std.proofs.lemmas.Bool.{eq-eqb}
use Rattle.std.proofs.lemmas.Bool.Decides.{nat_tests}
use Rattle.std.proofs.lemmas.List.{length-map}
use Rattle.std.proofs.lemmas.List.Elements.{All-contains}
use Rattle.std.proofs.lemmas.List.Sums.{list_all-from_AllPass}
use Rattle.fab_base.specs.declared.problem.Problem.{Problem}
use Rattle.fab_netlist.proofs.Members.{first_in}
use Rattle.fab_texts.specs.Rows.{Word, PlainRow, words_of}
use Rattle.fab_lines.specs.Items.{is_among}
use Rattle.fab_texts.proofs.Formats.{taken, taken_none, taken_one, taken_fine}
use Rattle.fab_state.specs.Spelled.{AreApart}
use Rattle.fab_stimulus.specs.Stimuli.{Known, columns_of, cut_short, digits_of, is_digit, known, names_of, once, place_in, take, take_digits, take_names}
use Rattle.fab_stimulus.specs.Spelled.{Spells, Says, digit, digits_for, digits_line, names_line}
use Rattle.fab_stimulus.proofs.Once.{among, no_more, once_stays}
use Rattle.fab_stimulus.proofs.Columns.{values_again}
use Rattle.fab_stimulus.proofs.Taking.{keeps}

among_all : (words others : List Word) → All (Contains others) words → list_all (is_among others) words ≡ true
among_all words others all = list_all-from_AllPass (is_among others) words (λ k d below. among others (get_or words k d) (all k d below))

digits_all : (ports : List Word) (values : List Bool) (names : List Word) → list_all is_digit (digits_for ports names values) ≡ true
digits_all ports values [] = refl
digits_all ports values (name ∷ names) = by_bit (get_or values (place_in ports name) false) (digits_all ports values names) where
  by_bit : (bit : Bool) → list_all is_digit (digits_for ports names values) ≡ true → list_all is_digit (digit bit ∷ digits_for ports names values) ≡ true
  by_bit false rest = rest
  by_bit true rest = rest

-- ---- the forms of lines

some_count : (n count : ℕ) → suc n ≡ count → (count == 0) ≡ false
some_count n count is = grind (arith, nat_tests)

-- the first line has these names
first_names : (count : ℕ) (names : List Word) → length names ≡ count → names_of count (names_line names) ≡ Some names
first_names count [] size = ap (λ (n : ℕ). names_of n (codes "-" ∷ [])) (sym size)
first_names count (name ∷ names) size = rw (some_count (length names) count size) refl

-- a further line has these digits
line_digits : (count : ℕ) (digits : Word) → length digits ≡ count → digits_of count (digits_line digits) ≡ Some digits
line_digits count [] size = ap (λ (n : ℕ). digits_of n (codes "-" ∷ [])) (sym size)
line_digits count (d ∷ digits) size =
    let same : (length (d ∷ digits) == count) ≡ true = eq-eqb (length (d ∷ digits)) count size in
    rw (some_count (length digits) count size, same) refl

module _ (ports : List Word) (ports_apart : AreApart ports) (names : List Word) (apart : AreApart names) (named : All (Contains names) ports) (only : All (Contains ports) names) where
  many : length names ≡ length ports
  many =
      let fewer = no_more names ports apart (λ word here. All-contains (Contains ports) names word only here) in
      let more = no_more ports names ports_apart (λ word here. All-contains (Contains names) ports word named here) in
      omega (arith, fewer, more)

  -- what is known of so many cycles
  abbrev of_lines : List (List Bool) → Known
  of_lines lines = record { ports = ports; columns = Some (columns_of ports names); lines = lines }

  first_taken : take (known ports []) (names_line names) ≡ Ok (of_lines [])
  first_taken =
      let same = once_stays names apart in
      let all : list_all (is_among (once names)) ports ≡ true = ap (λ (l : List Word). list_all (is_among l) ports) same ∙ among_all ports names named in
      let different : (length (once names) == length names) ≡ true = eq-eqb (length (once names)) (length names) (ap length same) in
      let known_names : list_all (is_among ports) names ≡ true = among_all names ports only in
      ap (take_names (known ports [])) (first_names (length ports) names many)
      ∙ rw (all, different, known_names) (ap (λ (l : List Word). let r : Result Known Problem = Ok (record (of_lines []) { columns = Some (columns_of ports l) }) in r) same)

  line_taken : (before : List (List Bool)) (values : List Bool) → length values ≡ length ports → take (of_lines before) (digits_line (digits_for ports names values)) ≡ Ok (of_lines (before ++ values ∷ []))
  line_taken before values size =
      let digits = digits_for ports names values in
      let wide : length digits ≡ length ports = length-map names _ ∙ many in
      let again = values_again ports names ports_apart apart (λ word here. All-contains (Contains names) ports word named here) (λ word here. All-contains (Contains ports) names word only here) values size in
      ap (take_digits (of_lines before)) (line_digits (length ports) digits wide)
      ∙ rw (digits_all ports values names) (ap (λ (v : List Bool). let r : Result Known Problem = Ok (of_lines (before ++ v ∷ [])) in r) again)

  lines_taken : (before lines : List (List Bool)) → All (λ values. length values ≡ length ports) lines → taken take (of_lines before) (map (λ values. digits_line (digits_for ports names values)) lines) ≡ Ok (of_lines (before ++ lines))
  lines_taken before [] sizes = taken_none take (of_lines before) ∙ ap (λ (l : List (List Bool)). let r : Result Known Problem = Ok (of_lines l) in r) (sym (append-nil before))
  lines_taken before (values ∷ lines) sizes =
      let size = All-contains (λ (v : List Bool). length v ≡ length ports) (values ∷ lines) values sizes (first_in values lines values refl) in
      let others : All (λ (v : List Bool). length v ≡ length ports) lines = λ k d below. sizes (suc k) d (omega (arith, below)) in
      taken_one take (of_lines before) (of_lines (before ++ values ∷ [])) (digits_line (digits_for ports names values)) (map (λ v. digits_line (digits_for ports names v)) lines) (line_taken before values size)
      ∙ lines_taken (before ++ values ∷ []) lines others
      ∙ ap (λ (l : List (List Bool)). let r : Result Known Problem = Ok (of_lines l) in r) (append_assoc before (values ∷ []) lines)

  spelled : (rows : List PlainRow) (lines : List (List Bool)) → All (λ values. length values ≡ length ports) lines → words_of rows ≡ names_line names ∷ map (λ values. digits_line (digits_for ports names values)) lines → Says ports rows lines
  spelled rows lines sizes rows_are =
      let all : taken take (known ports []) (words_of rows) ≡ Ok (of_lines lines) =
      ap (taken take (known ports [])) rows_are
      ∙ taken_one take (known ports []) (of_lines []) (names_line names) (map (λ v. digits_line (digits_for ports names v)) lines) first_taken
      ∙ lines_taken [] lines sizes in
      let read = taken_fine (known ports) take cut_short (keeps ports) rows (of_lines lines) all in
      (record { fine = read.0; ends = ap cut_short (sym read.1) }, ap (λ (k : Known). k.lines) read.1)

pub spelled_is_read : (ports : List Word) (rows : List PlainRow) (lines : List (List Bool)) → AreApart ports → Spells ports rows lines → Says ports rows lines
spelled_is_read ports rows lines apart spells = spelled ports apart spells.names spells.apart spells.named spells.only rows lines spells.sizes spells.rows_are
