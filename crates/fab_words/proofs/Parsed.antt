-- What clap gives of the words of a form.
use Rattle.std.proofs.Common.{◌≡◌, ◌∙◌, ◌+◌, ◌≤◌, ◌||◌, not, ℕ, Bool, true, false, List, [], ◌∷◌, ◌++◌, Option, Some, None, if◌then◌else◌, length, map, refl, sym, ap, subst, arith}
use Rattle.std.specs.Prelude.{is_some, ◌==◌}
use Rattle.std.specs.List.{fold, list_all, list_any}
use Rattle.std.specs.Option.{ForSome}
use Rattle.std.specs.Str.{bytes_eq}
use Rattle.std.proofs.lemmas.Option.{option_and_then_some}
use Rattle.std.proofs.lemmas.Bool.{and_from, and_parts, eqb-true, false≢true}
use Rattle.clap.proofs.TakesLemmas.{leaf_takes}
use Rattle.clap.proofs.WalkLemmas.{first_value-rows}
use Rattle.clap.specs.Matches.{found_of}
use Rattle.clap.specs.Simple.{App, HasMatchesOf, Shape, built, is_simple, label_of, names_of}
use Rattle.clap.specs.Takes.{default_passes, is_given, is_valid, level_passes, settle_passes, takes}
use Rattle.clap.specs.Walk.{Held, Row, Rule, Text, Walk, finished, first_of, has_row, nothing_held, rows_after, walk, with_default}
use Rattle.clap.specs.declared.parser.matches.ArgMatches.{ArgMatches}
use Rattle.fab_words.specs.Arguments.{PlainSetting, PlainArguments, arguments_of, has_setting, value_of, are_options}
use Rattle.fab_words.specs.Forms.{PlainSynopsis, fits, synopsis, values_of, values_in}
use Rattle.fab_words.specs.inner.Matching.{app, Gives}
use Rattle.fab_words.specs.declared.forms.Form.{Form}
use Rattle.fab_words.specs.declared.forms.Form.TheVariants as form
use Rattle.fab_words.proofs.Rules.{HasOptions, HasPlaces, built_rules, built_shape, optional, placed, placed_from}
use Rattle.fab_words.proofs.Steps.{first_of-rows, is_given-rows, rests_alone, rows, standing}
use Rattle.fab_words.proofs.Values.{are_distinct, has_value, names_given, values_distinct, name_again}
use Rattle.fab_words.proofs.Walks.{ComesTo, coming, walks}

-- ---- the rules of a form

module _ (P : Rule → Bool) (on_options : (name : Text) → P (optional name) ≡ true) where
  options_pass : (options : List Text) → list_all P (map optional options) ≡ true
  options_pass [] = refl
  options_pass (name ∷ options) = and_from (P (optional name)) (list_all P (map optional options)) (on_options name) (options_pass options)

  rules_pass : ((place : ℕ) (name : Text) → P (placed place name) ≡ true) → (place : ℕ) (positionals options : List Text)
      → list_all P (placed_from place positionals ++ map optional options) ≡ true
  rules_pass on_places place [] options = options_pass options
  rules_pass on_places place (name ∷ positionals) options =
      and_from (P (placed place name)) (list_all P (placed_from (place + 1) positionals ++ map optional options)) (on_places place name)
      (rules_pass on_places (place + 1) positionals options)

-- no argument has a value of its own
with_none : (found : List Row) (name : Text) → (if has_row name found then found else found) ≡ found
with_none found name = go (has_row name found)
  where
    go : (b : Bool) → (if b then found else found) ≡ found
    go true = refl
    go false = refl

none_optional : (found : List Row) (options : List Text) → fold with_default found (map optional options) ≡ found
none_optional found [] = refl
none_optional found (name ∷ options) = ap (λ f. fold with_default f (map optional options)) (with_none found name) ∙ none_optional found options

none_added : (found : List Row) (place : ℕ) (positionals options : List Text)
    → fold with_default found (placed_from place positionals ++ map optional options) ≡ found
none_added found place [] options = none_optional found options
none_added found place (name ∷ positionals) options =
    ap (λ f. fold with_default f (placed_from (place + 1) positionals ++ map optional options)) (with_none found name)
    ∙ none_added found (place + 1) positionals options

-- each positional word is there
required_given : (found : List Row) (place : ℕ) (positionals options : List Text)
    → ((name : Text) → list_any (bytes_eq name) positionals ≡ true → is_given name found ≡ true)
    → list_all (λ (a : Rule). not a.required || is_given a.id found) (placed_from place positionals ++ map optional options) ≡ true
required_given found place [] options given = options_pass (λ (a : Rule). not a.required || is_given a.id found) (λ name. refl) options
required_given found place (name ∷ positionals) options given =
    and_from (is_given name found) (list_all (λ (a : Rule). not a.required || is_given a.id found)
    (placed_from (place + 1) positionals ++ map optional options))
    (given name (rw (name_again name)))
    (required_given found (place + 1) positionals options (λ n listed. given n (either (bytes_eq n name) (list_any (bytes_eq n) positionals) listed)))
  where
    either : (a b : Bool) → b ≡ true → (a || b) ≡ true
    either true b is = refl
    either false b is = is

-- ---- a whole line

module _ (command : Text) (positionals options : List Text) where
  abbrev c : List Rule
  c = built_rules positionals options

  abbrev end : List Text → Held
  end words = (walk c [] nothing_held words).held

  rows_made : (words : List Text) (values : List PlainSetting) (to : ComesTo command c (standing [] None 1) words values)
      → finished c (end words) ≡ rows to.given
  rows_made words values to =
      ap (λ (w : Walk). finished c w.held) to.ends ∙ ap (λ found. fold with_default found c) to.rests.comes ∙ none_added (rows to.given) 1 positionals options

  rows_valid : (words : List Text) (values : List PlainSetting) (to : ComesTo command c (standing [] None 1) words values)
      → ((name : Text) → list_any (bytes_eq name) positionals ≡ true → has_setting name values ≡ true)
      → is_valid (built_shape command c) (finished c (end words)) false ≡ true
  rows_valid words values to given =
      ap (λ found. is_valid (built_shape command c) found false) (rows_made words values to)
      ∙ and_from (list_all (λ (a : Rule). a.is_free) c) _ (rules_pass (λ (a : Rule). a.is_free) (λ name. refl) (λ place name. refl) 1 positionals options)
      (required_given (rows to.given) 1 positionals options
      (λ name listed. is_given-rows name to.given ∙ has_value name to.given ∙ ap is_some (to.same name) ∙ sym (has_value name values) ∙ given name listed))

  -- Where the walk comes to values that give all names of positional words, the level passes, and its rows have these values.
  level : (words : List Text) (values : List PlainSetting) → ComesTo command c (standing [] None 1) words values
      → ((name : Text) → list_any (bytes_eq name) positionals ≡ true → has_setting name values ≡ true)
      → (level_passes (built_shape command c) [] nothing_held words false ≡ true)
      × ((name : Text) → first_of name (rows_after c [] words) ≡ value_of name values)
  level words values to given =
      let settles : settle_passes c false (end words) ≡ true = ap (λ (w : Walk). settle_passes c false w.held) to.ends ∙ to.rests.passes in
      let defaults : list_all default_passes c ≡ true = rules_pass default_passes (λ name. refl) (λ place name. refl) 1 positionals options in
      let valid = rows_valid words values to given in
      (rw (to.takes, settles, defaults, valid), λ name. ap (first_of name) (rows_made words values to) ∙ first_of-rows name to.given ∙ to.same name)

-- ---- the forms

-- what building makes of the command that clap is told
pub record IsBuilt (line : PlainSynopsis) : Type 0 where
  pub simple : is_simple (app line) ≡ true
  pub top : (built (app line)).top ≡ built_shape line.command (built_rules line.positionals line.options)
  pub subs : (built (app line)).subs ≡ []
  pub places : HasPlaces (built_rules line.positionals line.options) 1 line.positionals
  pub options : HasOptions (built_rules line.positionals line.options) line.options
  pub distinct : are_distinct (line.positionals ++ line.options) ≡ true
  pub few : 1 + length line.positionals ≤ 18446744073709551615

forms_built : (known : Form) → IsBuilt (synopsis known)
forms_built form.Matrix = record {
  simple = refl;
  top = refl;
  subs = refl;
  places = (refl, refl, (refl, refl, tt));
  options = tt;
  distinct = refl;
  few = omega arith;
}
forms_built form.Generate = record {
  simple = refl;
  top = refl;
  subs = refl;
  places = (refl, refl, (refl, refl, tt));
  options = tt;
  distinct = refl;
  few = omega arith;
}
forms_built form.Assemble = record {
  simple = refl;
  top = refl;
  subs = refl;
  places = (refl, refl, (refl, refl, (refl, refl, (refl, refl, tt))));
  options = ((refl, refl, refl), tt);
  distinct = refl;
  few = omega arith;
}
forms_built form.Map = record {
  simple = refl;
  top = refl;
  subs = refl;
  places = (refl, refl, (refl, refl, (refl, refl, tt)));
  options = ((refl, refl, refl), ((refl, refl, refl), ((refl, refl, refl), tt)));
  distinct = refl;
  few = omega arith;
}
forms_built form.Flow = record {
  simple = refl;
  top = refl;
  subs = refl;
  places = (refl, refl, (refl, refl, (refl, refl, tt)));
  options = ((refl, refl, refl), ((refl, refl, refl), ((refl, refl, refl), ((refl, refl, refl), tt))));
  distinct = refl;
  few = omega arith;
}
forms_built form.Bits = record {
  simple = refl;
  top = refl;
  subs = refl;
  places = (refl, refl, (refl, refl, (refl, refl, tt)));
  options = tt;
  distinct = refl;
  few = omega arith;
}
forms_built form.Features = record {
  simple = refl;
  top = refl;
  subs = refl;
  places = (refl, refl, (refl, refl, (refl, refl, tt)));
  options = tt;
  distinct = refl;
  few = omega arith;
}
forms_built form.Simulate = record {
  simple = refl;
  top = refl;
  subs = refl;
  places = (refl, refl, (refl, refl, (refl, refl, (refl, refl, (refl, refl, tt)))));
  options = ((refl, refl, refl), tt);
  distinct = refl;
  few = omega arith;
}
forms_built form.Partial = record {
  simple = refl;
  top = refl;
  subs = refl;
  places = (refl, refl, (refl, refl, (refl, refl, (refl, refl, (refl, refl, (refl, refl, tt))))));
  options = tt;
  distinct = refl;
  few = omega arith;
}
forms_built form.Timing = record {
  simple = refl;
  top = refl;
  subs = refl;
  places = (refl, refl, (refl, refl, (refl, refl, (refl, refl, tt))));
  options = ((refl, refl, refl), tt);
  distinct = refl;
  few = omega arith;
}
forms_built form.Serial = record {
  simple = refl;
  top = refl;
  subs = refl;
  places = (refl, refl, (refl, refl, tt));
  options = tt;
  distinct = refl;
  few = omega arith;
}
forms_built form.Sample = record {
  simple = refl;
  top = refl;
  subs = refl;
  places = (refl, refl, (refl, refl, tt));
  options = tt;
  distinct = refl;
  few = omega arith;
}

-- clap takes the words of a form, and gives its names these values
pub record IsRead (line : PlainSynopsis) (command : Text) (words : List Text) (values : List PlainSetting) : Type 0 where
  pub takes : takes (app line) (command ∷ words) ≡ true
  pub gives : (m : ArgMatches) → HasMatchesOf (app line) (command ∷ words) m → Gives m values

line_read : (line : PlainSynopsis) → IsBuilt line → (command : Text) (words : List Text) (arguments : PlainArguments) → arguments_of None words ≡ Some arguments
    → fits line arguments ≡ true → IsRead line command words (coming line.positionals arguments)
line_read line made command words arguments is fit =
    let parts = and_parts (length arguments.positionals == length line.positionals) (are_options line.options arguments.settings) fit in
    let many : length arguments.positionals ≡ length line.positionals = eqb-true (length arguments.positionals) (length line.positionals) parts.0 in
    let c = built_rules line.positionals line.options in
    let to = walks line.command c line.options made.options (length words) words (omega arith) line.positionals [] [] None 1 arguments is made.places made.few
    (rests_alone c [])
    (record {
      many = many;
      known = parts.1;
      distinct = values_distinct line.positionals line.options arguments.positionals arguments.settings made.distinct parts.1;
      fresh = λ name has. refl;
    }) in
    let passes = level line.command line.positionals line.options words (coming line.positionals arguments) to
    (λ name listed. names_given name line.positionals arguments.positionals arguments.settings many listed) in
    record {
      takes = and_from (is_simple (app line)) _ made.simple (leaf_takes (built (app line)) nothing_held words made.subs
          (subst (λ (s : Shape). level_passes s [] nothing_held words false ≡ true) (sym made.top) passes.0));
      gives = λ m has name. first_value-rows (found_of m) name
          ∙ ap (first_of name) ((has made.simple).0 ∙ ap (λ (s : Shape). rows_after s.rules (names_of (built (app line))) words) made.top
          ∙ ap (λ (subs : List Shape). rows_after c (map label_of subs) words) made.subs)
          ∙ passes.1 name;
    }

read_as : (known : Form) (command : Text) (words : List Text) (values : List PlainSetting) → values_in (synopsis known) (command ∷ words) ≡ Some values
    → IsRead (synopsis known) command words values
read_as known command words values is = option_and_then_some (values_of (synopsis known)) (arguments_of None words) values is
    (λ arguments are made. go (fits (synopsis known) arguments) arguments are refl made)
  where
    go : (fit : Bool) (arguments : PlainArguments) → arguments_of None words ≡ Some arguments → fits (synopsis known) arguments ≡ fit
        → (if fit then Some (coming (synopsis known).positionals arguments) else None) ≡ Some values → IsRead (synopsis known) command words values
    go true arguments are fit made =
        let same : coming (synopsis known).positionals arguments ≡ values = cc in
        subst (IsRead (synopsis known) command words) same (line_read (synopsis known) (forms_built known) command words arguments are fit)
    go false arguments are fit made = absurd (cc)

-- the same of any words
pub words_taken : (known : Form) (words : List Text) (a : App) → a ≡ app (synopsis known) → is_some (values_in (synopsis known) words) ≡ true
    → takes a words ≡ true
words_taken known [] a is some = absurd (false≢true some)
words_taken known (command ∷ words) a is some = go (values_in (synopsis known) (command ∷ words)) refl some
  where
    go : (values : Option (List PlainSetting)) → values_in (synopsis known) (command ∷ words) ≡ values → is_some values ≡ true
        → takes a (command ∷ words) ≡ true
    go None e some2 = absurd (false≢true some2)
    go (Some values) e some2 = ap (λ (b : App). takes b (command ∷ words)) is ∙ (read_as known command words values e).takes

pub words_given : (known : Form) (words : List Text) (a : App) (m : ArgMatches) → a ≡ app (synopsis known) → HasMatchesOf a words m
    → ForSome (values_in (synopsis known) words) (Gives m)
words_given known [] a m is has values none = absurd (cc)
words_given known (command ∷ words) a m is has values some = (read_as known command words values some).gives m
    (subst (λ (b : App). HasMatchesOf b (command ∷ words) m) is has)
