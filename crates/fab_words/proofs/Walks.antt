-- The words of a form, as clap takes them.
use Rattle.std.proofs.Common.{◌≡◌, ◌∙◌, ◌+◌, ◌≤◌, ℕ, zero, suc, Bool, true, false, List, [], ◌∷◌, ◌++◌, Option, Some, None, option_map, if◌then◌else◌, length, refl, sym, ap, subst, arith, append-nil}
use Rattle.std.specs.List.{fold}
use Rattle.clap.specs.Takes.{turn_passes, walk_passes}
use Rattle.clap.specs.Walk.{Row, Rule, Text, Walk, walked}
use Rattle.fab_words.specs.Arguments.{PlainSetting, PlainArguments, setting, no_arguments, with_positional, with_setting, is_positional, is_setting, is_option_name, option_text, name_in, value_in, arguments_of, has_setting, value_of, are_options}
use Rattle.fab_words.specs.Forms.{named}
use Rattle.fab_words.proofs.Lexing.{setting_long, option_long}
use Rattle.fab_words.proofs.Rules.{HasOptions, HasPlaces, built_shape, option_found}
use Rattle.fab_words.proofs.Steps.{Pending, Rests, awaiting, name_step, place_step, rests_alone, rests_pending, rows, setting_step, standing, value_step}
use Rattle.fab_words.proofs.Values.{IsDistinct, IsFresh, distinct_without, fresh_next, has_it, option_known, value_moved}

-- ---- what words are arguments

mapped : {A B : Type 0} (f : A → B) (found : Option A) (made : B) → option_map f found ≡ Some made → (x : A) × (found ≡ Some x) × (f x ≡ made)
mapped f None made is = absurd (cc)
mapped f (Some x) made is = (x, refl, cc)

-- the value that an option waits for
pub named_words : (name : Text) (words : List Text) (arguments : PlainArguments) → arguments_of (Some name) words ≡ Some arguments
    → (word : Text) × (more : List Text) × (rest : PlainArguments)
    × (words ≡ word ∷ more) × (is_positional word ≡ true) × (arguments_of None more ≡ Some rest) × (with_setting name word rest ≡ arguments)
named_words name [] arguments is = absurd (cc)
named_words name (word ∷ more) arguments is = go (is_positional word) refl is
  where
    go : (positional : Bool) → is_positional word ≡ positional
        → (if positional then option_map (with_setting name word) (arguments_of None more) else None) ≡ Some arguments
        → (first : Text) × (behind : List Text) × (rest : PlainArguments)
        × (word ∷ more ≡ first ∷ behind) × (is_positional first ≡ true) × (arguments_of None behind ≡ Some rest) × (with_setting name first rest ≡ arguments)
    go false e is2 = absurd (cc)
    go true e is2 = let found = mapped (with_setting name word) (arguments_of None more) arguments is2 in (word, more, found.0, refl, e, found.1, found.2)

-- ---- where the words lead

-- From here clap takes the words, and comes to these values.
pub record ComesTo (command : Text) (c : List Rule) (w : Walk) (words : List Text) (values : List PlainSetting) : Type 0 where
  pub takes : walk_passes (built_shape command c) [] w words ≡ true
  pub found : List Row
  pub pending : Pending
  pub place : ℕ
  pub given : List PlainSetting
  pub ends : fold (walked c []) w words ≡ standing found pending place
  pub rests : Rests c found pending given
  pub same : (name : Text) → value_of name given ≡ value_of name values

one_more : (command : Text) (c : List Rule) (w after : Walk) (word : Text) (words : List Text) (values : List PlainSetting)
    → turn_passes (built_shape command c) [] w word ≡ true → walked c [] w word ≡ after → ComesTo command c after words values
    → ComesTo command c w (word ∷ words) values
unfolding walk_passes
one_more command c w after word words values takes is rest = record {
  takes = rw (takes, is, rest.takes);
  found = rest.found;
  pending = rest.pending;
  place = rest.place;
  given = rest.given;
  ends = ap (λ (v : Walk). fold (walked c []) v words) is ∙ rest.ends;
  rests = rest.rests;
  same = rest.same;
}

comes_also : (command : Text) (c : List Rule) (w : Walk) (words : List Text) (values other : List PlainSetting)
    → ((name : Text) → value_of name values ≡ value_of name other)
    → ComesTo command c w words values → ComesTo command c w words other
comes_also command c w words values other agree to = record {
  takes = to.takes;
  found = to.found;
  pending = to.pending;
  place = to.place;
  given = to.given;
  ends = to.ends;
  rests = to.rests;
  same = λ name. to.same name ∙ agree name;
}

-- the values that the arguments give to the names
abbrev pub coming : (places : List Text) → PlainArguments → List PlainSetting
coming places arguments = named places arguments.positionals ++ arguments.settings

-- the arguments fit to the names that are still to come
pub record Fits (options places : List Text) (given : List PlainSetting) (arguments : PlainArguments) : Type 0 where
  pub many : length arguments.positionals ≡ length places
  pub known : are_options options arguments.settings ≡ true
  pub distinct : IsDistinct (coming places arguments)
  pub fresh : IsFresh given (coming places arguments)

abbrev most : ℕ
most = 18446744073709551615

module _ (command : Text) (c : List Rule) (options : List Text) (known : HasOptions c options) where
  -- what is shown of the words
  abbrev pub Walks : List Text → Type 0
  Walks words = (places : List Text) (given : List PlainSetting) (found : List Row) (pending : Pending) (place : ℕ) (arguments : PlainArguments)
      → arguments_of None words ≡ Some arguments → HasPlaces c place places → place + length places ≤ most → Rests c found pending given
      → Fits options places given arguments → ComesTo command c (standing found pending place) words (given ++ coming places arguments)

  end_walks : Walks []
  unfolding walk_passes
  end_walks places given found pending place arguments is has few rests fits = record {
    takes = refl;
    found = found;
    pending = pending;
    place = place;
    given = given;
    ends = refl;
    rests = rests;
    same = λ name. ap (value_of name) (sym (append-nil given) ∙ ap (λ rest. given ++ rest) (nothing places arguments is));
  }
    where
      nothing : (places : List Text) (arguments : PlainArguments) → Some no_arguments ≡ Some arguments → [] ≡ coming places arguments
      nothing [] arguments is2 = let same : no_arguments ≡ arguments = cc in ap (λ (a : PlainArguments). a.settings) same
      nothing (place2 ∷ more) arguments is2 = let same : no_arguments ≡ arguments = cc in ap (coming (place2 ∷ more)) same

  positional_walks : (word : Text) (words : List Text) (rest : PlainArguments) → Walks words → is_positional word ≡ true → arguments_of None words ≡ Some rest
      → (places : List Text) (given : List PlainSetting) (found : List Row) (pending : Pending) (place : ℕ) → HasPlaces c place places
      → place + length places ≤ most
      → Rests c found pending given → Fits options places given (with_positional word rest)
      → ComesTo command c (standing found pending place) (word ∷ words) (given ++ coming places (with_positional word rest))
  positional_walks word words rest again positional is [] given found pending place has few rests fits = let many = fits.many in absurd (omega arith)
  positional_walks word words rest again positional is (name ∷ places) given found pending place has few rests fits =
      let s = setting name word in
      let many = fits.many in
      let more = coming places rest in
      let step = place_step command c found pending place name word given rests has.0 positional (omega arith) in
      let lacks : has_setting name given ≡ false = fits.fresh name (has_it [] s more) in
      let next = again places (given ++ s ∷ []) (rows given) (Some (name, word ∷ [])) (place + 1) rest is has.2 (omega arith)
      (rests_pending c (Some place) None true name word given has.1 lacks)
      (record { many = omega arith; known = fits.known; distinct = fits.distinct.1; fresh = fresh_next given [] s more fits.fresh fits.distinct }) in
      one_more command c (standing found pending place) (standing (rows given) (Some (name, word ∷ [])) (place + 1)) word words
      (given ++ s ∷ more) step.0 step.1
      (comes_also command c _ words ((given ++ s ∷ []) ++ more) (given ++ s ∷ more) (λ n. value_moved n given [] s more fits.distinct) next)

  -- one more option is given
  fits_next : (places : List Text) (given : List PlainSetting) (s : PlainSetting) (rest : PlainArguments)
      → Fits options places given (with_setting s.name s.value rest)
      → Fits options places (given ++ s ∷ []) rest
  fits_next places given s rest fits =
      let first = named places rest.positionals in
      record {
        many = fits.many;
        known = (option_known options s rest.settings fits.known).2;
        distinct = (distinct_without first s rest.settings fits.distinct).1;
        fresh = fresh_next given first s rest.settings fits.fresh fits.distinct;
      }

  setting_walks : (word : Text) (words : List Text) (rest : PlainArguments) → Walks words → is_setting word ≡ true → arguments_of None words ≡ Some rest
      → (places : List Text) (given : List PlainSetting) (found : List Row) (pending : Pending) (place : ℕ) → HasPlaces c place places
      → place + length places ≤ most
      → Rests c found pending given → Fits options places given (with_setting (name_in word) (value_in word) rest)
      → ComesTo command c (standing found pending place) (word ∷ words) (given ++ coming places (with_setting (name_in word) (value_in word) rest))
  setting_walks word words rest again is_set is places given found pending place has few rests fits =
      let s = setting (name_in word) (value_in word) in
      let first = named places rest.positionals in
      let option = option_found c options s.name known (option_known options s rest.settings fits.known).0 in
      let lacks : has_setting s.name given ≡ false = fits.fresh s.name (has_it first s rest.settings) in
      let step = setting_step command c found pending place s.name s.value word given rests option.1 lacks (setting_long word is_set) in
      let next = again places (given ++ s ∷ []) (rows (given ++ s ∷ [])) None place rest is has few (rests_alone c (given ++ s ∷ []))
      (fits_next places given s rest fits) in
      one_more command c (standing found pending place) (standing (rows (given ++ s ∷ [])) None place) word words
      (given ++ (first ++ s ∷ rest.settings)) step.0 step.1
      (comes_also command c _ words ((given ++ s ∷ []) ++ (first ++ rest.settings)) (given ++ (first ++ s ∷ rest.settings))
      (λ n. value_moved n given first s rest.settings fits.distinct) next)

  option_walks : (word text : Text) (words : List Text) (rest : PlainArguments) → Walks words → is_option_name word ≡ true → is_positional text ≡ true
      → arguments_of None words ≡ Some rest
      → (places : List Text) (given : List PlainSetting) (found : List Row) (pending : Pending) (place : ℕ) → HasPlaces c place places
      → place + length places ≤ most
      → Rests c found pending given → Fits options places given (with_setting (option_text word) text rest)
      → ComesTo command c (standing found pending place) (word ∷ text ∷ words) (given ++ coming places (with_setting (option_text word) text rest))
  option_walks word text words rest again is_name positional is places given found pending place has few rests fits =
      let s = setting (option_text word) text in
      let first = named places rest.positionals in
      let option = option_found c options s.name known (option_known options s rest.settings fits.known).0 in
      let lacks : has_setting s.name given ≡ false = fits.fresh s.name (has_it first s rest.settings) in
      let step = name_step command c found pending place s.name word given rests option.1 (option_long word is_name option.0) in
      let step_2 = value_step command c place s.name text given option.2 positional in
      let next = again places (given ++ s ∷ []) (rows given) (Some (s.name, text ∷ [])) place rest is has few
      (rests_pending c None (Some s.name) false s.name text given option.2 lacks) (fits_next places given s rest fits) in
      one_more command c (standing found pending place) (awaiting given s.name place) word (text ∷ words) (given ++ (first ++ s ∷ rest.settings)) step.0 step.1
      (one_more command c (awaiting given s.name place) (standing (rows given) (Some (s.name, text ∷ [])) place) text words
      (given ++ (first ++ s ∷ rest.settings))
      step_2.0 step_2.1
      (comes_also command c _ words ((given ++ s ∷ []) ++ (first ++ rest.settings)) (given ++ (first ++ s ∷ rest.settings))
      (λ n. value_moved n given first s rest.settings fits.distinct) next))

  -- what is shown of these arguments
  abbrev Leads : (words places : List Text) (given : List PlainSetting) (found : List Row) (pending : Pending) (place : ℕ) → PlainArguments → Type 0
  Leads words places given found pending place made = Fits options places given made
      → ComesTo command c (standing found pending place) words (given ++ coming places made)

  step_walks : (n : ℕ) (word : Text) (words : List Text) → length (word ∷ words) ≤ suc n → ((rest : List Text) → length rest ≤ n → Walks rest)
      → Walks (word ∷ words)
  step_walks n word words short again places given found pending place arguments is has few rests fits =
      go (is_positional word) (is_setting word) (is_option_name word) refl refl refl is
    where
      fewer : length words ≤ n
      fewer = omega arith

      from : (made : PlainArguments) → made ≡ arguments → Leads (word ∷ words) places given found pending place made
          → ComesTo command c (standing found pending place) (word ∷ words) (given ++ coming places arguments)
      from made same leads = subst (Leads (word ∷ words) places given found pending place) same leads fits

      by_option : is_option_name word ≡ true → arguments_of (Some (option_text word)) words ≡ Some arguments
          → ComesTo command c (standing found pending place) (word ∷ words) (given ++ coming places arguments)
      by_option is_name is2 =
          let parts = named_words (option_text word) words arguments is2 in
          let text = parts.0 in
          let more = parts.1 in
          let rest = parts.2 in
          let short2 : length more ≤ n = let long : length words ≡ length (text ∷ more) = ap length parts.3 in omega arith in
          let made = with_setting (option_text word) text rest in
          let leads : Leads (word ∷ words) places given found pending place made = λ fits2.
          subst (λ (ws : List Text). ComesTo command c (standing found pending place) (word ∷ ws) (given ++ coming places made)) (sym parts.3)
          (option_walks word text more rest (again more short2) is_name parts.4 parts.5 places given found pending place has few rests fits2) in
          from made parts.6 leads

      go : (positional setting_word name_word : Bool) → is_positional word ≡ positional → is_setting word ≡ setting_word → is_option_name word ≡ name_word
          → (if positional then option_map (with_positional word) (arguments_of None words) else
          (if setting_word then option_map (with_setting (name_in word) (value_in word)) (arguments_of None words) else
          (if name_word then arguments_of (Some (option_text word)) words else None))) ≡ Some arguments
          → ComesTo command c (standing found pending place) (word ∷ words) (given ++ coming places arguments)
      go true set name e1 e2 e3 is2 =
          let parts = mapped (with_positional word) (arguments_of None words) arguments is2 in
          from (with_positional word parts.0) parts.2 (positional_walks word words parts.0
          (again words fewer) e1 parts.1 places given found pending place has few rests)
      go false true name e1 e2 e3 is2 =
          let parts = mapped (with_setting (name_in word) (value_in word)) (arguments_of None words) arguments is2 in
          from (with_setting (name_in word) (value_in word) parts.0) parts.2
          (setting_walks word words parts.0 (again words fewer) e2 parts.1 places given found pending place has few rests)
      go false false true e1 e2 e3 is2 = by_option e3 is2
      go false false false e1 e2 e3 is2 = absurd (cc)

  pub walks : (n : ℕ) (words : List Text) → length words ≤ n → Walks words
  walks zero [] short = end_walks
  walks zero (word ∷ words) short = absurd (omega arith)
  walks (suc n) [] short = end_walks
  walks (suc n) (word ∷ words) short = step_walks n word words short (walks n)
