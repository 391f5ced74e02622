-- One word of a form, as clap takes it.
use Rattle.std.proofs.Common.{◌≡◌, ◌∙◌, ◌+◌, ◌<◌, ◌&&◌, ◌||◌, ℕ, Bool, true, false, List, [], ◌∷◌, ◌++◌, Option, Some, None, map, min, refl, sym, ap, arith, append-nil}
use Rattle.std.specs.Str.{bytes_eq}
use Rattle.std.proofs.lemmas.List.{map-append}
use Rattle.clap.specs.Takes.{settle_passes, turn_passes, use_passes, is_given}
use Rattle.clap.specs.Values.{reading_of}
use Rattle.clap.specs.Walk.{Held, Row, Rule, Text, Walk, arg_by_id, arg_by_index, arg_by_long, at_row, first_of, has_row, idle, is_pending, more_values, option, settled_rows, used, walked}
use Rattle.clap.specs.declared.builder.value_parser.ValueParser.TheVariants as parser
use Rattle.clap.specs.declared.parser.matches.ValueSource.TheVariants.{CommandLine}
use Rattle.fab_words.specs.Arguments.{PlainSetting, setting, has_setting, value_of, is_positional}
use Rattle.fab_words.proofs.Lexing.{IsLongWord, positional_plain}
use Rattle.fab_words.proofs.Rules.{taking, placed, optional, built_shape}
use Rattle.fab_words.proofs.Values.{name_again, neither}

-- ---- values as clap's rows

abbrev pub row : PlainSetting → Row
row s = record {
  id = s.name;
  values = s.value ∷ [];
  count = None;
  source = Some CommandLine;
  reading = reading_of parser.String;
}

abbrev pub rows : List PlainSetting → List Row
rows = map row

pub has_row-rows : (name : Text) (given : List PlainSetting) → has_row name (rows given) ≡ has_setting name given
has_row-rows name [] = refl
has_row-rows name (s ∷ given) = ap (λ rest. bytes_eq s.name name || rest) (has_row-rows name given)

pub first_of-rows : (name : Text) (given : List PlainSetting) → first_of name (rows given) ≡ value_of name given
first_of-rows name [] = refl
first_of-rows name (s ∷ given) = go (bytes_eq s.name name) refl (first_of-rows name given)
  where
    go : (same : Bool) → bytes_eq s.name name ≡ same → first_of name (rows given) ≡ value_of name given
        → first_of name (rows (s ∷ given)) ≡ value_of name (s ∷ given)
    go true is rest = rw is
    go false is rest = rw is rest

pub is_given-rows : (name : Text) (given : List PlainSetting) → is_given name (rows given) ≡ has_setting name given
is_given-rows name [] = refl
is_given-rows name (s ∷ given) = go (bytes_eq s.name name) refl (is_given-rows name given)
  where
    go : (same : Bool) → bytes_eq s.name name ≡ same → is_given name (rows given) ≡ has_setting name given
        → is_given name (rows (s ∷ given)) ≡ has_setting name (s ∷ given)
    go true is rest = rw is
    go false is rest = rw is rest

-- a row of a new name stands behind the others
at_new : (name : Text) (change : Row → List Row) (missing : List Row) (given : List PlainSetting) → has_setting name given ≡ false
    → at_row name change missing (rows given) ≡ rows given ++ missing
at_new name change missing [] lacks = refl
at_new name change missing (s ∷ given) lacks =
    let parts = neither (bytes_eq s.name name) (has_setting name given) lacks in
    let rest = at_new name change missing given parts.1 in
    rw parts.0 (ap (λ more. row s ∷ more) rest)

module _ (index : Option ℕ) (long : Option Text) (required : Bool) (name word : Text) (given : List PlainSetting) (lacks : has_setting name given ≡ false) where
  pub used_new : used (taking index long required name) (word ∷ []) (rows given) ≡ rows (given ++ setting name word ∷ [])
  used_new =
      let without : at_row name (λ _. []) [] (rows given) ≡ rows given = at_new name (λ _. []) [] given lacks ∙ append-nil (rows given) in
      rw without (at_new name (more_values CommandLine (word ∷ [])) (row (setting name word) ∷ []) given lacks
      ∙ sym (map-append row given (setting name word ∷ [])))

  pub use_new : use_passes false (taking index long required name) (word ∷ []) (rows given) ≡ true
  use_new = rw (has_row-rows name given, lacks)

-- ---- where clap stands between two words

abbrev pub Pending : Type 0
Pending = Option (Text × List Text)

abbrev pub held : List Row → Pending → Held
held found pending = record { rows = found; pending = pending; skip = 0 }

-- it waits for no value, and the next positional word comes to the place
abbrev pub standing : List Row → Pending → (place : ℕ) → Walk
standing found pending place = record { held = held found pending; waiting = idle; position = place; is_trailing = false; stopped = None }

-- it waits for the value of the option
abbrev pub awaiting : List PlainSetting → (name : Text) (place : ℕ) → Walk
awaiting given name place = record { held = held (rows given) (Some (name, [])); waiting = option name; position = place; is_trailing = false; stopped = None }

-- what is held comes to these values
pub record Rests (c : List Rule) (found : List Row) (pending : Pending) (given : List PlainSetting) : Type 0 where
  pub passes : settle_passes c false (held found pending) ≡ true
  pub comes : settled_rows c pending found ≡ rows given

pub rests_alone : (c : List Rule) (given : List PlainSetting) → Rests c (rows given) None given
rests_alone c given = record { passes = refl; comes = refl }

pub rests_pending : (c : List Rule) (index : Option ℕ) (long : Option Text) (required : Bool) (name word : Text) (given : List PlainSetting)
    → arg_by_id c name ≡ Some (taking index long required name) → has_setting name given ≡ false
    → Rests c (rows given) (Some (name, word ∷ [])) (given ++ setting name word ∷ [])
rests_pending c index long required name word given known lacks = record {
  passes = rw known (use_new index long required name word given lacks);
  comes = rw known (used_new index long required name word given lacks);
}

-- ---- a word

and_never : (b : Bool) → (b && false) ≡ false
and_never true = refl
and_never false = refl

or_always : (b : Bool) → (b || true) ≡ true
or_always true = refl
or_always false = refl

module _ (command : Text) (c : List Rule) where
  abbrev turn : Walk → Text → Bool
  turn = turn_passes (built_shape command c) []

  -- a positional word comes to its place
  pub place_step : (found : List Row) (pending : Pending) (place : ℕ) (name word : Text) (given : List PlainSetting) → Rests c found pending given
      → arg_by_index c place ≡ Some (placed place name) → is_positional word ≡ true → place < 18446744073709551615
      → (turn (standing found pending place) word ≡ true)
      × (walked c [] (standing found pending place) word ≡ standing (rows given) (Some (name, word ∷ [])) (place + 1))
  unfolding walked
  place_step found pending place name word given rests at positional few =
      let plain = positional_plain word positional in
      let behind : min (place + 1) 18446744073709551615 ≡ place + 1 = omega arith in (
        rw (plain.dashes, plain.long, plain.short, at, rests.passes) (or_always _),
        rw (plain.dashes, plain.long, plain.short, at, and_never (is_pending (placed place name) pending), rests.comes, behind),
      )

  -- an option with its value
  pub setting_step : (found : List Row) (pending : Pending) (place : ℕ) (name text word : Text) (given : List PlainSetting) → Rests c found pending given
      → arg_by_long c name ≡ Some (optional name) → has_setting name given ≡ false → IsLongWord word name (Some text)
      → (turn (standing found pending place) word ≡ true)
      × (walked c [] (standing found pending place) word ≡ standing (rows (given ++ setting name text ∷ [])) None place)
  unfolding walked
  setting_step found pending place name text word given rests known lacks is =
      let as_used = used_new None (Some name) false name text given lacks in (
        rw (is.dashes, is.long, known, rests.passes, rests.comes, has_row-rows name given, lacks),
        rw (is.dashes, is.long, known, rests.comes, as_used),
      )

  -- an option whose value is the next word
  pub name_step : (found : List Row) (pending : Pending) (place : ℕ) (name word : Text) (given : List PlainSetting) → Rests c found pending given
      → arg_by_long c name ≡ Some (optional name) → IsLongWord word name None
      → (turn (standing found pending place) word ≡ true)
      × (walked c [] (standing found pending place) word ≡ awaiting given name place)
  unfolding walked
  name_step found pending place name word given rests known is = (
    rw (is.dashes, is.long, known, rests.passes),
    rw (is.dashes, is.long, known, rests.comes),
  )

  -- that value
  pub value_step : (place : ℕ) (name word : Text) (given : List PlainSetting) → arg_by_id c name ≡ Some (optional name) → is_positional word ≡ true
      → (turn (awaiting given name place) word ≡ true)
      × (walked c [] (awaiting given name place) word ≡ standing (rows given) (Some (name, word ∷ [])) place)
  unfolding walked
  value_step place name word given known positional =
      let plain = positional_plain word positional in (
        rw (plain.dashes, plain.long, plain.short),
        rw (plain.dashes, plain.long, plain.short, known, name_again name),
      )
