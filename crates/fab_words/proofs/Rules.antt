-- What clap knows of a form's names once its command is built.
use Rattle.std.proofs.Common.{◌≡◌, ◌+◌, ◌==◌, ◌||◌, ℕ, Bool, true, false, List, [], ◌∷◌, ◌++◌, Option, Some, None, length, map, sym, subst, refl}
use Rattle.std.specs.Prelude.{⊤}
use Rattle.std.specs.List.{list_any}
use Rattle.std.specs.Str.{bytes_eq}
use Rattle.std.proofs.lemmas.Bool.{false≢true}
use Rattle.clap.specs.Walk.{Rule, Text, arg_by_id, arg_by_index, arg_by_long}
use Rattle.clap.specs.Simple.{Shape, new_rule, new_shape}
use Rattle.clap.specs.declared.builder.action.ArgAction.TheVariants.{Set}
use Rattle.clap.specs.declared.builder.value_parser.ValueParser.TheVariants as parser
use Rattle.fab_words.proofs.Values.{same_name}

-- an argument with one value
abbrev pub taking : (index : Option ℕ) (long : Option Text) (required : Bool) (name : Text) → Rule
taking index long required name = record (new_rule name) {
  index = index;
  long = long;
  required = required;
  action = Some Set;
  range = Some (record { start_inclusive = 1; end_inclusive = 1 });
  parser = Some parser.String;
}

-- a positional word at its place, and an option
abbrev pub placed : (place : ℕ) (name : Text) → Rule
placed place name = taking (Some place) None true name

abbrev pub optional : (name : Text) → Rule
optional name = taking None (Some name) false name

abbrev pub placed_from : (place : ℕ) (names : List Text) → List Rule
placed_from place [] = []
placed_from place (name ∷ names) = placed place name ∷ placed_from (place + 1) names

-- the rules of a form
abbrev pub built_rules : (positionals options : List Text) → List Rule
built_rules positionals options = placed_from 1 positionals ++ map optional options

-- its command
abbrev pub built_shape : (command : Text) → List Rule → Shape
built_shape command rules = record (new_shape command) {
  rules = rules;
  disable_help_flag = true;
  disable_help_subcommand = true;
  disable_version_flag = true;
  is_built = true;
}

-- the rules have each positional word at its place, from `place` on, and each option by its name
abbrev pub HasPlaces : List Rule → (place : ℕ) (names : List Text) → Type 0
HasPlaces rules place [] = ⊤
HasPlaces rules place (name ∷ names) =
    (arg_by_index rules place ≡ Some (placed place name)) × (arg_by_id rules name ≡ Some (placed place name)) × HasPlaces rules (place + 1) names

abbrev pub HasOption : List Rule → (name : Text) → Type 0
HasOption rules name = ((length name == 0) ≡ false) × (arg_by_long rules name ≡ Some (optional name)) × (arg_by_id rules name ≡ Some (optional name))

abbrev pub HasOptions : List Rule → (names : List Text) → Type 0
HasOptions rules [] = ⊤
HasOptions rules (name ∷ names) = HasOption rules name × HasOptions rules names

pub option_found : (rules : List Rule) (names : List Text) (name : Text) → HasOptions rules names → list_any (bytes_eq name) names ≡ true → HasOption rules name
option_found rules [] name has listed = absurd (false≢true listed)
option_found rules (known ∷ names) name has listed = go (bytes_eq name known) refl listed (option_found rules names name has.1)
  where
    go : (same : Bool) → bytes_eq name known ≡ same → (same || list_any (bytes_eq name) names) ≡ true
        → (list_any (bytes_eq name) names ≡ true → HasOption rules name)
        → HasOption rules name
    go true is any rest = subst (HasOption rules) (sym (same_name name known is)) has.0
    go false is any rest = rest any
