-- What stands behind the command in a line of words: positional words, and options with their values.
use Rattle.std.specs.Prelude.{◌≡◌, ◌⊎◌, ℕ, Bool, true, List, [], ◌∷◌, ◌==◌, ◌&&◌, not, nat_eq, length, drop, slice_index, codes, Option, Some, None, option_map, if◌then◌else◌}
use Rattle.std.specs.List.{starts_with, list_any, before_first, after_first}
use Rattle.std.specs.Str.{bytes_eq}
use Rattle.fab_base.specs.declared.fault.Fault.{Fault}
use Rattle.fab_base.specs.declared.fault.Fault.TheVariants as faults

-- ---- words

-- a positional word is not empty and does not begin with `-`
abbrev pub is_positional : List ℕ → Bool
is_positional word = not (length word == 0) && not (slice_index word 0 == 45)

abbrev pub is_equals : ℕ → Bool
is_equals byte = byte == 61

-- `--NAME` or `--NAME=VALUE`
abbrev pub is_option : List ℕ → Bool
is_option word = starts_with nat_eq word (codes "--")

-- what stands behind the dashes
abbrev pub option_text : List ℕ → List ℕ
option_text word = drop 2 word

-- NAME and VALUE of `--NAME=VALUE`
abbrev pub name_in : List ℕ → List ℕ
name_in word = before_first is_equals (option_text word)

abbrev pub value_in : List ℕ → List ℕ
value_in word = after_first is_equals (option_text word)

-- `--NAME=VALUE`, with a value that is not empty
abbrev pub is_setting : List ℕ → Bool
is_setting word = is_option word && list_any is_equals (option_text word) && not (length (value_in word) == 0)

-- `--NAME`, whose value is the next word
abbrev pub is_option_name : List ℕ → Bool
is_option_name word = is_option word && not (list_any is_equals (option_text word))

-- ---- a line of words

-- an option with its value
pub record PlainSetting : Type 0 where
  pub name : List ℕ
  pub value : List ℕ

abbrev pub setting : (name value : List ℕ) → PlainSetting
setting name value = record { name = name; value = value }

-- the positional words, and the options with their values, each in the written order
pub record PlainArguments : Type 0 where
  pub positionals : List (List ℕ)
  pub settings : List PlainSetting

abbrev pub no_arguments : PlainArguments
no_arguments = record { positionals = []; settings = [] }

abbrev pub with_positional : (word : List ℕ) → PlainArguments → PlainArguments
with_positional word arguments = record { positionals = word ∷ arguments.positionals; settings = arguments.settings }

abbrev pub with_setting : (name value : List ℕ) → PlainArguments → PlainArguments
with_setting name value arguments = record { positionals = arguments.positionals; settings = setting name value ∷ arguments.settings }

-- The arguments that words are, if they are some. `named` is the option whose value the first word is, if there is one; that word is a positional one.
abbrev pub arguments_of : (named : Option (List ℕ)) (words : List (List ℕ)) → Option PlainArguments
arguments_of None [] = Some no_arguments
arguments_of (Some name) [] = None
arguments_of (Some name) (word ∷ words) = if is_positional word then option_map (with_setting name word) (arguments_of None words) else None
arguments_of None (word ∷ words) =
    if is_positional word then option_map (with_positional word) (arguments_of None words) else
    if is_setting word then option_map (with_setting (name_in word) (value_in word)) (arguments_of None words) else
    if is_option_name word then arguments_of (Some (option_text word)) words else None

-- ---- the options of a form

-- whether the option is given
abbrev pub has_setting : (name : List ℕ) → List PlainSetting → Bool
has_setting name settings = list_any (λ setting. bytes_eq setting.name name) settings

-- Options of these names alone are given, each at most once.
abbrev pub are_options : (names : List (List ℕ)) → List PlainSetting → Bool
are_options names [] = true
are_options names (setting ∷ settings) = list_any (bytes_eq setting.name) names && not (has_setting setting.name settings) && are_options names settings

-- the value of an option, where it is given
abbrev pub value_of : (name : List ℕ) → List PlainSetting → Option (List ℕ)
value_of name [] = None
value_of name (setting ∷ settings) = if bytes_eq setting.name name then Some setting.value else value_of name settings

-- ---- words that are none

-- Words are refused as faulty only where they are none of what is asked for; memory may be refused at any time.
abbrev pub IsUsage : (none : Type 0) → Fault → Type 0
IsUsage none fault = (fault ≡ faults.Memory) ⊎ ((fault ≡ faults.Usage) × none)
