-- What clap is told of a form, and what it gives back.
use Rattle.std.specs.Prelude.{◌≡◌, ℕ, true, List, ◌++◌, map, Some}
use Rattle.clap.specs.Words.{App, Rule, new_app, new_rule, found_of, first_value}
use Rattle.clap.specs.declared.parser.matches.ArgMatches.{ArgMatches}
use Rattle.fab_words.specs.Arguments.{PlainSetting, value_of}
use Rattle.fab_words.specs.Forms.{PlainSynopsis}

-- a positional word, which has to be there
abbrev pub positional_rule : (name : List ℕ) → Rule
positional_rule name = record (new_rule name) { required = true }

-- an option with a value
abbrev pub option_rule : (name : List ℕ) → Rule
option_rule name = record (new_rule name) { long = Some name }

abbrev pub rules : PlainSynopsis → List Rule
rules synopsis = map positional_rule synopsis.positionals ++ map option_rule synopsis.options

-- the command of a form, with neither help nor version
abbrev pub app : PlainSynopsis → App
app synopsis = record (new_app synopsis.command) {
  top = record ((new_app synopsis.command).top) { rules = rules synopsis; disable_help_flag = true; disable_version_flag = true };
}

-- every name has in the matches the value that it has in the list
abbrev pub Gives : ArgMatches → List PlainSetting → Type 0
Gives matches values = (name : List ℕ) → first_value (found_of matches) name ≡ value_of name values
