-- How the code takes words one by one.
use Rattle.std.specs.Prelude.{◌≡◌, ℕ, List, [], ◌∷◌, ◌++◌, Option, None, option_map}
use Rattle.fab_words.specs.Arguments.{PlainArguments, setting, arguments_of}

-- these arguments and one more option
abbrev pub and_setting : (first : PlainArguments) (name value : List ℕ) → PlainArguments
and_setting first name value = record { positionals = first.positionals; settings = first.settings ++ setting name value ∷ [] }

-- these arguments with more behind them
abbrev pub behind : (first : PlainArguments) → Option PlainArguments → Option PlainArguments
behind first more =
    option_map (λ (rest : PlainArguments). record { positionals = first.positionals ++ rest.positionals; settings = first.settings ++ rest.settings }) more

-- With a word that comes behind the option `named`, the arguments `old` become `new`, and the option `next` waits for its value.
abbrev pub TakesArgument : (old new : PlainArguments) (named : Option (List ℕ)) (word : List ℕ) (next : Option (List ℕ)) → Type 0
TakesArgument old new named word next = (more : List (List ℕ)) → behind old (arguments_of named (word ∷ more)) ≡ behind new (arguments_of next more)

-- whatever comes behind the word, the line is none
abbrev pub Ends : (named : Option (List ℕ)) (word : List ℕ) → Type 0
Ends named word = (more : List (List ℕ)) → arguments_of named (word ∷ more) ≡ None
