-- What clap is told.
use Rattle.std.proofs.Common.{◌≡◌, ◌∙◌, ◌+◌, ◌<◌, ℕ, suc, true, false, List, [], ◌∷◌, ◌++◌, length, get_or, take, map, sym, ap, ap₂, arith, append-nil, append_assoc}
use Rattle.std.specs.List.{All}
use Rattle.std.proofs.lemmas.List.{map-append, take_more}
use Rattle.std.proofs.lemmas.Simd.{map-map}
use Rattle.std.proofs.lemmas.List.Elements.{All-push}
use Rattle.clap.specs.Built.{AddsArg, AddsInTurn}
use Rattle.clap.specs.Simple.{app_of, app_of_fields, new_app, on_top}
use Rattle.clap.specs.Walk.{Rule, rule_of}
use Rattle.clap.specs.declared.builder.command.Command.TheViews.{out-Command as fields_of}
use Rattle.clap.specs.declared.builder.arg.Arg.{Arg}
use Rattle.clap.specs.declared.builder.command.Command.{Command}
use Rattle.fab_words.specs.Forms.{PlainSynopsis}
use Rattle.fab_words.specs.inner.Matching.{app, option_rule, positional_rule, rules}

-- one more argument
pub told_more : {X : Type 0} (f : X → Rule) (start : List Rule) (names : List X) (place : ℕ) (name : X) (old new : List Arg) (argument : Arg)
    → map rule_of old ≡ start ++ map f (take place names) → place < length names → new ≡ old ++ argument ∷ [] → rule_of argument ≡ f (get_or names place name)
    → map rule_of new ≡ start ++ map f (take (place + 1) names)
told_more f start names place name old new argument before within is rule =
    ap (map rule_of) is ∙ map-append rule_of old (argument ∷ []) ∙ ap (λ rules. rules ++ rule_of argument ∷ []) before
    ∙ append_assoc start (map f (take place names)) (rule_of argument ∷ [])
    ∙ ap (λ rule. start ++ (map f (take place names) ++ rule ∷ [])) rule
    ∙ ap (λ rules. start ++ rules) (sym (map-append f (take place names) (get_or names place name ∷ [])))
    ∙ ap (λ names. start ++ map f names) (sym (take_more names place name within))

-- which is not global
pub local_more : (old new : List Arg) (argument : Arg) → new ≡ old ++ argument ∷ [] → argument.global ≡ false → All (λ a. a.global ≡ false) old
    → All (λ a. a.global ≡ false) new
local_more old new argument is local all = rw is (All-push (λ (a : Arg). a.global ≡ false) old argument all local)

-- all arguments
all_told : (arguments : List Arg) (old new : Command) → All (λ a. a.global ≡ false) arguments → AddsInTurn AddsArg old arguments new
    → app_of new ≡ on_top (λ s. record s { rules = s.rules ++ map rule_of arguments }) (app_of old)
all_told [] old new local same =
    ap app_of (sym same) ∙ ap (λ rules. on_top (λ s. record s { rules = rules }) (app_of old)) (sym (append-nil (app_of old).top.rules))
all_told (argument ∷ arguments) old new local added =
    let first : argument.global ≡ false = local 0 argument (omega arith) in
    let rest = all_told arguments added.0 new (λ k d within. local (suc k) d (omega arith)) added.2 in
    rest ∙ ap (on_top (λ s. record s { rules = s.rules ++ map rule_of arguments })) (added.1.shape first)
    ∙ ap (λ rules. on_top (λ s. record s { rules = rules }) (app_of old)) (append_assoc (app_of old).top.rules (rule_of argument ∷ []) (map rule_of arguments))

pub form_told : (line : PlainSynopsis) (start quiet plain made : Command) (arguments : List Arg) → app_of start ≡ new_app line.command
    → fields_of quiet ≡ record (fields_of start) { disable_help_flag = true } → fields_of plain ≡ record (fields_of quiet) { disable_version_flag = true }
    → map rule_of arguments ≡ rules line → All (λ a. a.global ≡ false) arguments → AddsInTurn AddsArg plain arguments made → app_of made ≡ app line
form_told line start quiet plain made arguments is without_help without_version told local added =
    all_told arguments plain made local added
    ∙ ap (λ f. on_top (λ s. record s { rules = s.rules ++ map rule_of arguments }) (app_of_fields f)) without_version
    ∙ ap (λ f. on_top (λ s. record s { disable_version_flag = true; rules = s.rules ++ map rule_of arguments }) (app_of_fields f)) without_help
    ∙ ap (on_top (λ s. record s { disable_help_flag = true; disable_version_flag = true; rules = s.rules ++ map rule_of arguments })) is
    ∙ ap (λ told_rules. on_top (λ s. record s { disable_help_flag = true; disable_version_flag = true; rules = told_rules }) (new_app line.command)) told

-- the positional words, and then the options
pub two_told : {X : Type 0} (text : X → List ℕ) (none first both : List Arg) (positionals options : List X) → none ≡ []
    → map rule_of first ≡ map rule_of none ++ map (λ name. positional_rule (text name)) positionals
    → map rule_of both ≡ map rule_of first ++ map (λ name. option_rule (text name)) options
    → map rule_of both ≡ map positional_rule (map text positionals) ++ map option_rule (map text options)
two_told text none first both positionals options empty as_first as_both =
    as_both ∙ ap₂ (λ (a b : List Rule). a ++ b) (as_first
    ∙ ap₂ (λ (a b : List Rule). a ++ b) (ap (map rule_of) empty) (sym (map-map positional_rule text positionals)))
    (sym (map-map option_rule text options))
