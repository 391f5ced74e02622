-- Words that are taken one by one.
use Rattle.std.proofs.Common.{◌≡◌, ◌<◌, ◌≤◌, ◌∙◌, ℕ, ◌+◌, inl, inr, Bool, true, false, ◌==◌, List, [], ◌∷◌, ◌++◌, Option, Some, None, option_map, option_copied, if◌then◌else◌, map, length, get_or, drop, refl, sym, ap, append_assoc}
use Rattle.std.specs.Borrow.{Bor}
use Rattle.std.specs.Option.{option_map_or}
use Rattle.std.specs.List.{list_any, before_first, after_first}
use Rattle.std.proofs.lemmas.List.{at_drop_more, at_drop_all}
use Rattle.fab_base.specs.declared.fault.Fault.{Fault}
use Rattle.fab_words.specs.Arguments.{PlainSetting, PlainArguments, setting, no_arguments, with_setting, is_equals, is_positional, is_option, is_setting, option_text, name_in, value_in, arguments_of, IsUsage}
use Rattle.fab_words.specs.inner.Taking.{behind, and_setting, TakesArgument, Ends}

-- with nothing in front
behind_nothing : (more : Option PlainArguments) → behind no_arguments more ≡ more
behind_nothing None = refl
behind_nothing (Some more) = refl

pub taken_from_nothing : (first after : PlainArguments) (more : Option PlainArguments) → first.positionals ≡ [] → first.settings ≡ []
    → behind first more ≡ Some after → more ≡ Some after
taken_from_nothing first after more words options is =
    let made : List (List ℕ) → List PlainSetting → PlainArguments = λ p s. record { positionals = p; settings = s } in
    let nothing : first ≡ no_arguments = ap (λ p. made p first.settings) words ∙ ap (made []) options in
    sym (behind_nothing more) ∙ ap (λ (front : PlainArguments). behind front more) (sym nothing) ∙ is

pub behind_none : (first : PlainArguments) (more : Option PlainArguments) → behind first more ≡ None → more ≡ None
behind_none first None none = refl
behind_none first (Some more) none = absurd (cc)

-- a reason that is told of less is told of more
pub usage_along : {a b : Type 0} (fault : Fault) → (a → b) → IsUsage a fault → IsUsage b fault
usage_along fault leads (inl memory) = inl memory
usage_along fault leads (inr usage) = inr (usage.0, leads usage.1)

-- an option behind these arguments is one more of them
pub setting_behind : (first : PlainArguments) (name value : List ℕ) (more : Option PlainArguments)
    → behind first (option_map (with_setting name value) more) ≡ behind (and_setting first name value) more
setting_behind first name value None = refl
setting_behind first name value (Some more) =
    ap (λ settings. Some (record { positionals = first.positionals ++ more.positionals; settings = settings })) (sym (append_assoc first.settings (setting name value ∷ []) more.settings))

-- ---- an option

-- what the dashes say of the word
pub text_is : (word : List ℕ) (found : Option (Bor (List ℕ))) (text : Bor (List ℕ))
    → option_copied found ≡ (if is_option word then Some (option_text word) else None) → found ≡ Some text → (is_option word ≡ true) × (text.now ≡ option_text word)
text_is word found text says is = go (is_option word) refl
  where
    copied : option_copied found ≡ Some text.now
    copied = rw is

    go : (option : Bool) → is_option word ≡ option → (is_option word ≡ true) × (text.now ≡ option_text word)
    go true e = let same : Some text.now ≡ Some (option_text word) = sym copied ∙ says ∙ rw e in (e, cc)
    go false e = absurd (let none : Some text.now ≡ None = sym copied ∙ says ∙ rw e in cc)

-- what the parts say of the text
pub parts_say : (text : List ℕ) (found : Option (Bor (List ℕ) × Bor (List ℕ))) (name value : Bor (List ℕ))
    → option_map (λ parts. setting parts.0.now parts.1.now) found ≡ (if list_any is_equals text then Some (setting (before_first is_equals text) (after_first is_equals text)) else None)
    → found ≡ Some (name, value)
    → (list_any is_equals text ≡ true) × (name.now ≡ before_first is_equals text) × (value.now ≡ after_first is_equals text)
parts_say text found name value says is = go (list_any is_equals text) refl
  where
    read : option_map (λ parts. setting parts.0.now parts.1.now) found ≡ Some (setting name.now value.now)
    read = rw is

    go : (holds : Bool) → list_any is_equals text ≡ holds → (list_any is_equals text ≡ true) × (name.now ≡ before_first is_equals text) × (value.now ≡ after_first is_equals text)
    go true e = let same : Some (setting name.now value.now) ≡ Some (setting (before_first is_equals text) (after_first is_equals text)) = sym read ∙ says ∙ rw e in
        (e, ap (λ o. option_map_or (λ (s : PlainSetting). s.name) o []) same, ap (λ o. option_map_or (λ (s : PlainSetting). s.value) o []) same)
    go false e = absurd (let none : Some (setting name.now value.now) ≡ None = sym read ∙ says ∙ rw e in cc)

-- `--NAME=VALUE`
pub setting_taken : (word name value : List ℕ) (first after : PlainArguments) → is_positional word ≡ false → is_option word ≡ true → list_any is_equals (option_text word) ≡ true
    → name ≡ name_in word → value ≡ value_in word → (length value == 0) ≡ false → after ≡ and_setting first name value → TakesArgument first after None word None
setting_taken word name value first after positional option equals name_is value_is filled after_is more =
    let not_empty : (length (value_in word) == 0) ≡ false = ap (λ (v : List ℕ). length v == 0) (sym value_is) ∙ filled in
    let whole : is_setting word ≡ true = rw (option, equals, not_empty) in
    let read : arguments_of None (word ∷ more) ≡ option_map (with_setting (name_in word) (value_in word)) (arguments_of None more) = rw (positional, option, equals, not_empty) in
    ap (behind first) read
    ∙ setting_behind first (name_in word) (value_in word) (arguments_of None more)
    ∙ ap (λ (a : PlainArguments). behind a (arguments_of None more))
    (ap (λ (n : List ℕ). and_setting first n (value_in word)) (sym name_is) ∙ ap (and_setting first name) (sym value_is) ∙ sym after_is)

-- ---- the next word

-- a word behind which the line is none ends the whole line
pub ended_at : {X : Type 0} (seen : X → List ℕ) (words : List X) (place : ℕ) (word : X) (text : List ℕ) (first taken : PlainArguments) (named : Option (List ℕ))
    → text ≡ seen word → place < length words → word ≡ get_or words place word
    → behind taken (arguments_of named (map seen (drop place words))) ≡ behind first (arguments_of None (map seen words))
    → Ends named text → arguments_of None (map seen words) ≡ None
ended_at {X} seen words place word text first taken named text_is within is same ends =
    let from_here : List X → Option PlainArguments = λ rest. behind taken (arguments_of named (map seen rest)) in
    let next = at_drop_more from_here words place word within in
    let read = ap (λ (at : X). from_here (at ∷ drop (place + 1) words)) (sym is) in
    behind_none first (arguments_of None (map seen words)) (sym same ∙ next ∙ read
    ∙ ap (λ (at : List ℕ). behind taken (arguments_of named (at ∷ map seen (drop (place + 1) words)))) (sym text_is) ∙ ap (behind taken) (ends (map seen (drop (place + 1) words))))

-- so does an option that lacks its value at the end
pub ended_open : {X : Type 0} (seen : X → List ℕ) (words : List X) (place : ℕ) (first taken : PlainArguments) (named : Option (List ℕ)) (name : List ℕ)
    → length words ≤ place → named ≡ Some name
    → behind taken (arguments_of named (map seen (drop place words))) ≡ behind first (arguments_of None (map seen words))
    → arguments_of None (map seen words) ≡ None
ended_open {X} seen words place first taken named name out is same =
    let at_end = at_drop_all (λ rest. behind taken (arguments_of named (map seen rest))) words place out in
    behind_none first (arguments_of None (map seen words)) (sym same ∙ at_end ∙ ap (λ (waits : Option (List ℕ)). behind taken (arguments_of waits [])) is)
