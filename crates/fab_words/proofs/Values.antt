-- Lists of values by their names.
use Rattle.std.proofs.Common.{◌≡◌, ◌∙◌, ◌&&◌, ◌||◌, not, ℕ, Bool, true, false, List, [], ◌∷◌, ◌++◌, Some, if◌then◌else◌, length, refl, sym, ap, arith, append_assoc}
use Rattle.std.specs.Prelude.{⊤, is_some}
use Rattle.std.specs.List.{list_any}
use Rattle.std.specs.Str.{bytes_eq}
use Rattle.std.proofs.lemmas.Bool.{false≢true, and_parts, not-true}
use Rattle.std.proofs.lemmas.List.Folds.{list_any-append}
use Rattle.std.proofs.lemmas.Slice.Eq.{bytes_eq-Decides}
use Rattle.fab_words.specs.Arguments.{PlainSetting, has_setting, value_of, are_options}
use Rattle.fab_words.specs.Forms.{named}

-- ---- names

pub same_name : (a b : List ℕ) → bytes_eq a b ≡ true → a ≡ b
same_name a b same = (bytes_eq-Decides a b).0 same

pub name_again : (a : List ℕ) → bytes_eq a a ≡ true
name_again a = (bytes_eq-Decides a a).1 refl

pub other_name : (a b : List ℕ) → bytes_eq a b ≡ false → bytes_eq b a ≡ false
other_name a b other = go (bytes_eq b a) refl
  where
    go : (same : Bool) → bytes_eq b a ≡ same → bytes_eq b a ≡ false
    go false is = is
    go true is = absurd (false≢true (sym other ∙ (bytes_eq-Decides a b).1 (sym (same_name b a is))))

-- neither of two holds
pub neither : (a b : Bool) → (a || b) ≡ false → (a ≡ false) × (b ≡ false)
neither false b is = (refl, is)
neither true b is = absurd (false≢true (sym is))

-- a name that is not given does not agree with one that is
pub apart : (given name : List ℕ) (values : List PlainSetting) → has_setting name values ≡ false → has_setting given values ≡ true → bytes_eq given name ≡ false
apart given name values lacks has = go (bytes_eq given name) refl
  where
    go : (same : Bool) → bytes_eq given name ≡ same → bytes_eq given name ≡ false
    go false is = is
    go true is = absurd (false≢true (sym lacks ∙ ap (λ n. has_setting n values) (sym (same_name given name is)) ∙ has))

-- ---- values

pub has-append : (name : List ℕ) (first more : List PlainSetting) → has_setting name (first ++ more) ≡ (has_setting name first || has_setting name more)
has-append name first more = list_any-append (λ (s : PlainSetting). bytes_eq s.name name) first more

pub has_value : (name : List ℕ) (values : List PlainSetting) → has_setting name values ≡ is_some (value_of name values)
has_value name [] = refl
has_value name (s ∷ values) = go (bytes_eq s.name name) (has_value name values)
  where
    go : (same : Bool) → has_setting name values ≡ is_some (value_of name values)
        → (same || has_setting name values) ≡ is_some (if same then Some s.value else value_of name values)
    go true rest = refl
    go false rest = rest

-- what stands behind the same values
pub value_behind : (name : List ℕ) (first more other : List PlainSetting) → value_of name more ≡ value_of name other
    → value_of name (first ++ more) ≡ value_of name (first ++ other)
value_behind name [] more other is = is
value_behind name (s ∷ first) more other is = ap (λ rest. if bytes_eq s.name name then Some s.value else rest) (value_behind name first more other is)

-- a value that stands behind values of other names
pub value_between : (name : List ℕ) (first : List PlainSetting) (s : PlainSetting) (more : List PlainSetting) → has_setting s.name first ≡ false
    → value_of name (first ++ s ∷ more) ≡ (if bytes_eq s.name name then Some s.value else value_of name (first ++ more))
value_between name [] s more lacks = refl
value_between name (x ∷ first) s more lacks =
    let parts = neither (bytes_eq x.name s.name) (has_setting s.name first) lacks in
    go (bytes_eq x.name name) refl parts.0 (value_between name first s more parts.1)
  where
    go : (same : Bool) → bytes_eq x.name name ≡ same → bytes_eq x.name s.name ≡ false
        → value_of name (first ++ s ∷ more) ≡ (if bytes_eq s.name name then Some s.value else value_of name (first ++ more))
        → (if same then Some x.value else value_of name (first ++ s ∷ more))
        ≡ (if bytes_eq s.name name then Some s.value else (if same then Some x.value else value_of name (first ++ more)))
    go false is differs rest = rest
    go true is differs rest =
        let other : bytes_eq s.name name ≡ false = ap (bytes_eq s.name) (sym (same_name x.name name is)) ∙ other_name x.name s.name differs in
        rw other

-- ---- values of different names

abbrev pub IsDistinct : List PlainSetting → Type 0
IsDistinct [] = ⊤
IsDistinct (s ∷ values) = (has_setting s.name values ≡ false) × IsDistinct values

-- without one of them
pub distinct_without : (first : List PlainSetting) (s : PlainSetting) (more : List PlainSetting) → IsDistinct (first ++ s ∷ more)
    → (has_setting s.name (first ++ more) ≡ false) × IsDistinct (first ++ more)
distinct_without [] s more distinct = distinct
distinct_without (x ∷ first) s more distinct =
    let rest = distinct_without first s more distinct.1 in
    let cut = neither (has_setting x.name first) (has_setting x.name (s ∷ more)) (sym (has-append x.name first (s ∷ more)) ∙ distinct.0) in
    let tail = neither (bytes_eq s.name x.name) (has_setting x.name more) cut.1 in
    let differs : bytes_eq x.name s.name ≡ false = other_name s.name x.name tail.0 in
    let lacks : has_setting x.name (first ++ more) ≡ false = has-append x.name first more ∙ rw (cut.0, tail.1) in
    let lacks_s : has_setting s.name (x ∷ first ++ more) ≡ false = rw (differs, rest.0) in
    (lacks_s, (lacks, rest.1))

-- none of the names of `coming` is given
abbrev pub IsFresh : (given coming : List PlainSetting) → Type 0
IsFresh given coming = (name : List ℕ) → has_setting name coming ≡ true → has_setting name given ≡ false

has_between : (name : List ℕ) (first : List PlainSetting) (s : PlainSetting) (more : List PlainSetting) → has_setting name (first ++ more) ≡ true
    → has_setting name (first ++ s ∷ more) ≡ true
has_between name first s more has = has-append name first (s ∷ more)
    ∙ go (has_setting name first) (bytes_eq s.name name) (sym (has-append name first more) ∙ has)
  where
    go : (a b : Bool) → (a || has_setting name more) ≡ true → (a || (b || has_setting name more)) ≡ true
    go true b is = refl
    go false true is = refl
    go false false is = is

pub has_it : (first : List PlainSetting) (s : PlainSetting) (more : List PlainSetting) → has_setting s.name (first ++ s ∷ more) ≡ true
has_it first s more = has-append s.name first (s ∷ more) ∙ go (has_setting s.name first)
  where
    go : (a : Bool) → (a || (bytes_eq s.name s.name || has_setting s.name more)) ≡ true
    go true = refl
    go false = rw (name_again s.name)

-- one of them is given
pub fresh_next : (given first : List PlainSetting) (s : PlainSetting) (more : List PlainSetting) → IsFresh given (first ++ s ∷ more)
    → IsDistinct (first ++ s ∷ more)
    → IsFresh (given ++ s ∷ []) (first ++ more)
fresh_next given first s more fresh distinct name has =
    let without = distinct_without first s more distinct in
    let differs : bytes_eq s.name name ≡ false = other_name name s.name (apart name s.name (first ++ more) without.0 has) in
    has-append name given (s ∷ []) ∙ rw (fresh name (has_between name first s more has), differs)

-- the values are the same when one moves to those that are given
pub value_moved : (name : List ℕ) (given first : List PlainSetting) (s : PlainSetting) (more : List PlainSetting) → IsDistinct (first ++ s ∷ more)
    → value_of name ((given ++ s ∷ []) ++ (first ++ more)) ≡ value_of name (given ++ (first ++ s ∷ more))
value_moved name given first s more distinct =
    let lacks = neither (has_setting s.name first) (has_setting s.name more)
    (sym (has-append s.name first more) ∙ (distinct_without first s more distinct).0) in
    ap (value_of name) (append_assoc given (s ∷ []) (first ++ more))
    ∙ value_behind name given (s ∷ first ++ more) (first ++ s ∷ more) (sym (value_between name first s more lacks.0))

-- ---- the values of a form

-- no two names agree
abbrev pub are_distinct : List (List ℕ) → Bool
are_distinct [] = true
are_distinct (name ∷ names) = not (list_any (bytes_eq name) names) && are_distinct names

-- the options are of these names, each once
pub option_known : (names : List (List ℕ)) (s : PlainSetting) (more : List PlainSetting) → are_options names (s ∷ more) ≡ true
    → (list_any (bytes_eq s.name) names ≡ true) × (has_setting s.name more ≡ false) × (are_options names more ≡ true)
option_known names s more are =
    let outer = and_parts (list_any (bytes_eq s.name) names && not (has_setting s.name more)) (are_options names more) are in
    let inner = and_parts (list_any (bytes_eq s.name) names) (not (has_setting s.name more)) outer.0 in
    (inner.0, not-true (has_setting s.name more) inner.1, outer.1)

options_distinct : (names : List (List ℕ)) (settings : List PlainSetting) → are_options names settings ≡ true → IsDistinct settings
options_distinct names [] are = tt
options_distinct names (s ∷ settings) are = let known = option_known names s settings are in (known.1, options_distinct names settings known.2)

-- no option has another name
options_lack : (name : List ℕ) (names : List (List ℕ)) (settings : List PlainSetting) → list_any (bytes_eq name) names ≡ false
    → are_options names settings ≡ true
    → has_setting name settings ≡ false
options_lack name names [] unknown are = refl
options_lack name names (s ∷ settings) unknown are =
    let known = option_known names s settings are in
    let differs : bytes_eq s.name name ≡ false = go (bytes_eq s.name name) refl known.0 in
    rw (differs, options_lack name names settings unknown known.2)
  where
    go : (same : Bool) → bytes_eq s.name name ≡ same → list_any (bytes_eq s.name) names ≡ true → bytes_eq s.name name ≡ false
    go false is listed = is
    go true is listed = absurd (false≢true (sym unknown ∙ ap (λ (n : List ℕ). list_any (bytes_eq n) names) (sym (same_name s.name name is)) ∙ listed))

-- nor do the positional words
names_lack : (name : List ℕ) (places words : List (List ℕ)) → list_any (bytes_eq name) places ≡ false → has_setting name (named places words) ≡ false
names_lack name [] words unknown = refl
names_lack name (place ∷ places) [] unknown = refl
names_lack name (place ∷ places) (word ∷ words) unknown =
    let parts = neither (bytes_eq name place) (list_any (bytes_eq name) places) unknown in
    rw (other_name name place parts.0, names_lack name places words parts.1)

-- the values of a form whose names differ are of different names
pub values_distinct : (places options words : List (List ℕ)) (settings : List PlainSetting) → are_distinct (places ++ options) ≡ true
    → are_options options settings ≡ true
    → IsDistinct (named places words ++ settings)
values_distinct [] options words settings differ are = options_distinct options settings are
values_distinct (place ∷ places) options [] settings differ are = options_distinct options settings are
values_distinct (place ∷ places) options (word ∷ words) settings differ are =
    let parts = and_parts (not (list_any (bytes_eq place) (places ++ options))) (are_distinct (places ++ options)) differ in
    let unknown = neither (list_any (bytes_eq place) places) (list_any (bytes_eq place) options)
    (sym (list_any-append (bytes_eq place) places options) ∙ not-true (list_any (bytes_eq place) (places ++ options)) parts.0) in
    let lacks : has_setting place (named places words ++ settings) ≡ false =
    has-append place (named places words) settings ∙ rw (names_lack place places words unknown.0, options_lack place options settings unknown.1 are) in
    (lacks, values_distinct places options words settings parts.1 are)

-- as many words as names give each name its value
pub names_given : (name : List ℕ) (places words : List (List ℕ)) (settings : List PlainSetting) → length words ≡ length places
    → list_any (bytes_eq name) places ≡ true
    → has_setting name (named places words ++ settings) ≡ true
names_given name [] words settings many listed = absurd (false≢true listed)
names_given name (place ∷ places) [] settings many listed = absurd (omega arith)
names_given name (place ∷ places) (word ∷ words) settings many listed = go (bytes_eq name place) refl listed
    (names_given name places words settings (omega arith))
  where
    go : (same : Bool) → bytes_eq name place ≡ same → (same || list_any (bytes_eq name) places) ≡ true
        → (list_any (bytes_eq name) places ≡ true → has_setting name (named places words ++ settings) ≡ true)
        → (bytes_eq place name || has_setting name (named places words ++ settings)) ≡ true
    go true is any rest = rw ((bytes_eq-Decides place name).1 (sym (same_name name place is)))
    go false is any rest = rw (other_name name place is, rest any)
