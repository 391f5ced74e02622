-- What a sound text says of the modules before one, here the latest first.
use Rattle.std.proofs.Common.{◌≡◌, ℕ, ◌+◌, ◌<◌, Bool, true, false, if◌then◌else◌, List, [], ◌∷◌, ◌++◌, length, reverse, All, Option, Some, None, append_assoc, append-nil, length-append, refl, sym, ap, subst, ◌∙◌, inl, inr, arith}
use Rattle.std.proofs.lemmas.Bool.{cases_Bool, false≢true}
use Rattle.std.proofs.lemmas.List.{reverse-append, reverse-reverse}
use Rattle.std.proofs.lemmas.List.Folds.{find-append}
use Rattle.std.proofs.lemmas.Slice.Eq.{bytes_eq-Decides}
use Rattle.std.specs.Option.{option_or, is_some}
use Rattle.std.specs.Str.{bytes_eq}
use Rattle.fab_syntax.specs.Declarations.{module_named}
use Rattle.fab_syntax.specs.Plain.{PlainModule}
use Rattle.fab_syntax.specs.Sound.{refusals, mentions_in, text_refusals, InstanceFits, InstancesFitBehind, IsSound}
use Rattle.fab_values.specs.fab_meaning.specs.Points.{Path}
use Rattle.fab_values.specs.fab_meaning.proofs.Declared.{bytes_apart}
use Rattle.fab_values.specs.fab_meaning.proofs.Dependence.{same_name}
use Rattle.fab_equations.specs.Instances.{instances_within, instances_named}
use Rattle.fab_equations.specs.Counting.{total_among, instances_count}

-- each module has a name of its own, and its instances are of modules before it
abbrev pub IsFit : List PlainModule → Type 0
IsFit [] = Unit {0}
IsFit (m ∷ before) = (module_named before m.name ≡ None) × All (InstanceFits (reverse before) m) m.items × IsFit before

none_refused : {X : Type 0} (b : Bool) (x : X) (xs ys : List X) → (if b then x ∷ [] else []) ++ (xs ++ ys) ≡ [] → (b ≡ false) × (ys ≡ [])
none_refused true x xs ys e = cc
none_refused false x [] ys e = (refl, e)
none_refused false x (y ∷ xs) ys e = cc

none_there : {X : Type 0} (o : Option X) → is_some o ≡ false → o ≡ None
none_there None e = refl
none_there (Some x) e = cc

fit_from : (front rest : List PlainModule) → IsFit (reverse front) → text_refusals (reverse front) rest ≡ [] → InstancesFitBehind front rest → IsFit (reverse (front ++ rest))
fit_from front [] fit names instances = subst (λ (ms : List PlainModule). IsFit (reverse ms)) (sym (append-nil front)) fit
fit_from front (m ∷ rest) fit names instances =
    let longer : reverse (front ++ m ∷ []) ≡ m ∷ reverse front = reverse-append front (m ∷ []) in
    let refused = none_refused (is_some (module_named (reverse front) m.name)) _ (refusals [] (mentions_in m)) (text_refusals (m ∷ reverse front) rest) names in
    let here : IsFit (m ∷ reverse front) = (
      none_there (module_named (reverse front) m.name) refused.0,
      subst (λ (before : List PlainModule). All (InstanceFits before m) m.items) (sym (reverse-reverse front)) instances.0,
      fit,
    ) in
    subst (λ (ms : List PlainModule). IsFit (reverse ms)) (append_assoc front (m ∷ []) rest)
    (fit_from (front ++ m ∷ []) rest (subst IsFit (sym longer) here)
    (subst (λ (before : List PlainModule). text_refusals before rest ≡ []) (sym longer) refused.1) instances.1)

pub sound_fit : (text : List PlainModule) → IsSound text → IsFit (reverse text)
sound_fit text sound = fit_from [] text tt sound.names sound.instances

pub fit_behind : (later before : List PlainModule) → IsFit (later ++ before) → IsFit before
fit_behind [] before fit = fit
fit_behind (m ∷ later) before fit = fit_behind later before fit.2

-- ---- look-ups

pub turned : (a b : List ℕ) → bytes_eq a b ≡ false → bytes_eq b a ≡ false
turned a b f = bytes_apart b a (λ (same : b ≡ a). false≢true (sym f ∙ subst (λ (n : List ℕ). bytes_eq a n ≡ true) (sym same) (same_name a)))

-- with names that differ the order of the modules does not matter
pub found_either_way : (before : List PlainModule) → IsFit before → (name : List ℕ) → module_named (reverse before) name ≡ module_named before name
found_either_way [] fit name = refl
found_either_way (m ∷ before) fit name =
    let parted : module_named (reverse (m ∷ before)) name ≡ option_or (module_named (reverse before) name) (module_named (m ∷ []) name) =
    ap (λ ms. module_named ms name) (reverse-append (m ∷ []) before) ∙ find-append (λ (n : PlainModule). bytes_eq n.name name) (reverse before) (m ∷ []) in
    let earlier : module_named (reverse before) name ≡ module_named before name = found_either_way before fit.2 name in
    elim (cases_Bool (bytes_eq m.name name)) [
      | inl t ↦ (let none : module_named before name ≡ None = subst (λ (n : List ℕ). module_named before n ≡ None) ((bytes_eq-Decides m.name name).0 t) fit.0 in
          parted ∙ ap (λ o. option_or o (module_named (m ∷ []) name)) (earlier ∙ none) ∙ rw t refl)
      | inr f ↦ (let last : module_named (m ∷ []) name ≡ None = rw f refl in
          let passed : module_named (m ∷ before) name ≡ module_named before name = rw f refl in
          parted ∙ ap (option_or (module_named (reverse before) name)) last ∙ or_none (module_named (reverse before) name) ∙ earlier ∙ sym passed)
    ]
  where
    or_none : (o : Option PlainModule) → option_or o None ≡ o
    or_none None = refl
    or_none (Some n) = refl

pub named_longer : (before later : List PlainModule) (name : List ℕ) (m : PlainModule) → module_named before name ≡ Some m → module_named (before ++ later) name ≡ Some m
named_longer before later name m e =
    find-append (λ (n : PlainModule). bytes_eq n.name name) before later ∙ ap (λ o. option_or o (module_named later name)) e

-- where a module of a name stands, with the instances and their number that an instance of it has
pub record Latest (before : List PlainModule) (name : List ℕ) (m : PlainModule) : Type 0 where
  pub later : List PlainModule
  pub behind : List PlainModule
  pub split : before ≡ later ++ m ∷ behind
  pub listed : (path : Path) → instances_named before name path ≡ instances_within (instances_named behind) (length behind) m path
  pub counted : instances_count before name ≡ 1 + total_among (instances_count behind) m.items

pub shorter_behind : (before later behind : List PlainModule) (m : PlainModule) → before ≡ later ++ m ∷ behind → length behind < length before
shorter_behind before later behind m e = omega (arith, ap length e, length-append later (m ∷ behind))

pub latest : (before : List PlainModule) (name : List ℕ) (m : PlainModule) → module_named before name ≡ Some m → Latest before name m
latest [] name m e = cc
latest (first ∷ before) name m e =
    elim (cases_Bool (bytes_eq name first.name)) [
      | inl t ↦ (let there : bytes_eq first.name name ≡ true = subst (λ (n : List ℕ). bytes_eq first.name n ≡ true) (sym ((bytes_eq-Decides name first.name).0 t)) (same_name first.name) in
          let found : module_named (first ∷ before) name ≡ Some first = rw there refl in
          let same : first ≡ m = cc in
          record {
            later = [];
            behind = before;
            split = ap (λ (n : PlainModule). n ∷ before) same;
            listed = λ path. rw t (ap (λ (n : PlainModule). instances_within (instances_named before) (length before) n path) same);
            counted = rw t (ap (λ (n : PlainModule). 1 + total_among (instances_count before) n.items) same);
          })
      | inr f ↦ (let passed : module_named (first ∷ before) name ≡ module_named before name = rw (turned name first.name f) refl in
          let rest = latest before name m (sym passed ∙ e) in
          record {
            later = first ∷ rest.later;
            behind = rest.behind;
            split = ap (λ (ms : List PlainModule). first ∷ ms) rest.split;
            listed = λ path. rw f (rest.listed path);
            counted = rw f rest.counted;
          })
    ]
