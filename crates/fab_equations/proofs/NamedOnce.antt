-- Declarations in their order, where each name is declared once.
use Rattle.std.proofs.Common.{◌≡◌, ℕ, ◌+◌, ◌<◌, true, false, List, [], ◌∷◌, ◌++◌, length, map, take, drop, get_or, None, Result, Ok, Err, OnOk, refl, sym, ap, subst, ◌∙◌, inl, inr, arith}
use Rattle.std.proofs.lemmas.Bool.{cases_Bool}
use Rattle.std.proofs.lemmas.List.{take-append-drop, drop_more, append_assoc, map-append}
use Rattle.std.proofs.lemmas.Slice.Eq.{bytes_eq-Decides}
use Rattle.std.specs.Str.{bytes_eq}
use Rattle.fab_syntax.specs.declared.tree.Port.{Port}
use Rattle.fab_syntax.specs.declared.tree.Item.{Item}
use Rattle.fab_syntax.specs.Plain.{PlainItem, wire, reg, assign, latch, clocked, instance, plain_item}
use Rattle.fab_syntax.specs.Declarations.{one_if_same}
use Rattle.fab_values.specs.Declarations.{Declaration, width, bits_of, found_from, found_in, item_declarations, port_declaration}
use Rattle.fab_equations.proofs.Counted.{take_next}
use Rattle.fab_equations.specs.Tables.{firsts_from, firsts_of}
use Rattle.fab_equations.specs.inner.Building.{times_among, DeclaresOnce}

pub bytes_swap : (a b : List ℕ) → bytes_eq a b ≡ bytes_eq b a
bytes_swap a b =
    elim (cases_Bool (bytes_eq a b)) [
      | inl t ↦ t ∙ sym ((bytes_eq-Decides b a).1 (sym ((bytes_eq-Decides a b).0 t)))
      | inr f ↦ (elim (cases_Bool (bytes_eq b a)) [
        | inl t ↦ (let s = (bytes_eq-Decides a b).1 (sym ((bytes_eq-Decides b a).0 t)) in cc)
        | inr g ↦ f ∙ sym g
      ])
    ]

-- a list parts at an item
pub parted : {X : Type 0} (xs : List X) (i : ℕ) (x : X) → i < length xs → x ≡ get_or xs i x → xs ≡ take i xs ++ x ∷ drop (i + 1) xs
parted xs i x l is = sym (take-append-drop i xs) ∙ ap (λ ys. take i xs ++ ys) (drop_more xs i x l ∙ ap (λ y. y ∷ drop (i + 1) xs) (sym is))

pub times-append : (xs ys : List Declaration) (name : List ℕ) → times_among (xs ++ ys) name ≡ times_among xs name + times_among ys name
times-append [] ys name = omega arith
times-append (x ∷ xs) ys name = omega (arith, times-append xs ys name)

pub none_found : (first : ℕ) (ds : List Declaration) (name : List ℕ) → times_among ds name ≡ 0 → found_from first ds name ≡ None
none_found first [] name none = refl
none_found first (d ∷ ds) name none =
    elim (cases_Bool (bytes_eq d.name name)) [
      | inl t ↦ (let one : one_if_same d.name name ≡ 1 = rw t refl in absurd (omega arith))
      | inr f ↦ (let other : bytes_eq name d.name ≡ false = bytes_swap name d.name ∙ f in
          let rest : times_among ds name ≡ 0 = omega (arith, none) in
          rw other (none_found (first + width d.shape) ds name rest))
    ]

one_itself : (name : List ℕ) → one_if_same name name ≡ 1
one_itself name = let t : bytes_eq name name ≡ true = (bytes_eq-Decides name name).1 refl in rw t refl

-- the next name is new
pub new_name : (ds : List Declaration) (d : Declaration) (rest : List Declaration) → DeclaresOnce (ds ++ d ∷ rest) → found_in ds d.name ≡ None
new_name ds d rest once =
    none_found 0 ds d.name (omega (arith, once d.name, times-append ds (d ∷ rest) d.name, one_itself d.name))

pub fewer_declared : (ds more : List Declaration) → DeclaresOnce (ds ++ more) → DeclaresOnce ds
fewer_declared ds more once name = omega (arith, once name, times-append ds more name)

firsts_push_from : (first : ℕ) (ds : List Declaration) (d : Declaration) → firsts_from first (ds ++ d ∷ []) ≡ firsts_from first ds ++ (first + bits_of ds) ∷ []
firsts_push_from first [] d = ap (λ n. n ∷ []) (omega arith)
firsts_push_from first (x ∷ ds) d =
    let sum : (first + width x.shape) + bits_of ds ≡ first + (width x.shape + bits_of ds) = omega arith in
    ap (λ ns. first ∷ ns) (firsts_push_from (first + width x.shape) ds d) ∙ ap (λ n. first ∷ (firsts_from (first + width x.shape) ds ++ n ∷ [])) sum

pub firsts_push : (ds : List Declaration) (d : Declaration) → firsts_of (ds ++ d ∷ []) ≡ firsts_of ds ++ bits_of ds ∷ []
firsts_push ds d = firsts_push_from 0 ds d ∙ ap (λ n. firsts_of ds ++ n ∷ []) (omega arith)

pub items-append : (xs ys : List PlainItem) → item_declarations (xs ++ ys) ≡ item_declarations xs ++ item_declarations ys
items-append [] ys = refl
items-append (wire shape name ∷ xs) ys = ap (λ ds. item_declarations (wire shape name ∷ []) ++ ds) (items-append xs ys)
items-append (reg shape name ∷ xs) ys = ap (λ ds. item_declarations (reg shape name ∷ []) ++ ds) (items-append xs ys)
items-append (assign target e ∷ xs) ys = items-append xs ys
items-append (latch target gate e ∷ xs) ys = items-append xs ys
items-append (clocked clock target e ∷ xs) ys = items-append xs ys
items-append (instance module_name name joins ∷ xs) ys = items-append xs ys

-- ---- one more port, one more item

pub ports_step : (ports : List Port) (i : ℕ) (port : Port) (old now : List Declaration) → i < length ports → port ≡ get_or ports i port →
    now ≡ old ++ map port_declaration (take i ports) → DeclaresOnce (old ++ map port_declaration ports) →
    (found_in now port.name ≡ None) × (now ++ port_declaration port ∷ [] ≡ old ++ map port_declaration (take (i + 1) ports))
ports_step ports i port old now l is are once =
    let d = port_declaration port in
    let whole : old ++ map port_declaration ports ≡ now ++ d ∷ map port_declaration (drop (i + 1) ports) =
    ap (λ ps. old ++ map port_declaration ps) (parted ports i port l is)
    ∙ ap (λ ds. old ++ ds) (map-append port_declaration (take i ports) (port ∷ drop (i + 1) ports))
    ∙ sym (append_assoc old (map port_declaration (take i ports)) (d ∷ map port_declaration (drop (i + 1) ports)))
    ∙ ap (λ ds. ds ++ d ∷ map port_declaration (drop (i + 1) ports)) (sym are) in
    let next : now ++ d ∷ [] ≡ old ++ map port_declaration (take (i + 1) ports) =
    ap (λ ds. ds ++ d ∷ []) are
    ∙ append_assoc old (map port_declaration (take i ports)) (d ∷ [])
    ∙ ap (λ ds. old ++ ds) (sym (map-append port_declaration (take i ports) (port ∷ [])))
    ∙ ap (λ ps. old ++ map port_declaration ps) (sym (take_next ports i port l is)) in
    (new_name now d (map port_declaration (drop (i + 1) ports)) (subst DeclaresOnce whole once), next)

pub items_step : (items : List Item) (i : ℕ) (item : Item) (old now : List Declaration) → i < length items → item ≡ get_or items i item →
    now ≡ old ++ item_declarations (map plain_item (take i items)) → DeclaresOnce (old ++ item_declarations (map plain_item items)) →
    DeclaresOnce (now ++ item_declarations (plain_item item ∷ [])) × (now ++ item_declarations (plain_item item ∷ []) ≡ old ++ item_declarations (map plain_item (take (i + 1) items)))
items_step items i item old now l is are once =
    let own = item_declarations (plain_item item ∷ []) in
    let before = item_declarations (map plain_item (take i items)) in
    let rest = item_declarations (map plain_item (drop (i + 1) items)) in
    let plain : map plain_item items ≡ map plain_item (take i items) ++ (plain_item item ∷ [] ++ map plain_item (drop (i + 1) items)) =
    ap (map plain_item) (parted items i item l is) ∙ map-append plain_item (take i items) (item ∷ drop (i + 1) items) in
    let split : item_declarations (map plain_item items) ≡ before ++ (own ++ rest) =
    ap item_declarations plain ∙ items-append (map plain_item (take i items)) (plain_item item ∷ [] ++ map plain_item (drop (i + 1) items))
    ∙ ap (λ ds. before ++ ds) (items-append (plain_item item ∷ []) (map plain_item (drop (i + 1) items))) in
    let whole : old ++ item_declarations (map plain_item items) ≡ (now ++ own) ++ rest =
    ap (λ ds. old ++ ds) split ∙ sym (append_assoc old before (own ++ rest)) ∙ ap (λ ds. ds ++ (own ++ rest)) (sym are) ∙ sym (append_assoc now own rest) in
    let next : now ++ own ≡ old ++ item_declarations (map plain_item (take (i + 1) items)) =
    ap (λ ds. ds ++ own) are
    ∙ append_assoc old before own
    ∙ ap (λ ds. old ++ ds) (sym (items-append (map plain_item (take i items)) (plain_item item ∷ [])))
    ∙ ap (λ ps. old ++ item_declarations ps) (sym (map-append plain_item (take i items) (item ∷ [])))
    ∙ ap (λ ps. old ++ item_declarations (map plain_item ps)) (sym (take_next items i item l is)) in
    (fewer_declared (now ++ own) rest (subst DeclaresOnce whole once), next)

pub kept_firsts : (old new : List Declaration) (d : Declaration) (firsts more : List ℕ) → new ≡ old ++ d ∷ [] → more ≡ firsts ++ bits_of old ∷ [] →
    firsts ≡ firsts_of old → more ≡ firsts_of new
kept_firsts old new d firsts more are longer from =
    longer ∙ ap (λ ns. ns ++ bits_of old ∷ []) from ∙ sym (firsts_push old d) ∙ ap firsts_of (sym are)

pub pushed_firsts : {E : Type 0} (r : Result (Unit {0}) E) (old new : List Declaration) (d : Declaration) (firsts more : List ℕ) →
    OnOk r (new ≡ old ++ d ∷ []) → OnOk r (more ≡ firsts ++ bits_of old ∷ []) → OnOk r (firsts ≡ firsts_of old → more ≡ firsts_of new)
pushed_firsts (Ok done) old new d firsts more are longer = kept_firsts old new d firsts more are longer
pushed_firsts (Err e) old new d firsts more are longer = tt
