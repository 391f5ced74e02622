-- Ports by number and by name.
use Rattle.std.proofs.Common.{◌≡◌, ◌≢◌, ℕ, ◌<◌, Bool, true, not, List, [], ◌∷◌, Vec, map, length, get_or, Contains, AllPairs, Global, Some, None, unwrap_or, position, refl, sym, ap, ◌∙◌, subst, inl, inr, arith, lt-ltb, le-ltb}
use Rattle.std.specs.List.{position_or_len, list_any}
use Rattle.std.specs.Str.{bytes_eq}
use Rattle.std.proofs.lemmas.Bool.{cases_lt, false≢true, cases_Bool}
use Rattle.std.proofs.lemmas.List.{length-map, get_or_default}
use Rattle.std.proofs.lemmas.List.Sums.{passes_at_first, prefix_len-le-length}
use Rattle.std.proofs.lemmas.Slice.Eq.{bytes_eq-Decides}
use Rattle.fab_kinds.specs.declared.kind.Kind.TheVariants as kinds
use Rattle.fab_implementation.specs.fab_model.specs.Grid.{PlainFabric}
use Rattle.fab_bits.specs.Keys.{key_names}
use Rattle.fab_implementation.specs.fab_model.proofs.Inserts.{place_of_name}
use Rattle.fab_implementation.specs.fab_fabric.specs.declared.wire.Site.{Site}
use Rattle.fab_implementation.specs.fab_netlist.specs.Plain.{IsAt}
use Rattle.fab_implementation.specs.fab_netlist.proofs.Members.{mapped_in, any_by}
use Rattle.fab_implementation.specs.Plain.{Pad}
use Rattle.fab_legal.specs.Turns.{AreRight, IsFirstWrongAt}
use Rattle.fab_legal.specs.Lines.{named, IsRightLine, HaveSites}
use Rattle.fab_legal.specs.Broken.{IsNamedBy}
use Rattle.fab_legal.specs.declared.lines.Binding.{Binding}
use Rattle.fab_legal.specs.declared.lines.Binding.TheVariants as bindings
use Rattle.fab_legal.specs.inner.Keeping.{Below, Binds, AreSites, IsLeastUnnamed, port_number, numbered_pad, HasPad}
use Rattle.fab_legal.proofs.Lists.{right_from_mapped, wrong_from_mapped}
use Rattle.fab_legal.proofs.Members.{from_mapped}
use Rattle.fab_legal.proofs.Once.{one_site, known_thing}

-- ---- places

place_or_len : {X : Type 0} (p : X → Bool) (xs : List X) → unwrap_or (position p xs) (length xs) ≡ position_or_len p xs
place_or_len p xs =
    let at = position_or_len p xs in
    elim (cases_lt at (length xs)) as (λ _. unwrap_or (position p xs) (length xs) ≡ at) [
      | inl l ↦ rw (lt-ltb at (length xs) l) refl
      | inr g ↦ rw (le-ltb at (length xs) g) (omega (arith, prefix_len-le-length (λ x. not (p x)) xs))
    ]

pub found_number : {A : Type 0} (name bytes : List ℕ) (keys : List (Vec ℕ A)) (number : ℕ) → bytes ≡ name →
    Some number ≡ position (λ key. bytes_eq bytes key.items) keys → number ≡ port_number (key_names keys) name
found_number {A} name bytes keys number same found =
    ap (λ o. unwrap_or o (length (key_names keys))) (found ∙ place_of_name bytes keys) ∙ place_or_len (bytes_eq bytes) (key_names keys)
    ∙ ap (λ b. position_or_len (bytes_eq b) (key_names keys)) same

pub missing_number : {A : Type 0} (name bytes : List ℕ) (keys : List (Vec ℕ A)) (number : ℕ) → bytes ≡ name → number ≡ length keys →
    None ≡ position (λ key. bytes_eq bytes key.items) keys → number ≡ port_number (key_names keys) name
missing_number {A} name bytes keys number same many found =
    many ∙ sym (length-map keys (λ (key : Vec ℕ A). key.items))
    ∙ ap (λ o. unwrap_or o (length (key_names keys))) (found ∙ place_of_name bytes keys) ∙ place_or_len (bytes_eq bytes) (key_names keys)
    ∙ ap (λ b. position_or_len (bytes_eq b) (key_names keys)) same

pub place_in : {X : Type 0} (p : X → Bool) (xs : List X) → list_any p xs ≡ true → position_or_len p xs < length xs
place_in p [] there = absurd (false≢true there)
place_in p (x ∷ xs) there =
    elim (cases_Bool (p x)) [
      | inl t ↦ rw t (omega arith)
      | inr f ↦ (let rest : list_any p xs ≡ true = rw f at there in rw f (omega (arith, place_in p xs rest)))
    ]

-- ---- names and numbers

-- a declared port has a number
pub known_number : (declared : List (List ℕ)) (name : List ℕ) → Contains declared name → port_number declared name < length declared
known_number declared name known = place_in (bytes_eq name) declared (any_by (bytes_eq name) declared name known ((bytes_eq-Decides name name).1 refl))

-- the port at its number
pub name_at : (declared : List (List ℕ)) (name d : List ℕ) → port_number declared name < length declared → get_or declared (port_number declared name) d ≡ name
name_at declared name d small =
    sym ((bytes_eq-Decides name (get_or declared (port_number declared name) d)).0 (passes_at_first (bytes_eq name) declared d small))

pub number_known : (declared : List (List ℕ)) (name : List ℕ) → port_number declared name < length declared → Contains declared name
number_known declared name small = (port_number declared name, small, name_at declared name name small)

pub same_name : (declared : List (List ℕ)) (a b : List ℕ) → port_number declared a < length declared → port_number declared a ≡ port_number declared b → a ≡ b
same_name declared a b small same =
    sym (name_at declared a [] small) ∙ ap (λ n. get_or declared n []) same ∙ name_at declared b [] (omega (arith, small, same))

-- ports that differ have the numbers of their places
pub own_number : (declared : List (List ℕ)) (name : List ℕ) (n : ℕ) → AllPairs (λ first second. first ≢ second) declared → IsAt declared n name → port_number declared name ≡ n
own_number declared name n apart at =
    let p = port_number declared name in
    let small : p < length declared = known_number declared name (n, at.0, at.1) in
    let first : get_or declared p [] ≡ name = name_at declared name [] small in
    let second : get_or declared n [] ≡ name = get_or_default declared n [] name at.0 ∙ at.1 in
    elim (cases_lt p n) [
      | inl less ↦ absurd (apart p n [] less at.0 (first ∙ sym second))
      | inr other ↦ elim (cases_lt n p) [
        | inl more ↦ absurd (apart n p [] more small (second ∙ sym first))
        | inr same ↦ omega (arith, other, same)
      ]
    ]

-- ---- lines

abbrev num : List (List ℕ) → Pad → ℕ × Site
num declared pad = numbered_pad declared pad

named_number : (declared : List (List ℕ)) (lines : List Pad) (name : List ℕ) → Contains (named lines) name → Contains (named (map (num declared) lines)) (port_number declared name)
named_number declared lines name here =
    let found = from_mapped (λ (l : Pad). l.0) lines name here in
    subst (λ (n : ℕ). Contains (named (map (num declared) lines)) n) (ap (port_number declared) found.2)
    (mapped_in (λ (l : ℕ × Site). l.0) (map (num declared) lines) (num declared found.0) (mapped_in (num declared) lines found.0 found.1))

-- a line of a number is one of a name with that number
number_named : (declared : List (List ℕ)) (lines : List Pad) (n : ℕ) → Contains (named (map (num declared) lines)) n → (name : List ℕ) × Contains (named lines) name × (port_number declared name ≡ n)
number_named declared lines n here =
    let line = from_mapped (λ (l : ℕ × Site). l.0) (map (num declared) lines) n here in
    let pad = from_mapped (num declared) lines line.0 line.1 in
    (pad.0.0, mapped_in (λ (l : Pad). l.0) lines pad.0 pad.1, ap (λ (l : ℕ × Site). l.0) pad.2 ∙ line.2)

module _ (fabric : PlainFabric) (declared : List (List ℕ)) (lines : List Pad) where
  abbrev ByName : List Pad → Pad → Type 0
  ByName before pad = IsRightLine fabric kinds.Io (Contains declared) before pad

  abbrev ByNumber : List (ℕ × Site) → ℕ × Site → Type 0
  ByNumber before line = IsRightLine fabric kinds.Io (Below (length declared)) before line

  by_name : (before : List Pad) (pad : Pad) → ByNumber (map (num declared) before) (num declared pad) → ByName before pad
  by_name before pad right = record {
    known = number_known declared pad.0 right.known;
    first = λ here. right.first (named_number declared before pad.0 here);
    of_kind = right.of_kind;
  }

  by_number : (before : List Pad) (pad : Pad) → ByName before pad → ByNumber (map (num declared) before) (num declared pad)
  by_number before pad right = record {
    known = known_number declared pad.0 right.known;
    first = λ here.
        let found = number_named declared before (port_number declared pad.0) here in
        let same : pad.0 ≡ found.0 = same_name declared pad.0 found.0 (known_number declared pad.0 right.known) (sym found.2) in
        right.first (subst (λ (name : List ℕ). Contains (named before) name) (sym same) found.1);
    of_kind = right.of_kind;
  }

  pub right_names : AreRight ByNumber (map (num declared) lines) → AreRight ByName lines
  right_names right = right_from_mapped (num declared) ByNumber ByName lines (length lines) by_name (λ place x below at. right place x at.0 at)

  pub wrong_name : (place : ℕ) → IsFirstWrongAt ByNumber (map (num declared) lines) place → IsFirstWrongAt ByName lines place
  wrong_name place first = wrong_from_mapped (num declared) ByNumber ByName lines place by_name by_number first

  pub have_names : HaveSites fabric kinds.Io (Below (length declared)) (map (num declared) lines) → HaveSites fabric kinds.Io (Contains declared) lines
  have_names sites = record {
    lines_right = right_names sites.lines_right;
    all_named = λ name known.
        let small = known_number declared name known in
        let found = number_named declared lines (port_number declared name) (sites.all_named (port_number declared name) small) in
        let same : name ≡ found.0 = same_name declared name found.0 small (sym found.2) in
        subst (λ (other : List ℕ). Contains (named lines) other) (sym same) found.1;
  }

  pub unnamed_port : (n : ℕ) → AllPairs (λ first second. first ≢ second) declared → IsLeastUnnamed (map (num declared) lines) (length declared) n → IsFirstWrongAt (IsNamedBy lines) declared n
  unnamed_port n apart least = record {
    inside = least.below;
    wrong = λ name at here. least.unnamed (subst (λ (m : ℕ). Contains (named (map (num declared) lines)) m) (own_number declared name n apart at) (named_number declared lines name here));
    before = λ place name below at.
        let found = number_named declared lines place (least.before place below) in
        let same : name ≡ found.0 =
        sym (get_or_default declared place [] name at.0 ∙ at.1) ∙ ap (λ m. get_or declared m []) (sym found.2) ∙ name_at declared found.0 [] (omega (arith, found.2, at.0)) in
        subst (λ (other : List ℕ). Contains (named lines) other) (sym same) found.1;
  }

pad_is : (pad : Pad) (name : List ℕ) (site : Site) → pad.0 ≡ name → pad.1 ≡ site → pad ≡ (name, site)
pad_is pad name site same site_is = ap (λ (n : List ℕ). (n, pad.1)) same ∙ ap (λ (t : Site). (name, t)) site_is

-- ---- what lines bind

module _ (fabric : PlainFabric) (declared : List (List ℕ)) (pads : List Pad) (count : ℕ) (seen : List (ℕ × Site)) (binding : Binding)
    (count_is : count ≡ length declared) (seen_is : seen ≡ map (numbered_pad declared) pads) (bound : Binds fabric kinds.Io count seen binding) where
  moved : Binds fabric kinds.Io (length declared) (map (numbered_pad declared) pads) binding
  moved =
      subst (λ (n : ℕ). Binds fabric kinds.Io n (map (numbered_pad declared) pads) binding) count_is
      (subst (λ (lines : List (ℕ × Site)). Binds fabric kinds.Io count lines binding) seen_is bound)

  pub bound_names : (sites : Vec Site Global) → binding ≡ bindings.Sites sites →
      HaveSites fabric kinds.Io (Contains declared) pads × AreSites (map (numbered_pad declared) pads) (length declared) sites.items
  bound_names sites is =
      let here = subst (λ (b : Binding). Binds fabric kinds.Io (length declared) (map (numbered_pad declared) pads) b) is moved in
      (have_names fabric declared pads here.0, here.1)

  pub wrong_names : (place : ℕ) → binding ≡ bindings.WrongLine place → IsFirstWrongAt (ByName fabric declared pads) pads place
  wrong_names place is = wrong_name fabric declared pads place (subst (λ (b : Binding). Binds fabric kinds.Io (length declared) (map (numbered_pad declared) pads) b) is moved)

  pub unnamed_names : (number : ℕ) → AllPairs (λ first second. first ≢ second) declared → binding ≡ bindings.Unnamed number →
      AreRight (ByName fabric declared pads) pads × IsFirstWrongAt (IsNamedBy pads) declared number
  unnamed_names number apart is =
      let here = subst (λ (b : Binding). Binds fabric kinds.Io (length declared) (map (numbered_pad declared) pads) b) is moved in
      (right_names fabric declared pads here.0, unnamed_port fabric declared pads number apart here.1)

-- ---- a port on its pad

module _ (fabric : PlainFabric) (declared : List (List ℕ)) (lines : List Pad) (sites : List Site) (pad : Pad)
    (have : HaveSites fabric kinds.Io (Contains declared) lines) (are : AreSites (map (numbered_pad declared) lines) (length declared) sites) where
  -- the site of a port is that of a line
  pub line_of_port : (name : List ℕ) (d : Site) → port_number declared name < length declared → Contains lines (name, get_or sites (port_number declared name) d)
  line_of_port name d small =
      let found = from_mapped (numbered_pad declared) lines (port_number declared name, get_or sites (port_number declared name) d) (are.each (port_number declared name) d small) in
      let number : port_number declared found.0.0 ≡ port_number declared name = ap (λ (l : ℕ × Site). l.0) found.2 in
      let same : found.0.0 ≡ name = same_name declared found.0.0 name (omega (arith, number, small)) number in
      let whole : found.0 ≡ (name, get_or sites (port_number declared name) d) = pad_is found.0 name _ same (ap (λ (l : ℕ × Site). l.1) found.2) in
      subst (λ (l : Pad). Contains lines l) whole found.1

  -- two lines of a port are one
  pub one_line : (name : List ℕ) (a b : Site) → Contains lines (name, a) → Contains lines (name, b) → a ≡ b
  one_line name a b first second = one_site (Contains declared) fabric kinds.Io lines name a b have.lines_right first second

  pub pad_stands : HasPad declared sites pad → Contains lines pad
  pad_stands has =
      subst (λ (l : Pad). Contains lines l) (ap (λ (s : Site). (pad.0, s)) has.1) (line_of_port pad.0 pad.1 has.0)

  pub stands_pad : Contains lines pad → HasPad declared sites pad
  stands_pad here =
      let known : Contains declared pad.0 = (known_thing (Contains declared) fabric kinds.Io lines pad have.lines_right here) in
      let small = known_number declared pad.0 known in
      (small, one_line pad.0 (get_or sites (port_number declared pad.0) pad.1) pad.1 (line_of_port pad.0 pad.1 small) here)

pub as_many_names : {A : Type 0} (keys : List (Vec ℕ A)) (n : ℕ) → n ≡ length keys → n ≡ length (key_names keys)
as_many_names {A} keys n many = many ∙ sym (length-map keys (λ (key : Vec ℕ A). key.items))
