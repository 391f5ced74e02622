-- The first line of a state that has no point.
use Rattle.std.proofs.Common.{◌≡◌, ◌⊎◌, ℕ, zero, suc, ◌+◌, ◌<◌, List, [], ◌∷◌, ◌++◌, length, map, length-append, Option, None, Some, refl, sym, ap, ◌∙◌, subst, inl, inr, arith}
use Rattle.std.specs.List.{slice_get}
use Rattle.std.proofs.lemmas.Option.{slice_get_within}
use Rattle.fab_syntax.specs.Plain.{PlainModule}
use Rattle.fab_equations.specs.Equations.{IsPoint}
use Rattle.fab_equations.proofs.Numbering.{some_there}
use Rattle.fab_base.specs.Reading.{fault_at, IsFaultOr}
use Rattle.fab_base.specs.declared.fault.Fault.{Fault}
use Rattle.fab_base.specs.declared.fault.Fault.TheVariants as faults
use Rattle.fab_base.specs.declared.problem.Problem.TheVariants as problems
use Rattle.fab_state.specs.Plain.{PlainState}
use Rattle.fab_state_points.specs.Entries.{HasEntry, IsFoundEntry, entry_point, in_entries, out_entries, reason_of, register_entries}
use Rattle.fab_state_points.specs.Standing.{AreAt, HasStream, IsFirstAbsent, IsRefusedState}
use Rattle.fab_state_points.specs.declared.entry.Entry.{Entry}

-- the lines so far have their points
pub record AreSoFar (text : List PlainModule) (lines : List Entry) (count : ℕ) (numbers : List ℕ) : Type 0 where
  pub long : length numbers ≡ count
  pub each : (place : ℕ) (entry : Entry) (number : ℕ) → slice_get lines place ≡ Some entry → slice_get numbers place ≡ Some number →
      HasEntry text entry × IsPoint text number (entry_point entry)

pub so_far_none : (text : List PlainModule) (lines : List Entry) → AreSoFar text lines 0 []
so_far_none text lines = record { long = refl; each = λ place entry number e f. cc }

-- ---- lists

get_left : {X : Type 0} (xs ys : List X) (k : ℕ) (x : X) → slice_get xs k ≡ Some x → slice_get (xs ++ ys) k ≡ Some x
get_left [] ys k x e = cc
get_left (z ∷ xs) ys zero x e = e
get_left (z ∷ xs) ys (suc k) x e = get_left xs ys k x e

get_right : {X : Type 0} (xs ys : List X) (k : ℕ) (x : X) → slice_get ys k ≡ Some x → slice_get (xs ++ ys) (length xs + k) ≡ Some x
get_right [] ys k x e = let n : 0 + k ≡ k = omega arith in subst (λ (j : ℕ). slice_get ys j ≡ Some x) (sym n) e
get_right (z ∷ xs) ys k x e =
    let n : suc (length xs) + k ≡ suc (length xs + k) = omega arith in
    subst (λ (j : ℕ). slice_get (z ∷ (xs ++ ys)) j ≡ Some x) (sym n) (get_right xs ys k x e)

get_parts : {X : Type 0} (xs ys : List X) (k : ℕ) (x : X) → slice_get (xs ++ ys) k ≡ Some x →
    (slice_get xs k ≡ Some x) ⊎ ((j : ℕ) × (k ≡ length xs + j) × (slice_get ys j ≡ Some x))
get_parts [] ys k x e = inr (k, omega arith, e)
get_parts (z ∷ xs) ys zero x e = inl e
get_parts (z ∷ xs) ys (suc k) x e =
    elim (get_parts xs ys k x e) [
      | inl h ↦ inl h
      | inr r ↦ let same : k ≡ length xs + r.0 = r.1 in inr (r.0, omega arith, r.2)
    ]

pub mapped_long : {X Y : Type 0} (f : X → Y) (xs : List X) → length (map f xs) ≡ length xs
mapped_long f [] = refl
mapped_long f (x ∷ xs) = ap suc (mapped_long f xs)

-- an item is one of those before, or the last
parts : (xs : List ℕ) (x : ℕ) (k n : ℕ) → slice_get (xs ++ x ∷ []) k ≡ Some n → (slice_get xs k ≡ Some n) ⊎ ((k ≡ length xs) × (x ≡ n))
parts [] x zero n e = let same : x ≡ n = cc in inr (refl, same)
parts [] x (suc k) n e = cc
parts (y ∷ xs) x zero n e = inl e
parts (y ∷ xs) x (suc k) n e = elim (parts xs x k n e) [ inl h ↦ inl h | inr r ↦ inr (ap suc r.0, r.1) ]

pub so_far_more : (text : List PlainModule) (lines : List Entry) (count : ℕ) (numbers : List ℕ) (entry : Entry) (number : ℕ) → AreSoFar text lines count numbers →
    slice_get lines count ≡ Some entry → HasEntry text entry → IsPoint text number (entry_point entry) → AreSoFar text lines (count + 1) (numbers ++ number ∷ [])
so_far_more text lines count numbers entry number are at has is = record {
  long = let grown = length-append numbers (number ∷ []) in let one : length (number ∷ []) ≡ 1 = refl in omega (arith, are.long);
  each = λ place other n e f.
      elim (parts numbers number place n f) [
        | inl h ↦ are.each place other n e h
        | inr last ↦
            let both : Some entry ≡ Some other = sym at ∙ ap (slice_get lines) (sym (last.0 ∙ are.long)) ∙ e in
            let same : entry ≡ other = cc in
            subst (λ (x : Entry). HasEntry text x × IsPoint text n (entry_point x)) same (has, subst (λ (m : ℕ). IsPoint text m (entry_point entry)) last.1 is)
      ];
}

pub so_far_has : (text : List PlainModule) (lines : List Entry) (count : ℕ) (numbers : List ℕ) → AreSoFar text lines count numbers → (place : ℕ) (entry : Entry) → place < count →
    slice_get lines place ≡ Some entry → HasEntry text entry
so_far_has text lines count numbers are place entry less e =
    let there = some_there numbers place (omega (arith, are.long)) in
    (are.each place entry there.0 e there.1).0

pub so_far_all : (text : List PlainModule) (lines : List Entry) (count : ℕ) (numbers : List ℕ) → AreSoFar text lines count numbers → count ≡ length lines → AreAt text lines numbers
so_far_all text lines count numbers are all = record { long = are.long ∙ all; each = are.each }

-- ---- refusals

pub is_first_absent : (text : List PlainModule) (file : List ℕ) (before : ℕ) (lines : List Entry) (place : ℕ) (entry : Entry) (numbers : List ℕ) (found : Option ℕ) (fault : Fault) →
    AreSoFar text lines place numbers → slice_get lines place ≡ Some entry → IsFoundEntry text entry found → found ≡ None →
    IsFaultOr fault (fault_at file (before + place + 1) (problems.Malformed (reason_of entry))) → (fault ≡ faults.Memory) ⊎ IsFirstAbsent text file before lines fault
is_first_absent text file before lines place entry numbers found fault are at is none given =
    elim given [
      | inl memory ↦ inl memory
      | inr e ↦ inr (record {
        place = place;
        entry = entry;
        is = at;
        absent = subst (IsFoundEntry text entry) none is;
        earlier = λ other o less f. so_far_has text lines place numbers are other o less f;
        fault_is = e;
      })
    ]

-- lines behind these
absent_left : (text : List PlainModule) (file : List ℕ) (before : ℕ) (lines more : List Entry) (fault : Fault) → IsFirstAbsent text file before lines fault →
    IsFirstAbsent text file before (lines ++ more) fault
absent_left text file before lines more fault is = record {
  place = is.place;
  entry = is.entry;
  is = get_left lines more is.place is.entry is.is;
  absent = is.absent;
  earlier = λ other found less e.
      elim (get_parts lines more other found e) [
        | inl h ↦ is.earlier other found less h
        | inr r ↦ let within = slice_get_within lines is.place is.entry is.is in absurd (omega (arith, r.1))
      ];
  fault_is = is.fault_is;
}

-- lines in front of these, which have their points
absent_right : (text : List PlainModule) (file : List ℕ) (before : ℕ) (lines more : List Entry) (fault : Fault) →
    ((place : ℕ) (entry : Entry) → slice_get lines place ≡ Some entry → HasEntry text entry) → IsFirstAbsent text file (before + length lines) more fault →
    IsFirstAbsent text file before (lines ++ more) fault
absent_right text file before lines more fault have is = record {
  place = length lines + is.place;
  entry = is.entry;
  is = get_right lines more is.place is.entry is.is;
  absent = is.absent;
  earlier = λ other found less e.
      elim (get_parts lines more other found e) [
        | inl h ↦ have other found h
        | inr r ↦ let k : other ≡ length lines + r.0 = r.1 in is.earlier r.0 found (omega arith) r.2
      ];
  fault_is =
      let same : before + length lines + is.place + 1 ≡ before + (length lines + is.place) + 1 = omega arith in
      is.fault_is ∙ ap (λ (line : ℕ). fault_at file line (problems.Malformed (reason_of is.entry))) same;
}

have_all : (text : List PlainModule) (lines : List Entry) (numbers : List ℕ) → AreAt text lines numbers → (place : ℕ) (entry : Entry) → slice_get lines place ≡ Some entry →
    HasEntry text entry
have_all text lines numbers are place entry e =
    let within = slice_get_within lines place entry e in
    let there = some_there numbers place (omega (arith, are.long)) in
    (are.each place entry there.0 e there.1).0

abbrev pub IsRefusedLine : List PlainModule → (file : List ℕ) → (before : ℕ) → List Entry → Fault → Type 0
IsRefusedLine text file before lines fault = (fault ≡ faults.Memory) ⊎ IsFirstAbsent text file before lines fault

pub refused_ins : (text : List PlainModule) (file : List ℕ) (state : PlainState) (fault : Fault) → HasStream text → IsRefusedLine text file 1 (in_entries state.ins) fault →
    IsRefusedState file text state fault
refused_ins text file state fault has refused =
    elim refused [
      | inl memory ↦ inl memory
      | inr is ↦ inr (inr (has, absent_left text file 1 (in_entries state.ins) (out_entries state.outs ++ register_entries state.ffs) fault is))
    ]

pub refused_outs : (text : List PlainModule) (file : List ℕ) (state : PlainState) (ins : List ℕ) (before : ℕ) (fault : Fault) → HasStream text → AreAt text (in_entries state.ins) ins →
    before ≡ 1 + length (in_entries state.ins) → IsRefusedLine text file before (out_entries state.outs) fault → IsRefusedState file text state fault
refused_outs text file state ins before fault has are_ins same refused =
    elim refused [
      | inl memory ↦ inl memory
      | inr is ↦ inr (inr (
        has,
        absent_right text file 1 (in_entries state.ins) (out_entries state.outs ++ register_entries state.ffs) fault
            (have_all text (in_entries state.ins) ins are_ins)
            (absent_left text file (1 + length (in_entries state.ins)) (out_entries state.outs) (register_entries state.ffs) fault
            (subst (λ (n : ℕ). IsFirstAbsent text file n (out_entries state.outs) fault) same is)),
      ))
    ]

pub refused_ffs : (text : List PlainModule) (file : List ℕ) (state : PlainState) (ins outs : List ℕ) (before : ℕ) (fault : Fault) → HasStream text →
    AreAt text (in_entries state.ins) ins → AreAt text (out_entries state.outs) outs → before ≡ 1 + length (in_entries state.ins) + length (out_entries state.outs) →
    IsRefusedLine text file before (register_entries state.ffs) fault → IsRefusedState file text state fault
refused_ffs text file state ins outs before fault has are_ins are_outs same refused =
    elim refused [
      | inl memory ↦ inl memory
      | inr is ↦ inr (inr (
        has,
        absent_right text file 1 (in_entries state.ins) (out_entries state.outs ++ register_entries state.ffs) fault
            (have_all text (in_entries state.ins) ins are_ins)
            (absent_right text file (1 + length (in_entries state.ins)) (out_entries state.outs) (register_entries state.ffs) fault
            (have_all text (out_entries state.outs) outs are_outs)
            (subst (λ (n : ℕ). IsFirstAbsent text file n (register_entries state.ffs) fault) same is)),
      ))
    ]
