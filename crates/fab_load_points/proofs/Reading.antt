-- The names that a driver reads.
use Rattle.std.proofs.Common.{◌≡◌, ℕ, ◌<◌, Bool, true, false, ◌&&◌, ◌||◌, List, [], ◌∷◌, ◌++◌, length, Contains, Result, Ok, Err, IfOk, OnOk, zero, suc, refl, sym, ◌∙◌, subst, inl, inr, arith}
use Rattle.std.specs.Cmp.Lexicographic.{pointwise_decides}
use Rattle.std.specs.Str.{bytes_eq}
use Rattle.std.proofs.lemmas.Bool.{false≢true, and_parts, and_from, or_cases, or_left, or_right}
use Rattle.std.proofs.lemmas.List.Elements.{Contains-append_left, Contains-push, Contains-push_cases}
use Rattle.std.proofs.lemmas.Option.{slice_get_within}
use Rattle.std.proofs.lemmas.Slice.Eq.{bytes_eq-Decides}
use Rattle.fab_syntax.specs.Plain.{PlainExpr, PlainModule}
use Rattle.fab_syntax.specs.Sound.{IsSound}
use Rattle.fab_meaning.specs.Points.{Path, Point, point, copy, Drives, Driver as MeantDriver}
use Rattle.fab_meaning.specs.Reads.{same_path, is_declared, mentions, expression_reads, reads}
use Rattle.fab_meaning.specs.Loading.{IsDerived}
use Rattle.fab_meaning.proofs.Dependence.{same_name, same_path_refl, same_point_refl, same_point_is}
use Rattle.fab_meaning.proofs.SoundTexts.{same_names}
use Rattle.fab_equations.specs.Instances.{points}
use Rattle.fab_equations.specs.Equations.{IsPoint, IsSource, IsDriven, Means}
use Rattle.fab_equations.specs.declared.driver.Source.{Source}
use Rattle.fab_equations.specs.declared.driver.Driver.{Driver}
use Rattle.fab_equations.specs.declared.driver.Driver.TheVariants.{Same, Value, Flop, Hold}
use Rattle.fab_equations.proofs.Numbering.{same_value}
use Rattle.fab_load_points.specs.inner.Causes.{AddsNames, AreReads, IsFlop}
use Rattle.fab_load_points.proofs.Names.{point_declared, first_declared, is_first}
use Rattle.fab_load_points.proofs.Bits.{same_driver, copied_bit}

-- what holds of a result's `Ok`
pub on_ok : {T E : Type 0} (r : Result T E) (P Q : Type 0) → OnOk r P → (P → Q) → OnOk r Q
on_ok (Ok x) P Q h f = f h
on_ok (Err e) P Q h f = tt

pub if_ok : {T E : Type 0} (r : Result T E) (P Q : T → Type 0) → IfOk r P → ((x : T) → P x → Q x) → IfOk r Q
if_ok (Ok x) P Q h f = f x h
if_ok (Err e) P Q h f = tt

pub if_on_ok : {T E : Type 0} (r : Result T E) (P : T → Type 0) (Q : Type 0) → IfOk r P → ((x : T) → P x → Q) → OnOk r Q
if_on_ok (Ok x) P Q h f = f x h
if_on_ok (Err e) P Q h f = tt

-- ---- names on a list

module _ (text : List PlainModule) (path : Path) where
  pub none_added : (has : List ℕ → Bool) (old : List ℕ) → ((name : List ℕ) → has name ≡ true → is_declared text (point path name 0) ≡ true → ⊥) → AddsNames text path has old old
  none_added has old none = record { kept = λ n c. c; added = λ n c. inl c; all = λ name h d. absurd (none name h d) }

  pub undeclared_added : (name old : List ℕ) → is_declared text (point path name 0) ≡ false → AddsNames text path (bytes_eq name) old old
  undeclared_added name old not =
      none_added (bytes_eq name) old
      (λ other h d. false≢true (sym not ∙ subst (λ x. is_declared text (point path x 0) ≡ true) (sym (same_names name other h)) d))

  pub pushed_added : (name old new : List ℕ) (first : ℕ) → new ≡ old ++ first ∷ [] → IsPoint text first (point path name 0) → AddsNames text path (bytes_eq name) old new
  pushed_added name old new first e is = record {
    kept = λ n c. subst (λ xs. Contains xs n) (sym e) (Contains-append_left old (first ∷ []) n c);
    added = λ n c.
        elim (Contains-push_cases old first n (subst (λ xs. Contains xs n) e c)) [
          | inl o ↦ inl o
          | inr s ↦ inr (name, same_name name, subst (λ k. IsPoint text k (point path name 0)) s is)
        ];
    all = λ other h d. (
      first,
      subst (λ xs. Contains xs first) (sym e) (Contains-push old first),
      subst (λ x. IsPoint text first (point path x 0)) (same_names name other h) is,
    );
  }

  pub both_added : (some more : List ℕ → Bool) (old middle new : List ℕ) → AddsNames text path some old middle → AddsNames text path more middle new →
      AddsNames text path (λ name. some name || more name) old new
  both_added some more old middle new a b = record {
    kept = λ n c. b.kept n (a.kept n c);
    added = λ n c.
        elim (b.added n c) [
          | inl m ↦ elim (a.added n m) [
            | inl o ↦ inl o
            | inr x ↦ inr (x.0, or_left (some x.0) (more x.0) x.1, x.2)
          ]
          | inr x ↦ inr (x.0, or_right (some x.0) (more x.0) x.1, x.2)
        ];
    all = λ name h d.
        elim (or_cases (some name) (more name) h) [
          | inl t ↦ (let x = a.all name t d in (x.0, b.kept x.0 x.1, x.2))
          | inr t ↦ b.all name t d
        ];
  }

contains_one : (x n : ℕ) → Contains (x ∷ []) n → x ≡ n
contains_one x n (zero, b, e) = e
contains_one x n (suc k, b, e) = absurd (omega (arith, b))

-- the names of a source
abbrev pub SourceAdds : List PlainModule → Source → (old new : List ℕ) → Type 0
SourceAdds text source old new = (path : Path) (e : PlainExpr) → IsSource text source path e → AddsNames text path (mentions e) old new

-- ---- what is read

distribute : (s a b d : Bool) → ((s && (a && d)) || (s && (b && d))) ≡ (s && ((a || b) && d))
distribute false a b d = refl
distribute true true true true = refl
distribute true true true false = refl
distribute true true false true = refl
distribute true true false false = refl
distribute true false b d = refl

module _ (text : List PlainModule) (sound : IsSound text) where
  found_reads : (path : Path) (has : List ℕ → Bool) (read : Point → Bool) → ((p : Point) → read p ≡ (same_path path p.path && (has p.name && is_declared text p))) →
      (numbers : List ℕ) → AddsNames text path has [] numbers → AreReads text read numbers
  found_reads path has read same numbers a = record {
    sound = λ n c.
        elim (a.added n c) [
          | inl none ↦ absurd (omega (arith, none.1))
          | inr x ↦ (
            point path x.0 0,
            record { is = x.2; first = refl },
            same (point path x.0 0)
                ∙ and_from (same_path path path) (has x.0 && is_declared text (point path x.0 0)) (same_path_refl path)
                (and_from (has x.0) (is_declared text (point path x.0 0)) x.1 (point_declared text sound n (point path x.0 0) x.2)),
          )
        ];
    all = λ r h d.
        let both = and_parts (same_path path r.path) (has r.name && is_declared text r) (sym (same r) ∙ h) in
        let paths : path ≡ r.path = (pointwise_decides bytes_eq-Decides path r.path).0 both.0 in
        let named = and_parts (has r.name) (is_declared text r) both.1 in
        let there = a.all r.name named.0 (subst (λ q. is_declared text (point q r.name 0) ≡ true) (sym paths) (first_declared text sound r d)) in
        (there.0, there.1, subst (λ q. IsPoint text there.0 (point q r.name 0)) paths there.2);
  }

  pub expression_found : (path : Path) (e : PlainExpr) (numbers : List ℕ) → AddsNames text path (mentions e) [] numbers → AreReads text (expression_reads text path e) numbers
  expression_found path e numbers a = found_reads path (mentions e) (expression_reads text path e) (λ p. refl) numbers a

  latch_found : (path : Path) (gate e : PlainExpr) (middle numbers : List ℕ) → AddsNames text path (mentions gate) [] middle → AddsNames text path (mentions e) middle numbers →
      AreReads text (λ p. expression_reads text path gate p || expression_reads text path e p) numbers
  latch_found path gate e middle numbers a b =
      found_reads path (λ name. mentions gate name || mentions e name) (λ p. expression_reads text path gate p || expression_reads text path e p)
      (λ p. distribute (same_path path p.path) (mentions gate p.name) (mentions e p.name) (is_declared text p)) numbers
      (both_added text path (mentions gate) (mentions e) [] middle numbers a b)

  -- ---- drivers by numbers

  pub means_so : (number : ℕ) (driver : Driver) (p : Point) (d : MeantDriver) → IsDriven text number driver → IsPoint text number p → Drives text p d → Means text driver d
  means_so number driver p d driven is drives =
      let at : driven.of ≡ p = same_value _ driven.of p driven.is is in
      let here : Drives text p driven.by = subst (λ q. Drives text q driven.by) at driven.drives in
      subst (Means text driver) (same_driver text sound p driven.by d here drives) driven.means

  pub flop_cause : (clock : ℕ) (next : Source) (d : MeantDriver) → Means text (Flop clock next) d → IsFlop d
  flop_cause clock next d means = subst IsFlop (sym means.5) tt

  pub copy_cause : (other : ℕ) (p : Point) (d : MeantDriver) (numbers : List ℕ) → p.bit ≡ 0 → Drives text p d → Means text (Same other) d → numbers ≡ other ∷ [] →
      IsDerived d × AreReads text (reads text d) numbers
  copy_cause other p d numbers first drives means e =
      let o : Point = means.0 in
      let copied : Drives text p (copy o) = subst (Drives text p) means.2 drives in
      let bit : o.bit ≡ 0 = copied_bit text p o copied ∙ first in
      let all : AreReads text (reads text (copy o)) (other ∷ []) = record {
        sound = λ n c. (o, record { is = subst (λ k. IsPoint text k o) (contains_one other n c) means.1; first = bit }, same_point_refl o);
        all = λ r h declared.
            let same : o ≡ r = same_point_is o r h in
            (other, (0, omega arith, refl), subst (λ (q : Point). IsPoint text other (point q.path q.name 0)) same (subst (IsPoint text other) (sym (is_first o bit)) means.1));
      } in
      let Fits : MeantDriver → Type 0 = λ x. IsDerived x × AreReads text (reads text x) numbers in
      subst Fits (sym means.2) (tt, subst (AreReads text (reads text (copy o))) (sym e) all)

  pub value_cause : (source : Source) (d : MeantDriver) (numbers : List ℕ) → Means text (Value source) d → SourceAdds text source [] numbers →
      IsDerived d × AreReads text (reads text d) numbers
  value_cause source d numbers means adds =
      let Fits : MeantDriver → Type 0 = λ x. IsDerived x × AreReads text (reads text x) numbers in
      subst Fits (sym means.3) (tt, expression_found means.0 means.1 numbers (adds means.0 means.1 means.2))

  pub hold_cause : (gate latched : Source) (d : MeantDriver) (middle numbers : List ℕ) → Means text (Hold gate latched) d →
      SourceAdds text gate [] middle → SourceAdds text latched middle numbers → IsDerived d × AreReads text (reads text d) numbers
  hold_cause gate latched d middle numbers means some more =
      let Fits : MeantDriver → Type 0 = λ x. IsDerived x × AreReads text (reads text x) numbers in
      subst Fits (sym means.6)
      (tt, latch_found means.0 means.1 means.2 middle numbers (some means.0 means.1 means.3) (more means.0 means.2 means.5))

-- ---- what is read are points

module _ (text : List PlainModule) where
  abbrev AreWithin : List ℕ → Type 0
  AreWithin numbers = (n : ℕ) → Contains numbers n → n < length (points text)

  added_within : (path : Path) (has : List ℕ → Bool) (old new : List ℕ) → AddsNames text path has old new → AreWithin old → AreWithin new
  added_within path has old new a within n c =
      elim (a.added n c) [
        | inl o ↦ within n o
        | inr x ↦ slice_get_within (points text) n (point path x.0 0) x.2
      ]

  none_within : AreWithin []
  none_within n c = absurd (omega (arith, c.1))

  pub same_within : (number other : ℕ) (numbers : List ℕ) → IsDriven text number (Same other) → numbers ≡ other ∷ [] → AreWithin numbers
  same_within number other numbers driven e n c =
      let means = driven.means in
      let same : other ≡ n = contains_one other n (subst (λ xs. Contains xs n) e c) in
      subst (λ k. k < length (points text)) same (slice_get_within (points text) other means.0 means.1)

  pub value_within : (number : ℕ) (source : Source) (numbers : List ℕ) → IsDriven text number (Value source) → SourceAdds text source [] numbers → AreWithin numbers
  value_within number source numbers driven adds =
      let means = driven.means in
      added_within means.0 (mentions means.1) [] numbers (adds means.0 means.1 means.2) none_within

  pub hold_within : (number : ℕ) (gate latched : Source) (middle numbers : List ℕ) → IsDriven text number (Hold gate latched) →
      SourceAdds text gate [] middle → SourceAdds text latched middle numbers → AreWithin numbers
  hold_within number gate latched middle numbers driven some more =
      let means = driven.means in
      added_within means.0 (mentions means.2) middle numbers (more means.0 means.2 means.5)
      (added_within means.0 (mentions means.1) [] middle (some means.0 means.1 means.3) none_within)
