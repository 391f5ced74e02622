-- A file with its reader is judged as its bytes are, and stages one behind the other as each is.
use Rattle.std.proofs.Common.{◌≡◌, ℕ, List, Option, Some, None, Result, Ok, Err, sym, ap, ◌∙◌, subst}
use Rattle.fab_base.specs.declared.fault.Fault.{Fault}
use Rattle.fab_desk.specs.Files.{Map}
use Rattle.fab_files.specs.Files.{Event, refuses}
use Rattle.fab_files.specs.Stages.{ReadsFrom, MeetsIn, of_file, of_bytes, ReadsIfNamed, MeetsIfNamed, MeetsBehind, at_first, behind_it, IsJudged, AreJudged}

ok_is : {A E : Type 0} {a b : A} → (let value : A → Result A E = λ x. Ok x in value a ≡ value b) → a ≡ b
ok_is same = cc

err_is : {A E : Type 0} {a b : E} → (let value : E → Result A E = λ x. Err x in value a ≡ value b) → a ≡ b
err_is same = cc

-- ---- a file

module _ {A : Type 0} (same : Fault → Fault → Type 0) (alike : (fault : Fault) → same fault fault) (files : Map) (spells : List ℕ → A → Type 0) (refused : List ℕ → Fault → Type 0) (judged : AreJudged same spells refused) where
  file_once : (file : List ℕ) (first second : A) → ReadsFrom files file spells first → ReadsFrom files file spells second → first ≡ second
  file_once file first second x y =
      let bytes : x.bytes ≡ y.bytes = ok_is (sym x.found ∙ y.found) in
      judged.once y.bytes first second (subst (λ b. spells b first) bytes x.spelled) y.spelled

  file_refused_once : (file : List ℕ) (first second : Fault) → MeetsIn files file refused (refuses first) → MeetsIn files file refused (refuses second) → same first second
  file_refused_once file first second (of_file x) (of_file y) = subst (same first) (err_is (sym x ∙ y)) (alike first)
  file_refused_once file first second (of_file x) (of_bytes found y) = absurd (let differ = sym x ∙ found in cc)
  file_refused_once file first second (of_bytes found x) (of_file y) = absurd (let differ = sym y ∙ found in cc)
  file_refused_once file first second (of_bytes {bytes = a} found x) (of_bytes {bytes = b} again y) =
      judged.refused_once b first second (subst (λ bytes. refused bytes first) (ok_is (sym found ∙ again)) x) y

  file_apart : (file : List ℕ) (value : A) (fault : Fault) → ReadsFrom files file spells value → MeetsIn files file refused (refuses fault) → ⊥
  file_apart file value fault x (of_file y) = let differ = sym x.found ∙ y in cc
  file_apart file value fault x (of_bytes {bytes = b} found y) = judged.apart b value fault (subst (λ bytes. spells bytes value) (ok_is (sym x.found ∙ found)) x.spelled) y

  pub file_is_judged : (file : List ℕ) → IsJudged same (ReadsFrom files file spells) (MeetsIn files file refused)
  file_is_judged file = record { once = file_once file; refused_once = file_refused_once file; apart = file_apart file }

module _ {A : Type 0} (same : Fault → Fault → Type 0) (alike : (fault : Fault) → same fault fault) (files : Map) (spells : List ℕ → A → Type 0) (refused : (file bytes : List ℕ) → Fault → Type 0)
    (judged : (file : List ℕ) → AreJudged same spells (refused file)) where
  pub named_file_is_judged : (unnamed : A) (file : Option (List ℕ)) → IsJudged same (ReadsIfNamed files file spells unnamed) (MeetsIfNamed files file refused)
  named_file_is_judged unnamed None = record {
    once = λ first second x y. x ∙ sym y;
    refused_once = λ first second x y. absurd x;
    apart = λ value fault x y. y;
  }
  named_file_is_judged unnamed (Some file) = file_is_judged same alike files spells (refused file) (judged file) file

-- ---- one stage behind another

module _ {A : Type 0} (same : Fault → Fault → Type 0) (Comes : A → Type 0) (first : Event → Type 0) (behind : A → Event → Type 0) (is_first : IsJudged same Comes first) where
  meets_first : (value : A) (fault : Fault) → Comes value → MeetsBehind Comes first behind (refuses fault) → behind value (refuses fault)
  meets_first value fault comes (at_first x) = absurd (is_first.apart value fault comes x)
  meets_first value fault comes (behind_it {value = other} again x) = subst (λ v. behind v (refuses fault)) (is_first.once other value again comes) x

  module _ {B : Type 0} (Then : A → B → Type 0) (is_second : (value : A) → Comes value → IsJudged same (Then value) (behind value)) where
    turn_refused_once : (a b : Fault) → MeetsBehind Comes first behind (refuses a) → MeetsBehind Comes first behind (refuses b) → same a b
    turn_refused_once a b (at_first x) (at_first y) = is_first.refused_once a b x y
    turn_refused_once a b (at_first x) (behind_it {value = value} comes y) = absurd (is_first.apart value a comes x)
    turn_refused_once a b (behind_it {value = value} comes x) other = (is_second value comes).refused_once a b x (meets_first value b comes other)

    turn_once : (a b : A × B) → Comes a.0 × Then a.0 a.1 → Comes b.0 × Then b.0 b.1 → a ≡ b
    turn_once (a, c) (b, d) x y =
        let same_first : a ≡ b = is_first.once a b x.0 y.0 in
        let second : Then b c = subst (λ v. Then v c) same_first x.1 in
        let same_second : c ≡ d = (is_second b y.0).once c d second y.1 in
        ap (λ v. (v, c)) same_first ∙ ap (λ v. (b, v)) same_second

    turn_apart : (value : A × B) (fault : Fault) → Comes value.0 × Then value.0 value.1 → MeetsBehind Comes first behind (refuses fault) → ⊥
    turn_apart value fault x meets = (is_second value.0 x.0).apart value.1 fault x.1 (meets_first value.0 fault x.0 meets)

    pub turn_is_judged : IsJudged same (λ (value : A × B). Comes value.0 × Then value.0 value.1) (MeetsBehind Comes first behind)
    turn_is_judged = record { once = turn_once; refused_once = turn_refused_once; apart = turn_apart }
