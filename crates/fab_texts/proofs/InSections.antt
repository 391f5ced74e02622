-- Lines in texts with sections.
use Rattle.std.proofs.Common.{◌≡◌, ℕ, ◌<◌, ◌≤◌, Bool, true, false, cond, not, List, [], ◌∷◌, ◌++◌, Option, Some, None, Result, Ok, refl, arith}
use Rattle.std.specs.Str.{bytes_eq}
use Rattle.std.proofs.lemmas.Bool.{le-leb, leb-true}
use Rattle.std.proofs.lemmas.Slice.Eq.{bytes_eq-Decides}
use Rattle.fab_base.specs.declared.words.Reason.TheVariants as reasons
use Rattle.fab_base.specs.declared.problem.Problem.{Problem}
use Rattle.fab_texts.specs.declared.sections.Part.{Part}
use Rattle.fab_texts.specs.declared.sections.Part.TheVariants as parts
use Rattle.fab_texts.specs.Rows.{Word}
use Rattle.fab_texts.specs.Formats.{refused}
use Rattle.fab_texts.specs.Sections.{version, with_version, ending, is_header, may_follow, has_ended, in_place, cut_short}

-- ---- a line that is taken

-- it has its place
pub record IsPlaced {S : Type 0} (last : Option Part) (part : Part) (taken : Result S Problem) (next : S) : Type 0 where
  pub opened : has_ended last ≡ false
  pub follows : may_follow last part ≡ true
  pub takes : taken ≡ Ok next

placed_by : {S : Type 0} (last : Option Part) (part : Part) (taken : Result S Problem) (next : S) (end may : Bool) → has_ended last ≡ end → may_follow last part ≡ may
    → cond end (refused reasons.AfterEnd) (cond (not may) (refused reasons.Row) taken) ≡ Ok next → IsPlaced last part taken next
placed_by last part taken next true may ended follows so = absurd cc
placed_by last part taken next false false ended follows so = absurd cc
placed_by last part taken next false true ended follows so = record { opened = ended; follows = follows; takes = so }

pub placed : {S : Type 0} (last : Option Part) (part : Part) (taken : Result S Problem) (next : S) → in_place last part taken ≡ Ok next → IsPlaced last part taken next
placed last part taken next so = placed_by last part taken next (has_ended last) (may_follow last part) refl refl so

version_by : {S : Type 0} (word : Word) (old next : S) (same : Bool) → bytes_eq word version ≡ same → cond same (Ok old) (refused reasons.Number) ≡ Ok next → (word ≡ version) × (old ≡ next)
version_by word old next true is so = ((bytes_eq-Decides word version).0 is, cc)
version_by word old next false is so = absurd cc

-- the version of a first line that is taken, after which no more is known
pub versioned : {S : Type 0} (word : Word) (old next : S) → with_version word old ≡ Ok next → (word ≡ version) × (old ≡ next)
versioned word old next so = version_by word old next (bytes_eq word version) refl so

-- ---- which sections have begun

-- neither this section nor a later one
abbrev pub NotBegun : (last : Option Part) → (section : ℕ) → Type 0
NotBegun None section = Unit {0}
NotBegun (Some parts.Header) section = Unit {0}
NotBegun (Some (parts.Section begun)) section = begun < section
NotBegun (Some parts.End) section = ⊥
NotBegun (Some parts.Other) section = Unit {0}

-- lines of this section may come next
pub record IsOpen (last : Option Part) (section : ℕ) : Type 0 where
  pub opened : has_ended last ≡ false
  pub follows : may_follow last (parts.Section section) ≡ true

pub open_here : (section : ℕ) → IsOpen (Some (parts.Section section)) section
open_here section = record { opened = refl; follows = le-leb section section (omega arith) }

pub open_later : (last : Option Part) (section later : ℕ) → section ≤ later → IsOpen last section → IsOpen last later
open_later None section later up may = absurd (let bad = may.follows in cc)
open_later (Some parts.Header) section later up may = record { opened = refl; follows = refl }
open_later (Some (parts.Section begun)) section later up may =
    let before = leb-true begun section may.follows in
    record { opened = refl; follows = le-leb begun later (omega (arith, before, up)) }
open_later (Some parts.End) section later up may = absurd (let bad = may.opened in cc)
open_later (Some parts.Other) section later up may = record { opened = refl; follows = refl }

pub open_end : (last : Option Part) (section : ℕ) → IsOpen last section → may_follow last parts.End ≡ true
open_end None section may = absurd (let bad = may.follows in cc)
open_end (Some last) section may = refl

-- later sections have not begun
pub not_begun : (last : Option Part) (section later : ℕ) → IsOpen last section → section < later → NotBegun last later
not_begun None section later may up = tt
not_begun (Some parts.Header) section later may up = tt
not_begun (Some (parts.Section begun)) section later may up = let before = leb-true begun section may.follows in omega (arith, before, up)
not_begun (Some parts.End) section later may up = absurd (let bad = may.opened in cc)
not_begun (Some parts.Other) section later may up = tt

-- before the first line none has
pub none_begun : (last : Option Part) → may_follow last parts.Header ≡ true → (section : ℕ) → NotBegun last section
none_begun None follows section = tt
none_begun (Some last) follows section = absurd cc

-- ---- the lines so far

-- where the last of them is known, and all but the end are these
abbrev pub so_far : (last : Option Part) → (lines : List (List Word)) → List (List Word)
so_far None lines = []
so_far (Some parts.Header) lines = lines
so_far (Some (parts.Section section)) lines = lines
so_far (Some parts.End) lines = lines ++ ending ∷ []
so_far (Some parts.Other) lines = lines

pub none_so_far : (last : Option Part) (lines : List (List Word)) → may_follow last parts.Header ≡ true → so_far last lines ≡ []
none_so_far None lines follows = refl
none_so_far (Some last) lines follows = absurd cc

-- where a line may follow that is not the first
pub some_so_far : (last : Option Part) (part : Part) (lines : List (List Word)) → has_ended last ≡ false → may_follow last part ≡ true → is_header part ≡ false → so_far last lines ≡ lines
some_so_far None part lines opened follows other = absurd cc
some_so_far (Some parts.Header) part lines opened follows other = refl
some_so_far (Some (parts.Section section)) part lines opened follows other = refl
some_so_far (Some parts.End) part lines opened follows other = absurd cc
some_so_far (Some parts.Other) part lines opened follows other = refl

ended_so_far : (last : Option Part) (lines : List (List Word)) → has_ended last ≡ true → so_far last lines ≡ lines ++ ending ∷ []
ended_so_far None lines ended = absurd cc
ended_so_far (Some parts.Header) lines ended = absurd cc
ended_so_far (Some (parts.Section section)) lines ended = absurd cc
ended_so_far (Some parts.End) lines ended = refl
ended_so_far (Some parts.Other) lines ended = absurd cc

has_come : (last : Option Part) (ended : Bool) → has_ended last ≡ ended → cut_short last ≡ None → has_ended last ≡ true
has_come last true is none = is
has_come last false is none = (let cut = rw is at none in absurd cc)

-- where the last line has come
pub whole_so_far : (last : Option Part) (lines : List (List Word)) → cut_short last ≡ None → so_far last lines ≡ lines ++ ending ∷ []
whole_so_far last lines none = ended_so_far last lines (has_come last (has_ended last) refl none)
