-- What a command reads, one stage behind the other: to what each stage comes, and what is come upon in it before anything is refused.
use Rattle.std.specs.Prelude.{◌≡◌, ℕ, List, Option, Some, None, Ok}
use Rattle.fab_base.specs.declared.fault.Fault.{Fault}
use Rattle.fab_desk.specs.Files.{Map}
use Rattle.fab_files.specs.Files.{handed_out, Event, refuses, MeetsFile}

-- ---- a file with its reader

-- The file is handed out, and its bytes spell the value.
pub record ReadsFrom {A : Type 0} (files : Map) (file : List ℕ) (spells : List ℕ → A → Type 0) (value : A) : Type 0 where
  pub bytes : List ℕ
  pub found : handed_out files file ≡ Ok bytes
  pub spelled : spells bytes value

-- What is come upon in it: the file is asked for, it is not handed out, or its bytes are refused.
pub data MeetsIn (files : Map) (file : List ℕ) (refused : List ℕ → Fault → Type 0) : Event → Type 0 where
  of_file : {event : Event} → MeetsFile files file event → MeetsIn files file refused event
  of_bytes : {bytes : List ℕ} {fault : Fault} → handed_out files file ≡ Ok bytes → refused bytes fault → MeetsIn files file refused (refuses fault)

-- A file that a command may name. Where it names none, nothing is asked for, and another value stands for it.
abbrev pub ReadsIfNamed : {A : Type 0} (files : Map) → Option (List ℕ) → (spells : List ℕ → A → Type 0) → (unnamed value : A) → Type 0
ReadsIfNamed {A} files None spells unnamed value = value ≡ unnamed
ReadsIfNamed {A} files (Some file) spells unnamed value = ReadsFrom files file spells value

abbrev pub MeetsIfNamed : (files : Map) → Option (List ℕ) → (refused : (file bytes : List ℕ) → Fault → Type 0) → Event → Type 0
MeetsIfNamed files None refused event = ⊥
MeetsIfNamed files (Some file) refused event = MeetsIn files file (refused file) event

-- ---- one stage behind another

-- What is come upon in two stages: what the first comes upon, and, where it comes to a value, what the second does behind this value.
pub data MeetsBehind {A : Type 0} (Comes : A → Type 0) (first : Event → Type 0) (behind : A → Event → Type 0) : Event → Type 0 where
  at_first : {event : Event} → first event → MeetsBehind Comes first behind event
  behind_it : {value : A} {event : Event} → Comes value → behind value event → MeetsBehind Comes first behind event

-- what is refused behind all files, where nothing is asked for any more
abbrev pub MeetsLast : (refused : Fault → Type 0) → Event → Type 0
MeetsLast refused event = (fault : Fault) × (event ≡ refuses fault) × refused fault

-- ---- one value, or one first refusal

-- A stage comes to one value, or refuses for one fault, and never both. `same` says when two faults tell one refusal: they are equal,
-- but where a format lets any of several be named.
pub record IsJudged {A : Type 0} (same : Fault → Fault → Type 0) (Comes : A → Type 0) (Meets : Event → Type 0) : Type 0 where
  pub once : (first second : A) → Comes first → Comes second → first ≡ second
  pub refused_once : (first second : Fault) → Meets (refuses first) → Meets (refuses second) → same first second
  pub apart : (value : A) (fault : Fault) → Comes value → Meets (refuses fault) → ⊥

-- the same of the bytes of a file
pub record AreJudged {A : Type 0} (same : Fault → Fault → Type 0) (spells : List ℕ → A → Type 0) (refused : List ℕ → Fault → Type 0) : Type 0 where
  pub once : (bytes : List ℕ) (first second : A) → spells bytes first → spells bytes second → first ≡ second
  pub refused_once : (bytes : List ℕ) (first second : Fault) → refused bytes first → refused bytes second → same first second
  pub apart : (bytes : List ℕ) (value : A) (fault : Fault) → spells bytes value → refused bytes fault → ⊥
