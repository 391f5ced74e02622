-- Which fault ends a command: the first refusal is one, and where nothing is refused none but a device's or memory's comes.
use Rattle.std.proofs.Common.{◌≡◌, ◌≢◌, ◌⊎◌, ◌<◌, ◌≤◌, ℕ, true, false, List, ◌∷◌, ◌++◌, Option, Some, None, refl, sym, ap, ◌∙◌, inl, inr, subst, arith, nat_eq}
use Rattle.std.specs.List.{list_any}
use Rattle.std.proofs.lemmas.Bool.{cases_Bool}
use Rattle.std.proofs.lemmas.List.Folds.{list_any-append}
use Rattle.fab_base.specs.declared.fault.Status.{Status}
use Rattle.fab_base.specs.declared.fault.Fault.{Fault}
use Rattle.fab_base.specs.declared.fault.Fault.TheVariants as faults
use Rattle.fab_base.specs.Report.{number_of, report, status}
use Rattle.fab_desk.specs.Files.{Map}
use Rattle.fab_files.specs.Files.{refuses}
use Rattle.fab_outputs.specs.Storing.{Leaves}
use Rattle.fab_outputs.specs.Ending.{IsRefused}
use Rattle.fab_words.specs.declared.job.Job.{Job}
use Rattle.fab_words.specs.declared.job.Job.TheVariants.{Matrix, Generate, Assemble, Map as Mapping, Flow, Bits, Features, Simulate, Partial, Timing}
use Rattle.fab_words.specs.declared.job.Job.TheVariants.{Serial, Sample}
use Rattle.fab_commands.specs.Running.{Makes, Meets, IsReady, refusals, failures, HasJobCause, MayFail, Call, DoesJob, Puts, RefusesJob}
use Rattle.fab_commands.specs.Running.{IsJobReady, WriteFailed, JobHasCause, JobLeaves, StandsBefore, IsPut, IsReported, IsOrMemory, answers, IsAnswered}
use Rattle.fab_commands.proofs.Faulted.{Kind, done_ready, kind, not_refused, refused_once, memory, read, write, refused, failed}

-- ---- numbers

no_such : (numbers : List ℕ) (n other : ℕ) → list_any (nat_eq other) numbers ≡ false → list_any (nat_eq n) numbers ≡ true → n ≢ other
no_such numbers n other absent is same = absurd (let no : false ≡ true = sym absent ∙ subst (λ m. list_any (nat_eq m) numbers ≡ true) same is in cc)

-- no refusal has the number of a fault of words, of a device or of memory
refusals_lack : (job : Job) → (list_any (nat_eq 0) (refusals job) ≡ false) × (list_any (nat_eq 1) (refusals job) ≡ false) × (list_any (nat_eq 11) (refusals job) ≡ false) × (list_any (nat_eq 12) (refusals job) ≡ false) × (list_any (nat_eq 13) (refusals job) ≡ false)
refusals_lack (Matrix list out) = (refl, refl, refl, refl, refl)
refusals_lack (Generate fabric out) = (refl, refl, refl, refl, refl)
refusals_lack (Assemble fabric blif pcf implementation base) = (refl, refl, refl, refl, refl)
refusals_lack (Mapping fabric blif pcf seed rounds out) = (refl, refl, refl, refl, refl)
refusals_lack (Flow fabric blif pcf seed rounds reset base) = (refl, refl, refl, refl, refl)
refusals_lack (Bits fabric fasm out) = (refl, refl, refl, refl, refl)
refusals_lack (Features fabric bit out) = (refl, refl, refl, refl, refl)
refusals_lack (Simulate verilog bit state stimulus order trace) = (refl, refl, refl, refl, refl)
refusals_lack (Partial fabric implementation fasm first last out) = (refl, refl, refl, refl, refl)
refusals_lack (Timing fabric blif pcf implementation out) = (refl, refl, refl, refl, refl)
refusals_lack (Serial fabric out) = (refl, refl, refl, refl, refl)
refusals_lack (Sample size seed) = (refl, refl, refl, refl, refl)

other_number : (job : Job) (n : ℕ) → list_any (nat_eq n) (refusals job) ≡ true → (n ≢ 0) × (n ≢ 1) × (n ≢ 11) × (n ≢ 12) × (n ≢ 13)
other_number job n is =
    let lack = refusals_lack job in
    (no_such (refusals job) n 0 lack.0 is, no_such (refusals job) n 1 lack.1 is, no_such (refusals job) n 11 lack.2 is, no_such (refusals job) n 12 lack.3 is, no_such (refusals job) n 13 lack.4 is)

-- nor has the failure of a search
failures_lack : (job : Job) → (list_any (nat_eq 1) (failures job) ≡ false) × (list_any (nat_eq 11) (failures job) ≡ false) × (list_any (nat_eq 12) (failures job) ≡ false)
failures_lack (Matrix list out) = (refl, refl, refl)
failures_lack (Generate fabric out) = (refl, refl, refl)
failures_lack (Assemble fabric blif pcf implementation base) = (refl, refl, refl)
failures_lack (Mapping fabric blif pcf seed rounds out) = (refl, refl, refl)
failures_lack (Flow fabric blif pcf seed rounds reset base) = (refl, refl, refl)
failures_lack (Bits fabric fasm out) = (refl, refl, refl)
failures_lack (Features fabric bit out) = (refl, refl, refl)
failures_lack (Simulate verilog bit state stimulus order trace) = (refl, refl, refl)
failures_lack (Partial fabric implementation fasm first last out) = (refl, refl, refl)
failures_lack (Timing fabric blif pcf implementation out) = (refl, refl, refl)
failures_lack (Serial fabric out) = (refl, refl, refl)
failures_lack (Sample size seed) = (refl, refl, refl)

other_failure : (job : Job) (n : ℕ) → list_any (nat_eq n) (failures job) ≡ true → (n ≢ 1) × (n ≢ 11) × (n ≢ 12)
other_failure job n is =
    let lack = failures_lack job in (no_such (failures job) n 1 lack.0 is, no_such (failures job) n 11 lack.1 is, no_such (failures job) n 12 lack.2 is)

-- a number stands behind another one too
any_behind : (n m : ℕ) (numbers : List ℕ) → list_any (nat_eq n) numbers ≡ true → list_any (nat_eq n) (m ∷ numbers) ≡ true
any_behind n m numbers is = elim (cases_Bool (nat_eq n m)) [ inl t ↦ rw t refl | inr f ↦ rw f is ]

-- statuses of two numbers
above : (m n : ℕ) → n < m → status m ≡ status n → ⊥
above m n less is = let same : m ≡ n = ap (λ (s : Status). s.0) is in omega (arith, same, less)

below : (m n : ℕ) → m < n → status m ≡ status n → ⊥
below m n less is = let same : m ≡ n = ap (λ (s : Status). s.0) is in omega (arith, same, less)

positive : (fault : Fault) → 1 ≤ (number_of fault).0
positive faults.Usage = omega arith
positive (faults.Missing file) = omega arith
positive (faults.TooLong file) = omega arith
positive (faults.Malformed place reason) = omega arith
positive (faults.Unsupported place construct) = omega arith
positive (faults.Limit place quantity value bound) = omega arith
positive (faults.Short kind need have) = omega arith
positive (faults.NoPath net wire placement) = omega arith
positive (faults.Overused wire first second placement) = omega arith
positive (faults.Illegal rule item) = omega arith
positive (faults.ReadFault file) = omega arith
positive (faults.WriteFault file) = omega arith
positive faults.Memory = omega arith

zero_is_none : (fault : Fault) → number_of fault ≡ status 0 → ⊥
zero_is_none fault is =
    let some = positive fault in
    let none : (number_of fault).0 ≡ 0 = ap (λ (s : Status). s.0) is in
    omega (arith, some, none)

-- a command leaves the files as they were, unless it ends with 12 or 13
left_as_was : (job : Job) (told after : Option Map) (fault : Fault) (n : ℕ) → n ≤ 11 → number_of fault ≡ status n → Leaves (Makes job) told after fault → after ≡ told
left_as_was job told after (faults.WriteFault file) n few is leaves = absurd (let same : 12 ≡ n = ap (λ (s : Status). s.0) is in omega (arith, same, few))
left_as_was job told after faults.Memory n few is leaves = absurd (let same : 13 ≡ n = ap (λ (s : Status). s.0) is in omega (arith, same, few))
left_as_was job told after faults.Usage n few is leaves = leaves
left_as_was job told after (faults.Missing file) n few is leaves = leaves
left_as_was job told after (faults.TooLong file) n few is leaves = leaves
left_as_was job told after (faults.Malformed place reason) n few is leaves = leaves
left_as_was job told after (faults.Unsupported place construct) n few is leaves = leaves
left_as_was job told after (faults.Limit place quantity value bound) n few is leaves = leaves
left_as_was job told after (faults.Short kind need have) n few is leaves = leaves
left_as_was job told after (faults.NoPath net wire placement) n few is leaves = leaves
left_as_was job told after (faults.Overused wire first second placement) n few is leaves = leaves
left_as_was job told after (faults.Illegal rule item) n few is leaves = leaves
left_as_was job told after (faults.ReadFault file) n few is leaves = leaves

-- and a sample leaves them in any case
job_left : (job : Job) (told after : Option Map) (fault : Fault) (n : ℕ) → n ≤ 11 → number_of fault ≡ status n → JobLeaves (Some job) told after fault
    → after ≡ told
job_left (Matrix list out) told after fault n few is leaves = left_as_was (Matrix list out) told after fault n few is leaves
job_left (Generate fabric out) told after fault n few is leaves = left_as_was (Generate fabric out) told after fault n few is leaves
job_left (Assemble fabric blif pcf implementation base) told after fault n few is leaves =
    left_as_was (Assemble fabric blif pcf implementation base) told after fault n few is leaves
job_left (Mapping fabric blif pcf seed rounds out) told after fault n few is leaves =
    left_as_was (Mapping fabric blif pcf seed rounds out) told after fault n few is leaves
job_left (Flow fabric blif pcf seed rounds reset base) told after fault n few is leaves =
    left_as_was (Flow fabric blif pcf seed rounds reset base) told after fault n few is leaves
job_left (Bits fabric fasm out) told after fault n few is leaves = left_as_was (Bits fabric fasm out) told after fault n few is leaves
job_left (Features fabric bit out) told after fault n few is leaves = left_as_was (Features fabric bit out) told after fault n few is leaves
job_left (Simulate verilog bit state stimulus order trace) told after fault n few is leaves =
    left_as_was (Simulate verilog bit state stimulus order trace) told after fault n few is leaves
job_left (Partial fabric implementation fasm first last out) told after fault n few is leaves =
    left_as_was (Partial fabric implementation fasm first last out) told after fault n few is leaves
job_left (Timing fabric blif pcf implementation out) told after fault n few is leaves =
    left_as_was (Timing fabric blif pcf implementation out) told after fault n few is leaves
job_left (Serial fabric out) told after fault n few is leaves = left_as_was (Serial fabric out) told after fault n few is leaves
job_left (Sample size seed) told after fault n few is leaves = leaves

-- ---- what the status says

-- the status is the fault's number, or 13
status_is : (fault : Fault) (answer : Status) (old new : Option (List ℕ)) (lost : Type 0) → IsReported fault answer old new lost → IsOrMemory answer (number_of fault)
status_is fault answer old new lost (inl r) = inl r.0
status_is fault answer old new lost (inr r) = inr r.0

-- a status of a job's fault that is none of 1, 11, 12 and 13 comes of a refusal
module _ (job : Job) (told after : Option Map) (reads writes : Type 0) (fault : Fault) (answer : Status) (cause : HasJobCause job told reads writes fault) (due : IsOrMemory answer (number_of fault)) where
  -- the number of a status that is due
  number : (n : ℕ) → n ≢ 13 → answer ≡ status n → number_of fault ≡ status n
  number n other is = elim due [ inl d ↦ sym d ∙ is | inr m ↦ absurd (other (ap (λ (s : Status). s.0) (sym is ∙ m))) ]

  refusal_is_not : (n : ℕ) → IsRefused told (Meets job) (refusals job) fault → number_of fault ≡ status n → list_any (nat_eq n) (refusals job) ≡ true
  refusal_is_not n why is = subst (λ (s : Status). list_any (nat_eq s.0) (refusals job) ≡ true) is why.possible

  failure_is_not : (n : ℕ) → list_any (nat_eq (number_of fault).0) (failures job) ≡ true → number_of fault ≡ status n → list_any (nat_eq n) (failures job) ≡ true
  failure_is_not n fails is = subst (λ (s : Status). list_any (nat_eq s.0) (failures job) ≡ true) is fails

  job_not_usage : answer ≡ status 1 → ⊥
  job_not_usage is = by_kind (kind told reads writes job fault cause)
    where
      own : number_of fault ≡ status 1
      own = number 1 (λ e. omega (arith, e)) is

      by_kind : Kind told reads writes job fault → ⊥
      by_kind (memory m) = above 13 1 (omega arith) (ap number_of (sym m) ∙ own)
      by_kind (read r _) = above 11 1 (omega arith) (sym r ∙ own)
      by_kind (write w _ _) = above 12 1 (omega arith) (sym w ∙ own)
      by_kind (refused r) = (other_number job 1 (refusal_is_not 1 r own)).1 refl
      by_kind (failed f _) = (other_failure job 1 (failure_is_not 1 f own)).0 refl

  job_read : answer ≡ status 11 → reads
  job_read is = by_kind (kind told reads writes job fault cause)
    where
      own : number_of fault ≡ status 11
      own = number 11 (λ e. omega (arith, e)) is

      by_kind : Kind told reads writes job fault → reads
      by_kind (memory m) = absurd (above 13 11 (omega arith) (ap number_of (sym m) ∙ own))
      by_kind (read _ rose) = rose
      by_kind (write w _ _) = absurd (above 12 11 (omega arith) (sym w ∙ own))
      by_kind (refused r) = absurd ((other_number job 11 (refusal_is_not 11 r own)).2 refl)
      by_kind (failed f _) = absurd ((other_failure job 11 (failure_is_not 11 f own)).1 refl)

  job_write : answer ≡ status 12 → writes
  job_write is = by_kind (kind told reads writes job fault cause)
    where
      own : number_of fault ≡ status 12
      own = number 12 (λ e. omega (arith, e)) is

      by_kind : Kind told reads writes job fault → writes
      by_kind (memory m) = absurd (above 13 12 (omega arith) (ap number_of (sym m) ∙ own))
      by_kind (read r _) = absurd (below 11 12 (omega arith) (sym r ∙ own))
      by_kind (write _ rose _) = rose
      by_kind (refused r) = absurd ((other_number job 12 (refusal_is_not 12 r own)).3 refl)
      by_kind (failed f _) = absurd ((other_failure job 12 (failure_is_not 12 f own)).2 refl)

  -- the first refusal is the answer, where no read failed
  job_refuses : (files : Map) (first : Fault) → told ≡ Some files → Meets job files (refuses first) → (reads → ⊥) → IsOrMemory answer (number_of first)
  job_refuses files first is meets calm = by_kind (kind told reads writes job fault cause)
    where
      by_kind : Kind told reads writes job fault → IsOrMemory answer (number_of first)
      by_kind (memory m) = inr (elim due [ inl d ↦ d ∙ ap number_of m | inr e ↦ e ])
      by_kind (read _ rose) = absurd (calm rose)
      by_kind (write _ _ ready) = absurd (not_refused job files first (ready files is) meets)
      by_kind (refused r) = elim due [ inl d ↦ inl (d ∙ refused_once job files fault first (r.met files is) meets) | inr e ↦ inr e ]
      by_kind (failed _ ready) = absurd (not_refused job files first (ready files is) meets)

  -- and 0 where nothing is refused: then a fault is want of memory, or a search that came to nothing
  job_completes : (files : Map) → told ≡ Some files → IsReady job files → (reads → ⊥) → (writes → ⊥) → IsOrMemory answer (status 0) ⊎ MayFail (Some job) answer
  job_completes files is ready calm still = by_kind (kind told reads writes job fault cause)
    where
      by_kind : Kind told reads writes job fault → IsOrMemory answer (status 0) ⊎ MayFail (Some job) answer
      by_kind (memory m) = inl (inr (elim due [ inl d ↦ d ∙ ap number_of m | inr e ↦ e ]))
      by_kind (read _ rose) = absurd (calm rose)
      by_kind (write _ rose _) = absurd (still rose)
      by_kind (refused r) = absurd (not_refused job files fault ready (r.met files is))
      by_kind (failed f _) = elim due [ inl d ↦ inr (subst (λ (s : Status). list_any (nat_eq s.0) (failures job) ≡ true) (sym d) f) | inr m ↦ inl (inr m) ]

  job_possible : list_any (nat_eq answer.0) (answers (Some job)) ≡ true
  job_possible = elim due [
    | inl d ↦ subst (λ (s : Status). list_any (nat_eq s.0) (answers (Some job)) ≡ true) (sym d) (by_kind (kind told reads writes job fault cause))
    | inr m ↦ subst (λ (s : Status). list_any (nat_eq s.0) (answers (Some job)) ≡ true) (sym m) refl
  ]
    where
      behind : (n : ℕ) (numbers : List ℕ) → list_any (nat_eq n) numbers ≡ true → list_any (nat_eq n) (0 ∷ 11 ∷ 12 ∷ 13 ∷ numbers) ≡ true
      behind n numbers is = any_behind n 0 (11 ∷ 12 ∷ 13 ∷ numbers) (any_behind n 11 (12 ∷ 13 ∷ numbers) (any_behind n 12 (13 ∷ numbers) (any_behind n 13 numbers is)))

      either : (n : ℕ) → (list_any (nat_eq n) (failures job) ≡ true) ⊎ (list_any (nat_eq n) (refusals job) ≡ true) → list_any (nat_eq n) (failures job ++ refusals job) ≡ true
      either n (inl f) = list_any-append (nat_eq n) (failures job) (refusals job) ∙ rw f refl
      either n (inr r) = list_any-append (nat_eq n) (failures job) (refusals job) ∙ elim (cases_Bool (list_any (nat_eq n) (failures job))) [ inl t ↦ rw t refl | inr f ↦ rw (f, r) refl ]

      by_kind : Kind told reads writes job fault → list_any (nat_eq (number_of fault).0) (answers (Some job)) ≡ true
      by_kind (memory m) = subst (λ (f : Fault). list_any (nat_eq (number_of f).0) (answers (Some job)) ≡ true) (sym m) refl
      by_kind (read r _) = subst (λ (s : Status). list_any (nat_eq s.0) (answers (Some job)) ≡ true) (sym r) refl
      by_kind (write w _ _) = subst (λ (s : Status). list_any (nat_eq s.0) (answers (Some job)) ≡ true) (sym w) refl
      by_kind (refused r) = behind (number_of fault).0 (failures job ++ refusals job) (either (number_of fault).0 (inr r.possible))
      by_kind (failed f _) = behind (number_of fault).0 (failures job ++ refusals job) (either (number_of fault).0 (inl f))

-- ---- the whole

-- what holds where the sink failed still does where it failed more often
cause_later : (job : Option Job) (told : Option Map) (reads writes before after : Type 0) (fault : Fault) → (before → after)
    → JobHasCause job told reads (WriteFailed job writes before) fault → JobHasCause job told reads (WriteFailed job writes after) fault
cause_later None told reads writes before after fault more cause = cause
cause_later (Some (Matrix list out)) told reads writes before after fault more cause = cause
cause_later (Some (Generate fabric out)) told reads writes before after fault more cause = cause
cause_later (Some (Assemble fabric blif pcf implementation base)) told reads writes before after fault more cause = cause
cause_later (Some (Mapping fabric blif pcf seed rounds out)) told reads writes before after fault more cause = cause
cause_later (Some (Flow fabric blif pcf seed rounds reset base)) told reads writes before after fault more cause = cause
cause_later (Some (Bits fabric fasm out)) told reads writes before after fault more cause = cause
cause_later (Some (Features fabric bit out)) told reads writes before after fault more cause = cause
cause_later (Some (Simulate verilog bit state stimulus order trace)) told reads writes before after fault more cause = cause
cause_later (Some (Partial fabric implementation fasm first last out)) told reads writes before after fault more cause = cause
cause_later (Some (Timing fabric blif pcf implementation out)) told reads writes before after fault more cause = cause
cause_later (Some (Serial fabric out)) told reads writes before after fault more cause = cause
cause_later (Some (Sample size seed)) told reads writes before after fault more (inl lacks) = inl lacks
cause_later (Some (Sample size seed)) told reads writes before after fault more (inr cut) = inr (more cut.0, cut.1)

put_later : (old : List ℕ) (new : Option (List ℕ)) (text : List ℕ) (before after : Type 0) → (before → after) → IsPut old new text before
    → IsPut old new text after
put_later old new text before after more (inl whole) = inl whole
put_later old new text before after more (inr part) = inr (more part.0, part.1)

reported_later : (fault : Fault) (answer : Status) (old new : Option (List ℕ)) (before after : Type 0) → (before → after)
    → IsReported fault answer old new before → IsReported fault answer old new after
reported_later fault answer old new before after more (inl r) = inl (r.0, λ bytes is. put_later bytes new (report fault) before after more (r.1 bytes is))
reported_later fault answer old new before after more (inr r) = inr r

-- The call that ended with a fault: `between` is how many calls of the sink had failed when its report began, and `before` what was put by then.
pub fault_answered : (call : Call) (fault : Fault) (answer : Status) (before : Option (List ℕ)) (between : ℕ) → call.failed ≤ between
    → between ≤ call.failed_after
    → JobHasCause call.job call.told (call.reads < call.reads_after) (WriteFailed call.job (call.writes < call.writes_after) (call.failed < between)) fault
    → JobLeaves call.job call.told call.told_after fault → StandsBefore call.job fault call.put before
    → IsReported fault answer before call.put_after (between < call.failed_after) → IsAnswered call answer
fault_answered call fault answer before between first last as_caused leaves stands as_reported = record {
  done = λ zero. absurd (not_zero zero);
  puts = λ zero. absurd (not_zero zero);
  kept = λ n _ few is. kept_in call.job n few is leaves;
  explained = λ _. record { fault = fault; cause = cause; leaves = leaves; before = before; stands = stands; reported = reported };
  only_usage = λ is. only_usage_in call.job is cause;
  usage = λ none. usage_in call.job none cause;
  refuses = λ files first told meets calm. refuses_in call.job files first told meets (λ rose. omega (arith, calm, rose)) cause;
  completes = λ files told ready calm still. completes_in call.job files told ready (λ rose. omega (arith, calm, rose)) still cause;
  read_fault = λ is. read_in call.job is cause;
  write_fault = λ is. write_in call.job is cause;
  possible = possible_in call.job cause;
}
  where
    reads : Type 0
    reads = call.reads < call.reads_after

    writes : Type 0
    writes = WriteFailed call.job (call.writes < call.writes_after) (call.failed < call.failed_after)

    cause : JobHasCause call.job call.told reads writes fault
    cause = cause_later call.job call.told reads (call.writes < call.writes_after) (call.failed < between) (call.failed < call.failed_after) fault
        (λ rose. omega (arith, rose, last)) as_caused

    reported : IsReported fault answer before call.put_after (call.failed < call.failed_after)
    reported = reported_later fault answer before call.put_after (between < call.failed_after) (call.failed < call.failed_after)
        (λ rose. omega (arith, rose, first)) as_reported

    due : IsOrMemory answer (number_of fault)
    due = status_is fault answer before call.put_after (call.failed < call.failed_after) reported

    not_zero : answer ≡ status 0 → ⊥
    not_zero zero = elim due [ inl d ↦ zero_is_none fault (sym d ∙ zero) | inr m ↦ (above 13 0 (omega arith) (sym m ∙ zero)) ]

    of_words : (f : Fault) → (f ≡ faults.Usage) ⊎ (f ≡ faults.Memory) → IsOrMemory (number_of f) (status 1)
    of_words f (inl u) = inl (ap number_of u)
    of_words f (inr m) = inr (ap number_of m)

    kept_in : (job : Option Job) (n : ℕ) → n ≤ 11 → answer ≡ status n → JobLeaves job call.told call.told_after fault → call.told_after ≡ call.told
    kept_in None n few is l = l
    kept_in (Some job) n few is l =
        job_left job call.told call.told_after fault n few
        (elim due [ inl d ↦ sym d ∙ is | inr m ↦ absurd (let same : n ≡ 13 = ap (λ (s : Status). s.0) (sym is ∙ m) in omega (arith, same, few)) ]) l

    only_usage_in : (job : Option Job) → answer ≡ status 1 → JobHasCause job call.told reads writes fault → job ≡ None
    only_usage_in None is c = refl
    only_usage_in (Some job) is c = absurd (job_not_usage job call.told call.told_after reads writes fault answer c due is)

    usage_in : (job : Option Job) → job ≡ None → JobHasCause job call.told reads writes fault → IsOrMemory answer (status 1)
    usage_in None none c = elim due [ inl d ↦ subst (λ (s : Status). IsOrMemory s (status 1)) (sym d) (of_words fault c) | inr m ↦ inr m ]
    usage_in (Some job) none c = absurd cc

    refuses_in : (job : Option Job) (files : Map) (first : Fault) → call.told ≡ Some files → RefusesJob job files first → (reads → ⊥) → JobHasCause job call.told reads writes fault → IsOrMemory answer (number_of first)
    refuses_in None files first told meets calm c = subst (λ (f : Fault). IsOrMemory answer (number_of f)) (sym meets) (usage_in None refl c)
    refuses_in (Some job) files first told meets calm c = job_refuses job call.told call.told_after reads writes fault answer c due files first told meets calm

    completes_in : (job : Option Job) (files : Map) → call.told ≡ Some files → IsJobReady job files → (reads → ⊥) → (writes → ⊥) → JobHasCause job call.told reads writes fault → IsOrMemory answer (status 0) ⊎ MayFail job answer
    completes_in None files told ready calm still c = absurd ready
    completes_in (Some job) files told ready calm still c = job_completes job call.told call.told_after reads writes fault answer c due files told ready calm still

    read_in : (job : Option Job) → answer ≡ status 11 → JobHasCause job call.told reads writes fault → reads
    read_in None is c = absurd (elim (usage_in None refl c) [ inl u ↦ (below 1 11 (omega arith) (sym u ∙ is)) | inr m ↦ (above 13 11 (omega arith) (sym m ∙ is)) ])
    read_in (Some job) is c = job_read job call.told call.told_after reads writes fault answer c due is

    write_in : (job : Option Job) → answer ≡ status 12 → JobHasCause job call.told reads writes fault → writes
    write_in None is c = absurd (elim (usage_in None refl c) [ inl u ↦ (below 1 12 (omega arith) (sym u ∙ is)) | inr m ↦ (above 13 12 (omega arith) (sym m ∙ is)) ])
    write_in (Some job) is c = job_write job call.told call.told_after reads writes fault answer c due is

    possible_in : (job : Option Job) → JobHasCause job call.told reads writes fault → list_any (nat_eq answer.0) (answers job) ≡ true
    possible_in None c = elim (usage_in None refl c) [
      | inl u ↦ subst (λ (s : Status). list_any (nat_eq s.0) (answers None) ≡ true) (sym u) refl
      | inr m ↦ subst (λ (s : Status). list_any (nat_eq s.0) (answers None) ≡ true) (sym m) refl
    ]
    possible_in (Some job) c = job_possible job call.told call.told_after reads writes fault answer c due

-- the call that did its job
pub job_answered : (call : Call) → DoesJob call.job call.told call.told_after → Puts call.job call.put call.put_after → IsAnswered call (status 0)
job_answered call done puts = record {
  done = λ _. done;
  puts = λ _. puts;
  kept = λ n some _ is. absurd (let same : 0 ≡ n = ap (λ (s : Status). s.0) is in omega (arith, same, some));
  explained = λ other. absurd (other refl);
  only_usage = λ is. absurd (below 0 1 (omega arith) (is));
  usage = λ none. absurd (job_is call.job none done);
  refuses = λ files fault told meets _. absurd (done_apart call.job files fault told meets done);
  completes = λ files told ready _ _. inl (inl refl);
  read_fault = λ is. absurd (below 0 11 (omega arith) (is));
  write_fault = λ is. absurd (below 0 12 (omega arith) (is));
  possible = possible_in call.job done;
}
  where
    job_is : (job : Option Job) → job ≡ None → DoesJob job call.told call.told_after → ⊥
    job_is None none d = d
    job_is (Some job) none d = cc

    done_apart : (job : Option Job) (files : Map) (fault : Fault) → call.told ≡ Some files → RefusesJob job files fault → DoesJob job call.told call.told_after → ⊥
    done_apart None files fault told meets d = d
    done_apart (Some job) files fault told meets d = not_refused job files fault (done_ready job files call.told call.told_after told d) meets

    possible_in : (job : Option Job) → DoesJob job call.told call.told_after → list_any (nat_eq 0) (answers job) ≡ true
    possible_in None d = absurd d
    possible_in (Some job) d = refl
