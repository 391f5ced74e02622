-- Why a command ends and what it leaves, from what its parts do.
use Rattle.std.proofs.Common.{◌≡◌, ℕ, true, false, List, ◌∷◌, ◌++◌, Option, Some, sym, ap, ◌∙◌, inl, inr, subst, option_map, nat_eq}
use Rattle.std.specs.List.{list_any}
use Rattle.std.specs.Option.{ForSome}
use Rattle.fab_base.specs.declared.fault.Fault.{Fault}
use Rattle.fab_base.specs.declared.fault.Fault.TheVariants as faults
use Rattle.fab_desk.specs.Files.{Map}
use Rattle.fab_files.specs.Files.{Event, HasReadCause, IsSupported}
use Rattle.fab_outputs.specs.Storing.{PlainOutput, output, with_outputs, IsDone, Leaves, IsStoreFault, IsStopped}
use Rattle.fab_outputs.specs.Ending.{HasCause, HasSearchCause}

-- the numbers of what readers refuse are among these
pub record Reads (numbers : List ℕ) : Type 0 where
  pub missing : list_any (nat_eq 2) numbers ≡ true
  pub long : list_any (nat_eq 3) numbers ≡ true
  pub malformed : list_any (nat_eq 4) numbers ≡ true
  pub unsupported : list_any (nat_eq 5) numbers ≡ true
  pub limit : list_any (nat_eq 6) numbers ≡ true

-- the same of a reader that comes upon no unsupported construct
pub record ReadsSupported (numbers : List ℕ) : Type 0 where
  pub missing : list_any (nat_eq 2) numbers ≡ true
  pub long : list_any (nat_eq 3) numbers ≡ true
  pub malformed : list_any (nat_eq 4) numbers ≡ true
  pub limit : list_any (nat_eq 6) numbers ≡ true

module _ (told : Option Map) (reads writes : Type 0) (meets : Map → Event → Type 0) (ready : Map → Type 0) (numbers : List ℕ) where
  -- where all of the command's files are read by one such reader, what it comes upon the command does
  pub cause_of_supported : ReadsSupported numbers → (given : Fault) → IsSupported given → HasReadCause told reads meets given → HasCause told reads writes meets ready numbers given
  cause_of_supported among faults.Memory supported cause = tt
  cause_of_supported among (faults.ReadFault file) supported cause = cause
  cause_of_supported among (faults.Missing file) supported cause = record { possible = among.missing; met = cause }
  cause_of_supported among (faults.TooLong file) supported cause = record { possible = among.long; met = cause }
  cause_of_supported among (faults.Malformed place reason) supported cause = record { possible = among.malformed; met = cause }
  cause_of_supported among (faults.Unsupported place construct) supported cause = absurd supported
  cause_of_supported among (faults.Limit place quantity value bound) supported cause = record { possible = among.limit; met = cause }
  cause_of_supported among given supported cause = absurd cause

  -- what a part of the command that reads comes upon, the command does
  pub cause_of_read : Reads numbers → (part : Map → Event → Type 0) → ((files : Map) (event : Event) → told ≡ Some files → part files event → meets files event)
      → (given : Fault) → HasReadCause told reads part given → HasCause told reads writes meets ready numbers given
  cause_of_read among part met faults.Memory cause = tt
  cause_of_read among part met (faults.ReadFault file) cause = (cause.0, λ files is. met files _ is (cause.1 files is))
  cause_of_read among part met (faults.Missing file) cause = record { possible = among.missing; met = λ files is. met files _ is (cause files is) }
  cause_of_read among part met (faults.TooLong file) cause = record { possible = among.long; met = λ files is. met files _ is (cause files is) }
  cause_of_read among part met (faults.Malformed place reason) cause = record { possible = among.malformed; met = λ files is. met files _ is (cause files is) }
  cause_of_read among part met (faults.Unsupported place construct) cause = record { possible = among.unsupported; met = λ files is. met files _ is (cause files is) }
  cause_of_read among part met (faults.Limit place quantity value bound) cause = record { possible = among.limit; met = λ files is. met files _ is (cause files is) }
  cause_of_read among part met given cause = absurd cause

  -- why an output is not stored
  store_cause : (file : List ℕ) (rose : Type 0) (given : Fault) → ForSome told ready → (rose → writes) → IsStoreFault file rose given → HasCause told reads writes meets ready numbers given
  store_cause file rose faults.Memory is_ready higher cause = tt
  store_cause file rose (faults.WriteFault other) is_ready higher cause = (higher cause.0, is_ready)
  store_cause file rose given is_ready higher cause = absurd cause

  pub cause_of_store : (outputs : List PlainOutput) (before after : Option Map) (rose : Type 0) (given : Fault) → ForSome told ready → (rose → writes)
      → IsStopped outputs before after rose given → HasCause told reads writes meets ready numbers given
  cause_of_store outputs before after rose given is_ready higher stopped = store_cause stopped.next.name rose given is_ready higher stopped.fault_is

-- The same of a command that searches, which refuses nothing with no path and with an overused wire.
module _ (told : Option Map) (reads writes : Type 0) (meets : Map → Event → Type 0) (ready : Map → Type 0) (fails : Map → Fault → Type 0) (numbers : List ℕ) where
  impossible : (number : ℕ) → list_any (nat_eq number) numbers ≡ false → list_any (nat_eq number) numbers ≡ true → ⊥
  impossible number never possible = let differ = sym never ∙ possible in cc

  pub searched : list_any (nat_eq 8) numbers ≡ false → list_any (nat_eq 9) numbers ≡ false → (given : Fault) → HasCause told reads writes meets ready numbers given
      → HasSearchCause told reads writes meets ready fails numbers given
  searched no_eight no_nine (faults.NoPath net wire text) cause = absurd (impossible 8 no_eight cause.possible)
  searched no_eight no_nine (faults.Overused wire first second text) cause = absurd (impossible 9 no_nine cause.possible)
  searched no_eight no_nine given cause = cause

module _ (makes : Map → List PlainOutput → Type 0) (told : Option Map) where
  -- a part of the command that reads leaves the files as they were
  pub leaves_of_read : (reads : Type 0) (part : Map → Event → Type 0) (after : Option Map) (given : Fault) → HasReadCause told reads part given → after ≡ told → Leaves makes told after given
  leaves_of_read reads part after faults.Memory cause kept = inl kept
  leaves_of_read reads part after (faults.WriteFault file) cause kept = absurd cause
  leaves_of_read reads part after faults.Usage cause kept = kept
  leaves_of_read reads part after (faults.Missing file) cause kept = kept
  leaves_of_read reads part after (faults.TooLong file) cause kept = kept
  leaves_of_read reads part after (faults.Malformed place reason) cause kept = kept
  leaves_of_read reads part after (faults.Unsupported place construct) cause kept = kept
  leaves_of_read reads part after (faults.Limit place quantity value bound) cause kept = kept
  leaves_of_read reads part after (faults.Short kind need have) cause kept = kept
  leaves_of_read reads part after (faults.NoPath net wire placement) cause kept = kept
  leaves_of_read reads part after (faults.Overused wire first second placement) cause kept = kept
  leaves_of_read reads part after (faults.Illegal rule item) cause kept = kept
  leaves_of_read reads part after (faults.ReadFault file) cause kept = kept

  -- want of memory before the first store
  pub leaves_of_memory : (after : Option Map) (given : Fault) → given ≡ faults.Memory → after ≡ told → Leaves makes told after given
  leaves_of_memory after given is kept = subst (Leaves makes told after) (sym is) (inl kept)

  -- where a store fails, those before it stand
  stops : (stored left : List PlainOutput) (next : PlainOutput) (after : Option Map) (rose : Type 0) (given : Fault) → ForSome told (λ files. makes files (stored ++ next ∷ left))
      → after ≡ option_map (with_outputs stored) told → IsStoreFault next.name rose given → Leaves makes told after given
  stops stored left next after rose faults.Memory made is cause = inr (record { stored = stored; next = next; left = left; has = record { made = made; after_is = is } })
  stops stored left next after rose (faults.WriteFault file) made is cause = record {
    stored = stored;
    bytes = next.bytes;
    left = left;
    has = record { made = subst (λ name. ForSome told (λ files. makes files (stored ++ output name next.bytes ∷ left))) (sym cause.1) made; after_is = is };
  }
  stops stored left next after rose given made is cause = absurd cause

  pub leaves_of_store : (outputs : List PlainOutput) (before after : Option Map) (rose : Type 0) (given : Fault) → ForSome told (λ files. makes files outputs) → before ≡ told
      → IsStopped outputs before after rose given → Leaves makes told after given
  leaves_of_store outputs before after rose given made same stopped =
      stops stopped.stored stopped.left stopped.next after rose given
      (subst (λ (list : List PlainOutput). ForSome told (λ files. makes files list)) stopped.are made)
      (stopped.after_is ∙ ap (option_map (with_outputs stopped.stored)) same) stopped.fault_is

  pub done_of_store : (outputs : List PlainOutput) (before after : Option Map) → ForSome told (λ files. makes files outputs) → before ≡ told
      → after ≡ option_map (with_outputs outputs) before → IsDone makes told after
  done_of_store outputs before after made same stored = record { outputs = outputs; made = made; after_is = stored ∙ ap (option_map (with_outputs outputs)) same }
