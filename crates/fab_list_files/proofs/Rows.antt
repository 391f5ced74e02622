-- From row to row of a list.
use Rattle.std.proofs.Common.{◌≡◌, ◌<◌, ◌-◌, ℕ, zero, suc, List, [], ◌∷◌, Option, Some, None, Result, Ok, Err, sym, ◌∙◌, ◌+◌, subst, inl, inr, arith, length, get_or, drop, add-one}
use Rattle.std.proofs.Math.Seq.{drop-cons}
use Rattle.fab_base.specs.declared.fault.Fault.{Fault}
use Rattle.fab_base.specs.declared.fault.Fault.TheVariants as faults
use Rattle.fab_base.specs.declared.words.Quantity.{Quantity}
use Rattle.fab_base.specs.declared.problem.Problem.{Problem}
use Rattle.fab_base.specs.declared.problem.Problem.TheVariants as problems
use Rattle.fab_base.specs.Reading.{fault_at, IsFaultOr, Refuses}
use Rattle.fab_desk.specs.Files.{Map}
use Rattle.fab_rows.specs.Rows.{PlainRow}
use Rattle.fab_tables.specs.Lists.{Pair, PlainBody, PairsOf, IncludeOf, body_of}
use Rattle.fab_files.specs.Files.{Event, asks, refuses, HasReadCause, MeetsFile}
use Rattle.fab_list_files.specs.Lists.{Knowledge, adds, opens, opened_file, deed_of_body, deed_of, with_pairs, ReadsList, ends, adds_pairs, opens_file, MeetsList, bad_row, asks_for, no_file, inside, behind_pairs, behind_file, ReadsListFile, MeetsListFile, of_file, of_rows}
use Rattle.fab_list_files.specs.inner.Following.{RowLeads, MeetsRow, LeadsOn}

-- what is left of items begins with the next
pub drop_next : {X : Type 0} (items : List X) (place : ℕ) (item : X) → place < length items → item ≡ get_or items place item → drop place items ≡ item ∷ drop (place + 1) items
drop_next items place item below is = rw (add-one, is) (drop-cons items place item below)

-- a row opens a file only where one more may be opened
opened_some : (left : ℕ) (found : Option (List ℕ)) (file : List ℕ) → opened_file left found ≡ Ok (opens file) → 0 < left
opened_some left None file is = absurd cc
opened_some zero (Some other) file is = absurd cc
opened_some (suc left) (Some other) file is = omega arith

some_left : (left : ℕ) (file : List ℕ) (said : Result PlainBody Problem) (other : List ℕ) → deed_of_body left file said ≡ Ok (opens other) → 0 < left
some_left left file (Ok (PairsOf new)) other is = absurd cc
some_left left file (Ok (IncludeOf path)) other is = opened_some left _ other is
some_left left file (Err problem) other is = absurd cc

pub opens_some_left : (known : Knowledge) (left : ℕ) (file : List ℕ) (before : List Pair) (cells : List (List ℕ)) (other : List ℕ) → deed_of known left file before cells ≡ Ok (opens other) → 0 < left
opens_some_left known left file before cells other is = some_left left file (body_of (known before) cells) other is

-- a problem at a place is what is refused there
pub cause_at : (told : Option Map) (rose : Type 0) (meets : Map → Event → Type 0) (file : List ℕ) (line : ℕ) (problem : Problem) (fault : Fault) {Y : Type 0} (given : Result Y Problem) →
    ((files : Map) (why : Problem) → given ≡ Err why → meets files (refuses (fault_at file line why))) → Refuses problem given → IsFaultOr fault (fault_at file line problem) → HasReadCause told rose meets fault
cause_at told rose meets file line problem fault given met refused (inl memory) = subst (HasReadCause told rose meets) (sym memory) tt
cause_at told rose meets file line (problems.Malformed reason) fault given met refused (inr is) = subst (HasReadCause told rose meets) (sym is) (λ files t. met files (problems.Malformed reason) refused)
cause_at told rose meets file line (problems.Unsupported construct) fault given met refused (inr is) = subst (HasReadCause told rose meets) (sym is) (λ files t. met files (problems.Unsupported construct) refused)
cause_at told rose meets file line (problems.Limit quantity value bound) fault given met refused (inr is) = subst (HasReadCause told rose meets) (sym is) (λ files t. met files (problems.Limit quantity value bound) refused)
cause_at told rose meets file line problems.Memory fault given met refused (inr is) = subst (HasReadCause told rose meets) (sym is) tt

-- ---- one row

module _ (files : Map) (known : Knowledge) (left : ℕ) (file : List ℕ) (before : List Pair) (row : PlainRow) where
  pub adds_lead : (new after : List Pair) → deed_of known left file before row.cells ≡ Ok (adds new) → after ≡ with_pairs before new → RowLeads files known left file before row after
  adds_lead new after deed is = record {
    reads = λ rows last rest. adds_pairs deed (subst (λ (ps : List Pair). ReadsList files known left file ps rows last) is rest);
    meets = λ rows event rest. behind_pairs deed (subst (λ (ps : List Pair). MeetsList files known left file ps rows event) is rest);
  }

  pub opens_lead : (other : List ℕ) (after : List Pair) → deed_of known left file before row.cells ≡ Ok (opens other) → ReadsListFile files known (left - 1) other before after → RowLeads files known left file before row after
  opens_lead other after deed read = record {
    reads = λ rows last rest. opens_file deed read.found read.reads rest;
    meets = λ rows event rest. behind_file deed read.found read.reads rest;
  }

  asks_row : (other : List ℕ) → deed_of known left file before row.cells ≡ Ok (opens other) → (event : Event) → MeetsFile files other event → MeetsRow files known left file before row event
  asks_row other deed (asks name) met = λ rows. subst (λ (n : List ℕ). MeetsList files known left file before (row ∷ rows) (asks n)) (sym met) (asks_for deed)
  asks_row other deed (refuses fault) met = λ rows. no_file deed met

  pub opens_meets : (other : List ℕ) → deed_of known left file before row.cells ≡ Ok (opens other) → (event : Event) → MeetsListFile files known (left - 1) other before event → MeetsRow files known left file before row event
  opens_meets other deed event (of_file met) = asks_row other deed event met
  opens_meets other deed event (of_rows found met) = λ rows. inside deed found met

  pub bad_meets : (problem : Problem) → deed_of known left file before row.cells ≡ Err problem → MeetsRow files known left file before row (refuses (fault_at file row.line problem))
  bad_meets problem deed = λ rows. bad_row deed

-- ---- all rows

module _ (files : Map) (known : Knowledge) (left : ℕ) (file : List ℕ) (before : List Pair) (rows : List PlainRow) where
  pub leads_nowhere : LeadsOn files known left file before rows before rows
  leads_nowhere = record { reads = λ last rest. rest; meets = λ event rest. rest }

  pub leads_further : (here next : List Pair) (row : PlainRow) (left_over rest : List PlainRow) → left_over ≡ row ∷ rest →
      LeadsOn files known left file before rows here left_over → RowLeads files known left file here row next → LeadsOn files known left file before rows next rest
  leads_further here next row left_over rest is on one = record {
    reads = λ last more. on.reads last (subst (λ (rs : List PlainRow). ReadsList files known left file here rs last) (sym is) (one.reads rest last more));
    meets = λ event more. on.meets event (subst (λ (rs : List PlainRow). MeetsList files known left file here rs event) (sym is) (one.meets rest event more));
  }

  pub leads_to_end : (here : List Pair) (left_over : List PlainRow) → left_over ≡ [] → LeadsOn files known left file before rows here left_over → ReadsList files known left file before rows here
  leads_to_end here left_over is on = on.reads here (subst (λ (rs : List PlainRow). ReadsList files known left file here rs here) (sym is) ends)

  pub leads_to_event : (here : List Pair) (row : PlainRow) (left_over rest : List PlainRow) (event : Event) → left_over ≡ row ∷ rest →
      LeadsOn files known left file before rows here left_over → MeetsRow files known left file here row event → MeetsList files known left file before rows event
  leads_to_event here row left_over rest event is on met = on.meets event (subst (λ (rs : List PlainRow). MeetsList files known left file here rs event) (sym is) (met rest))

-- a limit that is refused
pub limit_cause : (told : Option Map) (rose : Type 0) (meets : Map → Event → Type 0) (file : List ℕ) (line : ℕ) (quantity : Quantity) (value bound : ℕ) (fault : Fault) →
    ((files : Map) → told ≡ Some files → meets files (refuses (fault_at file line (problems.Limit quantity value bound)))) → IsFaultOr fault (fault_at file line (problems.Limit quantity value bound)) → HasReadCause told rose meets fault
limit_cause told rose meets file line quantity value bound fault met (inl memory) = subst (HasReadCause told rose meets) (sym memory) tt
limit_cause told rose meets file line quantity value bound fault met (inr is) = subst (HasReadCause told rose meets) (sym is) met
