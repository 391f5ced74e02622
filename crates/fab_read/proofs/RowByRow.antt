-- From row to row of a fabric.
use Rattle.std.proofs.Common.{◌≡◌, ◌+◌, ℕ, List, [], ◌∷◌, Some, Ok, Err, sym, subst, if◌then◌else◌}
use Rattle.fab_base.specs.declared.problem.Problem.{Problem}
use Rattle.fab_base.specs.Reading.{fault_at}
use Rattle.fab_desk.specs.Files.{Map}
use Rattle.fab_rows.specs.Rows.{PlainRow}
use Rattle.fab_files.specs.Files.{Event, refuses}
use Rattle.fab_blocks.specs.Blocks.{PlainBlock}
use Rattle.fab_blocks.specs.Reading.{PlainReading, PlainHolder}
use Rattle.fab_blocks.specs.Saying.{said_of}
use Rattle.fab_blocks.specs.declared.standing.Said.{Said}
use Rattle.fab_blocks.specs.declared.standing.Said.TheVariants as said
use Rattle.fab_read.specs.Tiles.{MeetsTile}
use Rattle.fab_read.specs.Rows.{opened_by, end_at, ReadsRows, ends, takes_row, opens_file, ends_tile, MeetsRows, bad_row, at_file, inside, left_open, in_tile, behind_row, behind_file, behind_tile, MeetsRowsFile, of_file, of_rows, of_end}
use Rattle.fab_read.specs.inner.Following.{RowLeads, MeetsRow, LeadsOn, ReadsFileTo, EndsTile}

-- how deep files may still be opened from a file
abbrev pub depth : PlainHolder → ℕ
depth holder = holder.left + (if holder.is_fabric then 1 else 0)

-- ---- one row

module _ (files : Map) (holder : PlainHolder) (before : PlainReading) (row : PlainRow) where
  pub taken_leads : (next : PlainReading) → said_of before holder row ≡ Ok (next, said.Taken) → RowLeads files holder before row next
  taken_leads next says = record { reads = λ rows last rest. takes_row says rest; meets = λ rows event rest. behind_row says rest }

  pub file_leads : (next after : PlainReading) (says : Said) (other : PlainHolder) (last_line : ℕ) → said_of before holder row ≡ Ok (next, says) → opened_by holder next says ≡ Some other →
      ReadsFileTo files other next after last_line → RowLeads files holder before row after
  file_leads next after says other last_line is opened read = record {
    reads = λ rows last rest. opens_file is opened read.1.found read.1.reads read.1.closed rest;
    meets = λ rows event rest. behind_file is opened read.1.found read.1.reads read.1.closed rest;
  }

  pub tile_leads : (next after : PlainReading) (block : PlainBlock) → said_of before holder row ≡ Ok (next, said.EndsTile block) → EndsTile files (end_at holder row) block next after → RowLeads files holder before row after
  tile_leads next after block is ended = record {
    reads = λ rows last rest. ends_tile is ended.1 (subst (λ (r : PlainReading). ReadsRows files holder r rows last) ended.2 rest);
    meets = λ rows event rest. behind_tile is ended.1 (subst (λ (r : PlainReading). MeetsRows files holder r rows event) ended.2 rest);
  }

  pub file_meets : (next : PlainReading) (says : Said) (other : PlainHolder) → said_of before holder row ≡ Ok (next, says) → opened_by holder next says ≡ Some other →
      (event : Event) → MeetsRowsFile files other next event → MeetsRow files holder before row event
  file_meets next says other is opened event (of_file met) = λ rows. at_file is opened met
  file_meets next says other is opened event (of_rows found met) = λ rows. inside is opened found met
  file_meets next says other is opened _ (of_end found read open_still) = λ rows. left_open is opened found read open_still

  pub tile_meets : (next : PlainReading) (block : PlainBlock) → said_of before holder row ≡ Ok (next, said.EndsTile block) → (event : Event) → MeetsTile files (end_at holder row) block event → MeetsRow files holder before row event
  tile_meets next block is event met = λ rows. in_tile is met

  pub bad_meets : (problem : Problem) → said_of before holder row ≡ Err problem → MeetsRow files holder before row (refuses (fault_at holder.file row.line problem))
  bad_meets problem is = λ rows. bad_row is

-- ---- all rows

module _ (files : Map) (holder : PlainHolder) (before : PlainReading) (rows : List PlainRow) where
  pub leads_further : (here next : PlainReading) (row : PlainRow) (left_over rest : List PlainRow) → left_over ≡ row ∷ rest →
      LeadsOn files holder before rows here left_over → RowLeads files holder here row next → LeadsOn files holder before rows next rest
  leads_further here next row left_over rest is on one = record {
    reads = λ last more. on.reads last (subst (λ (rs : List PlainRow). ReadsRows files holder here rs last) (sym is) (one.reads rest last more));
    meets = λ event more. on.meets event (subst (λ (rs : List PlainRow). MeetsRows files holder here rs event) (sym is) (one.meets rest event more));
  }

  pub leads_to_end : (here : PlainReading) (left_over : List PlainRow) → left_over ≡ [] → LeadsOn files holder before rows here left_over → ReadsRows files holder before rows here
  leads_to_end here left_over is on = on.reads here (subst (λ (rs : List PlainRow). ReadsRows files holder here rs here) (sym is) ends)

  pub leads_to_event : (here : PlainReading) (row : PlainRow) (left_over rest : List PlainRow) (event : Event) → left_over ≡ row ∷ rest →
      LeadsOn files holder before rows here left_over → MeetsRow files holder here row event → MeetsRows files holder before rows event
  leads_to_event here row left_over rest event is on met = on.meets event (subst (λ (rs : List PlainRow). MeetsRows files holder here rs event) (sym is) (met rest))
