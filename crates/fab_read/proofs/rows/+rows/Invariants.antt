use Rattle.std.proofs.Common.{◌≡◌, ◌≤◌, ◌+◌, ◌*◌, All, length}
use Rattle.std.specs.Option.{ForSome}
use Rattle.fab_model.specs.Tables.{HasTable}
use Rattle.fab_rows.specs.Rows.{rows_of, rows_at}
use Rattle.fab_read.specs.inner.Following.{LeadsOn}
use Rattle.fab_read.proofs.RowByRow.{depth}
use Rattle.fab_read.proofs.rows.+rows.Given as goal

-- an included file has one less to open, a file of tiles names no further ones, and each file is its rows
abbrev pub decreases-take_file : goal.decreases-take_file
decreases-take_file g l = 3 * depth l.holder.now + 2

abbrev pub decreases-take_rows : goal.decreases-take_rows
decreases-take_rows g l = 3 * depth l.holder.now + 1

abbrev pub decreases-take_row : goal.decreases-take_row
decreases-take_row g l = 3 * depth l.holder.now

-- what all rows come to, the rest of them comes to from here
abbrev pub invariant-take_rows-loop-row : goal.invariant-take_rows-loop-row
invariant-take_rows-loop-row g l = record {
  told : g.D.Desk.told l.desk ≡ g.D.Desk.told l.fn.desk;
  writes : g.D.Desk.writes l.desk ≡ g.D.Desk.writes l.fn.desk;
  reads : g.D.Desk.reads l.fn.desk ≤ g.D.Desk.reads l.desk;
  tables : All HasTable l.fn.reading.types → All HasTable l.reading.types;
  on : ForSome (g.D.Desk.told l.fn.desk) (λ files. LeadsOn files l.holder l.fn.reading (rows_of l.bytes) l.reading (rows_at l.line l.rest));
  small : length l.rest ≤ length l.bytes;
  room : l.line + length l.rest ≤ length l.bytes + 1;
}

abbrev pub decreases-take_rows-loop-row : goal.decreases-take_rows-loop-row
decreases-take_rows-loop-row g l = length l.rest
