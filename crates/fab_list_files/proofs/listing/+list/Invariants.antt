use Rattle.std.proofs.Common.{◌≡◌, ◌≤◌, ◌+◌, ◌*◌, length}
use Rattle.std.specs.Option.{ForSome}
use Rattle.fab_rows.specs.Rows.{rows_of, rows_at}
use Rattle.fab_list_files.specs.inner.Following.{LeadsOn}
use Rattle.fab_list_files.proofs.listing.+list.Given as goal

-- a row opens a file with one less to open, and each file is its rows
abbrev pub decreases-read_list_file : goal.decreases-read_list_file
decreases-read_list_file g l = 3 * l.left + 2

abbrev pub decreases-take_rows : goal.decreases-take_rows
decreases-take_rows g l = 3 * l.left + 1

abbrev pub decreases-take_row : goal.decreases-take_row
decreases-take_row g l = 3 * l.left

-- what all rows come to, the rest of them comes to from here
abbrev pub invariant-take_rows-loop-row : goal.invariant-take_rows-loop-row
invariant-take_rows-loop-row g l = record {
  told : g.D.Desk.told l.desk ≡ g.D.Desk.told l.fn.desk;
  writes : g.D.Desk.writes l.desk ≡ g.D.Desk.writes l.fn.desk;
  reads : g.D.Desk.reads l.fn.desk ≤ g.D.Desk.reads l.desk;
  known : g.S.ListState.known l.state ≡ g.S.ListState.known l.fn.state;
  on : ForSome (g.D.Desk.told l.fn.desk)
      (λ files. LeadsOn files (g.S.ListState.known l.fn.state) l.left l.file (g.S.ListState.pairs l.fn.state) (rows_of l.bytes) (g.S.ListState.pairs l.state) (rows_at l.line l.rest));
  small : length l.rest ≤ length l.bytes;
  room : l.line + length l.rest ≤ length l.bytes + 1;
}

abbrev pub decreases-take_rows-loop-row : goal.decreases-take_rows-loop-row
decreases-take_rows-loop-row g l = length l.rest
