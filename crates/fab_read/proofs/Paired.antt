-- The tile of a block, step by step.
use Rattle.std.proofs.Common.{◌≡◌, ℕ, List, Option, Some, None, Ok, Err, refl, sym, ap, ◌∙◌, subst, inl, inr}
use Rattle.fab_base.specs.Reading.{IsFaultOr, Refuses, fault_at}
use Rattle.fab_base.specs.declared.fault.Fault.{Fault}
use Rattle.fab_base.specs.declared.problem.Problem.{Problem}
use Rattle.fab_base.specs.declared.problem.Problem.TheVariants as problems
use Rattle.fab_desk.specs.Files.{Map}
use Rattle.fab_select.specs.declared.pair.Pair.{Pair as NumberPair}
use Rattle.fab_model.specs.Tiles.{PlainTile, with_pairs, with_table}
use Rattle.fab_files.specs.Files.{Event, asks, refuses, HasReadCause, MeetsIfThere}
use Rattle.fab_blocks.specs.Blocks.{PlainBlock, bare}
use Rattle.fab_read.specs.inner.Following.{unless, judged_tile, judged_pairs, ReadsPaired}
use Rattle.fab_read.specs.Tiles.{End, ReadsMatrix, MeetsMatrix, table_file, ReadsTable, MeetsTable, asks_table, long_table, block_problem, pairs_problem, at_end, ReadsPairs, ReadsTile, MeetsTile, bad_block, in_matrix, bad_pairs, in_places}
use Rattle.fab_files.proofs.Causes.{placed_cause}

-- a table is asked for, or is too long
pub asks_or_long : (files : Map) (tile : PlainTile) (file : List ℕ) (event : Event) → MeetsIfThere files file event → MeetsTable files tile (Some file) event
asks_or_long files tile file (asks other) same = subst (λ (name : List ℕ). MeetsTable files tile (Some file) (asks name)) (sym same) asks_table
asks_or_long files tile file (refuses fault) long = long_table long

-- ---- values unless there is a problem

unless_ok : {X : Type 0} (why : Option Problem) (value made : X) → unless why value ≡ Ok made → (why ≡ None) × (value ≡ made)
unless_ok None value made is = (refl, cc)
unless_ok (Some problem) value made is = absurd cc

unless_err : {X : Type 0} (why : Option Problem) (value : X) (problem : Problem) → unless why value ≡ Err problem → why ≡ Some problem
unless_err None value problem is = absurd cc
unless_err (Some other) value problem is = cc

-- ---- the tile

module _ (files : Map) (end : End) (block : PlainBlock) where
  pub refused_block : (problem : Problem) → judged_tile block ≡ Err problem → MeetsTile files end block (at_end end problem)
  refused_block problem is = bad_block (unless_err (block_problem block) (bare block, block.matrix) problem is)

  module _ (made : PlainTile × Option (List ℕ)) (judged : judged_tile block ≡ Ok made) (left : ℕ) (left_is : left ≡ end.left) (file : Option (List ℕ)) (file_is : file ≡ made.1) where
    fine : block_problem block ≡ None
    fine = (unless_ok (block_problem block) (bare block, block.matrix) made judged).0

    tile_is : made.0 ≡ bare block
    tile_is = sym (ap (λ (m : PlainTile × Option (List ℕ)). m.0) (unless_ok (block_problem block) (bare block, block.matrix) made judged).1)

    matrix_is : file ≡ block.matrix
    matrix_is = file_is ∙ sym (ap (λ (m : PlainTile × Option (List ℕ)). m.1) (unless_ok (block_problem block) (bare block, block.matrix) made judged).1)

    pub meets_matrix : (event : Event) → MeetsMatrix files left made.0 file event → MeetsTile files end block event
    meets_matrix event met = in_matrix fine (subst (λ (f : Option (List ℕ)). MeetsMatrix files end.left (bare block) f event) matrix_is
        (subst (λ (t : PlainTile). MeetsMatrix files end.left t file event) tile_is (subst (λ (n : ℕ). MeetsMatrix files n made.0 file event) left_is met)))

    module _ (pairs : List NumberPair) (matrix : ReadsMatrix files left made.0 file pairs) where
      read : ReadsPairs files end block pairs
      read = record {
        few_names = fine;
        matrix = subst (λ (f : Option (List ℕ)). ReadsMatrix files end.left (bare block) f pairs) matrix_is
            (subst (λ (t : PlainTile). ReadsMatrix files end.left t file pairs) tile_is (subst (λ (n : ℕ). ReadsMatrix files n made.0 file pairs) left_is matrix));
      }

      pub refused_pairs : (problem : Problem) → judged_pairs made.0 pairs ≡ Err problem → MeetsTile files end block (at_end end problem)
      refused_pairs problem is =
          bad_pairs read (subst (λ (t : PlainTile). pairs_problem t pairs ≡ Some problem) tile_is (unless_err (pairs_problem made.0 pairs) (with_pairs made.0 pairs) problem is))

      pub reads_paired : (tile : PlainTile) → judged_pairs made.0 pairs ≡ Ok tile → ReadsPaired files end block tile
      reads_paired tile is =
          let set = unless_ok (pairs_problem made.0 pairs) (with_pairs made.0 pairs) tile is in
          record {
            pairs = pairs;
            read = read;
            fitting = subst (λ (t : PlainTile). pairs_problem t pairs ≡ None) tile_is set.0;
            is = sym set.1 ∙ ap (λ (t : PlainTile). with_pairs t pairs) tile_is;
          }

  module _ (bare_of_table : PlainTile) (read : ReadsPaired files end block bare_of_table) (file : Option (List ℕ)) (file_is : file ≡ table_file end.file block.name) where
    pub reads_tile : (table : List (ℕ × ℕ)) (tile : PlainTile) → ReadsTable files bare_of_table file table → tile ≡ with_table bare_of_table table → ReadsTile files end block tile
    reads_tile table tile placed is = record {
      pairs = read.pairs;
      table = table;
      read = read.read;
      fitting = read.fitting;
      placed = subst (λ (t : PlainTile). ReadsTable files t (table_file end.file block.name) table) read.is (subst (λ (f : Option (List ℕ)). ReadsTable files bare_of_table f table) file_is placed);
      is = is ∙ ap (λ (t : PlainTile). with_table t table) read.is;
    }

    pub meets_places : (event : Event) → MeetsTable files bare_of_table file event → MeetsTile files end block event
    meets_places event met =
        in_places read.read read.fitting
        (subst (λ (t : PlainTile). MeetsTable files t (table_file end.file block.name) event) read.is (subst (λ (f : Option (List ℕ)). MeetsTable files bare_of_table f event) file_is met))

-- why a block is refused for its pairs: `read` gives them in all files that the desk tells
module _ (told : Option Map) (rose : Type 0) (end : End) (block : PlainBlock) (made : PlainTile × Option (List ℕ)) (judged : judged_tile block ≡ Ok made) (left : ℕ) (left_is : left ≡ end.left)
    (file : Option (List ℕ)) (file_is : file ≡ made.1) (pairs : List NumberPair) (read : (files : Map) → told ≡ Some files → ReadsMatrix files left made.0 file pairs) where
  refused_at : (problem : Problem) (fault : Fault) → judged_pairs made.0 pairs ≡ Err problem → IsFaultOr fault (fault_at end.file end.line problem) → HasReadCause told rose (λ files. MeetsTile files end block) fault
  refused_at problem fault is place =
      placed_cause told rose (λ files. MeetsTile files end block) end.file end.line problem fault
      (λ files there. refused_pairs files end block made judged left left_is file file_is pairs (read files there) problem is) place

  pub pairs_cause : (problem : Problem) (fault : Fault) → Refuses problem (judged_pairs made.0 pairs) → IsFaultOr fault (fault_at end.file end.line problem) → HasReadCause told rose (λ files. MeetsTile files end block) fault
  pairs_cause problems.Memory fault refused (inl memory) = subst (HasReadCause told rose (λ files. MeetsTile files end block)) (sym memory) tt
  pairs_cause problems.Memory fault refused (inr memory) = subst (HasReadCause told rose (λ files. MeetsTile files end block)) (sym memory) tt
  pairs_cause (problems.Malformed reason) fault refused place = refused_at (problems.Malformed reason) fault refused place
  pairs_cause (problems.Unsupported construct) fault refused place = refused_at (problems.Unsupported construct) fault refused place
  pairs_cause (problems.Limit quantity value bound) fault refused place = refused_at (problems.Limit quantity value bound) fault refused place
