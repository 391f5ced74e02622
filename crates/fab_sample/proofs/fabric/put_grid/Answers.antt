use Rattle.std.proofs.Common.{◌≡◌, ◌∷◌, ◌++◌, [], List, codes, replicate, rules, arith, ◌∙◌, ap}
use Rattle.std.proofs.lemmas.Result.{on_ok_weaker}
use Rattle.fab_sample.specs.Lines.{Line, text}
use Rattle.fab_sample.specs.Grid.{grid_row}
use Rattle.fab_sample.proofs.Steps.{put_more}
use Rattle.fab_sample.proofs.fabric.put_grid.Goals as goal

pub returns : goal.returns
returns c =
    let start = c.args.out.now.items in
    let size = c.args.size in
    let a = c.put_line.new.out.items in
    let b = c.put_rows.new.out.items in
    let d = c.put_line-2.new.out.items in
    let first : List Line = codes "FabricBegin" ∷ [] in
    let rows : List Line = replicate size (grid_row size) in
    let row_is : c.bytes.result.now ≡ grid_row size = first_of (cc, first_of (search rules, grind arith)) in
    let put_rows : b ≡ a ++ text rows = c.in_ok-put_rows.ensures ∙ ap (λ (row : Line). a ++ text (replicate size row)) row_is in
    let two = put_more start a b first rows c.in_ok-put_line.ensures put_rows in
    on_ok_weaker c.put_line-2.result
    (λ (put : d ≡ b ++ text (codes "FabricEnd" ∷ [])). put_more start b d (first ++ rows) (codes "FabricEnd" ∷ []) two put) c.put_line-2.ensures
