use Rattle.std.proofs.Common.{◌≡◌, ◌∷◌, ◌++◌, [], codes, sym, append-nil}
use Rattle.std.proofs.lemmas.Result.{on_ok_weaker}
use Rattle.fab_sample.specs.declared.side.Side.TheVariants.{East, West}
use Rattle.fab_sample.specs.declared.file.File.{File}
use Rattle.fab_sample.specs.Lines.{text}
use Rattle.fab_sample.specs.Grid.{fabric_lines}
use Rattle.fab_sample.specs.Lists.{edge_lines, logic_lines}
use Rattle.fab_sample.specs.Files.{file_of}
use Rattle.fab_sample.proofs.Pushed.{pushed_file}
use Rattle.fab_sample.proofs.sample.push_fabric.Goals as goal

pub returns : goal.returns
returns c =
    let start = c.args.files.now.items in
    let table = fabric_lines c.args.size in
    let a : File = file_of (codes "sample.csv") table in
    let b : File = file_of (codes "SW.list") (edge_lines East West) in
    let d : File = file_of (codes "SLOG.list") logic_lines in
    let one : c.push_file.new.files.items ≡ start ++ a ∷ [] =
    pushed_file start [] start c.push_file.new.files.items (codes "sample.csv") c.in_ok-print_fabric.field-0 (text table) (sym (append-nil start))
    c.in_ok-push_file.ensures c.in_ok-print_fabric.ensures in
    let two : c.push_file-2.new.files.items ≡ start ++ a ∷ b ∷ [] =
    pushed_file start (a ∷ []) c.push_file.new.files.items c.push_file-2.new.files.items (codes "SW.list") c.in_ok-print_edge.field-0
    (text (edge_lines East West)) one c.in_ok-push_file-2.ensures c.in_ok-print_edge.ensures in
    let three : c.push_file-3.new.files.items ≡ start ++ a ∷ b ∷ d ∷ [] =
    pushed_file start (a ∷ b ∷ []) c.push_file-2.new.files.items c.push_file-3.new.files.items (codes "SLOG.list") c.in_ok-print_logic.field-0
    (text logic_lines) two c.in_ok-push_file-3.ensures c.in_ok-print_logic.ensures in
    on_ok_weaker c.push_file-4.result
    (λ (put : c.push_file-4.new.files.items ≡ c.push_file-3.new.files.items ++ record { name = codes "SE.list"; text = c.in_ok-print_edge-2.field-0 } ∷ []).
    pushed_file start (a ∷ b ∷ d ∷ []) c.push_file-3.new.files.items c.push_file-4.new.files.items (codes "SE.list") c.in_ok-print_edge-2.field-0
    (text (edge_lines West East)) three put c.in_ok-print_edge-2.ensures) c.push_file-4.ensures
