use Rattle.std.proofs.Common.{◌≡◌, ◌∷◌, ◌++◌, [], List, Bool, Vec, Global, codes, map, sym, ap, ◌∙◌, append-nil}
use Rattle.std.proofs.lemmas.Result.{on_ok_weaker}
use Rattle.fab_sample.specs.declared.design.Cover.{Cover}
use Rattle.fab_sample.specs.declared.design.Latch.{Latch}
use Rattle.fab_sample.specs.Lines.{text}
use Rattle.fab_sample.specs.Netlists.{netlist_lines, stimulus_text_lines}
use Rattle.fab_sample.specs.Files.{file_of}
use Rattle.fab_sample.proofs.Pushed.{pushed_file}
use Rattle.fab_sample.proofs.sample.push_design.Goals as goal

pub returns : goal.returns
returns c =
    let start = c.args.files.now.items in
    let size = c.args.size in
    let drawn = c.args.drawn.now in
    let netlist = netlist_lines size drawn.covers.items drawn.latches.items in
    let stimulus = stimulus_text_lines size (map (λ line. line.items) drawn.stimulus.items) in
    let netlist_is : c.in_ok-print_netlist.field-0 ≡ text netlist =
    c.in_ok-print_netlist.ensures
    ∙ ap (λ (covers : List Cover). text (netlist_lines size covers c.deref-2.result.now)) c.deref.ensures.value
    ∙ ap (λ (latches : List Latch). text (netlist_lines size drawn.covers.items latches)) c.deref-2.ensures.value in
    let stimulus_is : c.in_ok-print_stimulus.field-0 ≡ text stimulus =
    c.in_ok-print_stimulus.ensures ∙ ap (λ (lines : List (Vec Bool Global)). text (stimulus_text_lines size (map (λ line. line.items) lines)))
    c.deref-3.ensures.value in
    let a = file_of (codes "sample.blif") netlist in
    let one : c.push_file.new.files.items ≡ start ++ a ∷ [] =
    pushed_file start [] start c.push_file.new.files.items (codes "sample.blif") c.in_ok-print_netlist.field-0 (text netlist) (sym (append-nil start))
    c.in_ok-push_file.ensures netlist_is in
    on_ok_weaker c.push_file-2.result
    (λ (put : c.push_file-2.new.files.items ≡ c.push_file.new.files.items ++ record { name = codes "sample.stim"; text = c.in_ok-print_stimulus.field-0 } ∷ []).
    pushed_file start (a ∷ []) c.push_file.new.files.items c.push_file-2.new.files.items (codes "sample.stim") c.in_ok-print_stimulus.field-0
    (text stimulus) one put stimulus_is) c.push_file-2.ensures
