use Rattle.std.proofs.Common.{◌∙◌, length, ap, append_assoc}
use Rattle.fab_flow.proofs.Parts.{printed, whole_printed, outer_length}
use Rattle.fab_flow.proofs.printing.printed_text.Goals as goal

pub returns-clause-bytes : goal.returns-clause-bytes
returns-clause-bytes c =
    let of = whole_printed c.args.from c.args.to c.args.text.modules.items c.split_off.new.self.items c.split_off-2.new.self.items c.in_ok-loaders.loaders.items
    c.in_ok-behind.behind.items
    c.in_ok-behind.ensures.items c.in_ok-behind.ensures.tail c.in_ok-loaders.ensures.items c.in_ok-loaders.ensures.tail in
    let more = c.in_ok-extend_from_slice.ensures.items in
    let joined = append_assoc (printed c.split_off-2.new.self.items) (printed c.in_ok-loaders.loaders.items) (printed c.in_ok-behind.behind.items) ∙ of in
    c.in_ok-extend_from_slice-2.ensures.items
    ∙ rw (more, c.deref.ensures.value, c.deref-2.ensures.value, c.in_ok-bytes.ensures, c.in_ok-loaders-2.ensures, c.in_ok-behind-2.ensures) joined

pub returns-clause-unloaded : goal.returns-clause-unloaded
returns-clause-unloaded c =
    let outer = outer_length c.args.from c.args.to c.args.text.modules.items c.split_off.new.self.items c.split_off-2.new.self.items c.in_ok-behind.behind.items
    c.requires.order c.in_ok-behind.ensures.items c.in_ok-behind.ensures.tail c.in_ok-loaders.ensures.items in
    let front = c.len.ensures ∙ c.in_ok-bytes.bytes.ok.0 ∙ ap length c.in_ok-bytes.ensures in
    let behind = c.len-2.ensures ∙ c.in_ok-behind-2.behind.ok.0 ∙ ap length c.in_ok-behind-2.ensures in
    rw (front, behind) outer
