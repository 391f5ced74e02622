use Rattle.std.proofs.Common.{List, ℕ, Bool, ◌||◌, get_or, take, ap, sym, ◌∙◌}
use Rattle.std.specs.List.{list_any}
use Rattle.std.specs.Str.{bytes_eq}
use Rattle.fab_names.specs.Names.{all_names}
use Rattle.fab_lines.specs.Items.{is_among}
use Rattle.fab_names.proofs.Twice.{pin_comes_twice, pin_passes, no_more_pins}
use Rattle.fab_names.proofs.names.Names.meets_pins.Goals as goal

pub returns-then-either : goal.returns-then-either
returns-then-either c =
    let all = all_names c.args.self.now in
    let pins = c.args.pins.now in
    let i = c.loop-place.place in
    let name = get_or pins i c.index-pins-place.result in
    let called = c.bytes-name.ensures ∙ c.index-pins-place.is in
    let tested = c.either.ensures
    ∙ ap (λ (b : Bool). b || c.is_pin-twice.result) (c.has-before.ensures ∙ ap (is_among all) called)
    ∙ ap (λ (b : Bool). is_among all name || b) (c.is_pin-twice.ensures ∙ ap (λ (l : List (List ℕ)). list_any (bytes_eq c.bytes-name.result.now) l) c.split_at.ensures.front ∙ ap (is_among (take i pins)) called) in
    sym (pin_comes_twice all pins i c.index-pins-place.result c.loop-place-test.true (sym tested ∙ c.if-either.true)) ∙ c.loop-place.invariant

pub loop-place-preserved : goal.loop-place-preserved
loop-place-preserved c =
    let all = all_names c.args.self.now in
    let pins = c.args.pins.now in
    let i = c.loop-place.place in
    let name = get_or pins i c.index-pins-place.result in
    let called = c.bytes-name.ensures ∙ c.index-pins-place.is in
    let tested = c.either.ensures
    ∙ ap (λ (b : Bool). b || c.is_pin-twice.result) (c.has-before.ensures ∙ ap (is_among all) called)
    ∙ ap (λ (b : Bool). is_among all name || b) (c.is_pin-twice.ensures ∙ ap (λ (l : List (List ℕ)). list_any (bytes_eq c.bytes-name.result.now) l) c.split_at.ensures.front ∙ ap (is_among (take i pins)) called) in
    pin_passes all pins i c.index-pins-place.result c.loop-place-test.true (sym tested ∙ c.if-either.false) ∙ c.loop-place.invariant

pub returns : goal.returns
returns c = sym (no_more_pins (all_names c.args.self.now) c.args.pins.now c.loop-place.place c.loop-place-test.false) ∙ c.loop-place.invariant
