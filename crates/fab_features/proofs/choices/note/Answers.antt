use Rattle.std.proofs.Common.{ap, refl}
use Rattle.fab_fabric.specs.declared.wire.Wire.{Wire}
use Rattle.fab_features.proofs.Chosen.{output_within, notes_none, notes_pair, zero_chooses_none}
use Rattle.fab_features.proofs.choices.note.Goals as goal

pub wire_at-wire-requires : goal.wire_at-wire-requires
wire_at-wire-requires c = output_within c.args.fabric.now c.args.feature.now c.args.choice c.requires.said

pub returns-then-feature-eq0 : goal.returns-then-feature-eq0
returns-then-feature-eq0 c =
    notes_none c.args.fabric.now c.args.feature.now c.args.table.now c.args.table.now refl (zero_chooses_none c.args.fabric.now c.args.feature.now c.args.choice c.requires.said c.if-feature-eq0.true)

pub returns : goal.returns
returns c =
    notes_pair c.args.fabric.now c.args.feature.now c.args.choice c.requires.said c.args.table.now c.wire_at-wire.result.0 c.requires.as_many (ap (λ (w : Wire). w.0) c.wire_at-wire.ensures.index)
    (λ e. c.if-feature-eq0.false e) c.requires.allows
