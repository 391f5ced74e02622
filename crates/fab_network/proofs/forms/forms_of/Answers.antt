use Rattle.std.proofs.Common.{◌≡◌, ◌++◌, [], ◌∷◌, Bool, ap, ◌∙◌, if◌then◌else◌}
use Rattle.fab_network.specs.declared.forms.Form.{Form}
use Rattle.fab_network.proofs.Forming.{forms_more}
use Rattle.fab_network.proofs.forms.forms_of.Goals as goal

pub loop-point-preserved : goal.loop-point-preserved
loop-point-preserved c =
    let old = c.loop-point.forms.items in
    let form : Form = c.form_of-form.result in
    let grown : c.add.new.forms.items ≡ old ++ form ∷ [] = c.add.ensures ∙ ap (λ (b : Bool). if b then old ++ form ∷ [] else old) c.if-not-add.false in
    record {
      same = λ q. c.form_of-form.ensures.same q ∙ c.loop-point.invariant.same q;
      so_far = forms_more c.args.network.now.trees.items c.args.network.now.drives.items c.args.leads.now c.args.marks.now c.args.terns.now c.loop-point.terns
          c.args.order.now c.loop-point.point-index old c.add.new.forms.items form c.loop-point.invariant.same grown c.form_of-form.ensures.form
          c.loop-point.invariant.so_far;
    }
