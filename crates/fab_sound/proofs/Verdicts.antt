-- A text that breaks a rule first is not sound, and breaks no other rule first.
use Rattle.std.proofs.Common.{◌≡◌, List, [], ◌∷◌, refl}
use Rattle.fab_base.specs.declared.words.Reason.{Reason}
use Rattle.fab_syntax.specs.Plain.{PlainModule}
use Rattle.fab_syntax.specs.Sound.{text_refusals, IsSound, IsFirstBroken, breaks_names, breaks_selects, breaks_widths, breaks_instances, breaks_drivers, breaks_clocks}

empty_none : {X : Type 0} (xs : List X) (x : X) (others : List X) → xs ≡ [] → xs ≡ x ∷ others → ⊥
empty_none xs x others e f = cc

same_first : {X : Type 0} (xs : List X) (x y : X) (others more : List X) → xs ≡ x ∷ others → xs ≡ y ∷ more → x ≡ y
same_first xs x y others more e f = cc

pub not_sound : (text : List PlainModule) (reason : Reason) → IsFirstBroken text reason → ¬ IsSound text
not_sound text reason (breaks_names others e) = λ sound. empty_none (text_refusals [] text) reason others sound.names e
not_sound text reason (breaks_selects a0 ano) = λ sound. ano sound.selects
not_sound text reason (breaks_widths a0 a1 ano) = λ sound. ano sound.widths
not_sound text reason (breaks_instances a0 a1 a2 ano) = λ sound. ano sound.instances
not_sound text reason (breaks_drivers a0 a1 a2 a3 ano) = λ sound. ano sound.drivers
not_sound text reason (breaks_clocks a0 a1 a2 a3 a4 ano) = λ sound. ano sound.clocks

pub one_reason : (text : List PlainModule) (reason other : Reason) → IsFirstBroken text reason → IsFirstBroken text other → reason ≡ other
one_reason text reason other (breaks_names others e) (breaks_names more f) = same_first (text_refusals [] text) reason other others more e f
one_reason text reason other (breaks_names others e) (breaks_selects b0 bno) = absurd (empty_none (text_refusals [] text) reason others b0 e)
one_reason text reason other (breaks_names others e) (breaks_widths b0 b1 bno) = absurd (empty_none (text_refusals [] text) reason others b0 e)
one_reason text reason other (breaks_names others e) (breaks_instances b0 b1 b2 bno) = absurd (empty_none (text_refusals [] text) reason others b0 e)
one_reason text reason other (breaks_names others e) (breaks_drivers b0 b1 b2 b3 bno) = absurd (empty_none (text_refusals [] text) reason others b0 e)
one_reason text reason other (breaks_names others e) (breaks_clocks b0 b1 b2 b3 b4 bno) = absurd (empty_none (text_refusals [] text) reason others b0 e)
one_reason text reason other (breaks_selects a0 ano) (breaks_names more f) = absurd (empty_none (text_refusals [] text) other more a0 f)
one_reason text reason other (breaks_selects a0 ano) (breaks_selects b0 bno) = refl
one_reason text reason other (breaks_selects a0 ano) (breaks_widths b0 b1 bno) = absurd (ano b1)
one_reason text reason other (breaks_selects a0 ano) (breaks_instances b0 b1 b2 bno) = absurd (ano b1)
one_reason text reason other (breaks_selects a0 ano) (breaks_drivers b0 b1 b2 b3 bno) = absurd (ano b1)
one_reason text reason other (breaks_selects a0 ano) (breaks_clocks b0 b1 b2 b3 b4 bno) = absurd (ano b1)
one_reason text reason other (breaks_widths a0 a1 ano) (breaks_names more f) = absurd (empty_none (text_refusals [] text) other more a0 f)
one_reason text reason other (breaks_widths a0 a1 ano) (breaks_selects b0 bno) = absurd (bno a1)
one_reason text reason other (breaks_widths a0 a1 ano) (breaks_widths b0 b1 bno) = refl
one_reason text reason other (breaks_widths a0 a1 ano) (breaks_instances b0 b1 b2 bno) = absurd (ano b2)
one_reason text reason other (breaks_widths a0 a1 ano) (breaks_drivers b0 b1 b2 b3 bno) = absurd (ano b2)
one_reason text reason other (breaks_widths a0 a1 ano) (breaks_clocks b0 b1 b2 b3 b4 bno) = absurd (ano b2)
one_reason text reason other (breaks_instances a0 a1 a2 ano) (breaks_names more f) = absurd (empty_none (text_refusals [] text) other more a0 f)
one_reason text reason other (breaks_instances a0 a1 a2 ano) (breaks_selects b0 bno) = absurd (bno a1)
one_reason text reason other (breaks_instances a0 a1 a2 ano) (breaks_widths b0 b1 bno) = absurd (bno a2)
one_reason text reason other (breaks_instances a0 a1 a2 ano) (breaks_instances b0 b1 b2 bno) = refl
one_reason text reason other (breaks_instances a0 a1 a2 ano) (breaks_drivers b0 b1 b2 b3 bno) = absurd (ano b3)
one_reason text reason other (breaks_instances a0 a1 a2 ano) (breaks_clocks b0 b1 b2 b3 b4 bno) = absurd (ano b3)
one_reason text reason other (breaks_drivers a0 a1 a2 a3 ano) (breaks_names more f) = absurd (empty_none (text_refusals [] text) other more a0 f)
one_reason text reason other (breaks_drivers a0 a1 a2 a3 ano) (breaks_selects b0 bno) = absurd (bno a1)
one_reason text reason other (breaks_drivers a0 a1 a2 a3 ano) (breaks_widths b0 b1 bno) = absurd (bno a2)
one_reason text reason other (breaks_drivers a0 a1 a2 a3 ano) (breaks_instances b0 b1 b2 bno) = absurd (bno a3)
one_reason text reason other (breaks_drivers a0 a1 a2 a3 ano) (breaks_drivers b0 b1 b2 b3 bno) = refl
one_reason text reason other (breaks_drivers a0 a1 a2 a3 ano) (breaks_clocks b0 b1 b2 b3 b4 bno) = absurd (ano b4)
one_reason text reason other (breaks_clocks a0 a1 a2 a3 a4 ano) (breaks_names more f) = absurd (empty_none (text_refusals [] text) other more a0 f)
one_reason text reason other (breaks_clocks a0 a1 a2 a3 a4 ano) (breaks_selects b0 bno) = absurd (bno a1)
one_reason text reason other (breaks_clocks a0 a1 a2 a3 a4 ano) (breaks_widths b0 b1 bno) = absurd (bno a2)
one_reason text reason other (breaks_clocks a0 a1 a2 a3 a4 ano) (breaks_instances b0 b1 b2 bno) = absurd (bno a3)
one_reason text reason other (breaks_clocks a0 a1 a2 a3 a4 ano) (breaks_drivers b0 b1 b2 b3 bno) = absurd (bno a4)
one_reason text reason other (breaks_clocks a0 a1 a2 a3 a4 ano) (breaks_clocks b0 b1 b2 b3 b4 bno) = refl
