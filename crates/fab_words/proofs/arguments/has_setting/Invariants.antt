use Rattle.std.proofs.Common.{◌≡◌, map, drop}
use Rattle.fab_words.specs.Arguments.{has_setting}
use Rattle.fab_words.specs.inner.Plain.{plain_setting}
use Rattle.fab_words.proofs.arguments.has_setting.Given as goal

abbrev pub invariant-loop-setting : goal.invariant-loop-setting
invariant-loop-setting l = has_setting l.name (map plain_setting (drop l.setting-index l.settings)) ≡ has_setting l.name (map plain_setting l.settings)
