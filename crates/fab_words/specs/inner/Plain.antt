-- What the code has, as plain data.
use Rattle.std.specs.Prelude.{map}
use Rattle.fab_words.specs.Arguments.{PlainSetting, PlainArguments}
use Rattle.fab_words.specs.Forms.{PlainSynopsis, line}
use Rattle.fab_words.specs.declared.arguments.Setting.{Setting}
use Rattle.fab_words.specs.declared.arguments.Arguments.{Arguments}
use Rattle.fab_words.specs.declared.forms.Synopsis.{Synopsis}

abbrev pub plain_setting : Setting → PlainSetting
plain_setting setting = record { name = setting.name.now; value = setting.value.now }

abbrev pub plain_arguments : Arguments → PlainArguments
plain_arguments arguments = record { positionals = map (λ word. word.now) arguments.positionals.items; settings = map plain_setting arguments.settings.items }

abbrev pub plain_synopsis : Synopsis → PlainSynopsis
plain_synopsis synopsis = line synopsis.command.now (map (λ name. name.now) synopsis.positionals.now) (map (λ name. name.now) synopsis.options.now)
