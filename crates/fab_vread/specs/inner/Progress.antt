-- How far a text has been read, as plain data.
use Rattle.fab_vread.specs.declared.progress.Progress.{Progress}
use Rattle.fab_vread.specs.inner.Machine.{Progress as PlainProgress, plain_parser}

abbrev pub plain_progress : Progress → PlainProgress
plain_progress progress = record {
  machine = plain_parser progress.parser;
  token_line = progress.token_line;
  scan = progress.scan;
  last = progress.last;
  line = progress.line;
}
