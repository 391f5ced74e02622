use Rattle.fab_vread.proofs.Contract.{found_of, only_of, printable_of, printed_of, refused_of}
use Rattle.fab_vread.proofs.reader.Reader.finish.Goals as goal

pub returns-clause-found : goal.returns-clause-found
returns-clause-found c = λ file bytes has. found_of file bytes c.close-found.result (c.close-found.ensures.given file bytes has)

pub returns-clause-only : goal.returns-clause-only
returns-clause-only c = λ file bytes has. only_of file bytes c.close-found.result (c.close-found.ensures.given file bytes has)

pub returns-clause-printable : goal.returns-clause-printable
returns-clause-printable c = λ file bytes has. printable_of file bytes c.close-found.result (c.close-found.ensures.given file bytes has)

pub returns-clause-printed : goal.returns-clause-printed
returns-clause-printed c = λ file bytes has. printed_of file bytes c.close-found.result (c.close-found.ensures.given file bytes has)

pub returns-clause-refused : goal.returns-clause-refused
returns-clause-refused c = λ file bytes has. refused_of file bytes c.close-found.result (c.close-found.ensures.given file bytes has)
