-- Each format of lines refuses a text once.
use Rattle.std.proofs.Common.{List, Option}
use Rattle.fab_base.specs.declared.problem.Problem.{Problem}
use Rattle.fab_lines.specs.Order.{Format}
use Rattle.fab_lines.proofs.Judging.{fine_not_refused, refused_once, fault_once}
use Rattle.fab_lines.proofs.Wholes.{whole_not_refused, refusal_once, text_fault_once}
use Rattle.fab_refusals_laws.specs.Once.{RefusesLinesOnce, RefusesTextsOnce}

pub lines_once : {L : Type 0} (judge : List L → L → Option Problem) → RefusesLinesOnce judge
lines_once judge = record {
  one_refusal = λ text number other problem why x y. refused_once x y;
  one_fault = λ file text a b x y. fault_once x y;
  apart = λ file text fault x fine. fine_not_refused fine x.first;
}

pub texts_once : {L : Type 0} (format : Format L) → RefusesTextsOnce format
texts_once format = record {
  one_refusal = λ text last number other problem why x y. refusal_once x y;
  one_fault = λ file text last a b x y. text_fault_once x y;
  apart = λ file text last fault x whole. whole_not_refused whole x.refusal;
}
