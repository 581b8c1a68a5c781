-- The example's text, worked out from the book.
use mathlib.Core.Path.{refl, ◌∙◌}
use Rattle.lines.specs.Texts.{decimal}
use Rattle.claims.specs.Example.{example_bytes, Example}
use Rattle.claims.proofs.ReportOfBook.{report_of_book}

pub example : Example
unfolding decimal
example = report_of_book example_bytes ∙ refl
