-- The specification's values for the code's types: a range.
use Rattle.route.specs.Shown.{hop_number}
use Rattle.ranges.specs.Ranges.{Range, range}
use Rattle.ranges.specs.declared.words.Range.{Range as CodeRange}

abbrev pub range_of : CodeRange → Range
range_of r = range r.start (hop_number r.hop)
