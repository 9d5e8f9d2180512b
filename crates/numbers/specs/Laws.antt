-- What is written reads back, and only what writing gives is read.
use Rattle.numbers.specs.Numbers.{NumberFits, number_bytes, number_at}
use Rattle.numbers.specs.Reading.{ReadsBack, ReadsOnly}

abbrev pub NumbersReadBack : Type 0
NumbersReadBack = ReadsBack number_at number_bytes NumberFits

abbrev pub NumbersReadOnly : Type 0
NumbersReadOnly = ReadsOnly number_at number_bytes NumberFits
