-- What layout is given by a `Parsed`.
use Rattle.acts.specs.Act.{Given}
use Rattle.comments.specs.Listed.{given}
use Rattle.comments.specs.declared.parsed.Parsed.{Parsed}

abbrev pub given_by : Parsed → Given
given_by p = given p.source.now p.image.now
