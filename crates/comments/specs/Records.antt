-- What an iterator over records has still to give.
use Rattle.std.specs.Prelude.{ℕ, List}
use Rattle.comments.specs.AllIn.{offsets_from}
use Rattle.comments.specs.declared.records.Records.{Records}

abbrev pub offsets : Records → List ℕ
offsets r = offsets_from r.parsed.now.image.now r.at r.to
