-- The limits of sources and images: "source 65,536 bytes; body 1,048,576; comments 8,192; records 64 deep, the tree being 1".
use Rattle.std.specs.Prelude.{ℕ}

abbrev pub MAX_SOURCE : ℕ
MAX_SOURCE = 65536

abbrev pub MAX_BODY : ℕ
MAX_BODY = 1048576

abbrev pub MAX_COMMENTS : ℕ
MAX_COMMENTS = 8192

abbrev pub MAX_RECORDS_DEEP : ℕ
MAX_RECORDS_DEEP = 64
