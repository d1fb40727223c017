use Prim.Native.Nat.{◌+◌, ◌*◌}
use Rattle.image.specs.Bytes.{be32}
use Rattle.layout.proofs.types.+type_expr.Given as goal

abbrev pub decreases-field : goal.decreases-field
decreases-field l = 16 * be32 l.parsed.now.image.now l.at + 7

abbrev pub decreases-record_type : goal.decreases-record_type
decreases-record_type l = 16 * be32 l.parsed.now.image.now l.at + 5

abbrev pub decreases-type_expr : goal.decreases-type_expr
decreases-type_expr l = 16 * be32 l.parsed.now.image.now l.at + 8

abbrev pub decreases-type_path : goal.decreases-type_path
decreases-type_path l = 16 * be32 l.parsed.now.image.now l.at + 7

abbrev pub decreases-type_path-argument : goal.decreases-type_path-argument
decreases-type_path-argument l = 16 * be32 l.parsed.now.image.now l.q + 12

abbrev pub decreases-record_type-named : goal.decreases-record_type-named
decreases-record_type-named l = 16 * be32 l.parsed.now.image.now l.p + 12
