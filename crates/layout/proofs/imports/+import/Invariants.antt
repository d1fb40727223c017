use Prim.Native.Nat.{◌+◌, ◌*◌}
use Rattle.image.specs.Bytes.{be32}
use Rattle.layout.proofs.imports.+import.Given as goal

abbrev pub decreases-import_group : goal.decreases-import_group
decreases-import_group l = 16 * be32 l.parsed.now.image.now l.at + 7

abbrev pub decreases-import_path : goal.decreases-import_path
decreases-import_path l = 16 * be32 l.parsed.now.image.now l.at + 8

abbrev pub decreases-import_group-item : goal.decreases-import_group-item
decreases-import_group-item l = 16 * be32 l.parsed.now.image.now l.p + 12
