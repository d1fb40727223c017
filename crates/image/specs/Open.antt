-- What a reader reads where it stands: the record's head, the record, a child, children.
use Rattle.std.specs.Prelude.{List, cond, not, ℕ, suc, ◌+◌, eqb, length}
use Rattle.refusals.specs.Answers.{Answer, refused, accepted}
use Rattle.text.specs.Newlines.{is_range}
use Rattle.image.specs.Bytes.{be32}
use Rattle.image.specs.Grammar.{row_under_of}
use Rattle.image.specs.Places.{row_number}
use Rattle.image.specs.Read.{Read, got, bad, Head, width_bytes, stop_at, opens, record_at, child_at, children_at, step_of}
use Rattle.image.specs.declared.records.Opened.{Opened}
use Rattle.image.specs.declared.reader.Reader.{Reader}

-- of the head: where the record's children start and where they stop, and the row of their places
pub record HeadRead : Type 0 where
  pub first : ℕ
  pub stop : ℕ
  pub row : ℕ

abbrev pub head_read : Opened → HeadRead
head_read o = record { first = o.first; stop = o.stop; row = row_number o.row.now }

-- what was read of a record at place p
abbrev pub head_of : ℕ → Read Head → Answer HeadRead
head_of p (got h first) = accepted (record { first = first; stop = h.stop; row = row_under_of p h.kind })
head_of p (bad n q) = refused (record { number = n; place = q })

-- the head of the record, at place p
abbrev pub head_due : Reader → ℕ → Answer HeadRead
head_due r p = head_of p (opens r.source.now r.image.now (width_bytes r.image.now) r.left p r.at r.end)

-- where the record stops, whose shape is right: 5 and 6 of it
abbrev pub stop_of : List ℕ → List ℕ → ℕ → ℕ → Answer ℕ
stop_of s b left at =
    cond (eqb left 0) (refused (record { number = 5; place = at }))
    (cond (not (is_range s (be32 b (at + 5)) (be32 b (at + 9)))) (refused (record { number = 6; place = at }))
    (accepted (stop_at b at)))

abbrev pub stop_due : Reader → Answer ℕ
stop_due r = stop_of r.source.now r.image.now r.left r.at

-- where the reading goes on behind the record, at place p
abbrev pub record_due : Reader → ℕ → Answer ℕ
record_due r p = step_of (record_at r.source.now r.image.now (width_bytes r.image.now) r.left p r.at r.end)

-- behind the child at place p
abbrev pub child_due : Reader → ℕ → Answer ℕ
child_due r p = step_of (child_at r.source.now r.image.now (width_bytes r.image.now) r.left p r.at r.end)

-- behind the children at the places of a row
abbrev pub children_due : Reader → ℕ → Answer ℕ
children_due r row =
    step_of (children_at (child_at r.source.now r.image.now (width_bytes r.image.now) r.left) (suc (length r.image.now)) row r.at r.end)
