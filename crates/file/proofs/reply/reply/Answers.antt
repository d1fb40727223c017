-- The text stands in the output already; a refusal left it as it was, and the line is put there.
use Rattle.std.proofs.Common.{sym, ap, ◌∙◌, ℕ, length, arith}
use Rattle.lines.specs.Lines.{refused_line}
use Rattle.file.proofs.Replied.{replied_text, replied_line}
use Rattle.file.proofs.reply.reply.Goals as goal

pub returns-in-Ok : goal.returns-in-Ok
returns-in-Ok c = replied_text _ _ (omega arith) _ _ _ c.format_frame.ensures c.in-Ok.is

pub returns-in-Err : goal.returns-in-Err
returns-in-Err c =
    let line = c.copy_from_slice.ensures.after ∙ c.as_bytes.ensures.value ∙ c.as_str.ensures.value in
    let why = c.in-Err.refused in
    let numbered = ap (λ (n : ℕ). refused_line (record { number = n; place = why.place })) c.number.ensures in
    replied_line _ _ (omega arith) _ _ _ c.format_frame.ensures c.in-Err.is _ _ (line ∙ c.refused_line_of-line.ensures ∙ numbered)
    (c.len-end.ensures.value ∙ sym (ap length line))
