-- `recording::write::write_message` meets its contract: what writing the record into 31 bytes answers says whether there is one.
-- Assumes nothing.
use Rattle.std.proofs.Common.{ℕ, sym, ap, ◌∙◌}
use Rattle.lines.specs.Lines.{refused}
use Rattle.recording.specs.RecordedLaws.{record_coded, record_refused, refuses, records}
use Rattle.recording.proofs.write.write_message.Goals as goal

pub returns-then-refusal-ne0 : goal.returns-then-refusal-ne0
returns-then-refusal-ne0 c =
    let asked = c.args in
    let other = c.if-refusal-ne0.true in
    let said = record_refused asked.kind asked.text.now asked.number c.write_record-answer.result c.write_record-answer.ensures (λ e. other (c.written_number-refusal.ensures ∙ e)) in
    let whole = refuses asked.line (said ∙ ap (λ (n : ℕ). refused n 0) (sym c.written_number-refusal.ensures)) c.refuse.ensures.put_value c.refuse.ensures.put in
    record { put = whole.0; put_2 = whole.1 }

pub returns : goal.returns
returns c =
    let asked = c.args in
    let zero = c.if-refusal-ne0.false in
    let said = record_coded asked.kind asked.text.now asked.number c.write_record-answer.result c.write_record-answer.ensures (sym c.written_number-refusal.ensures ∙ zero) in
    let whole = records asked.line said c.put-put.ensures in
    record { put = whole.0; put_2 = whole.1 }
