-- What it does to the bytes that a reader has left and a writer holds, each where they are known, to answer the text of a script.
use Rattle.std.specs.Prelude.{ℕ, ◌+◌, Option, Result, Ok, Err, List}
use Rattle.std.specs.Io.KnownBytes.{Keeps}
use Rattle.fx_model.specs.Report.{ReportView}
use Rattle.fx_text.specs.Limits.{most_bytes}
use Rattle.fx_text.specs.Meaning.{Meaning}
use Rattle.fx_report.specs.declared.answer_fault.AnswerFault.{AnswerFault}
use Rattle.fx_report.specs.declared.answer_fault.AnswerFault.TheVariants.{Read, Write, Memory}
use Rattle.fx_report.specs.Input.{ReadsText, FailsToRead}
use Rattle.fx_report.specs.Answer.{IsAnswer}
use Rattle.fx_report.specs.Written.{WritesAnswer, WritesPart}

-- one byte more than a script may have is all that is read of a text
abbrev pub most_read : ℕ
most_read = 1 + most_bytes

-- A text is answered where scripts have such reports, which takes the reader from `left` to `rest`, and the writer from `old` to `new`.
-- Where it is not known what was left, the answer is still that to some text
abbrev pub AnswersText : (Meaning → ReportView → Type 0) → Option (List ℕ) → Option (List ℕ) → Result ℕ AnswerFault → Option (List ℕ) → Option (List ℕ) → Type 0
AnswersText IsReport left rest (Ok status) old new =
    (text : List ℕ) × ReadsText most_read left rest text × WritesAnswer (IsAnswer IsReport text) status old new
AnswersText IsReport left rest (Err Write) old new = (text : List ℕ) × ReadsText most_read left rest text × WritesPart (IsAnswer IsReport text) old new
AnswersText IsReport left rest (Err Read) old new = FailsToRead most_read Read left rest × Keeps old new
AnswersText IsReport left rest (Err Memory) old new = FailsToRead most_read Memory left rest × Keeps old new
