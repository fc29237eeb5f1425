-- What makes an answer to a text, where scripts have such reports.
use Rattle.std.proofs.Common.{◌≡◌, ◌⊎◌, ℕ, ◌<◌, Option, Some, None, Result, Ok, Err, List, length, take, inl, inr}
use Rattle.std.proofs.Common.{refl, sym, ◌∙◌, subst, true, arith}
use Rattle.std.specs.Prelude.{nat_lt}
use Rattle.std.proofs.lemmas.Bool.{cases_lt, lt-ltb}
use Rattle.std.proofs.lemmas.List.{take_all, length-take}
use Rattle.fx_text.specs.declared.fault.TextFault.{TextFault}
use Rattle.fx_text.specs.declared.fault.TextKind.TheVariants as kind
use Rattle.fx_text.specs.Limits.{most_bytes}
use Rattle.fx_text.specs.Meaning.{Meaning}
use Rattle.fx_text.specs.Reading.{reading}
use Rattle.fx_text.specs.Grammar.{IsScript}
use Rattle.fx_model.specs.Report.{ReportView}
use Rattle.fx_report.specs.declared.answer_fault.AnswerFault.TheVariants.{Memory}
use Rattle.fx_report.specs.declared.status.TheConstants.{REFUSED}
use Rattle.fx_report.specs.Text.{queue_names, report_text}
use Rattle.fx_report.specs.Refusal.{refusal_text}
use Rattle.fx_report.specs.Input.{TakesPrefix, ReadsText, FailsToRead}
use Rattle.fx_report.specs.Status.{status_of}
use Rattle.fx_report.specs.Answer.{IsAnswer, reported, refused}
use Rattle.fx_report.specs.Answering.{most_read}
use Rattle.fx_report.proofs.FirstFault.{unless_memory, has_no_meaning}

-- a text that is too long has that for its first fault
pub read_long : (text : List ℕ) → most_bytes < length text → reading text ≡ Err (record { kind = kind.Length; at = most_bytes })
read_long text h = let long : nat_lt most_bytes (length text) ≡ true = lt-ltb _ _ h in rw long refl

-- the text of which these bytes were read: what was left, where that is known
pub text_of : Option (List ℕ) → List ℕ → List ℕ
text_of None read = read
text_of (Some all) read = all

pub reads_text : (most : ℕ) (left rest : Option (List ℕ)) (read : List ℕ) → TakesPrefix most left rest read
    → ReadsText most left rest (text_of left read)
unfolding text_of
reads_text most None rest read t = record { all = tt; taken = tt }
reads_text most (Some all) rest read t = record { all = refl; taken = rw (← t.first) t.taken }

-- memory ran out after a text was read
pub fails_to_answer : (most : ℕ) (left rest : Option (List ℕ)) (read : List ℕ) → TakesPrefix most left rest read
    → FailsToRead most Memory left rest
fails_to_answer most left rest read t = record { bytes = read; taken = t.taken; within = t.within }

module _ (IsReport : Meaning → ReportView → Type 0) where
  pub answer_reported : (text : List ℕ) (m : Meaning) (r : ReportView) (status : ℕ) (written : List ℕ)
      → IsScript text m → IsReport m r → status ≡ status_of r → written ≡ report_text (queue_names m) r → IsAnswer IsReport text status written
  answer_reported text m r status written s report n w = rw (n, w) (reported s report)

  -- the fault of a text is not want of memory, so the text is no script and this is its first fault
  pub answer_refused : (text : List ℕ) (f : TextFault) (status : ℕ) (written : List ℕ) → (f.kind ≡ kind.Memory → ⊥)
      → ((m : Meaning) → IsScript text m → (f ≡ record { kind = kind.Memory; at = 0 }) ⊎ (◌≡◌ {A = Result Meaning TextFault} (Ok m) (Err f)))
      → ((f ≡ record { kind = kind.Memory; at = 0 }) ⊎ (reading text ≡ Err f))
      → status ≡ REFUSED → written ≡ refusal_text f → IsAnswer IsReport text status written
  answer_refused text f status written ample only read n w = rw (n, w) (refused (has_no_meaning f ample only) (unless_memory f ample read))

  -- texts that are too long have one answer
  answer_long : (text other : List ℕ) (status : ℕ) (written : List ℕ)
      → most_bytes < length text → most_bytes < length other → IsAnswer IsReport text status written → IsAnswer IsReport other status written
  answer_long text other _ _ h k (reported s report) = absurd (let short = s.short in omega arith)
  answer_long text other _ _ h k (refused no_script e) =
      refused (λ m s. let short = s.short in omega arith) (read_long other k ∙ sym (read_long text h) ∙ e)

  -- the answer to the part of a text that was read is that to the text
  answer_all : (text read : List ℕ) (status : ℕ) (written : List ℕ)
      → read ≡ take most_read text → IsAnswer IsReport read status written → IsAnswer IsReport text status written
  answer_all text read status written e a = elim (cases_lt (length text) most_read) [
    | inl lt ↦
        let whole : read ≡ text = e ∙ take_all most_read text (omega arith) in
        subst (λ (t : List ℕ). IsAnswer IsReport t status written) whole a
    | inr le ↦
        let long : most_bytes < length read = rw e (simp length-take (omega arith)) in
        answer_long read text status written long (omega arith) a
  ]

  -- the answer to what was read is that to the text
  pub answers_text : (left rest : Option (List ℕ)) (read : List ℕ) (status : ℕ) (written : List ℕ)
      → TakesPrefix most_read left rest read → IsAnswer IsReport read status written → IsAnswer IsReport (text_of left read) status written
  unfolding text_of
  answers_text None rest read status written t a = a
  answers_text (Some all) rest read status written t a = answer_all all read status written t.first a
