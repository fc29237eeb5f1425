use Rattle.std.proofs.Common.{◌≡◌, ◌≤◌, ◌+◌, ◌-◌, ◌<◌, length, arith}
use Rattle.std.proofs.lemmas.Result.{err_from_is_err_and}
use Rattle.fx_report.proofs.Taken.{consumes_more, fails_to_read, piece_within, read_to_end, read_most}
use Rattle.fx_report.proofs.input.read_text.Goals as goal
use Rattle.fx_report.proofs.input.read_text.Goals.{else-loop-text-test, then-loop-text-test+in_ok-read_piece+then-branch-eq0}

pub loop-text-preserved : goal.loop-text-preserved
loop-text-preserved g c =
    let piece = c.in_ok-read_piece.ensures.piece in
    let room : c.in_ok-read_piece.field-0 ≤ c.args.most - length c.loop-text.text.items =
    omega (arith, c.in_ok-read_piece.ensures.count, c.len.ensures, c.loop-text.text.ok.0) in
    record {
      within = piece_within c.args.most piece c.loop-text.invariant.within room;
      taken = consumes_more _ _ _ _ _ _ c.loop-text.invariant.taken piece;
    }

pub returns-clause-text : goal.returns-clause-text
returns-clause-text g c = elim c.loop-text-test.branch [
  | else-loop-text-test w ↦
      let all : length c.loop-text.text.items ≡ c.args.most =
      omega (arith, w.loop-text-test.false, c.len.ensures, c.loop-text.text.ok.0, c.loop-text.invariant.within) in
      rw (w.text-is, w.reader-is) (read_most c.args.most _ _ c.loop-text.text.items c.loop-text.invariant.taken all)
  | then-loop-text-test+in_ok-read_piece+then-branch-eq0 w ↦
      let piece = w.in_ok-read_piece.ensures.piece in
      let taken = consumes_more _ _ _ _ _ _ c.loop-text.invariant.taken piece in
      let room : w.in_ok-read_piece.field-0 ≤ c.args.most - length c.loop-text.text.items = omega arith in
      let within = piece_within c.args.most piece c.loop-text.invariant.within room in
      rw (w.text-is, w.reader-is) (read_to_end c.args.most _ _ _ taken (piece.at_end w.if-branch-eq0.true) within)
]

pub returns-in_err-read_piece-clause-fault : goal.returns-in_err-read_piece-clause-fault
returns-in_err-read_piece-clause-fault g c =
    let fault = err_from_is_err_and c.from_residual.result c.from_residual.ensures.1 in
    let told = c.in_err-read_piece.ensures in
    let before : length c.loop-text.text.items < c.args.most =
    omega (arith, c.len.ensures, c.loop-text-test.true, c.loop-text.text.ok.0) in
    let room : length c.loop-text.text.items + (c.args.most - c.len-in-loop-text.result) ≤ c.args.most = omega arith in
    rw (fault.1, fault.2) (fails_to_read c.args.most _ _ _ _ _ _ c.loop-text.invariant.taken before room told.kept told.most told.fault)
