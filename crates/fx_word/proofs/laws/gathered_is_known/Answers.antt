use Rattle.fx_word.proofs.Known.{gathered_ends, gathered_requests, gathered_end_stamps, gathered_request_stamps}
use Rattle.fx_word.proofs.laws.gathered_is_known.Goals as goal

pub returns-clause-ends : goal.returns-clause-ends
returns-clause-ends c = gathered_ends

pub returns-clause-requests : goal.returns-clause-requests
returns-clause-requests c = gathered_requests

pub returns-clause-end_stamps : goal.returns-clause-end_stamps
returns-clause-end_stamps c = gathered_end_stamps

pub returns-clause-request_stamps : goal.returns-clause-request_stamps
returns-clause-request_stamps c = gathered_request_stamps
