use Rattle.fx_picture.proofs.Sheets.{same_events}
use Rattle.fx_picture.proofs.Marked.{each_once, is_marked}
use Rattle.fx_picture.proofs.laws.each_event_is_drawn_once.Goals as goal

pub returns : goal.returns
returns c = record { same = same_events; once = each_once; marked = is_marked }
