use Rattle.std.proofs.Common.{rules}
use Rattle.fx_text.specs.View.{meaning}
use Rattle.fx_report.specs.Text.{queue_names}
use Rattle.fx_picture.proofs.TooLarge.{too_many}
use Rattle.fx_picture.proofs.picture.format_picture.Goals as goal

pub returns-then-len-gt-MOST_EVENTS-3-clause-fault : goal.returns-then-len-gt-MOST_EVENTS-3-clause-fault
returns-then-len-gt-MOST_EVENTS-3-clause-fault c large =
    too_many (queue_names (meaning c.args.script.now)) c.args.report.now c.in_ok-list.list.items c.in_ok-list.ensures.each_once (search rules)

pub returns-clause-picture : goal.returns-clause-picture
returns-clause-picture c = record {
  list = c.in_ok-list.list.items;
  each_once = c.in_ok-list.ensures.each_once;
  in_order = c.in_ok-list.ensures.sorted;
  causes_first = c.in_ok-list.ensures.causes;
  rendered = search rules;
}
